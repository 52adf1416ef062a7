use Rattle.sc_interp.specs.Hopping.{Passes}
use Rattle.sc_interp.specs.Playing.{Remains}
use Rattle.sc_interp.proofs.hopping.moves_in.Given as goal

abbrev pub invariant-loop-passed : goal.invariant-loop-passed
invariant-loop-passed l = record {
  passes : Passes l.passed l.initial.store l.store;
  remains : Remains l.initial.store l.store;
}
