use Rattle.std.proofs.Common.{◌≡◌, ◌≤◌, ◌-◌, Bool}
use Rattle.sc_region.specs.declared.job.Job.{Job}
use Rattle.sc_region.specs.declared.job.Want.TheVariants as want
use Rattle.sc_region.specs.Stores.{PlainStore}
use Rattle.sc_play.specs.Turns.{AreMade}
use Rattle.sc_play.proofs.region.play_on.Given as goal

abbrev pub invariant-loop-turns : goal.invariant-loop-turns
invariant-loop-turns l = record {
  some : l.made ≤ l.turns;
  few : l.turns ≤ l.limit;
  made : (t : Bool) (j : Job) (z : PlainStore) → AreMade l.made l.handler t j z l.fn.store l.fn.asked → AreMade l.turns l.handler t j z l.store l.asked;
  asked : l.turns ≡ 0 → l.asked ≡ want.Continue;
  store : l.turns ≡ 0 → l.store ≡ l.fn.store;
}

abbrev pub decreases-loop-turns : goal.decreases-loop-turns
decreases-loop-turns l = l.limit - l.turns
