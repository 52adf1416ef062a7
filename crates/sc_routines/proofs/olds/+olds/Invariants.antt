use Rattle.std.proofs.Common.{◌≡◌, ◌++◌, drop}
use Rattle.sc_tree.specs.View.{exprs_of}
use Rattle.sc_model.specs.Olds.{olds_of_each}
use Rattle.sc_routines.specs.Settings.{operands_of}
use Rattle.sc_routines.proofs.olds.+olds.Given as goal

abbrev pub invariant-add_olds_of_each-loop-actual : goal.invariant-add_olds_of_each-loop-actual
invariant-add_olds_of_each-loop-actual l =
    operands_of l.olds.items ++ olds_of_each (exprs_of (drop l.actual-index l.actuals)) ≡ operands_of l.initial.olds.items ++ olds_of_each (exprs_of l.actuals)
