use Rattle.std.proofs.Common.{◌≡◌, drop}
use Rattle.sc_tree.specs.Canonical.Expressions.{more_actuals_parts}
use Rattle.sc_tree.specs.Internal.Printer.{output_of, puts}
use Rattle.sc_tree.specs.View.{exprs_of}
use Rattle.sc_tree.proofs.print.Printer.+printing.Given as goal

abbrev pub invariant-actuals-loop-actual : goal.invariant-actuals-loop-actual
invariant-actuals-loop-actual l =
    puts (output_of l.self) (more_actuals_parts (exprs_of (drop l.actual-index l.rest)))
    ≡ puts (output_of l.initial.self) (more_actuals_parts (exprs_of l.rest))
