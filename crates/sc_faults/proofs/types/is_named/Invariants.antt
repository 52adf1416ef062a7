use Rattle.std.proofs.Common.{◌≡◌, drop, map}
use Rattle.std.specs.Prelude.{is_some}
use Rattle.sc_tree.specs.View.{declaration_of}
use Rattle.sc_rules.specs.Types.{number_of_named}
use Rattle.sc_faults.proofs.types.is_named.Given as goal

abbrev pub invariant-loop-formal : goal.invariant-loop-formal
invariant-loop-formal l =
    is_some (number_of_named l.name (map declaration_of l.formals))
    ≡ is_some (number_of_named l.name (map declaration_of (drop l.formal-index l.formals)))
