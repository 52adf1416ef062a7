use Rattle.std.proofs.Common.{◌≡◌, ◌++◌, drop, map}
use Rattle.std.specs.List.{filter_map}
use Rattle.sc_tree.specs.View.{exprs_of}
use Rattle.sc_typing.specs.Views.{entity_of}
use Rattle.sc_model.specs.Preconditions.{names_in_each}
use Rattle.sc_code.specs.Emitted.{formal_slot}
use Rattle.sc_routines.proofs.routine.formals.+names.Given as goal

-- the slots of those found so far, and of those that are left
abbrev pub invariant-add_formals_in_each-loop-actual : goal.invariant-add_formals_in_each-loop-actual
invariant-add_formals_in_each-loop-actual l =
    l.slots.items ++ filter_map (λ x. formal_slot x (map entity_of l.names)) (names_in_each (exprs_of (drop l.actual-index l.actuals)))
    ≡ l.initial.slots.items ++ filter_map (λ x. formal_slot x (map entity_of l.names)) (names_in_each (exprs_of l.actuals))
