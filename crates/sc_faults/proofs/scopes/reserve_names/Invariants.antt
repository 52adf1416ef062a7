use Rattle.std.proofs.Common.{◌≡◌, drop, map}
use Rattle.sc_tree.specs.View.{head_of}
use Rattle.sc_typing.specs.Views.{routine_in, entity_of}
use Rattle.sc_faults.specs.Internal.Listing.{judge_reserved}
use Rattle.sc_faults.proofs.scopes.reserve_names.Given as goal

abbrev pub invariant-loop-head : goal.invariant-loop-head
invariant-loop-head l =
    judge_reserved (routine_in l.routine) (map entity_of l.names) (map entity_of l.fn.known.items) (map head_of l.heads)
    ≡ judge_reserved (routine_in l.routine) (map entity_of l.names) (map entity_of l.known.items) (map head_of (drop l.head-index l.heads))
