use Rattle.std.proofs.Common.{◌≡◌, ◌++◌, drop, map}
use Rattle.sc_tree.specs.View.{head_of}
use Rattle.sc_typing.specs.Views.{routine_in, entity_of}
use Rattle.sc_faults.specs.Internal.Listing.{faults_of_each, faults_of_head}
use Rattle.sc_faults.proofs.conditions.add_heads.Given as goal

abbrev pub invariant-loop-head : goal.invariant-loop-head
invariant-loop-head l =
    l.fn.faults.items ++ faults_of_each (faults_of_head (routine_in l.routine) (map entity_of l.names)) (map head_of l.heads)
    ≡ l.faults.items ++ faults_of_each (faults_of_head (routine_in l.routine) (map entity_of l.names)) (map head_of (drop l.head-index l.heads))
