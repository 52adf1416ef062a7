use Rattle.std.proofs.Common.{◌≡◌, ◌++◌, drop, map}
use Rattle.sc_tree.specs.View.{instrs_of, branches_of}
use Rattle.sc_typing.specs.Views.{routine_in, entity_of}
use Rattle.sc_faults.specs.Internal.Listing.{faults_of_instrs, faults_of_branches}
use Rattle.sc_faults.proofs.instructions.+instructions.Given as goal

abbrev pub invariant-add_instructions-loop-instruction : goal.invariant-add_instructions-loop-instruction
invariant-add_instructions-loop-instruction l =
    l.fn.faults.items ++ faults_of_instrs (routine_in l.routine) (map entity_of l.names) (instrs_of l.instructions)
    ≡ l.faults.items ++ faults_of_instrs (routine_in l.routine) (map entity_of l.names) (instrs_of (drop l.instruction-index l.instructions))

abbrev pub invariant-add_branches-loop-branch : goal.invariant-add_branches-loop-branch
invariant-add_branches-loop-branch l =
    l.fn.faults.items ++ faults_of_branches (routine_in l.routine) (map entity_of l.names) (branches_of l.branches)
    ≡ l.faults.items ++ faults_of_branches (routine_in l.routine) (map entity_of l.names) (branches_of (drop l.branch-index l.branches))
