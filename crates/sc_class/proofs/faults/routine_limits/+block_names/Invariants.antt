use Rattle.std.proofs.Common.{◌≡◌, ◌≤◌, ◌+◌, drop, min}
use Rattle.sc_tree.specs.View.{instrs_of, branches_of}
use Rattle.sc_class.specs.Faults.Limits.{block_names_of, branch_block_names}
use Rattle.sc_class.proofs.faults.routine_limits.+block_names.Given as goal

abbrev pub invariant-block_names_of-loop-instruction : goal.invariant-block_names_of-loop-instruction
invariant-block_names_of-loop-instruction l =
    record { bounded : l.names ≤ 257; same : min 257 (l.names + block_names_of (instrs_of (drop l.instruction-index l.instructions))) ≡ min 257 (block_names_of (instrs_of l.fn.instructions)) }

abbrev pub invariant-branch_block_names-loop-branch : goal.invariant-branch_block_names-loop-branch
invariant-branch_block_names-loop-branch l =
    record { bounded : l.names ≤ 257; same : min 257 (l.names + branch_block_names (branches_of (drop l.branch-index l.branches))) ≡ min 257 (branch_block_names (branches_of l.fn.branches)) }
