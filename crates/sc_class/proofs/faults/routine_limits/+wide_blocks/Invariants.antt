use Rattle.std.proofs.Common.{◌≡◌, drop}
use Rattle.sc_tree.specs.View.{instrs_of, branches_of}
use Rattle.sc_class.specs.Faults.Limits.{has_wide_block_in, branch_has_wide_block}
use Rattle.sc_class.proofs.faults.routine_limits.+wide_blocks.Given as goal

abbrev pub invariant-has_wide_block_in-loop-instruction : goal.invariant-has_wide_block_in-loop-instruction
invariant-has_wide_block_in-loop-instruction l = has_wide_block_in (instrs_of (drop l.instruction-index l.instructions)) ≡ has_wide_block_in (instrs_of l.fn.instructions)

abbrev pub invariant-branch_has_wide_block-loop-branch : goal.invariant-branch_has_wide_block-loop-branch
invariant-branch_has_wide_block-loop-branch l = branch_has_wide_block (branches_of (drop l.branch-index l.branches)) ≡ branch_has_wide_block (branches_of l.fn.branches)
