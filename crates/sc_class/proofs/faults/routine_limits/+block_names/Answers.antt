use Rattle.std.proofs.Common.{arith}
use Rattle.sc_tree.specs.View.{instrs_of, branches_of}
use Rattle.sc_class.specs.Faults.Limits.{block_names_of, branch_block_names}
use Rattle.sc_class.proofs.LimitLemmas.{total_if, total_loop, total_block, names_more, names_end, branch_names_more, branch_names_end}
use Rattle.sc_class.proofs.faults.routine_limits.+block_names.Goals as goal

pub block_names-returns-in-If : goal.block_names-returns-in-If
block_names-returns-in-If t c =
    total_if c.args.instruction.now c.in-If.field-0 c.in-If.field-1 c.in-If.body c.in-If.branches c.in-If.other c.deref.result.now c.deref-in-If.result.now c.deref-in-If-2.result.now c.branch_block_names.result c.block_names_of.result c.total-elsewhere.result c.block_names_of-in-If.result
    c.total.result c.in-If.is c.deref.ensures.value c.branch_block_names.ensures c.deref-in-If.ensures.value c.block_names_of.ensures c.total-elsewhere.ensures c.deref-in-If-2.ensures.value c.block_names_of-in-If.ensures c.total.ensures

pub block_names-returns-in-Loop : goal.block_names-returns-in-Loop
block_names-returns-in-Loop t c =
    total_loop c.args.instruction.now c.in-Loop.field-0 c.in-Loop.initial c.in-Loop.field-2 c.in-Loop.body c.deref-in-Loop.result.now c.deref-in-Loop-2.result.now c.block_names_of-in-Loop.result c.block_names_of-in-Loop-2.result c.total-in-Loop.result c.in-Loop.is
    c.deref-in-Loop.ensures.value c.block_names_of-in-Loop.ensures c.deref-in-Loop-2.ensures.value c.block_names_of-in-Loop-2.ensures c.total-in-Loop.ensures

pub block_names-returns-in-Block : goal.block_names-returns-in-Block
block_names-returns-in-Block t c =
    total_block c.args.instruction.now c.in-Block.field-0 c.in-Block.heads c.in-Block.body c.deref-in-Block.result.now c.len.result c.block_names_of-in-Block.result c.total-in-Block.result c.in-Block.is (omega (arith, c.len.ensures, c.in-Block.heads.ok.0)) c.deref-in-Block.ensures.value c.block_names_of-in-Block.ensures
    c.total-in-Block.ensures

pub block_names_of-loop-instruction-preserved : goal.block_names_of-loop-instruction-preserved
block_names_of-loop-instruction-preserved t c = record {
  bounded = let e = c.total-names.ensures in omega arith;
  same =
      names_more c.args.instructions.now c.loop-instruction.instruction-index c.instruction-item.result c.loop-instruction.names c.block_names.result c.total-names.result (block_names_of (instrs_of c.args.instructions.now)) c.loop-instruction-test.true c.instruction-item.is
      c.loop-instruction.invariant.same c.block_names.ensures c.total-names.ensures;
}

pub block_names_of-returns : goal.block_names_of-returns
block_names_of-returns t c = names_end c.args.instructions.now c.loop-instruction.instruction-index c.loop-instruction.names (block_names_of (instrs_of c.args.instructions.now)) c.loop-instruction-test.false c.loop-instruction.invariant.bounded c.loop-instruction.invariant.same

pub branch_block_names-loop-branch-preserved : goal.branch_block_names-loop-branch-preserved
branch_block_names-loop-branch-preserved t c = record {
  bounded = let e = c.total-names.ensures in omega arith;
  same =
      branch_names_more c.args.branches.now c.loop-branch.branch-index c.branch-item.result c.deref.result.now c.loop-branch.names c.block_names_of.result c.total-names.result (branch_block_names (branches_of c.args.branches.now)) c.loop-branch-test.true c.branch-item.is
      c.deref.ensures.value c.loop-branch.invariant.same c.block_names_of.ensures c.total-names.ensures;
}

pub branch_block_names-returns : goal.branch_block_names-returns
branch_block_names-returns t c = branch_names_end c.args.branches.now c.loop-branch.branch-index c.loop-branch.names (branch_block_names (branches_of c.args.branches.now)) c.loop-branch-test.false c.loop-branch.invariant.bounded c.loop-branch.invariant.same
