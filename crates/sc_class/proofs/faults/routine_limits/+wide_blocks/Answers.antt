use Rattle.std.proofs.Common.{sym, ◌∙◌, arith}
use Rattle.sc_tree.specs.View.{instrs_of, branches_of}
use Rattle.sc_class.specs.Faults.Limits.{has_wide_block_in, branch_has_wide_block}
use Rattle.sc_class.proofs.LimitLemmas.{wide_found, wide_more, wide_end, branch_wide_found, branch_wide_more, branch_wide_end, wide_body, wide_elsewhere, wide_branches, wide_other, wide_initial, wide_loop_body, narrow_heads}
use Rattle.sc_class.proofs.faults.routine_limits.+wide_blocks.Goals as goal
use Rattle.sc_class.proofs.faults.routine_limits.+wide_blocks.Goals.{has_wide_block-then-has_wide_block_in, has_wide_block-else-has_wide_block_in}

pub has_wide_block_in-returns-then-has_wide_block : goal.has_wide_block_in-returns-then-has_wide_block
has_wide_block_in-returns-then-has_wide_block t c =
    wide_found c.args.instructions.now c.loop-instruction.instruction-index c.instruction-item.result c.has_wide_block.result (has_wide_block_in (instrs_of c.args.instructions.now)) c.loop-instruction-test.true c.instruction-item.is c.loop-instruction.invariant c.has_wide_block.ensures
    c.if-has_wide_block.true

pub has_wide_block_in-loop-instruction-preserved : goal.has_wide_block_in-loop-instruction-preserved
has_wide_block_in-loop-instruction-preserved t c =
    wide_more c.args.instructions.now c.loop-instruction.instruction-index c.instruction-item.result c.has_wide_block.result (has_wide_block_in (instrs_of c.args.instructions.now)) c.loop-instruction-test.true c.instruction-item.is c.loop-instruction.invariant c.has_wide_block.ensures
    c.if-has_wide_block.false

pub has_wide_block_in-returns : goal.has_wide_block_in-returns
has_wide_block_in-returns t c = wide_end c.args.instructions.now c.loop-instruction.instruction-index (has_wide_block_in (instrs_of c.args.instructions.now)) c.loop-instruction-test.false c.loop-instruction.invariant

pub branch_has_wide_block-returns-then-has_wide_block_in : goal.branch_has_wide_block-returns-then-has_wide_block_in
branch_has_wide_block-returns-then-has_wide_block_in t c =
    branch_wide_found c.args.branches.now c.loop-branch.branch-index c.branch-item.result c.deref.result.now c.has_wide_block_in.result (branch_has_wide_block (branches_of c.args.branches.now)) c.loop-branch-test.true c.branch-item.is c.deref.ensures.value c.loop-branch.invariant
    c.has_wide_block_in.ensures c.if-has_wide_block_in.true

pub branch_has_wide_block-loop-branch-preserved : goal.branch_has_wide_block-loop-branch-preserved
branch_has_wide_block-loop-branch-preserved t c =
    branch_wide_more c.args.branches.now c.loop-branch.branch-index c.branch-item.result c.deref.result.now c.has_wide_block_in.result (branch_has_wide_block (branches_of c.args.branches.now)) c.loop-branch-test.true c.branch-item.is c.deref.ensures.value c.loop-branch.invariant
    c.has_wide_block_in.ensures c.if-has_wide_block_in.false

pub branch_has_wide_block-returns : goal.branch_has_wide_block-returns
branch_has_wide_block-returns t c = branch_wide_end c.args.branches.now c.loop-branch.branch-index (branch_has_wide_block (branches_of c.args.branches.now)) c.loop-branch-test.false c.loop-branch.invariant

pub has_wide_block-returns-then-branch_has_wide_block : goal.has_wide_block-returns-then-branch_has_wide_block
has_wide_block-returns-then-branch_has_wide_block t c = elim c.if-has_wide_block_in.branch [
  | has_wide_block-then-has_wide_block_in w ↦
      wide_body c.args.instruction.now c.in-If.field-0 c.in-If.field-1 c.in-If.body c.in-If.branches c.in-If.other c.in-If.is c.deref.result.now c.has_wide_block_in.result c.if-has_wide_block_in.value c.deref.ensures.value c.has_wide_block_in.ensures w.if-has_wide_block_in.true
      c.if-branch_has_wide_block.true
  | has_wide_block-else-has_wide_block_in w ↦
      wide_elsewhere c.args.instruction.now c.in-If.field-0 c.in-If.field-1 c.in-If.body c.in-If.branches c.in-If.other c.in-If.is c.deref.result.now c.has_wide_block_in.result c.if-has_wide_block_in.value c.deref.ensures.value c.has_wide_block_in.ensures w.if-has_wide_block_in.false
      (wide_branches c.args.instruction.now c.in-If.field-0 c.in-If.field-1 c.in-If.body c.in-If.branches c.in-If.other c.in-If.is w.deref-else-has_wide_block_in.result.now w.branch_has_wide_block.result c.if-has_wide_block_in.value w.deref-else-has_wide_block_in.ensures.value
      w.branch_has_wide_block.ensures (sym w.value-is ∙ c.if-branch_has_wide_block.true) c.if-branch_has_wide_block.true)
]

pub has_wide_block-returns-else-branch_has_wide_block : goal.has_wide_block-returns-else-branch_has_wide_block
has_wide_block-returns-else-branch_has_wide_block t c = elim c.if-has_wide_block_in.branch [
  | has_wide_block-then-has_wide_block_in w ↦ let e = c.if-branch_has_wide_block.false in cc
  | has_wide_block-else-has_wide_block_in w ↦
      wide_elsewhere c.args.instruction.now c.in-If.field-0 c.in-If.field-1 c.in-If.body c.in-If.branches c.in-If.other c.in-If.is c.deref.result.now c.has_wide_block_in.result c.has_wide_block_in-else-branch_has_wide_block.result c.deref.ensures.value c.has_wide_block_in.ensures
      w.if-has_wide_block_in.false
      (wide_other c.args.instruction.now c.in-If.field-0 c.in-If.field-1 c.in-If.body c.in-If.branches c.in-If.other c.in-If.is w.deref-else-has_wide_block_in.result.now c.deref-else-branch_has_wide_block.result.now w.branch_has_wide_block.result
      c.has_wide_block_in-else-branch_has_wide_block.result w.deref-else-has_wide_block_in.ensures.value w.branch_has_wide_block.ensures (sym w.value-is ∙ c.if-branch_has_wide_block.false) c.deref-else-branch_has_wide_block.ensures.value
      c.has_wide_block_in-else-branch_has_wide_block.ensures)
]

pub has_wide_block-returns-then-has_wide_block_in-2 : goal.has_wide_block-returns-then-has_wide_block_in-2
has_wide_block-returns-then-has_wide_block_in-2 t c =
    wide_initial c.args.instruction.now c.in-Loop.field-0 c.in-Loop.initial c.in-Loop.field-2 c.in-Loop.body c.in-Loop.is c.deref-in-Loop.result.now c.has_wide_block_in-in-Loop.result c.has_wide_block_in-in-Loop.result c.deref-in-Loop.ensures.value c.has_wide_block_in-in-Loop.ensures
    c.if-has_wide_block_in-2.true c.if-has_wide_block_in-2.true

pub has_wide_block-returns-else-has_wide_block_in-2 : goal.has_wide_block-returns-else-has_wide_block_in-2
has_wide_block-returns-else-has_wide_block_in-2 t c =
    wide_loop_body c.args.instruction.now c.in-Loop.field-0 c.in-Loop.initial c.in-Loop.field-2 c.in-Loop.body c.in-Loop.is c.deref-in-Loop.result.now c.deref-else-has_wide_block_in-2.result.now c.has_wide_block_in-in-Loop.result c.has_wide_block_in-else-has_wide_block_in-2.result
    c.deref-in-Loop.ensures.value c.has_wide_block_in-in-Loop.ensures c.if-has_wide_block_in-2.false c.deref-else-has_wide_block_in-2.ensures.value c.has_wide_block_in-else-has_wide_block_in-2.ensures

pub has_wide_block-returns-else-len-gt-MAX_HEADS : goal.has_wide_block-returns-else-len-gt-MAX_HEADS
has_wide_block-returns-else-len-gt-MAX_HEADS t c =
    narrow_heads c.args.instruction.now c.in-Block.field-0 c.in-Block.heads c.in-Block.body c.in-Block.is c.len.result c.deref-else-len-gt-MAX_HEADS.result.now c.has_wide_block_in-else-len-gt-MAX_HEADS.result (omega (arith, c.len.ensures, c.in-Block.heads.ok.0)) c.if-len-gt-MAX_HEADS.false
    c.deref-else-len-gt-MAX_HEADS.ensures.value c.has_wide_block_in-else-len-gt-MAX_HEADS.ensures
