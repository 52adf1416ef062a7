use Rattle.std.proofs.Common.{◌≡◌, ap, sym, ◌∙◌, subst, OnOk, arith}
use Rattle.sc_tree.specs.View.{instr_of}
use Rattle.sc_tree.specs.Canonical.Instructions.{instr_lines}
use Rattle.sc_tree.specs.Internal.Printer.{output_of, put_lines}
use Rattle.sc_tree.proofs.PrintingInstructions.{if_done, loop_done, block_done, instrs_more, branches_more}
use Rattle.sc_tree.proofs.print.Printer.+instructions.Goals as goal

pub instrs-loop-instr-preserved : goal.instrs-loop-instr-preserved
instrs-loop-instr-preserved t c =
    instrs_more c.args.indent c.args.instrs.now c.loop-instr.instr-index c.instr-item.result _ _ _ (omega arith) c.instr-item.is c.in_ok-instr.ensures c.loop-instr.invariant

pub branches-loop-branch-preserved : goal.branches-loop-branch-preserved
branches-loop-branch-preserved t c =
    branches_more c.args.indent _ c.args.branches.now c.loop-branch.branch-index c.branch-item.result _ _ _ _ _ (omega arith) c.branch-item.is c.in_ok-deeper.ensures
    c.deref.ensures.value c.in_ok-guard.ensures c.in_ok-instrs.ensures c.loop-branch.invariant

pub instr-returns-in_ok-instrs-in-If-2 : goal.instr-returns-in_ok-instrs-in-If-2
instr-returns-in_ok-instrs-in-If-2 t c =
    subst (λ o. OnOk c.word_line.result (output_of c.word_line.new.self ≡ o))
    (if_done c.args.indent _ c.in-If.field-0 c.in-If.condition c.in-If.body c.in-If.other c.in-If.branches _ _ _ _ (output_of c.args.self.now) _ _ _ _ _ c.in_ok-inner.ensures
    c.deref-in-If.ensures.value c.deref-in-If-2.ensures.value c.deref-in-If-3.ensures.value c.deref-in-If-4.ensures.value
    c.in_ok-guard-in-If.ensures c.in_ok-instrs-in-If.ensures c.in_ok-branches-in-If.ensures c.in_ok-other-in-If.ensures c.in_ok-instrs-in-If-2.ensures
    ∙ ap (λ i. put_lines (output_of c.args.self.now) (instr_lines c.args.indent (instr_of i))) (sym c.in-If.is)) c.word_line.ensures

pub instr-returns-in_ok-instrs-in-Loop-2 : goal.instr-returns-in_ok-instrs-in-Loop-2
instr-returns-in_ok-instrs-in-Loop-2 t c =
    subst (λ o. OnOk c.word_line-in-Loop-4.result (output_of c.word_line-in-Loop-4.new.self ≡ o))
    (loop_done c.args.indent _ c.in-Loop.field-0 c.in-Loop.initial c.in-Loop.condition c.in-Loop.body _ _ (output_of c.args.self.now) _ _ _ _ _ _ c.in_ok-inner.ensures
    c.deref-in-Loop.ensures.value c.deref-in-Loop-2.ensures.value c.in_ok-word_line-in-Loop.ensures c.in_ok-instrs-in-Loop.ensures
    c.in_ok-word_line-in-Loop-2.ensures c.in_ok-condition-in-Loop.ensures c.in_ok-word_line-in-Loop-3.ensures c.in_ok-instrs-in-Loop-2.ensures
    ∙ ap (λ i. put_lines (output_of c.args.self.now) (instr_lines c.args.indent (instr_of i))) (sym c.in-Loop.is)) c.word_line-in-Loop-4.ensures

pub instr-returns-in_ok-instrs-in-Block : goal.instr-returns-in_ok-instrs-in-Block
instr-returns-in_ok-instrs-in-Block t c =
    subst (λ o. OnOk c.word_line-in-Block.result (output_of c.word_line-in-Block.new.self ≡ o))
    (block_done c.args.indent _ c.in-Block.field-0 c.in-Block.heads c.in-Block.body _ _ (output_of c.args.self.now) _ _ c.in_ok-inner.ensures
    c.deref-in-Block.ensures.value c.deref-in-Block-2.ensures.value c.in_ok-reservation-in-Block.ensures c.in_ok-instrs-in-Block.ensures
    ∙ ap (λ i. put_lines (output_of c.args.self.now) (instr_lines c.args.indent (instr_of i))) (sym c.in-Block.is)) c.word_line-in-Block.ensures
