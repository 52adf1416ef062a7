use Rattle.std.proofs.Common.{ap, sym, ◌∙◌, map}
use Rattle.std.proofs.lemmas.Result.{err_from_is_err_and}
use Rattle.sc_tree.specs.declared.instruction.Instr.{Instr}
use Rattle.sc_tree.specs.View.{expr_of, head_of, instr_of}
use Rattle.sc_tree.proofs.ViewLemmas.{instr_of-print_text}
use Rattle.sc_rules.specs.JudgingText.{judge_instr}
use Rattle.sc_typing.specs.Views.{routine_in, entity_of}
use Rattle.sc_check.proofs.InstructionSteps.{assign_passes, call_passes, create_fails, create_passes, check_passes, if_branch_fails, if_branches_fail, if_done, loop_initial_fails, loop_until_fails, loop_done, block_passes, part_kept, block_kept, branch_fails}
use Rattle.sc_check.proofs.instructions.+instructions.Goals as goal

pub judge_instruction-returns-in_err-judge_branch-in-If-clause-judged : goal.judge_instruction-returns-in_err-judge_branch-in-If-clause-judged
judge_instruction-returns-in_err-judge_branch-in-If-clause-judged t c =
    let q = err_from_is_err_and c.from_residual-in_err-judge_branch-in-If.result c.from_residual-in_err-judge_branch-in-If.ensures.1 in
    rw (q.1, q.2) (if_branch_fails (routine_in c.args.routine.now) (map entity_of c.args.names.now.items) c.args.instruction.now c.in-If.field-0
    c.in-If.condition c.in-If.body c.in-If.branches c.in-If.other c.in-If.is c.deref-in-If.result.now c.deref-in-If.ensures.value _
    c.in_err-judge_branch-in-If.ensures.judged)

pub judge_instruction-returns-in_err-judge_branches-in-If-clause-judged : goal.judge_instruction-returns-in_err-judge_branches-in-If-clause-judged
judge_instruction-returns-in_err-judge_branches-in-If-clause-judged t c =
    let q = err_from_is_err_and c.from_residual-in_err-judge_branches-in-If.result c.from_residual-in_err-judge_branches-in-If.ensures.1 in
    rw (q.1, q.2) (if_branches_fail (routine_in c.args.routine.now) (map entity_of c.args.names.now.items) c.args.instruction.now c.in-If.field-0
    c.in-If.condition c.in-If.body c.in-If.branches c.in-If.other c.in-If.is c.deref-in-If.result.now c.deref-in-If.ensures.value
    c.in_ok-judge_branch-in-If.ensures.judged _ c.in_ok-judge_branch-in-If.ensures.kept
    c.deref-in-If-2.result.now c.deref-in-If-2.ensures.value _ c.in_err-judge_branches-in-If.ensures.judged)

pub judge_instruction-returns-in_ok-judge_branches-in-If-clause-judged : goal.judge_instruction-returns-in_ok-judge_branches-in-If-clause-judged
judge_instruction-returns-in_ok-judge_branches-in-If-clause-judged t c =
    if_done (routine_in c.args.routine.now) (map entity_of c.args.names.now.items) c.args.instruction.now c.in-If.field-0 c.in-If.condition c.in-If.body
    c.in-If.branches c.in-If.other c.in-If.is c.deref-in-If.result.now c.deref-in-If.ensures.value c.in_ok-judge_branch-in-If.ensures.judged _
    c.in_ok-judge_branch-in-If.ensures.kept
    c.deref-in-If-2.result.now c.deref-in-If-2.ensures.value c.in_ok-judge_branches-in-If.ensures.judged _ c.in_ok-judge_branches-in-If.ensures.kept
    c.deref-in-If-3.result.now _ c.deref-in-If-3.ensures.value c.judge_instructions.ensures.judged

pub judge_instruction-returns-in_err-judge_instructions-in-Loop-clause-judged : goal.judge_instruction-returns-in_err-judge_instructions-in-Loop-clause-judged
judge_instruction-returns-in_err-judge_instructions-in-Loop-clause-judged t c =
    let q = err_from_is_err_and c.from_residual-in_err-judge_instructions-in-Loop.result c.from_residual-in_err-judge_instructions-in-Loop.ensures.1 in
    rw (q.1, q.2) (loop_initial_fails (routine_in c.args.routine.now) (map entity_of c.args.names.now.items) c.args.instruction.now c.in-Loop.field-0
    c.in-Loop.initial c.in-Loop.until c.in-Loop.body c.in-Loop.is c.deref-in-Loop.result.now c.deref-in-Loop.ensures.value _
    c.in_err-judge_instructions-in-Loop.ensures.judged)

pub judge_instruction-returns-in_err-judge_condition-in-Loop-clause-judged : goal.judge_instruction-returns-in_err-judge_condition-in-Loop-clause-judged
judge_instruction-returns-in_err-judge_condition-in-Loop-clause-judged t c =
    let q = err_from_is_err_and c.from_residual-in_err-judge_condition-in-Loop.result c.from_residual-in_err-judge_condition-in-Loop.ensures.1 in
    rw (q.1, q.2) (loop_until_fails (routine_in c.args.routine.now) (map entity_of c.args.names.now.items) c.args.instruction.now c.in-Loop.field-0
    c.in-Loop.initial c.in-Loop.until c.in-Loop.body c.in-Loop.is c.deref-in-Loop.result.now c.deref-in-Loop.ensures.value
    c.in_ok-judge_instructions-in-Loop.ensures.judged _
    (ap (map entity_of) c.deref-in-Loop-2.ensures.value ∙ c.in_ok-judge_instructions-in-Loop.ensures.kept) _ c.in_err-judge_condition-in-Loop.ensures)

pub judge_instruction-returns-in_ok-judge_condition-in-Loop-clause-judged : goal.judge_instruction-returns-in_ok-judge_condition-in-Loop-clause-judged
judge_instruction-returns-in_ok-judge_condition-in-Loop-clause-judged t c =
    loop_done (routine_in c.args.routine.now) (map entity_of c.args.names.now.items) c.args.instruction.now c.in-Loop.field-0 c.in-Loop.initial
    c.in-Loop.until c.in-Loop.body c.in-Loop.is c.deref-in-Loop.result.now c.deref-in-Loop.ensures.value c.in_ok-judge_instructions-in-Loop.ensures.judged _
    (ap (map entity_of) c.deref-in-Loop-2.ensures.value ∙ c.in_ok-judge_instructions-in-Loop.ensures.kept)
    c.in_ok-judge_condition-in-Loop.ensures _ (sym (ap (map entity_of) c.deref-in-Loop-2.ensures.value))
    c.deref-in-Loop-3.result.now _ c.deref-in-Loop-3.ensures.value c.judge_instructions-in-Loop-2.ensures.judged

pub judge_instruction-returns-in-Block-clause-judged : goal.judge_instruction-returns-in-Block-clause-judged
judge_instruction-returns-in-Block-clause-judged t c =
    block_passes (routine_in c.args.routine.now) (map entity_of c.args.names.now.items) c.args.instruction.now c.in-Block.field-0 c.in-Block.heads
    c.in-Block.body c.deref-in-Block.result.now c.deref-in-Block-2.result.now _ c.in-Block.is c.deref-in-Block.ensures.value
    c.deref-in-Block-2.ensures.value c.judge_block.ensures.judged

pub judge_branch-returns-clause-kept : goal.judge_branch-returns-clause-kept
judge_branch-returns-clause-kept t c =
    part_kept (routine_in c.args.routine.now) c.args.names.now.items _ _ _ c.len-known.result (c.len-known.ensures ∙ c.args.names.now.ok.0)
    c.in_ok-judge_instructions.ensures.kept c.truncate.ensures.items (expr_of c.args.condition.now) c.in_ok-judge_if_condition.ensures.given

pub judge_block-returns-clause-kept : goal.judge_block-returns-clause-kept
judge_block-returns-clause-kept t c =
    block_kept (routine_in c.args.routine.now) c.args.names.now.items _ _ _ c.len-outer.result (c.len-outer.ensures ∙ c.args.names.now.ok.0)
    c.in_ok-judge_instructions.ensures.kept c.truncate.ensures.items (map head_of c.args.heads.now) c.in_ok-judge_heads.ensures

pub judge_branches-returns-in_err-judge_branch-clause-judged : goal.judge_branches-returns-in_err-judge_branch-clause-judged
judge_branches-returns-in_err-judge_branch-clause-judged t c =
    let q = err_from_is_err_and c.from_residual.result c.from_residual.ensures.1 in
    rw (q.1, q.2) (branch_fails (routine_in c.args.routine.now) (map entity_of c.args.names.now.items) c.args.branches.now c.loop-branch.branch-index
    c.branch-item.result c.deref.result.now _ _ c.loop-branch-test.true c.branch-item.is c.deref.ensures.value
    c.loop-branch.invariant.kept c.loop-branch.invariant.judged c.in_err-judge_branch.ensures.judged)

pub judge_instruction-returns-in-Assign-clause-judged : goal.judge_instruction-returns-in-Assign-clause-judged
judge_instruction-returns-in-Assign-clause-judged t c =
    assign_passes (routine_in c.args.routine.now) (map entity_of c.args.names.now.items) c.args.instruction.now c.in-Assign.field-0 c.in-Assign.variable c.in-Assign.value _ _
    c.in-Assign.is (ap (map entity_of) c.deref.ensures.value) c.judge_assignment.ensures

pub judge_instruction-returns-in-Call-clause-judged : goal.judge_instruction-returns-in-Call-clause-judged
judge_instruction-returns-in-Call-clause-judged t c =
    call_passes (routine_in c.args.routine.now) (map entity_of c.args.names.now.items) c.args.instruction.now c.in-Call.call _ _
    c.in-Call.is (ap (map entity_of) c.deref-in-Call.ensures.value) c.judge_call.ensures

pub judge_instruction-returns-in_err-created-in-Create-clause-judged : goal.judge_instruction-returns-in_err-created-in-Create-clause-judged
judge_instruction-returns-in_err-created-in-Create-clause-judged t c =
    let q = err_from_is_err_and c.from_residual.result c.from_residual.ensures.1 in
    rw (q.1, q.2) (create_fails (routine_in c.args.routine.now) (map entity_of c.args.names.now.items) c.args.instruction.now c.in-Create.field-0 c.in-Create.variable c.in-Create.call c.in-Create.is _
    (ap (map entity_of) c.deref-in-Create.ensures.value) _ c.in_err-created-in-Create.ensures)

pub judge_instruction-returns-in_ok-created-in-Create-clause-judged : goal.judge_instruction-returns-in_ok-created-in-Create-clause-judged
judge_instruction-returns-in_ok-created-in-Create-clause-judged t c =
    create_passes (routine_in c.args.routine.now) (map entity_of c.args.names.now.items) c.args.instruction.now c.in-Create.field-0 c.in-Create.variable c.in-Create.call c.in-Create.is _
    (ap (map entity_of) c.deref-in-Create.ensures.value) _ _ _ _ c.in_ok-created-in-Create.ensures c.variable_span.ensures
    (ap (map entity_of) c.deref-in-Create-2.ensures.value) c.judge_creation.ensures

pub judge_instruction-returns-in-Check-clause-judged : goal.judge_instruction-returns-in-Check-clause-judged
judge_instruction-returns-in-Check-clause-judged t c =
    check_passes (routine_in c.args.routine.now) (map entity_of c.args.names.now.items) c.args.instruction.now c.in-Check.field-0 c.in-Check.clauses _ _ _
    c.in-Check.is (ap (map entity_of) c.deref-in-Check.ensures.value) c.deref-in-Check-2.ensures.value c.judge_clauses.ensures

pub judge_instruction-returns-in-PrintText-clause-judged : goal.judge_instruction-returns-in-PrintText-clause-judged
unfolding judge_instr
judge_instruction-returns-in-PrintText-clause-judged t c =
    let h = routine_in c.args.routine.now in
    let n = map entity_of c.args.names.now.items in
    ap (λ (i : Instr). judge_instr h n (instr_of i)) c.in-PrintText.is ∙ ap (judge_instr h n) (instr_of-print_text c.in-PrintText.field-0 c.in-PrintText.field-1)
