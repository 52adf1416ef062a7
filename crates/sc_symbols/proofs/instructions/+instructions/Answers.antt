use Rattle.std.proofs.Common.{◌∙◌, ◌++◌, ap}
use Rattle.sc_tree.specs.declared.instruction.Branch.{Branch}
use Rattle.sc_tree.specs.declared.instruction.Instr.{Instr}
use Rattle.sc_tree.specs.View.{branches_of, expr_of, instr_of, instrs_of}
use Rattle.sc_typing.specs.Views.{routine_in}
use Rattle.sc_symbols.specs.Internal.{judged, scope_of}
use Rattle.sc_symbols.specs.Mentions.{mentions_in_branch, mentions_in_branches, mentions_in_instr, mentions_in_instrs}
use Rattle.sc_symbols.proofs.Added.{all_given, named_if_ok, next_given, nothing, three_if_ok, two_if_ok}
use Rattle.sc_symbols.proofs.Cases.{assign_is, block_is, branches_is, check_is, command_is, create_is, if_is, instrs_is, loop_is, print_is, same_branch}
use Rattle.sc_symbols.proofs.instructions.+instructions.Goals as goal

pub add_instruction-returns-in_ok-add_variable-in-Assign : goal.add_instruction-returns-in_ok-add_variable-in-Assign
add_instruction-returns-in_ok-add_variable-in-Assign t c =
    named_if_ok c.add_expression.result c.args.mentions.now.items c.add_expression.new.mentions.items _ _
    (assign_is judged (routine_in c.args.routine.now) (scope_of c.args.scope.now) c.args.instruction.now c.in-Assign.field-0 c.in-Assign.variable c.in-Assign.value
    c.in-Assign.is)
    (two_if_ok c.add_expression.result c.args.mentions.now.items c.add_variable.new.mentions.items c.add_expression.new.mentions.items _ _
    c.in_ok-add_variable-in-Assign.ensures c.add_expression.ensures)

pub add_instruction-returns-in_ok-add_variable-in-Create : goal.add_instruction-returns-in_ok-add_variable-in-Create
add_instruction-returns-in_ok-add_variable-in-Create t c =
    named_if_ok c.add_creation_call.result c.args.mentions.now.items c.add_creation_call.new.mentions.items _ _
    (create_is judged (routine_in c.args.routine.now) (scope_of c.args.scope.now) c.args.instruction.now c.in-Create.field-0 c.in-Create.variable c.in-Create.call
    c.in-Create.is)
    (two_if_ok c.add_creation_call.result c.args.mentions.now.items c.add_variable-in-Create.new.mentions.items c.add_creation_call.new.mentions.items _ _
    c.in_ok-add_variable-in-Create.ensures c.add_creation_call.ensures)

pub add_instruction-returns-in-PrintText : goal.add_instruction-returns-in-PrintText
add_instruction-returns-in-PrintText t c =
    nothing c.args.mentions.now.items _
    (print_is judged (routine_in c.args.routine.now) (scope_of c.args.scope.now) c.args.instruction.now c.in-PrintText.field-0 c.in-PrintText.field-1 c.in-PrintText.is)

pub add_instruction-returns-in-Call : goal.add_instruction-returns-in-Call
add_instruction-returns-in-Call t c =
    named_if_ok c.add_call.result c.args.mentions.now.items c.add_call.new.mentions.items _ _
    (command_is judged (routine_in c.args.routine.now) (scope_of c.args.scope.now) c.args.instruction.now c.in-Call.call c.in-Call.is) c.add_call.ensures

pub add_instruction-returns-in-Check : goal.add_instruction-returns-in-Check
add_instruction-returns-in-Check t c =
    named_if_ok c.add_clauses.result c.args.mentions.now.items c.add_clauses.new.mentions.items _ _
    (check_is judged (routine_in c.args.routine.now) (scope_of c.args.scope.now) c.args.instruction.now c.in-Check.field-0 c.in-Check.clauses c.deref-in-Check.result.now
    c.in-Check.is c.deref-in-Check.ensures.value)
    c.add_clauses.ensures

pub add_instruction-returns-in-Block : goal.add_instruction-returns-in-Block
add_instruction-returns-in-Block t c =
    named_if_ok c.add_block.result c.args.mentions.now.items c.add_block.new.mentions.items _ _
    (block_is judged (routine_in c.args.routine.now) (scope_of c.args.scope.now) c.args.instruction.now c.in-Block.field-0 c.in-Block.heads c.in-Block.body
    c.deref-in-Block.result.now c.deref-in-Block-2.result.now c.in-Block.is c.deref-in-Block.ensures.value c.deref-in-Block-2.ensures.value)
    c.add_block.ensures

pub add_instruction-returns-in_ok-add_branches-in-If : goal.add_instruction-returns-in_ok-add_branches-in-If
add_instruction-returns-in_ok-add_branches-in-If t c =
    named_if_ok c.add_instructions.result c.args.mentions.now.items c.add_instructions.new.mentions.items _ _
    (if_is judged (routine_in c.args.routine.now) (scope_of c.args.scope.now) c.args.instruction.now c.in-If.field-0 c.in-If.condition c.in-If.body c.in-If.branches c.in-If.other
    c.deref.result.now c.deref-in-If.result.now c.deref-in-If-2.result.now c.in-If.is
    c.deref.ensures.value c.deref-in-If.ensures.value c.deref-in-If-2.ensures.value)
    (three_if_ok c.add_instructions.result c.args.mentions.now.items c.add_branch.new.mentions.items c.add_branches.new.mentions.items
    c.add_instructions.new.mentions.items _ _ _ c.in_ok-add_branch-in-If.ensures c.in_ok-add_branches-in-If.ensures c.add_instructions.ensures)

pub add_instruction-returns-in_ok-add_expression-in-Loop : goal.add_instruction-returns-in_ok-add_expression-in-Loop
add_instruction-returns-in_ok-add_expression-in-Loop t c =
    named_if_ok c.add_instructions-in-Loop-2.result c.args.mentions.now.items c.add_instructions-in-Loop-2.new.mentions.items _ _
    (loop_is judged (routine_in c.args.routine.now) (scope_of c.args.scope.now) c.args.instruction.now c.in-Loop.field-0 c.in-Loop.initial c.in-Loop.until c.in-Loop.body
    c.deref-in-Loop.result.now c.deref-in-Loop-2.result.now c.in-Loop.is c.deref-in-Loop.ensures.value c.deref-in-Loop-2.ensures.value)
    (three_if_ok c.add_instructions-in-Loop-2.result c.args.mentions.now.items c.add_instructions-in-Loop.new.mentions.items
    c.add_expression-in-Loop.new.mentions.items c.add_instructions-in-Loop-2.new.mentions.items _ _ _
    c.in_ok-add_instructions-in-Loop.ensures c.in_ok-add_expression-in-Loop.ensures c.add_instructions-in-Loop-2.ensures)

pub add_instructions-loop-instruction-preserved : goal.add_instructions-loop-instruction-preserved
add_instructions-loop-instruction-preserved t c =
    next_given (λ (i : Instr). mentions_in_instr judged (routine_in c.args.routine.now) (scope_of c.args.scope.now) (instr_of i)) c.args.instructions.now
    c.loop-instruction.instruction-index
    c.instruction-item.result c.args.mentions.now.items c.loop-instruction.mentions.items c.add_instruction.new.mentions.items
    c.loop-instruction-test.true c.instruction-item.is c.loop-instruction.invariant c.in_ok-add_instruction.ensures

pub add_instructions-returns : goal.add_instructions-returns
add_instructions-returns t c =
    let h = routine_in c.args.routine.now in
    let n = scope_of c.args.scope.now in
    all_given (λ (i : Instr). mentions_in_instr judged h n (instr_of i)) c.args.instructions.now c.loop-instruction.instruction-index c.args.mentions.now.items
    c.loop-instruction.mentions.items (mentions_in_instrs judged h n (instrs_of c.args.instructions.now)) c.loop-instruction-test.false
    (instrs_is judged h n c.args.instructions.now) c.loop-instruction.invariant

pub add_branches-loop-branch-preserved : goal.add_branches-loop-branch-preserved
add_branches-loop-branch-preserved t c =
    let h = routine_in c.args.routine.now in
    let n = scope_of c.args.scope.now in
    next_given (λ (b : Branch). mentions_in_branch judged h n (expr_of b.condition) (instrs_of b.body.items)) c.args.branches.now c.loop-branch.branch-index
    c.branch-item.result c.args.mentions.now.items c.loop-branch.mentions.items c.add_branch.new.mentions.items
    c.loop-branch-test.true c.branch-item.is c.loop-branch.invariant
    (c.in_ok-add_branch.ensures ∙ ap (λ ms. c.loop-branch.mentions.items ++ ms) (same_branch judged h n c.branch-item.result c.deref.result.now c.deref.ensures.value))

pub add_branches-returns : goal.add_branches-returns
add_branches-returns t c =
    let h = routine_in c.args.routine.now in
    let n = scope_of c.args.scope.now in
    all_given (λ (b : Branch). mentions_in_branch judged h n (expr_of b.condition) (instrs_of b.body.items)) c.args.branches.now c.loop-branch.branch-index
    c.args.mentions.now.items c.loop-branch.mentions.items (mentions_in_branches judged h n (branches_of c.args.branches.now)) c.loop-branch-test.false
    (branches_is judged h n c.args.branches.now) c.loop-branch.invariant
