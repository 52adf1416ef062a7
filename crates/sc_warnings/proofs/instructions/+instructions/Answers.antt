use Rattle.std.proofs.Common.{◌∙◌, ◌++◌, ℕ, List, ap, map}
use Rattle.std.specs.Borrow.{Bor}
use Rattle.sc_tree.specs.declared.instruction.Branch.{Branch}
use Rattle.sc_tree.specs.declared.instruction.Instr.{Instr}
use Rattle.sc_tree.specs.View.{branches_of, expr_of, instr_of, instrs_of}
use Rattle.sc_warnings.specs.Sites.{Names, sites_of_branch, sites_of_branches, sites_of_instr, sites_of_instrs}
use Rattle.sc_warnings.specs.Views.{site_of}
use Rattle.sc_warnings.proofs.Added.{all_given, named_if_ok, next_given, nothing, three_if_ok, two_if_ok}
use Rattle.sc_warnings.proofs.Cases.{assign_is, block_is, branches_is, check_is, command_is, create_is, if_is, instrs_is, loop_is, print_is, same_branch}
use Rattle.sc_warnings.proofs.instructions.+instructions.Goals as goal

pub add_instruction-returns-in-Assign : goal.add_instruction-returns-in-Assign
add_instruction-returns-in-Assign t c =
    named_if_ok c.add_expression.result (map site_of c.args.sites.now.items) (map site_of c.add_expression.new.sites.items) _ _
    (assign_is (map (λ name. name.now) c.args.names.now) c.args.instruction.now c.in-Assign.field-0 c.in-Assign.field-1 c.in-Assign.value c.in-Assign.is)
    c.add_expression.ensures

pub add_instruction-returns-in-PrintText : goal.add_instruction-returns-in-PrintText
add_instruction-returns-in-PrintText t c =
    nothing (map site_of c.args.sites.now.items) _
    (print_is (map (λ name. name.now) c.args.names.now) c.args.instruction.now c.in-PrintText.field-0 c.in-PrintText.field-1 c.in-PrintText.is)

pub add_instruction-returns-in-Call : goal.add_instruction-returns-in-Call
add_instruction-returns-in-Call t c =
    named_if_ok c.add_call.result (map site_of c.args.sites.now.items) (map site_of c.add_call.new.sites.items) _ _
    (command_is (map (λ name. name.now) c.args.names.now) c.args.instruction.now c.in-Call.call c.in-Call.is) c.add_call.ensures

pub add_instruction-returns-in-Create : goal.add_instruction-returns-in-Create
add_instruction-returns-in-Create t c =
    named_if_ok c.add_creation.result (map site_of c.args.sites.now.items) (map site_of c.add_creation.new.sites.items) _ _
    (create_is (map (λ name. name.now) c.args.names.now) c.args.instruction.now c.in-Create.field-0 c.in-Create.variable c.in-Create.call c.in-Create.is)
    c.add_creation.ensures

pub add_instruction-returns-in-Check : goal.add_instruction-returns-in-Check
add_instruction-returns-in-Check t c =
    named_if_ok c.add_clauses.result (map site_of c.args.sites.now.items) (map site_of c.add_clauses.new.sites.items) _ _
    (check_is (map (λ name. name.now) c.args.names.now) c.args.instruction.now c.in-Check.field-0 c.in-Check.clauses c.deref-in-Check.result.now
    c.in-Check.is c.deref-in-Check.ensures.value)
    c.add_clauses.ensures

pub add_instruction-returns-in-Block : goal.add_instruction-returns-in-Block
add_instruction-returns-in-Block t c =
    named_if_ok c.add_block.result (map site_of c.args.sites.now.items) (map site_of c.add_block.new.sites.items) _ _
    (block_is (map (λ name. name.now) c.args.names.now) c.args.instruction.now c.in-Block.field-0 c.in-Block.heads c.in-Block.body
    c.deref-in-Block-2.result.now c.deref-in-Block.result.now c.in-Block.is c.deref-in-Block-2.ensures.value c.deref-in-Block.ensures.value)
    c.add_block.ensures

pub add_instruction-returns-in_ok-add_branches-in-If : goal.add_instruction-returns-in_ok-add_branches-in-If
add_instruction-returns-in_ok-add_branches-in-If t c =
    let n = map (λ name. name.now) c.args.names.now in
    named_if_ok c.add_instructions.result (map site_of c.args.sites.now.items) (map site_of c.add_instructions.new.sites.items) _ _
    (if_is n c.args.instruction.now c.in-If.field-0 c.in-If.condition c.in-If.body c.in-If.branches c.in-If.other
    c.deref.result.now c.deref-in-If.result.now c.deref-in-If-2.result.now c.in-If.is
    c.deref.ensures.value c.deref-in-If.ensures.value c.deref-in-If-2.ensures.value)
    (three_if_ok c.add_instructions.result (map site_of c.args.sites.now.items) (map site_of c.add_branch.new.sites.items) (map site_of c.add_branches.new.sites.items)
    (map site_of c.add_instructions.new.sites.items) _ _ _ c.in_ok-add_branch-in-If.ensures c.in_ok-add_branches-in-If.ensures c.add_instructions.ensures)

pub add_instruction-returns-in_ok-add_tested-in-Loop : goal.add_instruction-returns-in_ok-add_tested-in-Loop
add_instruction-returns-in_ok-add_tested-in-Loop t c =
    let n = map (λ name. name.now) c.args.names.now in
    named_if_ok c.add_instructions-in-Loop-2.result (map site_of c.args.sites.now.items) (map site_of c.add_instructions-in-Loop-2.new.sites.items) _ _
    (loop_is n c.args.instruction.now c.in-Loop.field-0 c.in-Loop.initial c.in-Loop.until c.in-Loop.body
    c.deref-in-Loop.result.now c.deref-in-Loop-2.result.now c.in-Loop.is c.deref-in-Loop.ensures.value c.deref-in-Loop-2.ensures.value)
    (three_if_ok c.add_instructions-in-Loop-2.result (map site_of c.args.sites.now.items) (map site_of c.add_instructions-in-Loop.new.sites.items)
    (map site_of c.add_tested.new.sites.items) (map site_of c.add_instructions-in-Loop-2.new.sites.items) _ _ _
    c.in_ok-add_instructions-in-Loop.ensures c.in_ok-add_tested-in-Loop.ensures c.add_instructions-in-Loop-2.ensures)

-- the names of the heads are known in the body
pub add_block-returns : goal.add_block-returns
add_block-returns t c =
    let inside = λ (names : List (Bor (List ℕ))). map (λ (name : Bor (List ℕ)). name.now) names in
    two_if_ok c.add_instructions.result (map site_of c.args.sites.now.items) (map site_of c.add_heads.new.sites.items) (map site_of c.add_instructions.new.sites.items) _ _
    c.in_ok-add_heads.ensures
    (named_if_ok c.add_instructions.result (map site_of c.add_heads.new.sites.items) (map site_of c.add_instructions.new.sites.items) _ _
    (ap (λ (n : Names). sites_of_instrs n (instrs_of c.args.body.now)) (ap inside c.deref.ensures.value ∙ c.in_ok-inside.ensures)) c.add_instructions.ensures)

pub add_instructions-loop-instruction-preserved : goal.add_instructions-loop-instruction-preserved
add_instructions-loop-instruction-preserved t c =
    next_given (λ (i : Instr). sites_of_instr (map (λ name. name.now) c.args.names.now) (instr_of i)) c.args.instructions.now c.loop-instruction.instruction-index
    c.instruction-item.result (map site_of c.args.sites.now.items) (map site_of c.loop-instruction.sites.items) (map site_of c.add_instruction.new.sites.items)
    c.loop-instruction-test.true c.instruction-item.is c.loop-instruction.invariant c.in_ok-add_instruction.ensures

pub add_instructions-returns : goal.add_instructions-returns
add_instructions-returns t c =
    let n = map (λ name. name.now) c.args.names.now in
    all_given (λ (i : Instr). sites_of_instr n (instr_of i)) c.args.instructions.now c.loop-instruction.instruction-index (map site_of c.args.sites.now.items)
    (map site_of c.loop-instruction.sites.items) (sites_of_instrs n (instrs_of c.args.instructions.now)) c.loop-instruction-test.false
    (instrs_is n c.args.instructions.now) c.loop-instruction.invariant

pub add_branches-loop-branch-preserved : goal.add_branches-loop-branch-preserved
add_branches-loop-branch-preserved t c =
    let n = map (λ name. name.now) c.args.names.now in
    next_given (λ (b : Branch). sites_of_branch n (expr_of b.condition) (instrs_of b.body.items)) c.args.branches.now c.loop-branch.branch-index
    c.branch-item.result (map site_of c.args.sites.now.items) (map site_of c.loop-branch.sites.items) (map site_of c.add_branch.new.sites.items)
    c.loop-branch-test.true c.branch-item.is c.loop-branch.invariant
    (c.in_ok-add_branch.ensures ∙ ap (λ ss. map site_of c.loop-branch.sites.items ++ ss) (same_branch n c.branch-item.result c.deref.result.now c.deref.ensures.value))

pub add_branches-returns : goal.add_branches-returns
add_branches-returns t c =
    let n = map (λ name. name.now) c.args.names.now in
    all_given (λ (b : Branch). sites_of_branch n (expr_of b.condition) (instrs_of b.body.items)) c.args.branches.now c.loop-branch.branch-index
    (map site_of c.args.sites.now.items) (map site_of c.loop-branch.sites.items) (sites_of_branches n (branches_of c.args.branches.now)) c.loop-branch-test.false
    (branches_is n c.args.branches.now) c.loop-branch.invariant
