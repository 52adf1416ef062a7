use Rattle.std.proofs.Common.{◌≡◌, ◌++◌, map, refl, ap, subst, ◌∙◌, List}
use Rattle.std.specs.Prelude.{OnOk}
use Rattle.sc_text.specs.declared.token.Span.{Span}
use Rattle.sc_tree.specs.declared.instruction.Instr.{Instr}
use Rattle.sc_tree.specs.declared.instruction.Branch.{Branch}
use Rattle.sc_tree.specs.View.{expr_of, head_of, instr_of, instrs_of, branches_of}
use Rattle.sc_class.specs.Faults.Scopes.{head_names, tests_of}
use Rattle.sc_class.specs.Internal.Places.{union}
use Rattle.sc_class.specs.Internal.ScopeSearch.{expr_clash, condition_clash, instr_clash, instrs_clash, branches_clash}
use Rattle.sc_class.proofs.ScopeSteps.{search_more, search_end, in_block_found, under_found, routine_call_found, if_found, loop_found, block_found}
use Rattle.sc_class.proofs.faults.scopes.instructions.+instructions.Goals as goal

pub in_instructions-loop-instruction-preserved : goal.in_instructions-loop-instruction-preserved
unfolding instr_clash
in_instructions-loop-instruction-preserved t c = record {
  kept = c.in_ok-in_instruction.ensures.kept ∙ c.loop-instruction.invariant.kept;
  found =
      search_more (λ (is : List Instr). instrs_clash c.args.features.now c.args.known.now (instrs_of is)) (λ (i : Instr). instr_clash c.args.features.now c.args.known.now (instr_of i)) c.args.instructions.now (λ i is. refl)
      (union c.args.found.now (instrs_clash c.args.features.now c.args.known.now (instrs_of c.args.instructions.now))) c.loop-instruction.found c.in_instruction.new.found c.loop-instruction.instruction-index c.instruction-item.result c.loop-instruction.invariant.found
      c.loop-instruction-test.true c.instruction-item.is
      (c.in_ok-in_instruction.ensures.found ∙ ap (λ ns. union c.loop-instruction.found (instr_clash c.args.features.now ns (instr_of c.instruction-item.result))) c.loop-instruction.invariant.kept);
}

pub in_instructions-returns-clause-found : goal.in_instructions-returns-clause-found
unfolding instr_clash
in_instructions-returns-clause-found t c =
    search_end (λ (is : List Instr). instrs_clash c.args.features.now c.args.known.now (instrs_of is)) (λ (i : Instr). instr_clash c.args.features.now c.args.known.now (instr_of i)) c.args.instructions.now refl
    (union c.args.found.now (instrs_clash c.args.features.now c.args.known.now (instrs_of c.args.instructions.now))) c.loop-instruction.found c.loop-instruction.instruction-index c.loop-instruction.invariant.found c.loop-instruction-test.false

pub in_branches-loop-branch-preserved : goal.in_branches-loop-branch-preserved
unfolding instr_clash
in_branches-loop-branch-preserved t c =
    let fs = c.args.features.now in
    let e = expr_of c.branch-item.result.condition in
    record {
      kept = c.in_ok-in_branch.ensures.kept ∙ c.loop-branch.invariant.kept;
      found =
          search_more (λ (bs : List Branch). branches_clash c.args.features.now c.args.known.now (branches_of bs))
          (λ (b : Branch). condition_clash c.args.features.now c.args.known.now (expr_of b.condition) ++ instrs_clash c.args.features.now (c.args.known.now ++ tests_of (expr_of b.condition)) (instrs_of b.body.items))
          c.args.branches.now (λ b bs. refl)
          (union c.args.found.now (branches_clash c.args.features.now c.args.known.now (branches_of c.args.branches.now))) c.loop-branch.found c.in_branch.new.found c.loop-branch.branch-index c.branch-item.result c.loop-branch.invariant.found c.loop-branch-test.true c.branch-item.is
          (c.in_ok-in_branch.ensures.found ∙ ap (λ ns. union c.loop-branch.found (condition_clash fs ns e ++ instrs_clash fs (ns ++ tests_of e) (instrs_of c.deref.result.now))) c.loop-branch.invariant.kept
          ∙ ap (λ (is : List Instr). union c.loop-branch.found (condition_clash fs c.args.known.now e ++ instrs_clash fs (c.args.known.now ++ tests_of e) (instrs_of is))) c.deref.ensures.value);
    }

pub in_branches-returns-clause-found : goal.in_branches-returns-clause-found
unfolding instr_clash
in_branches-returns-clause-found t c =
    search_end (λ (bs : List Branch). branches_clash c.args.features.now c.args.known.now (branches_of bs))
    (λ (b : Branch). condition_clash c.args.features.now c.args.known.now (expr_of b.condition) ++ instrs_clash c.args.features.now (c.args.known.now ++ tests_of (expr_of b.condition)) (instrs_of b.body.items))
    c.args.branches.now refl (union c.args.found.now (branches_clash c.args.features.now c.args.known.now (branches_of c.args.branches.now))) c.loop-branch.found c.loop-branch.branch-index c.loop-branch.invariant.found c.loop-branch-test.false

pub in_block-returns-clause-found : goal.in_block-returns-clause-found
in_block-returns-clause-found t c =
    let hs = map head_of c.args.heads.now in
    in_block_found c.args.features.now c.args.known.now c.declare_heads.new.known (head_names hs) hs (instrs_of c.args.body.now) c.args.found.now c.in_values.new.found c.declare_heads.new.found c.in_instructions.new.found
    c.in_ok-declare_heads.ensures.added c.in_ok-in_values.ensures c.in_ok-declare_heads.ensures.found c.in_ok-in_instructions.ensures.found

pub in_branch-returns-clause-found : goal.in_branch-returns-clause-found
in_branch-returns-clause-found t c =
    under_found c.args.features.now c.args.known.now c.in_condition.new.known (expr_of c.args.condition.now) (instrs_of c.args.body.now) c.args.found.now c.in_condition.new.found c.in_instructions.new.found
    c.in_ok-in_condition.ensures.added c.in_ok-in_condition.ensures.found c.in_ok-in_instructions.ensures.found

pub in_instruction-returns-in_ok-in_target-in-Call-clause-found : goal.in_instruction-returns-in_ok-in_target-in-Call-clause-found
in_instruction-returns-in_ok-in_target-in-Call-clause-found t c =
    subst (λ (ps : List Span). OnOk c.in_expressions.result (c.in_expressions.new.found ≡ ps))
    (routine_call_found c.args.features.now c.args.known.now c.args.instruction.now c.in-Call.call c.deref.result.now c.args.found.now c.in_target.new.found c.in-Call.is c.deref.ensures.value c.in_ok-in_target-in-Call.ensures)
    c.in_expressions.ensures

pub in_instruction-returns-in_ok-in_branches-in-If-clause-found : goal.in_instruction-returns-in_ok-in_branches-in-If-clause-found
in_instruction-returns-in_ok-in_branches-in-If-clause-found t c =
    let fs = c.args.features.now in
    subst (λ (ps : List Span). OnOk c.in_instructions.result (c.in_instructions.new.found ≡ ps))
    (ap (λ ns. union c.in_branches.new.found (instrs_clash fs ns (instrs_of c.deref-in-If-3.result.now))) (c.in_ok-in_branches-in-If.ensures.kept ∙ c.in_ok-in_branch-in-If.ensures.kept)
    ∙ if_found c.args.features.now c.args.known.now c.args.instruction.now c.in-If.field-0 c.in-If.condition c.in-If.body c.in-If.branches c.in-If.other c.deref-in-If.result.now c.deref-in-If-3.result.now c.deref-in-If-2.result.now
    c.args.found.now c.in_branch.new.found c.in_branches.new.found c.in-If.is c.deref-in-If.ensures.value c.deref-in-If-2.ensures.value c.deref-in-If-3.ensures.value c.in_ok-in_branch-in-If.ensures.found
    (c.in_ok-in_branches-in-If.ensures.found ∙ ap (λ ns. union c.in_branch.new.found (branches_clash fs ns (branches_of c.deref-in-If-2.result.now))) c.in_ok-in_branch-in-If.ensures.kept))
    c.in_instructions.ensures.found

pub in_instruction-returns-in_ok-in_expression-in-Loop-clause-found : goal.in_instruction-returns-in_ok-in_expression-in-Loop-clause-found
in_instruction-returns-in_ok-in_expression-in-Loop-clause-found t c =
    let fs = c.args.features.now in
    subst (λ (ps : List Span). OnOk c.in_instructions-in-Loop-2.result (c.in_instructions-in-Loop-2.new.found ≡ ps))
    (ap (λ ns. union c.in_expression-in-Loop.new.found (instrs_clash fs ns (instrs_of c.deref-in-Loop-2.result.now))) c.in_ok-in_instructions-in-Loop.ensures.kept
    ∙ loop_found c.args.features.now c.args.known.now c.args.instruction.now c.in-Loop.field-0 c.in-Loop.initial c.in-Loop.until c.in-Loop.body c.deref-in-Loop.result.now c.deref-in-Loop-2.result.now
    c.args.found.now c.in_instructions-in-Loop.new.found c.in_expression-in-Loop.new.found c.in-Loop.is c.deref-in-Loop.ensures.value c.deref-in-Loop-2.ensures.value c.in_ok-in_instructions-in-Loop.ensures.found
    (c.in_ok-in_expression-in-Loop.ensures ∙ ap (λ ns. union c.in_instructions-in-Loop.new.found (expr_clash fs ns (expr_of c.in-Loop.until))) c.in_ok-in_instructions-in-Loop.ensures.kept))
    c.in_instructions-in-Loop-2.ensures.found

pub in_instruction-returns-in-Block-clause-found : goal.in_instruction-returns-in-Block-clause-found
in_instruction-returns-in-Block-clause-found t c =
    subst (λ (ps : List Span). OnOk c.in_block.result (c.in_block.new.found ≡ ps))
    (block_found c.args.features.now c.args.known.now c.args.instruction.now c.in-Block.field-0 c.in-Block.heads c.in-Block.body c.deref-in-Block.result.now c.deref-in-Block-2.result.now c.args.found.now
    c.in-Block.is c.deref-in-Block.ensures.value c.deref-in-Block-2.ensures.value)
    c.in_block.ensures.found
