use Rattle.std.proofs.Common.{map, ap, inl, inr, ◌++◌}
use Rattle.sc_tree.specs.View.{expr_of, head_of, instrs_of, branches_of}
use Rattle.sc_rules.specs.Judging.{judge_given}
use Rattle.sc_rules.specs.declared.position.Context.TheVariants as context
use Rattle.sc_rules.specs.declared.position.Position.TheVariants.{Condition}
use Rattle.sc_typing.specs.Views.{routine_in, entity_of}
use Rattle.sc_faults.specs.Internal.Listing.{faults_of_each, faults_of_condition, faults_of_head, judge_reserved, faults_of_instrs, faults_of_branches}
use Rattle.sc_faults.proofs.Steps.{knows_at, under_added, under_known}
use Rattle.sc_faults.proofs.InstructionLists.{assign_added, print_added, call_added, create_added, check_added, block_added, if_added, loop_added, instrs_next, instrs_end, branches_next, branches_end}
use Rattle.sc_faults.proofs.instructions.+instructions.Goals as goal

pub add_instruction-returns-in-Assign : goal.add_instruction-returns-in-Assign
add_instruction-returns-in-Assign t c =
    let h = routine_in c.args.routine.now in
    let n = map entity_of c.args.names.now in
    let i = c.args.instruction.now in
    let old = c.args.faults.now.items in
    let new = c.add_simple.new.faults.items in
    elim c.in-Assign.is [
      | inl w ↦ assign_added h n i c.add_simple.result old new w.0 w.1 w.2 w.3 c.add_simple.ensures
      | inr v ↦ elim v [
        | inl w ↦ print_added h n i c.add_simple.result old new w.0 w.1 w.2 c.add_simple.ensures
        | inr v ↦ elim v [
          | inl w ↦ call_added h n i c.add_simple.result old new w.0 w.1 c.add_simple.ensures
          | inr w ↦ create_added h n i c.add_simple.result old new w.0 w.1 w.2 w.3 c.add_simple.ensures
        ]
      ]
    ]

pub add_instruction-returns-in-Check : goal.add_instruction-returns-in-Check
add_instruction-returns-in-Check t c =
    check_added (routine_in c.args.routine.now) (map entity_of c.args.names.now) c.args.instruction.now c.add_clauses.result c.args.faults.now.items
    c.add_clauses.new.faults.items c.in-Check.field-0 c.in-Check.clauses c.deref-in-Check.result.now c.in-Check.is c.deref-in-Check.ensures.value c.add_clauses.ensures

pub add_instruction-returns-in-Block : goal.add_instruction-returns-in-Block
add_instruction-returns-in-Block t c =
    block_added (routine_in c.args.routine.now) (map entity_of c.args.names.now) c.args.instruction.now c.add_block.result c.args.faults.now.items
    c.add_block.new.faults.items c.in-Block.field-0 c.in-Block.heads c.in-Block.body c.deref-in-Block.result.now c.deref-in-Block-2.result.now c.in-Block.is
    c.deref-in-Block.ensures.value c.deref-in-Block-2.ensures.value c.add_block.ensures

pub add_instruction-returns-in_ok-add_branches-in-If : goal.add_instruction-returns-in_ok-add_branches-in-If
add_instruction-returns-in_ok-add_branches-in-If t c =
    if_added (routine_in c.args.routine.now) (map entity_of c.args.names.now) c.args.instruction.now c.add_instructions.result c.args.faults.now.items
    c.add_instructions.new.faults.items c.in-If.field-0 c.in-If.condition c.in-If.body c.in-If.branches c.in-If.other
    c.deref.result.now c.deref-in-If.result.now c.deref-in-If-2.result.now _ _ c.in-If.is
    c.deref.ensures.value c.deref-in-If.ensures.value c.deref-in-If-2.ensures.value
    c.in_ok-add_branch-in-If.ensures c.in_ok-add_branches-in-If.ensures c.add_instructions.ensures

pub add_instruction-returns-in_ok-add_condition-in-Loop : goal.add_instruction-returns-in_ok-add_condition-in-Loop
add_instruction-returns-in_ok-add_condition-in-Loop t c =
    let h = routine_in c.args.routine.now in
    let n = map entity_of c.args.names.now in
    loop_added h n c.args.instruction.now c.add_instructions-in-Loop-2.result c.args.faults.now.items
    c.add_instructions-in-Loop-2.new.faults.items c.in-Loop.field-0 c.in-Loop.initial c.in-Loop.until c.in-Loop.body
    c.deref-in-Loop.result.now c.deref-in-Loop-2.result.now _ _ c.in-Loop.is
    c.deref-in-Loop.ensures.value c.deref-in-Loop-2.ensures.value
    c.in_ok-add_instructions-in-Loop.ensures c.in_ok-add_condition-in-Loop.ensures
    c.add_instructions-in-Loop-2.ensures

pub add_branch-returns : goal.add_branch-returns
add_branch-returns t c =
    let h = routine_in c.args.routine.now in
    let e = expr_of c.args.condition.now in
    under_added h (instrs_of c.args.body.now) c.give_names-given.result (map entity_of c.deref.result.now)
    (judge_given h context.Body (map entity_of c.args.names.now) e) c.add_under.result c.args.faults.now.items c.add_if_condition.new.faults.items
    c.add_under.new.faults.items (faults_of_condition h context.Body Condition (map entity_of c.args.names.now) e)
    c.in_ok-add_if_condition.ensures
    (knows_at (λ n. judge_given h context.Body n e) c.give_names-given.result (map entity_of c.args.names.now)
    (map entity_of c.in_ok-known.known.items)
    (map entity_of c.give_names-given.new.names.items) (map entity_of c.deref.result.now)
    (ap (map entity_of) c.in_ok-known.ensures.items) (ap (map entity_of) c.deref.ensures.value) c.give_names-given.ensures)
    c.add_under.ensures

pub add_block-returns : goal.add_block-returns
add_block-returns t c =
    let h = routine_in c.args.routine.now in
    let n = map entity_of c.args.names.now in
    let ds = map head_of c.args.heads.now in
    under_added h (instrs_of c.args.body.now) c.reserve_names-given.result (map entity_of c.deref.result.now)
    (judge_reserved h n n ds) c.add_under.result c.args.faults.now.items c.add_heads.new.faults.items
    c.add_under.new.faults.items (faults_of_each (faults_of_head h n) ds) c.in_ok-add_heads.ensures
    (knows_at (λ m. judge_reserved h n m ds) c.reserve_names-given.result n (map entity_of c.in_ok-known.known.items)
    (map entity_of c.reserve_names-given.new.known.items) (map entity_of c.deref.result.now)
    (ap (map entity_of) c.in_ok-known.ensures.items) (ap (map entity_of) c.deref.ensures.value) c.reserve_names-given.ensures)
    c.add_under.ensures

pub add_under-returns-in-Ok : goal.add_under-returns-in-Ok
add_under-returns-in-Ok t c = λ j k.
    under_known (routine_in c.args.routine.now) (instrs_of c.args.body.now) c.args.given (map entity_of c.args.known.now) c.in-Ok.field-0 j
    c.add_instructions.result c.args.faults.now.items c.add_instructions.new.faults.items c.in-Ok.is k c.add_instructions.ensures

pub add_instructions-loop-instruction-preserved : goal.add_instructions-loop-instruction-preserved
add_instructions-loop-instruction-preserved t c =
    instrs_next (routine_in c.args.routine.now) (map entity_of c.args.names.now) c.args.instructions.now c.loop-instruction.instruction-index
    c.instruction-item.result (c.args.faults.now.items ++ faults_of_instrs (routine_in c.args.routine.now) (map entity_of c.args.names.now)
    (instrs_of c.args.instructions.now))
    c.loop-instruction.faults.items c.add_instruction.new.faults.items c.loop-instruction-test.true c.instruction-item.is c.loop-instruction.invariant
    c.in_ok-add_instruction.ensures

pub add_instructions-returns : goal.add_instructions-returns
add_instructions-returns t c =
    instrs_end (routine_in c.args.routine.now) (map entity_of c.args.names.now) c.args.instructions.now c.loop-instruction.instruction-index
    (c.args.faults.now.items ++ faults_of_instrs (routine_in c.args.routine.now) (map entity_of c.args.names.now) (instrs_of c.args.instructions.now))
    c.loop-instruction.faults.items c.loop-instruction-test.false c.loop-instruction.invariant

pub add_branches-loop-branch-preserved : goal.add_branches-loop-branch-preserved
add_branches-loop-branch-preserved t c =
    branches_next (routine_in c.args.routine.now) (map entity_of c.args.names.now) c.args.branches.now c.loop-branch.branch-index
    c.branch-item.result c.deref.result.now
    (c.args.faults.now.items ++ faults_of_branches (routine_in c.args.routine.now) (map entity_of c.args.names.now) (branches_of c.args.branches.now))
    c.loop-branch.faults.items c.add_branch.new.faults.items c.loop-branch-test.true c.branch-item.is c.deref.ensures.value c.loop-branch.invariant
    c.in_ok-add_branch.ensures

pub add_branches-returns : goal.add_branches-returns
add_branches-returns t c =
    branches_end (routine_in c.args.routine.now) (map entity_of c.args.names.now) c.args.branches.now c.loop-branch.branch-index
    (c.args.faults.now.items ++ faults_of_branches (routine_in c.args.routine.now) (map entity_of c.args.names.now) (branches_of c.args.branches.now))
    c.loop-branch.faults.items c.loop-branch-test.false c.loop-branch.invariant
