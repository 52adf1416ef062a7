use Rattle.std.proofs.Common.{map}
use Rattle.sc_typing.specs.Views.{routine_in, entity_of, assignee_in}
use Rattle.sc_check.proofs.purity.EffectSteps.{added_same, in_assign, print_effects, command_effects, create_effects, check_effects, in_if, in_loop, in_block}
use Rattle.sc_check.proofs.purity.body.+instruction_effects.Goals as goal

pub add_instruction-returns-in_ok-add_instructions-in-If : goal.add_instruction-returns-in_ok-add_instructions-in-If
add_instruction-returns-in_ok-add_instructions-in-If t c =
    in_if (routine_in c.args.routine.now) (map entity_of c.args.names.now) c.args.instruction.now
    c.in-If.field-0 c.in-If.condition c.in-If.body c.in-If.branches c.in-If.other c.in-If.is
    c.deref.result.now c.deref.ensures.value c.deref-in-If.result.now c.deref-in-If.ensures.value c.deref-in-If-2.result.now c.deref-in-If-2.ensures.value
    c.args.effects.now.items c.add_branch_effects.new.effects.items c.add_branches.new.effects.items c.add_instructions.new.effects.items
    c.in_ok-add_branch_effects-in-If.ensures c.in_ok-add_branches-in-If.ensures c.in_ok-add_instructions-in-If.ensures

pub add_instruction-returns-in_ok-add_instructions-in-Loop-2 : goal.add_instruction-returns-in_ok-add_instructions-in-Loop-2
add_instruction-returns-in_ok-add_instructions-in-Loop-2 t c =
    in_loop (routine_in c.args.routine.now) (map entity_of c.args.names.now) c.args.instruction.now
    c.in-Loop.field-0 c.in-Loop.initial c.in-Loop.condition c.in-Loop.body c.in-Loop.is
    c.deref-in-Loop.result.now c.deref-in-Loop.ensures.value c.deref-in-Loop-2.result.now c.deref-in-Loop-2.ensures.value
    c.args.effects.now.items c.add_instructions-in-Loop.new.effects.items c.add_value-in-Loop.new.effects.items c.add_instructions-in-Loop-2.new.effects.items
    c.in_ok-add_instructions-in-Loop.ensures c.in_ok-add_value-in-Loop.ensures c.in_ok-add_instructions-in-Loop-2.ensures

pub add_instruction-returns-in_ok-add_block-in-Block : goal.add_instruction-returns-in_ok-add_block-in-Block
add_instruction-returns-in_ok-add_block-in-Block t c =
    in_block (routine_in c.args.routine.now) (map entity_of c.args.names.now) c.args.instruction.now
    c.in-Block.field-0 c.in-Block.heads c.in-Block.body c.in-Block.is
    c.deref-in-Block.result.now c.deref-in-Block.ensures.value c.deref-in-Block-2.result.now c.deref-in-Block-2.ensures.value
    c.args.effects.now.items c.add_side_effect_if-in-Block.new.effects.items c.add_block.new.effects.items
    c.in_ok-add_side_effect_if-in-Block.ensures c.in_ok-add_block-in-Block.ensures

pub add_instruction-returns-in_ok-add_value-in-Assign : goal.add_instruction-returns-in_ok-add_value-in-Assign
add_instruction-returns-in_ok-add_value-in-Assign t c =
    in_assign (routine_in c.args.routine.now) (map entity_of c.args.names.now) c.args.instruction.now
    c.in-Assign.field-0 c.in-Assign.variable c.in-Assign.value c.in-Assign.is (assignee_in c.assignee.result) c.is_to_attribute.result c.assignee.ensures c.is_to_attribute.ensures
    c.args.effects.now.items c.add_side_effect_if.new.effects.items c.add_value.new.effects.items
    c.in_ok-add_side_effect_if-in-Assign.ensures c.in_ok-add_value-in-Assign.ensures

pub add_instruction-returns-in-PrintText : goal.add_instruction-returns-in-PrintText
add_instruction-returns-in-PrintText t c =
    added_same c.args.effects.now.items _ _ _ c.add_side_effect_if-in-PrintText.result
    (print_effects (routine_in c.args.routine.now) (map entity_of c.args.names.now) c.args.instruction.now c.in-PrintText.field-0 c.in-PrintText.field-1 c.in-PrintText.is)
    c.add_side_effect_if-in-PrintText.ensures

pub add_instruction-returns-in-Call : goal.add_instruction-returns-in-Call
add_instruction-returns-in-Call t c =
    added_same c.args.effects.now.items _ _ _ c.add_command.result
    (command_effects (routine_in c.args.routine.now) (map entity_of c.args.names.now) c.args.instruction.now c.in-Call.call c.in-Call.is)
    c.add_command.ensures

pub add_instruction-returns-in-Create : goal.add_instruction-returns-in-Create
add_instruction-returns-in-Create t c =
    added_same c.args.effects.now.items _ _ _ c.add_creation.result
    (create_effects (routine_in c.args.routine.now) (map entity_of c.args.names.now) c.args.instruction.now c.in-Create.field-0 c.in-Create.field-1 c.in-Create.call c.in-Create.is)
    c.add_creation.ensures

pub add_instruction-returns-in-Check : goal.add_instruction-returns-in-Check
add_instruction-returns-in-Check t c =
    added_same c.args.effects.now.items _ _ _ c.add_clauses.result
    (check_effects (routine_in c.args.routine.now) (map entity_of c.args.names.now) c.args.instruction.now c.in-Check.field-0 c.in-Check.clauses c.in-Check.is
    c.deref-in-Check.result.now c.deref-in-Check.ensures.value)
    c.add_clauses.ensures
