use Rattle.std.proofs.Common.{map, refl, Ok}
use Rattle.sc_typing.specs.Views.{routine_in, entity_of}
use Rattle.sc_faults.proofs.ExpressionSteps.{source_added, command_added, creation_added, print_added, if_added, loop_added, check_added, block_added}
use Rattle.sc_faults.proofs.instructions.add_operands.Goals as goal

pub returns-in-Assign : goal.returns-in-Assign
returns-in-Assign c =
    source_added (routine_in c.args.routine.now) (map entity_of c.args.names.now) c.args.instruction.now c.add_expression.result
    c.args.faults.now.items c.add_expression.new.faults.items c.in-Assign.field-0 c.in-Assign.field-1 c.in-Assign.value c.in-Assign.is c.add_expression.ensures

pub returns-in-Call : goal.returns-in-Call
returns-in-Call c =
    command_added (routine_in c.args.routine.now) (map entity_of c.args.names.now) c.args.instruction.now c.add_call.result
    c.args.faults.now.items c.add_call.new.faults.items c.in-Call.call c.in-Call.is c.add_call.ensures

pub returns-in-Create : goal.returns-in-Create
returns-in-Create c =
    creation_added (routine_in c.args.routine.now) (map entity_of c.args.names.now) c.args.instruction.now c.add_creation.result
    c.args.faults.now.items c.add_creation.new.faults.items c.in-Create.field-0 c.in-Create.variable c.in-Create.call c.in-Create.call
    c.in-Create.is refl c.add_creation.ensures

pub returns-in-PrintText : goal.returns-in-PrintText
returns-in-PrintText c =
    print_added (routine_in c.args.routine.now) (map entity_of c.args.names.now) c.args.instruction.now (Ok tt)
    c.args.faults.now.items c.args.faults.now.items c.in-PrintText.field-0 c.in-PrintText.field-1 c.in-PrintText.is

pub returns-in-If : goal.returns-in-If
returns-in-If c =
    if_added (routine_in c.args.routine.now) (map entity_of c.args.names.now) c.args.instruction.now (Ok tt)
    c.args.faults.now.items c.args.faults.now.items c.in-If.field-0 c.in-If.field-1 c.in-If.field-2 c.in-If.field-3 c.in-If.field-4 c.in-If.is

pub returns-in-Loop : goal.returns-in-Loop
returns-in-Loop c =
    loop_added (routine_in c.args.routine.now) (map entity_of c.args.names.now) c.args.instruction.now (Ok tt)
    c.args.faults.now.items c.args.faults.now.items c.in-Loop.field-0 c.in-Loop.field-1 c.in-Loop.field-2 c.in-Loop.field-3 c.in-Loop.is

pub returns-in-Check : goal.returns-in-Check
returns-in-Check c =
    check_added (routine_in c.args.routine.now) (map entity_of c.args.names.now) c.args.instruction.now (Ok tt)
    c.args.faults.now.items c.args.faults.now.items c.in-Check.field-0 c.in-Check.field-1 c.in-Check.is

pub returns-in-Block : goal.returns-in-Block
returns-in-Block c =
    block_added (routine_in c.args.routine.now) (map entity_of c.args.names.now) c.args.instruction.now (Ok tt)
    c.args.faults.now.items c.args.faults.now.items c.in-Block.field-0 c.in-Block.field-1 c.in-Block.field-2 c.in-Block.is
