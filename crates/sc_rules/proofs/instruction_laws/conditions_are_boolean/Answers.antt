use Rattle.sc_rules.proofs.InstructionLaws.{conditions_are_boolean_lem}
use Rattle.sc_rules.proofs.instruction_laws.conditions_are_boolean.Goals as goal

pub returns : goal.returns
returns c = conditions_are_boolean_lem
