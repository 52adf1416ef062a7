use Rattle.sc_rules.proofs.InstructionLaws.{variables_stand_lem}
use Rattle.sc_rules.proofs.instruction_laws.variables_stand.Goals as goal

pub returns : goal.returns
returns c = variables_stand_lem
