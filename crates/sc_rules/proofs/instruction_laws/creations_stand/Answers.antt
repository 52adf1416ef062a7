use Rattle.sc_rules.proofs.InstructionLaws.{creations_stand_lem}
use Rattle.sc_rules.proofs.instruction_laws.creations_stand.Goals as goal

pub returns : goal.returns
returns c = creations_stand_lem
