use Rattle.sc_rules.proofs.SystemLaws.{well_formed_or_fault}
use Rattle.sc_rules.proofs.laws.well_formed_or_fault.Goals as goal

pub returns : goal.returns
returns c = well_formed_or_fault
