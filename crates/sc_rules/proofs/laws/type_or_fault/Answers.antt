use Rattle.sc_rules.proofs.TypeLaws.{type_or_fault}
use Rattle.sc_rules.proofs.laws.type_or_fault.Goals as goal

pub returns : goal.returns
returns c = type_or_fault
