use Rattle.sc_rules.proofs.TypeLaws.{one_type}
use Rattle.sc_rules.proofs.laws.one_type.Goals as goal

pub returns : goal.returns
returns c = one_type
