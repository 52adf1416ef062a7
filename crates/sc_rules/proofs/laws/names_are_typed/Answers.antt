use Rattle.sc_rules.proofs.TypeLaws.{names_typed}
use Rattle.sc_rules.proofs.laws.names_are_typed.Goals as goal

pub returns : goal.returns
returns c = names_typed
