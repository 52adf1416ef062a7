use Rattle.sc_rules.proofs.TextLaws.{conditions_give}
use Rattle.sc_rules.proofs.text_laws.conditions_give.Goals as goal

pub returns : goal.returns
returns c = conditions_give
