use Rattle.sc_arguments.proofs.OptionLemmas.{value-found, value-none}
use Rattle.sc_arguments.proofs.arguments.words.value_at.Goals as goal

pub returns-in-Some : goal.returns-in-Some
returns-in-Some g c = value-found _ _ _ _ _ c.in-Some.ensures.cases c.value_by.ensures

pub returns-in-None : goal.returns-in-None
returns-in-None g c = value-none _ _ _ c.in-None.ensures.cases
