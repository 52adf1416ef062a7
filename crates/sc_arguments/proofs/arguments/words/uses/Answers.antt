use Rattle.sc_arguments.proofs.OptionLemmas.{uses-longer, uses-none, uses-whole}
use Rattle.sc_arguments.proofs.arguments.words.uses.Goals as goal

pub returns-in-empty : goal.returns-in-empty
returns-in-empty c = uses-whole _ _ _ _ c.in-Some.ensures.cases c.as_bytes.ensures.value c.in-empty.len_below

pub returns-else-option-eq2 : goal.returns-else-option-eq2
returns-else-option-eq2 c =
    uses-longer _ _ _ _ c.in-Some.ensures.cases c.as_bytes.ensures.value c.in-len1-up.len_at_least c.if-option-eq2.false

pub returns-in-None : goal.returns-in-None
returns-in-None c = uses-none _ _ c.in-None.ensures.cases
