use Rattle.sc_rules.proofs.TextLaws.{clauses_are_boolean}
use Rattle.sc_rules.proofs.text_laws.clauses_are_boolean.Goals as goal

pub returns : goal.returns
returns c = clauses_are_boolean
