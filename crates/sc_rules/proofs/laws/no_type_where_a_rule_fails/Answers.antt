use Rattle.sc_rules.proofs.TypeLaws.{none_where_a_rule_fails}
use Rattle.sc_rules.proofs.laws.no_type_where_a_rule_fails.Goals as goal

pub returns : goal.returns
returns c = none_where_a_rule_fails
