use Rattle.sc_rules.proofs.EachTyped.{each_is_typed_lem}
use Rattle.sc_rules.proofs.system_laws.each_expression_has_a_type.Goals as goal

pub returns : goal.returns
returns c = each_is_typed_lem
