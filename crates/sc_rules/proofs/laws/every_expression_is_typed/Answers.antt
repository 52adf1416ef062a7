use Rattle.sc_rules.proofs.Typings.{every_typed}
use Rattle.sc_rules.proofs.laws.every_expression_is_typed.Goals as goal

pub returns : goal.returns
returns c = λ h c k n e t a b w d. every_typed a b w d
