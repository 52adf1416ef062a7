use Rattle.sc_rules.proofs.Numbers.{formals_known_all}
use Rattle.sc_rules.proofs.scope_laws.formals_are_known.Goals as goal

pub returns : goal.returns
returns c = formals_known_all
