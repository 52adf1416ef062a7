use Rattle.sc_rules.proofs.PurityLaws.{not_both}
use Rattle.sc_rules.proofs.purity_laws.never_pure_and_impure.Goals as goal

pub returns : goal.returns
returns c = not_both
