use Rattle.sc_rules.proofs.PureBodies.{pure_bodies_have_no_effect}
use Rattle.sc_rules.proofs.purity_laws.pure_bodies_have_no_effect.Goals as goal

pub returns : goal.returns
returns c = pure_bodies_have_no_effect
