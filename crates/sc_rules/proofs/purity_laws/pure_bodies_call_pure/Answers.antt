use Rattle.sc_rules.proofs.PureBodies.{pure_bodies_call_pure}
use Rattle.sc_rules.proofs.purity_laws.pure_bodies_call_pure.Goals as goal

pub returns : goal.returns
returns c = pure_bodies_call_pure
