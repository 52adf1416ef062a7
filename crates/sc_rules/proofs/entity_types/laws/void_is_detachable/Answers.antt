use Rattle.sc_rules.proofs.entity_types.ConformanceLemmas.{void_fits}
use Rattle.sc_rules.proofs.entity_types.laws.void_is_detachable.Goals as goal

pub returns : goal.returns
returns c = void_fits
