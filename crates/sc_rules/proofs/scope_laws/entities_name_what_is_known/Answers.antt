use Rattle.sc_rules.proofs.ScopedSites.{entities_name_known}
use Rattle.sc_rules.proofs.scope_laws.entities_name_what_is_known.Goals as goal

pub returns : goal.returns
returns c = entities_name_known
