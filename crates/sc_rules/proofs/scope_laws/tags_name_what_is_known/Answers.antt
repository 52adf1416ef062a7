use Rattle.sc_rules.proofs.ScopedSites.{tags_name_known}
use Rattle.sc_rules.proofs.scope_laws.tags_name_what_is_known.Goals as goal

pub returns : goal.returns
returns c = tags_name_known
