use Rattle.sc_rules.proofs.Numbers.{blocks_differ}
use Rattle.sc_rules.proofs.scope_laws.blocks_differ.Goals as goal

pub returns : goal.returns
returns c = blocks_differ
