use Rattle.sc_rules.proofs.TextLaws.{heads_conform}
use Rattle.sc_rules.proofs.text_laws.heads_conform.Goals as goal

pub returns : goal.returns
returns c = heads_conform
