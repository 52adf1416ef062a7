use Rattle.sc_rules.proofs.TextLaws.{blocks_reserve}
use Rattle.sc_rules.proofs.text_laws.blocks_reserve.Goals as goal

pub returns : goal.returns
returns c = blocks_reserve
