use Rattle.sc_rules.proofs.TypeLaws.{declared}
use Rattle.sc_rules.proofs.laws.well_formed_declares.Goals as goal

pub returns : goal.returns
returns c = declared
