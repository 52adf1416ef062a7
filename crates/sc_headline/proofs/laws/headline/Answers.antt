use Rattle.sc_headline.proofs.Headed.{headed}
use Rattle.sc_headline.proofs.laws.headline.Goals as goal

pub returns : goal.returns
returns c = headed c.world_has_headline.ensures
