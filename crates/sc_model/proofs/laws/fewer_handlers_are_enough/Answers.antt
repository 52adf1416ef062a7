use Rattle.sc_model.proofs.Fewer.{fewer_are_enough}
use Rattle.sc_model.proofs.laws.fewer_handlers_are_enough.Goals as goal

pub returns : goal.returns
returns c = fewer_are_enough
