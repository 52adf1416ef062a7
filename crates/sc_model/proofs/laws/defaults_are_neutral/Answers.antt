use Rattle.sc_model.proofs.Defaults.{defaults_neutral}
use Rattle.sc_model.proofs.laws.defaults_are_neutral.Goals as goal

pub returns : goal.returns
returns c = defaults_neutral
