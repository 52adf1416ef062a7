use Rattle.sc_model.proofs.Outputs.{output_grows}
use Rattle.sc_model.proofs.laws.output_grows.Goals as goal

pub returns : goal.returns
returns c = output_grows
