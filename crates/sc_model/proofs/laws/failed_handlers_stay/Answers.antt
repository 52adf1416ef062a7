use Rattle.sc_model.proofs.Outputs.{failed_stays}
use Rattle.sc_model.proofs.laws.failed_handlers_stay.Goals as goal

pub returns : goal.returns
returns c = failed_stays
