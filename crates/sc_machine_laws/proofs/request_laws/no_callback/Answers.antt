use Rattle.sc_machine_laws.proofs.Unlent.{no_callback_there}
use Rattle.sc_machine_laws.proofs.request_laws.no_callback.Goals as goal

pub returns : goal.returns
returns c = no_callback_there
