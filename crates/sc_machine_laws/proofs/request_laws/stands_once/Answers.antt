use Rattle.sc_machine_laws.proofs.Unlent.{stands_once}
use Rattle.sc_machine_laws.proofs.request_laws.stands_once.Goals as goal

pub returns : goal.returns
returns c = stands_once
