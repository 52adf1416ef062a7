use Rattle.sc_machine_laws.proofs.Rights.{rights_stay}
use Rattle.sc_machine_laws.proofs.request_laws.rights_stay.Goals as goal

pub returns : goal.returns
returns c = rights_stay
