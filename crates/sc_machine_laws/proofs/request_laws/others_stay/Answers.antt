use Rattle.sc_machine_laws.proofs.Turned.{others_stay}
use Rattle.sc_machine_laws.proofs.request_laws.others_stay.Goals as goal

pub returns : goal.returns
returns c = others_stay
