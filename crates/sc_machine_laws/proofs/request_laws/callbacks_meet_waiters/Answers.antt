use Rattle.sc_machine_laws.proofs.Tops.{callbacks_meet_waiters}
use Rattle.sc_machine_laws.proofs.request_laws.callbacks_meet_waiters.Goals as goal

pub returns : goal.returns
returns c = callbacks_meet_waiters
