use Rattle.sc_machine_laws.proofs.Turned.{own_queue_shrinks}
use Rattle.sc_machine_laws.proofs.request_laws.own_queue_shrinks.Goals as goal

pub returns : goal.returns
returns c = own_queue_shrinks
