use Rattle.sc_machine_laws.proofs.states.Queues.{queues_are_in_order}
use Rattle.sc_machine_laws.proofs.states.laws.queues_are_in_order.Goals as goal

pub returns : goal.returns
returns c = queues_are_in_order
