use Rattle.sc_machine_laws.proofs.states.ValueReservations.{reservations_keep_it}
use Rattle.sc_machine_laws.proofs.states.value_laws.reservations_keep_it.Goals as goal

pub returns : goal.returns
returns c = reservations_keep_it
