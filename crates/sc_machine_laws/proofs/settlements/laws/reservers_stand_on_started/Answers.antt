use Rattle.sc_machine_laws.proofs.settlements.Guards.{reservers_on_started}
use Rattle.sc_machine_laws.proofs.settlements.laws.reservers_stand_on_started.Goals as goal

pub returns : goal.returns
returns c = reservers_on_started
