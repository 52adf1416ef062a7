use Rattle.sc_machine_laws.proofs.states.ValueOpening.{opening_fits}
use Rattle.sc_machine_laws.proofs.states.value_laws.opening_fits.Goals as goal

pub returns : goal.returns
returns c = opening_fits
