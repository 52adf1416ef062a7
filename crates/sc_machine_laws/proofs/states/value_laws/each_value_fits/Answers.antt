use Rattle.sc_machine_laws.proofs.states.ValueAwaitedEnds.{each_value_fits}
use Rattle.sc_machine_laws.proofs.states.value_laws.each_value_fits.Goals as goal

pub returns : goal.returns
returns c = each_value_fits
