use Rattle.sc_machine_laws.proofs.states.ValuesFit.{fit_where_world_fits}
use Rattle.sc_machine_laws.proofs.states.value_laws.values_fit.Goals as goal

pub returns : goal.returns
returns c = fit_where_world_fits
