use Rattle.sc_machine_laws.proofs.states.ValuesFit.{own_where_world_fits}
use Rattle.sc_machine_laws.proofs.states.value_laws.non_separate_is_own.Goals as goal

pub returns : goal.returns
returns c = own_where_world_fits
