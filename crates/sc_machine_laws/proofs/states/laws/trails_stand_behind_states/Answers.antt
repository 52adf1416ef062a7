use Rattle.sc_machine_laws.proofs.states.links.Reached.{reached_stands}
use Rattle.sc_machine_laws.proofs.states.laws.trails_stand_behind_states.Goals as goal

pub returns : goal.returns
returns c = reached_stands
