use Rattle.sc_machine_laws.proofs.states.links.Held.{reached_formals_are_held}
use Rattle.sc_machine_laws.proofs.states.laws.formals_are_held.Goals as goal

pub returns : goal.returns
returns c = reached_formals_are_held
