use Rattle.sc_refines_world.proofs.regions.Further.{first_turns_go_on}
use Rattle.sc_refines_world.proofs.regions.laws.first_turns_go_on.Goals as goal

pub returns : goal.returns
returns c = first_turns_go_on
