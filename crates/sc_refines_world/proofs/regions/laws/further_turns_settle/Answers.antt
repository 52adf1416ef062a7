use Rattle.sc_refines_world.proofs.regions.Further.{further_turns_settle}
use Rattle.sc_refines_world.proofs.regions.laws.further_turns_settle.Goals as goal

pub returns : goal.returns
returns c = further_turns_settle
