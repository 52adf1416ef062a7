use Rattle.sc_refines_world.proofs.regions.TurnWants.{refusals_ask}
use Rattle.sc_refines_world.proofs.regions.turn_laws.refusals_ask.Goals as goal

pub returns : goal.returns
returns c = refusals_ask c.programs_serve.ensures
