use Rattle.sc_refines_world.proofs.regions.TurnWants.{requests_ask}
use Rattle.sc_refines_world.proofs.regions.turn_laws.requests_ask.Goals as goal

pub returns : goal.returns
returns c = requests_ask c.programs_serve.ensures
