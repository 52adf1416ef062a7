use Rattle.sc_refines_world.proofs.regions.Calls.{calls_are_made}
use Rattle.sc_refines_world.proofs.regions.turn_laws.calls_are_made.Goals as goal

pub returns : goal.returns
returns c = calls_are_made c.programs_serve.ensures
