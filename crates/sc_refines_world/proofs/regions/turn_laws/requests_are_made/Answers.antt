use Rattle.sc_refines_world.proofs.regions.StageChanges.{requests_are_made}
use Rattle.sc_refines_world.proofs.regions.turn_laws.requests_are_made.Goals as goal

pub returns : goal.returns
returns c = requests_are_made c.programs_serve.ensures
