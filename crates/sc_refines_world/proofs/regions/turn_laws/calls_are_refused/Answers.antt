use Rattle.sc_refines_world.proofs.regions.Refusals.{calls_are_refused}
use Rattle.sc_refines_world.proofs.regions.turn_laws.calls_are_refused.Goals as goal

pub returns : goal.returns
returns c = calls_are_refused c.programs_serve.ensures
