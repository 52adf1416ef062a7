use Rattle.sc_refines_world.proofs.regions.TurnAsks.{failures_are_told}
use Rattle.sc_refines_world.proofs.regions.turn_laws.failures_are_told.Goals as goal

pub returns : goal.returns
returns c = failures_are_told
