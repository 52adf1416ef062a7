use Rattle.sc_refines_world.proofs.PuttingBack.{refused_turn_stays_near}
use Rattle.sc_refines_world.proofs.laws.refused_turn_stays_near.Goals as goal

pub returns : goal.returns
returns c = refused_turn_stays_near
