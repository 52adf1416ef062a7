use Rattle.sc_refines_world.proofs.regions.Creators.{made_are_answers}
use Rattle.sc_refines_world.proofs.regions.asks.made_are_answers.Goals as goal

pub returns : goal.returns
returns c = made_are_answers
