use Rattle.sc_world.specs.Views.{world_of}
use Rattle.sc_headline.proofs.Everywhere.{has_headline_anyhow}
use Rattle.sc_headline.proofs.laws.every_world_has_headline.Goals as goal

pub returns : goal.returns
returns c =
    has_headline_anyhow c.attempts_have_headline.ensures c.openings_are_of_their_program.ensures c.attempts_stay_of_their_program.ensures (world_of c.args.world.now) c.args.world.now.tried
