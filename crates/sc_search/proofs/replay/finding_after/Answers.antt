use Rattle.sc_world.specs.Views.{world_of}
use Rattle.sc_search.proofs.KeptStates.{goes_through}
use Rattle.sc_search.proofs.replay.finding_after.Goals as goal

pub returns-clause-none : goal.returns-clause-none
returns-clause-none c =
    goes_through (λ unmet. record { world = world_of c.in_ok-world.world; runs = c.in_ok-world.ensures.all unmet; unmet = unmet }) c.finding_in.result
    c.finding_in.ensures.none
