use Rattle.sc_lower.specs.Lowerings.{image_of}
use Rattle.sc_world.specs.Views.{world_of}
use Rattle.sc_driver.proofs.ReplayLemmas.{replayed}
use Rattle.sc_driver.proofs.execution.replay.Goals as goal

pub returns : goal.returns
returns c =
    replayed (image_of c.args.program.now) c.args.recorded.now.version c.args.recorded.now.lines.items (world_of c.in_ok-world.world)
    c.outcome_of.result (rw c.deref.ensures.value at c.in_ok-world.ensures) c.outcome_of.ensures
