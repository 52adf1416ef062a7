use Rattle.std.proofs.Common.{sym}
use Rattle.sc_request.specs.Cores.{center_of}
use Rattle.sc_world.specs.Views.{world_in}
use Rattle.sc_search.proofs.Joins.{follows_so}
use Rattle.sc_search.proofs.joining.follows_at_once.Goals as goal

pub returns-in-Some : goal.returns-in-Some
returns-in-Some c =
    follows_so c.args.handler c.args.job.now (world_in c.args.world.now) c.in-Some.region.now c.wants_to_follow.result (center_of c.core.result.now) c.core.ensures.center
    c.requires.due c.requires.ready (sym c.in-Some.ensures) c.wants_to_follow.ensures
