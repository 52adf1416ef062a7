use Rattle.sc_world.proofs.FreeHandlers.{opened_linked}
use Rattle.sc_world.proofs.UnusedHandlers.{unused_all}
use Rattle.sc_world.proofs.configuration.Configuration.open.Goals as goal

pub invariant_of-result-clause-linked : goal.invariant_of-result-clause-linked
invariant_of-result-clause-linked c = opened_linked c.args.program.now.image c.args.version _ _ c.in_ok-open_core.ensures.center c.in_ok-regions.ensures.regions

pub invariant_of-result-clause-unused : goal.invariant_of-result-clause-unused
invariant_of-result-clause-unused c = unused_all _ _
