use Rattle.sc_world.specs.Views.{world_in}
use Rattle.sc_search.specs.Views.{orders_of}
use Rattle.sc_search.proofs.LoadedStates.{after_none}
use Rattle.sc_search.proofs.progress.Progress.begin.Goals as goal

pub returns-clause-after : goal.returns-clause-after
returns-clause-after c =
    after_none c.args.subject.program.now.image c.args.subject.version (orders_of c.args.self.now) c.args.parent (world_in c.in_ok-self.field-0) c.in_default.is
    c.in_ok-self.ensures
