use Rattle.sc_class.specs.SystemIn.{system_in}
use Rattle.sc_symbols.proofs.Topmost.{topmost_more}
use Rattle.sc_symbols.proofs.names.topmost.Goals as goal

pub loop-class-preserved : goal.loop-class-preserved
loop-class-preserved c =
    topmost_more (system_in c.args.tables.now) c.args.name.now c.args.ancestors.now c.loop-class.class-index _ _ _ _ c.loop-class-test.true c.declared.ensures
    c.loop-class.invariant c.first_of-found.ensures
