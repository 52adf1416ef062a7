use Rattle.std.proofs.Common.{None, refl}
use Rattle.sc_plant.proofs.CutRuns.{whole_run}
use Rattle.sc_plant.proofs.running.run.Goals as goal

-- nothing is said of what may be printed
pub returns-in-Ok-clause-ok : goal.returns-in-Ok-clause-ok
returns-in-Ok-clause-ok g c =
    whole_run c.args.program.now.image (record { turns = c.args.limit; output = None }) c.in-Ok.ended.1 c.in-Ok.ended.0 refl c.in-Ok.ensures.ok
