use Rattle.std.proofs.Common.{refl}
use Rattle.sc_lower.specs.Lowerings.{image_of}
use Rattle.sc_world.specs.Reports.{report}
use Rattle.sc_plant.specs.Left.{world_of}
use Rattle.sc_plant.proofs.EndedRuns.{run_stopped}
use Rattle.sc_driver.proofs.Threads.{told_run}
use Rattle.sc_driver.proofs.running.run_program.Goals as goal

-- what the run left tells what one thread's world tells
pub returns-in-Ok-clause-ran : goal.returns-in-Ok-clause-ran
returns-in-Ok-clause-ran g c =
    let left = c.in_ok-left.left in
    told_run c.runs_are_one_threads.ensures (image_of c.args.program.now) c.in_ok-left.turns left (report (world_of left)) c.in-Ok.statuses.items
    c.in_ok-left.ensures.ok.run refl c.in-Ok.ensures

pub returns-in-Err-clause-err : goal.returns-in-Err-clause-err
returns-in-Err-clause-err g c = run_stopped (image_of c.args.program.now) c.in_ok-left.turns c.in_ok-left.left c.in_ok-left.ensures.ok.run
