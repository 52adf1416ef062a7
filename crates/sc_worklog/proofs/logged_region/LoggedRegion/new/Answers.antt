use Rattle.std.proofs.Common.{ap}
use Rattle.sc_play.specs.Regions.{PlainRegion}
use Rattle.sc_handler.specs.Logged.{settlements_of}
use Rattle.sc_worklog.proofs.KeptLogs.{opened_kept}
use Rattle.sc_worklog.proofs.logged_region.LoggedRegion.new.Goals as goal

pub invariant_of-result : goal.invariant_of-result
invariant_of-result c = record {
  numbered = ap (λ (r : PlainRegion). r.handler) c.new.ensures;
  replays = opened_kept c.args.program.now.image c.args.handler (settlements_of c.new-2.result) c.new.result
      c.new-2.ensures.settlements c.new.ensures;
}
