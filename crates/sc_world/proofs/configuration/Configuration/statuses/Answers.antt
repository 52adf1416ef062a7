use Rattle.std.proofs.Common.{◌<◌, ◌∙◌, sym, arith}
use Rattle.sc_request.specs.Logs.{status_in}
use Rattle.sc_world.specs.Views.{world_in}
use Rattle.sc_world.proofs.ReportParts.{status-is, status-there, statuses-more}
use Rattle.sc_world.proofs.configuration.Configuration.statuses.Goals as goal
use Rattle.sc_world.proofs.configuration.Configuration.statuses.Goals.{in-Some+in_ok-push, in_default}

pub loop-handler-preserved : goal.loop-handler-preserved
loop-handler-preserved c =
    let w = world_in c.args.self.now in
    let h = c.loop-handler.handler in
    let below : h < w.center.state.count = omega (arith, c.loop-handler-test.true, c.handler_count-handler-end.ensures.count) in
    elim c.match-status.branch [
      | in-Some+in_ok-push b ↦
          statuses-more h w b.in-Some.status c.loop-handler.statuses.items c.match-status.statuses.items
          (status-is h w.center b.in-Some.status below (sym b.in-Some.is ∙ c.status.ensures)) c.loop-handler.invariant
          (rw b.statuses-is b.in_ok-push.ensures.items)
      | in_default b ↦ absurd (b.in_default.not-Some (status_in h w.center) (c.status.ensures ∙ status-there h w.center below))
    ]
