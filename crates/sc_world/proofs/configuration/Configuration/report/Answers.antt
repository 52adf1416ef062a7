use Rattle.std.proofs.Common.{◌≡◌, ◌<◌, ◌≤◌, ◌-◌, ◌∙◌, List, ℕ, ◌++◌, length, sym, ap, refl, arith}
use Rattle.std.proofs.lemmas.Option.{slice_get_read}
use Rattle.sc_request.specs.Logs.{status_in}
use Rattle.sc_world.specs.Reports.{is_busy, some_is_busy}
use Rattle.sc_world.specs.Views.{world_in}
use Rattle.sc_world.proofs.ReportParts.{busy-else, busy-then, refused-is, report-is, status-is, status-there, told-all, told-end, told-more, told-none}
use Rattle.sc_world.proofs.configuration.Configuration.report.Goals as goal
use Rattle.sc_world.proofs.configuration.Configuration.report.Goals.{then-is_busy, else-is_busy, else-loop-handler-test, then-loop-handler-test+in_default}

pub loop-handler-init : goal.loop-handler-init
loop-handler-init c = record { told = told-none (world_in c.args.self.now) c.new-report.result.items c.new-report.ensures.items; busy = refl }

pub loop-handler-preserved : goal.loop-handler-preserved
loop-handler-preserved c =
    let w = world_in c.args.self.now in
    let h = c.loop-handler.handler in
    let below : h < w.center.state.count = omega (arith, c.loop-handler-test.true, c.handler_count-handler-end.ensures.count) in
    let status = status-is h w.center c.in-Some.status below (sym c.in-Some.is ∙ c.status.ensures) in
    let refused = c.unwrap_or-refused.ensures ∙ refused-is h w.center c.refused.result below c.refused.ensures in
    let count : 512 ≡ length c.args.self.now.regions.items = omega (arith, c.args.self.now.places, c.args.self.now.regions.ok.0) in
    let within : h < 512 = omega (arith, c.loop-handler-test.true, c.handler_count-handler-end.ensures.few) in
    let stands = slice_get_read c.args.self.now.regions.items 512 h c.index.result.now count within c.index.ensures in
    let report = report-is h w c.in-Some.status c.unwrap_or-refused.result c.output-output.result.now c.index.result.now status refused stands c.output-output.ensures in
    record {
      told = told-more h w c.loop-handler.report.items c.push_handler.new.report.items below c.loop-handler.invariant.told
          (c.in_ok-push_handler.ensures ∙ ap (λ (t : List ℕ). c.loop-handler.report.items ++ t) report);
      busy = elim c.if-is_busy.branch [
        | then-is_busy b ↦ busy-then h w c.loop-handler.is_busy c.if-is_busy.is_busy c.loop-handler.invariant.busy b.if-is_busy.true (b.is_busy-is ∙ b.if-is_busy.true)
        | else-is_busy b ↦ busy-else h w c.loop-handler.is_busy c.if-is_busy.is_busy c.loop-handler.invariant.busy b.if-is_busy.false
            (b.is_busy-is ∙ b.is_busy-is_busy.ensures ∙ ap is_busy status)
      ];
    }

pub returns : goal.returns
returns c =
    let w = world_in c.args.self.now in
    let h = c.loop-handler.handler in
    let end = c.handler_count-handler-end.ensures.count in
    let past : w.center.state.count ≤ h = elim c.loop-handler-test.branch [
      | else-loop-handler-test b ↦ omega (arith, b.loop-handler-test.false, end)
      | then-loop-handler-test+in_default b ↦
          let below : h < w.center.state.count = omega (arith, b.loop-handler-test.true, end) in
          absurd (b.in_default.not-Some (status_in h w.center) (b.status.ensures ∙ status-there h w.center below))
    ] in
    let none : w.center.state.count - h ≡ 0 = omega (arith, past) in
    let last : h ≡ w.center.state.count = omega (arith, past, c.loop-handler.auto.handler-end, end) in
    told-end w c.loop-handler.report.items _ c.loop-handler.is_busy (told-all (w.center.state.count - h) w c.loop-handler.report.items none c.loop-handler.invariant.told)
    (c.loop-handler.invariant.busy ∙ ap (λ (n : ℕ). some_is_busy n w) last) c.in_ok-push_end.ensures
