use Rattle.std.proofs.Common.{Vec, Global, length, ◌≡◌, ◌<◌, ◌≤◌, ◌-◌, ◌+◌, ◌∙◌, List, ℕ, [], ◌++◌, sym, ap, refl, arith, slice_get, drop}
use Rattle.std.proofs.lemmas.List.{nil_from_length}
use Rattle.std.specs.Vec.Iter.{into_iter_items}
use Rattle.sc_request.specs.Logs.{status_in}
use Rattle.sc_world.specs.Reports.{is_busy, output_in, some_is_busy}
use Rattle.sc_plant.specs.Left.{world_of}
use Rattle.sc_world.proofs.ReportParts.{busy-else, busy-then, refused-is, status-is, status-there, told-all, told-end, told-more, told-none}
use Rattle.sc_plant.proofs.Reports.{printed, rest_done, rest_first, rest_more, rest_past}
use Rattle.sc_plant.proofs.left.Left.into_report.Goals as goal
use Rattle.sc_plant.proofs.left.Left.into_report.Goals.{in-Some-next, in-None, then-ends_busy, else-ends_busy, else-loop-handler-test, then-loop-handler-test+in_default}

pub loop-handler-init : goal.loop-handler-init
loop-handler-init c = record {
  told = told-none (world_of c.args.self) c.new-report.result.items c.new-report.ensures.items;
  busy = refl;
  rest = c.into_iter-regions.ensures.rest;
}

pub loop-handler-preserved : goal.loop-handler-preserved
loop-handler-preserved c =
    let w = world_of c.args.self in
    let h = c.loop-handler.handler in
    let rs = c.args.self.regions.items in
    let below : h < w.center.state.count = omega (arith, c.loop-handler-test.true, c.handler_count-handler-end.ensures.count) in
    let status = status-is h w.center c.in-Some.status below (sym c.in-Some.is ∙ c.status.ensures) in
    let refused = c.unwrap_or-refused.ensures ∙ refused-is h w.center c.refused.result below c.refused.ensures in
    let next : (c.match-next.output.items ≡ output_in (slice_get rs h)) × (into_iter_items c.next.new.self ≡ drop (h + 1) rs) = elim c.match-next.branch [
      | in-Some-next b ↦
          let left = sym b.in-Some-next.ensures.items ∙ c.loop-handler.invariant.rest in
          let rest = into_iter_items c.next.new.self in (
            ap (λ (o : Vec ℕ Global). o.items) b.output-is ∙ b.into_output-output.ensures
                ∙ sym (ap output_in (rest_first h rs rest b.in-Some-next.region left)),
            rest_more h rs rest b.in-Some-next.region left,
          )
      | in-None b ↦
          let gone : length (into_iter_items c.loop-handler.regions) ≡ 0 = omega (arith, b.in-None.ensures.cases.0) in
          let left = sym (nil_from_length _ gone) ∙ c.loop-handler.invariant.rest in (
            ap (λ (o : Vec ℕ Global). o.items) b.output-is ∙ b.new-output.ensures.items ∙ sym (ap output_in (rest_past h rs left)),
            sym b.in-None.ensures.items ∙ nil_from_length _ gone ∙ rest_done h rs left,
          )
    ] in
    let report = printed h w c.in-Some.status c.unwrap_or-refused.result c.match-next.output.items status refused next.0 in
    record {
      told = told-more h w c.loop-handler.report.items c.in_ok-report.report.items below c.loop-handler.invariant.told
          (c.in_ok-report.ensures ∙ ap (λ (t : List ℕ). c.loop-handler.report.items ++ t) report);
      busy = elim c.if-ends_busy.branch [
        | then-ends_busy b ↦ busy-then h w c.loop-handler.ends_busy c.if-ends_busy.ends_busy c.loop-handler.invariant.busy b.if-ends_busy.true (b.ends_busy-is ∙ b.if-ends_busy.true)
        | else-ends_busy b ↦ busy-else h w c.loop-handler.ends_busy c.if-ends_busy.ends_busy c.loop-handler.invariant.busy b.if-ends_busy.false
            (b.ends_busy-is ∙ b.is_busy-ends_busy.ensures ∙ ap is_busy status)
      ];
      rest = next.1;
    }

pub returns-clause-report : goal.returns-clause-report
returns-clause-report c =
    let w = world_of c.args.self in
    let h = c.loop-handler.handler in
    let end = c.handler_count-handler-end.ensures.count in
    let past : w.center.state.count ≤ h = elim c.loop-handler-test.branch [
      | else-loop-handler-test b ↦ omega (arith, b.loop-handler-test.false, end)
      | then-loop-handler-test+in_default b ↦
          let below : h < w.center.state.count = omega (arith, b.loop-handler-test.true, end) in
          absurd (b.in_default.not-Some (status_in h w.center) (b.status.ensures ∙ status-there h w.center below))
    ] in
    let none : w.center.state.count - h ≡ 0 = omega (arith, past) in
    let last : h ≡ w.center.state.count = omega (arith, past, c.loop-handler.auto.handler-end, end) in
    told-end w c.loop-handler.report.items _ c.loop-handler.ends_busy (told-all (w.center.state.count - h) w c.loop-handler.report.items none c.loop-handler.invariant.told)
    (c.loop-handler.invariant.busy ∙ ap (λ (n : ℕ). some_is_busy n w) last) c.in_ok-push_end.ensures
