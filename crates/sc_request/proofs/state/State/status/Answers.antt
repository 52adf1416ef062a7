use Rattle.std.proofs.Common.{sym, ap, ◌∙◌, Some}
use Rattle.sc_handler.specs.InMemory.{stage_of}
use Rattle.sc_handler.specs.Picking.{status_idle}
use Rattle.sc_handler.specs.declared.handler.HandlerStage as coded_stage
use Rattle.sc_request.proofs.Picks.{busy_out, busy_picked, no_status_past, stands_at, stands_failed, waits_otherwise}
use Rattle.sc_request.proofs.state.State.status.Goals as goal
use Rattle.sc_request.proofs.state.State.status.Goals.{then-is_some-via-then-is_some, then-is_some-via-else-is_some+then-has_job}

pub returns-in-Some : goal.returns-in-Some
returns-in-Some c =
    sym (stands_failed c.args.self.now c.args.handler c.index-place.result.now c.if-handler-self.false c.index-place.ensures c.in-Some.why c.in-Some.is)

pub returns-in-Idle : goal.returns-in-Idle
returns-in-Idle c =
    let x = c.index-place.result.now in
    sym (stands_at c.args.self.now c.args.handler x c.if-handler-self.false c.index-place.ensures c.in_default.is
    (sym c.is_some.ensures ∙ c.if-is_some.false) (sym c.has_job.ensures ∙ c.if-has_job.false)
    ∙ ap (λ (st : coded_stage.HandlerStage). Some (status_idle (stage_of x.entry.items x.mark st))) c.in-Idle.is)

pub returns-in_default-stage : goal.returns-in_default-stage
returns-in_default-stage c =
    sym (waits_otherwise c.args.self.now c.args.handler c.index-place.result.now c.if-handler-self.false c.index-place.ensures c.in_default.is
    (sym c.is_some.ensures ∙ c.if-is_some.false) (sym c.has_job.ensures ∙ c.if-has_job.false) c.in_default-stage.not-Idle)

pub returns-then-handler-self : goal.returns-then-handler-self
returns-then-handler-self c = sym (no_status_past c.args.self.now c.args.handler c.if-handler-self.true)

pub returns-then-is_some : goal.returns-then-is_some
returns-then-is_some c = elim c.then-is_some.branch [
  | then-is_some-via-then-is_some w ↦
      sym (busy_out c.args.self.now c.args.handler c.index-place.result.now c.if-handler-self.false c.index-place.ensures c.in_default.is
      (sym c.is_some.ensures ∙ w.if-is_some.true))
  | then-is_some-via-else-is_some+then-has_job w ↦
      sym (busy_picked c.args.self.now c.args.handler c.index-place.result.now c.if-handler-self.false c.index-place.ensures c.in_default.is
      (sym w.has_job.ensures ∙ w.if-has_job.true))
]
