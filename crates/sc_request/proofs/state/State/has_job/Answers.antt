use Rattle.std.proofs.Common.{Option, ap, map, sym, ◌∙◌}
use Rattle.std.specs.Prelude.{is_some}
use Rattle.sc_region.specs.declared.job.Job.{Job}
use Rattle.sc_handler.specs.declared.handler.HandlerStage.TheVariants.{Idle, Reserves, Awaits}
use Rattle.sc_handler.specs.InMemory.{answers_of, first_posted, posting_of}
use Rattle.sc_request.proofs.Picks.{asked_is, called_is, none_failed, none_out, none_past, picks_at}
use Rattle.sc_request.proofs.state.State.has_job.Goals as goal
use Rattle.sc_request.proofs.state.State.has_job.Goals.{then-is_some-via-then-is_some, then-is_some-via-else-is_some+then-is_some-2}

pub returns-in-Idle : goal.returns-in-Idle
returns-in-Idle c =
    let x = c.index-place.result.now in
    c.is_asked.ensures ∙ asked_is (map posting_of x.queue)
    ∙ sym (ap (λ (o : Option Job). is_some o) (picks_at c.args.self.now c.args.handler x c.if-handler-self.false c.index-place.ensures
    (sym c.is_some.ensures ∙ c.if-is_some.false) (sym c.is_some-else-is_some.ensures ∙ c.if-is_some-2.false) Idle c.in-Idle.is))

pub returns-in-Reserves : goal.returns-in-Reserves
returns-in-Reserves c =
    c.is_enabled.ensures
    ∙ sym (ap (λ (o : Option Job). is_some o) (picks_at c.args.self.now c.args.handler c.index-place.result.now c.if-handler-self.false c.index-place.ensures
    (sym c.is_some.ensures ∙ c.if-is_some.false) (sym c.is_some-else-is_some.ensures ∙ c.if-is_some-2.false) Reserves c.in-Reserves.is))

pub returns-in-Awaits : goal.returns-in-Awaits
returns-in-Awaits c =
    let x = c.index-place.result.now in
    let k = c.in-Awaits.supplier in
    let b = c.in-Awaits.is_creation in
    c.is_called.ensures ∙ called_is k b (first_posted x.callback) (answers_of x.answer)
    ∙ sym (ap (λ (o : Option Job). is_some o) (picks_at c.args.self.now c.args.handler x c.if-handler-self.false c.index-place.ensures
    (sym c.is_some.ensures ∙ c.if-is_some.false) (sym c.is_some-else-is_some.ensures ∙ c.if-is_some-2.false) (Awaits k b) c.in-Awaits.is))

pub returns-then-handler-self : goal.returns-then-handler-self
returns-then-handler-self c = sym (ap (λ (o : Option Job). is_some o) (none_past c.args.self.now c.args.handler c.if-handler-self.true))

pub returns-then-is_some : goal.returns-then-is_some
returns-then-is_some c = elim c.then-is_some.branch [
  | then-is_some-via-then-is_some w ↦
      sym (ap (λ (o : Option Job). is_some o) (none_out c.args.self.now c.args.handler c.index-place.result.now c.if-handler-self.false c.index-place.ensures
      (sym c.is_some.ensures ∙ w.if-is_some.true)))
  | then-is_some-via-else-is_some+then-is_some-2 w ↦
      sym (ap (λ (o : Option Job). is_some o) (none_failed c.args.self.now c.args.handler c.index-place.result.now c.if-handler-self.false c.index-place.ensures
      (sym w.is_some-else-is_some.ensures ∙ w.if-is_some-2.true)))
]
