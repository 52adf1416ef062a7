use Rattle.std.proofs.Common.{sym, ◌∙◌}
use Rattle.sc_handler.specs.declared.handler.HandlerStage.TheVariants.{Idle, Runs, HasMade, Reserves, Awaits}
use Rattle.sc_request.proofs.Picks.{none_failed, none_out, none_past, picks_at}
use Rattle.sc_request.proofs.state.State.pick_for.Goals as goal
use Rattle.sc_request.proofs.state.State.pick_for.Goals.{then-is_some-via-then-is_some, then-is_some-via-else-is_some+then-is_some-2}

pub returns-in-Idle : goal.returns-in-Idle
returns-in-Idle c =
    c.job_idle.ensures
    ∙ sym (picks_at c.args.self.now c.args.handler c.index-place.result.now c.if-handler-self.false c.index-place.ensures
    (sym c.is_some.ensures ∙ c.if-is_some.false) (sym c.is_some-else-is_some.ensures ∙ c.if-is_some-2.false) Idle c.in-Idle.is)

pub returns-in-Runs : goal.returns-in-Runs
returns-in-Runs c =
    sym (picks_at c.args.self.now c.args.handler c.index-place.result.now c.if-handler-self.false c.index-place.ensures
    (sym c.is_some.ensures ∙ c.if-is_some.false) (sym c.is_some-else-is_some.ensures ∙ c.if-is_some-2.false) Runs c.in-Runs.is)

pub returns-in-HasMade : goal.returns-in-HasMade
returns-in-HasMade c =
    sym (picks_at c.args.self.now c.args.handler c.index-place.result.now c.if-handler-self.false c.index-place.ensures
    (sym c.is_some.ensures ∙ c.if-is_some.false) (sym c.is_some-else-is_some.ensures ∙ c.if-is_some-2.false) (HasMade c.in-HasMade.made) c.in-HasMade.is)

pub returns-in-Reserves : goal.returns-in-Reserves
returns-in-Reserves c =
    c.job_for_entry.ensures
    ∙ sym (picks_at c.args.self.now c.args.handler c.index-place.result.now c.if-handler-self.false c.index-place.ensures
    (sym c.is_some.ensures ∙ c.if-is_some.false) (sym c.is_some-else-is_some.ensures ∙ c.if-is_some-2.false) Reserves c.in-Reserves.is)

pub returns-in-Awaits : goal.returns-in-Awaits
returns-in-Awaits c =
    c.job_awaiting.ensures
    ∙ sym (picks_at c.args.self.now c.args.handler c.index-place.result.now c.if-handler-self.false c.index-place.ensures
    (sym c.is_some.ensures ∙ c.if-is_some.false) (sym c.is_some-else-is_some.ensures ∙ c.if-is_some-2.false) (Awaits c.in-Awaits.supplier c.in-Awaits.is_creation) c.in-Awaits.is)

pub returns-then-handler-self : goal.returns-then-handler-self
returns-then-handler-self c = sym (none_past c.args.self.now c.args.handler c.if-handler-self.true)

pub returns-then-is_some : goal.returns-then-is_some
returns-then-is_some c = elim c.then-is_some.branch [
  | then-is_some-via-then-is_some w ↦
      sym (none_out c.args.self.now c.args.handler c.index-place.result.now c.if-handler-self.false c.index-place.ensures (sym c.is_some.ensures ∙ w.if-is_some.true))
  | then-is_some-via-else-is_some+then-is_some-2 w ↦
      sym (none_failed c.args.self.now c.args.handler c.index-place.result.now c.if-handler-self.false c.index-place.ensures
      (sym w.is_some-else-is_some.ensures ∙ w.if-is_some-2.true))
]
