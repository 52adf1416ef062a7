use Rattle.std.proofs.Common.{[], ◌∷◌, ◌∙◌, ap, sym}
use Rattle.sc_lockpass.specs.declared.wait_conditions.session.Release.TheVariants as release_at
use Rattle.sc_handler.specs.Handlers.{State}
use Rattle.sc_request.specs.Places.{plain}
use Rattle.sc_request.specs.Sessions.{release}
use Rattle.sc_request.proofs.Created.{awaited_made}
use Rattle.sc_request.proofs.state.State.go_on_with_made.Goals as goal

pub returns-in-Some-clause-plain : goal.returns-in-Some-clause-plain
returns-in-Some-clause-plain c =
    let s = plain c.args.self.now in
    let h = c.args.handler in
    c.end_sessions.ensures.plain
    ∙ ap (λ (z : State). release release_at.Creation (c.in-Some.supplier ∷ []) z) c.take_answer_at.ensures.plain
    ∙ awaited_made h c.in-Some.supplier (s.handlers h).stage s (sym c.in-Some.ensures)
