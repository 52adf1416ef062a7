use Rattle.std.proofs.Common.{List, [], ◌∷◌, None, arith, ◌∙◌, ap, false, length}
use Rattle.sc_lockpass.specs.declared.wait_conditions.session.Release.TheVariants as release_at
use Rattle.sc_handler.specs.Handlers.{HasMade, Posted, State, posted}
use Rattle.sc_request.specs.Places.{plain}
use Rattle.sc_request.specs.Sessions.{release, send}
use Rattle.sc_request.proofs.Created.{stage_queue}
use Rattle.sc_request.proofs.state.State.create_alone.Goals as goal

pub send-requires-clause-room : goal.send-requires-clause-room
send-requires-clause-room c = λ is.
    let l = ap (λ (ps : List Posted). length ps) (ap (λ (z : State). (z.handlers c.args.made).queue) c.stand.ensures.plain
    ∙ stage_queue c.args.handler c.args.made (HasMade c.args.made) (plain c.args.self.now) ∙ c.requires.new) in
    omega (arith, l)

pub returns-clause-plain : goal.returns-clause-plain
returns-clause-plain c =
    c.end_sessions.ensures.plain
    ∙ ap (λ (z : State). release release_at.Creation (c.args.made ∷ []) z)
    (c.send.ensures.plain ∙ ap (λ (z : State). send false c.args.made (posted c.args.request None) z) c.stand.ensures.plain)
