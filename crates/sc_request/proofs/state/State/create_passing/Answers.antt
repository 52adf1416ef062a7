use Rattle.std.proofs.Common.{List, arith, ◌∙◌, ap, true, false, length, refl}
use Rattle.sc_handler.specs.Handlers.{Awaits, Posted, State, with_stage}
use Rattle.sc_request.specs.Places.{plain}
use Rattle.sc_request.proofs.Created.{pass_queue, sent_all, stage_queue}
use Rattle.sc_request.proofs.state.State.create_passing.Goals as goal

pub send-requires-clause-room : goal.send-requires-clause-room
send-requires-clause-room c = λ is.
    let h = c.args.handler in
    let k = c.args.made in
    let l = ap (λ (ps : List Posted). length ps) (ap (λ (z : State). (z.handlers k).queue) c.pass_if-passed.ensures.plain
    ∙ pass_queue true h k k (plain c.stand.new.self)
    ∙ ap (λ (z : State). (z.handlers k).queue) c.stand.ensures.plain
    ∙ stage_queue h k (Awaits k true) (plain c.args.self.now) ∙ c.requires.new) in
    omega (arith, l)

pub returns-clause-plain : goal.returns-clause-plain
returns-clause-plain c =
    let h = c.args.handler in
    let k = c.args.made in
    let s = plain c.args.self.now in
    sent_all true false h k c.args.request (with_stage h (Awaits k true) s) (plain c.stand.new.self) (plain c.pass_if-passed.new.self) (plain c.send.new.self) _ s.rights
    refl c.stand.ensures.plain c.pass_if-passed.ensures.plain c.pass_if-passed.ensures.passed c.send.ensures.plain
