use Rattle.std.proofs.Common.{List, ◌∙◌, ap, sym, length, refl, arith}
use Rattle.sc_handler.specs.Handlers.{Posted, State}
use Rattle.sc_request.specs.Places.{plain}
use Rattle.sc_request.proofs.Created.{await_queue, pass_queue, sent_by}
use Rattle.sc_request.proofs.state.State.send_on.Goals as goal

pub send-requires-clause-room : goal.send-requires-clause-room
send-requires-clause-room c = λ is.
    let h = c.args.handler in
    let k = c.args.request.now.target.handler in
    let l = ap (λ (ps : List Posted). length ps) (ap (λ (z : State). (z.handlers k).queue) c.pass_if-passed.ensures.plain
    ∙ pass_queue c.args.passes h k k (plain c.await_if.new.self)
    ∙ ap (λ (z : State). (z.handlers k).queue) c.await_if.ensures.plain
    ∙ await_queue c.args.is_waited h k k (plain c.args.self.now)) in
    let small = c.requires.room (sym c.is_callback-is_callback.ensures ∙ is) in
    omega (arith, l, small)

pub returns-clause-plain : goal.returns-clause-plain
returns-clause-plain c =
    let h = c.args.handler in
    let k = c.args.request.now.target.handler in
    let s = plain c.args.self.now in
    sent_by c.args.is_waited c.args.passes _ h k c.args.request.now _ s (plain c.await_if.new.self) (plain c.pass_if-passed.new.self) (plain c.send.new.self) _
    c.is_callback-is_callback.ensures refl c.await_if.ensures.plain c.pass_if-passed.ensures.plain c.pass_if-passed.ensures.passed c.send.ensures.plain
