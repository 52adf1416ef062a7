use Rattle.std.proofs.Common.{Bool, false, ap, ◌∙◌}
use Rattle.sc_region.specs.Frames.{PlainActivation, activation_of}
use Rattle.sc_acts.specs.Requesting.{awaiting_if, is_waited}
use Rattle.sc_acts.proofs.Asked.{past_more}
use Rattle.sc_acts.proofs.requesting.send_on.Goals as goal

pub returns : goal.returns
returns c =
    let call = c.args.call in
    c.await_if.ensures
    ∙ ap (λ (b : Bool). awaiting_if b call.object.handler call.gives false (activation_of c.go_past.new.activation)) c.is_waited.ensures
    ∙ ap (λ (a : PlainActivation). awaiting_if (is_waited call) call.object.handler call.gives false a)
    (c.go_past.ensures ∙ past_more call.count (activation_of c.args.activation.now))
