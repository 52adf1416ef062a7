use Rattle.std.proofs.Common.{◌≡◌, Bor, Some, None, sym, ap, ◌∙◌}
use Rattle.std.specs.Prelude.{slice_get}
use Rattle.std.specs.Option.{option_map}
use Rattle.sc_region.specs.declared.frame.Activation.{Activation}
use Rattle.sc_region.specs.Frames.{activation_of, top_activation}
use Rattle.sc_interp.proofs.SilentMoves.{next_past, next_there}
use Rattle.sc_interp.proofs.hopping.next_in.Goals as goal

pub returns-in-Some : goal.returns-in-Some
returns-in-Some c =
    let x = c.args.store.now in
    let b = activation_of c.in_ok-activation.activation.now in
    let q = c.args.code.now in
    let top : top_activation x.frames ≡ Some b = sym c.top.ensures ∙ ap (option_map (λ (m : Bor Activation). activation_of m.now)) c.in_ok-activation.was in
    let there : slice_get q.operations.items b.place ≡ Some c.in-Some.operation = sym c.operation_at.ensures ∙ c.in-Some.is in
    next_there x q b c.operation_count.result c.in-Some.operation c.requires top there c.operation_count.ensures.count

pub returns-in-None : goal.returns-in-None
returns-in-None c =
    let x = c.args.store.now in
    let b = activation_of c.in_ok-activation.activation.now in
    let q = c.args.code.now in
    let top : top_activation x.frames ≡ Some b = sym c.top.ensures ∙ ap (option_map (λ (m : Bor Activation). activation_of m.now)) c.in_ok-activation.was in
    let past : slice_get q.operations.items b.place ≡ None = sym c.operation_at.ensures ∙ c.in-None.is in
    next_past x q b c.requires top past
