use Rattle.std.proofs.Common.{◌≡◌, Bor, None, Some, sym, ap, ◌∙◌}
use Rattle.std.specs.Option.{option_map, option_and_then}
use Rattle.sc_code.specs.declared.program.Image.{Image}
use Rattle.sc_code.specs.declared.program.RoutineCode.{RoutineCode}
use Rattle.sc_region.specs.declared.frame.Activation.{Activation}
use Rattle.sc_region.specs.Frames.{PlainActivation, activation_of, top_activation}
use Rattle.sc_region.specs.Classes.{routine_at}
use Rattle.sc_interp.proofs.hopping.top_code.Goals as goal

pub returns-in_err-activation : goal.returns-in_err-activation
returns-in_err-activation c =
    let x = c.args.store.now in
    let none : top_activation x.frames ≡ None = sym c.top.ensures ∙ ap (option_map (λ (m : Bor Activation). activation_of m.now)) c.in_err-activation.was in
    ap (option_map (λ (code : Bor RoutineCode). code.now)) c.from_residual.ensures
    ∙ ap (option_and_then (λ (a : PlainActivation). routine_at x.program a.routine)) (sym none)

pub returns : goal.returns
returns c =
    let x = c.args.store.now in
    let a = c.in_ok-activation.activation.now in
    let top : top_activation x.frames ≡ Some (activation_of a) = sym c.top.ensures ∙ ap (option_map (λ (m : Bor Activation). activation_of m.now)) c.in_ok-activation.was in
    c.routine.ensures ∙ ap (λ (p : Image). routine_at p a.routine) c.program.ensures
    ∙ ap (option_and_then (λ (a : PlainActivation). routine_at x.program a.routine)) (sym top)
