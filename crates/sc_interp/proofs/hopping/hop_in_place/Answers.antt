use Rattle.std.proofs.Common.{◌≡◌, MutBor, Some, refl, sym, ap, ◌∙◌}
use Rattle.std.proofs.lemmas.Result.{IfOk-weaker, IfErr-weaker}
use Rattle.std.specs.Option.{option_map}
use Rattle.sc_region.specs.declared.frame.Activation.{Activation}
use Rattle.sc_region.specs.Frames.{activation_of, top_activation}
use Rattle.sc_region.specs.Lending.{with_top}
use Rattle.sc_interp.specs.Playing.{Plays}
use Rattle.sc_interp.specs.Standing.{Follows}
use Rattle.sc_interp.proofs.TopRoutines.{remains_top}
use Rattle.sc_interp.proofs.SilentMoves.{in_place_plays, in_place_same}
use Rattle.sc_interp.specs.Told.{IsTold, OnComes, Tells}
use Rattle.sc_interp.proofs.Told.{comes_top, told_top}
use Rattle.sc_interp.proofs.hopping.hop_in_place.Goals as goal

pub returns-in-Some-clause-plays : goal.returns-in-Some-clause-plays
returns-in-Some-clause-plays c =
    let x = c.args.store.now in
    let p = c.program-program.result.now.image in
    let a = activation_of c.in-Some.activation.now in
    let w = c.hop_on.new.activation in
    let top : top_activation x.frames ≡ Some a = sym c.top_mut.ensures.value ∙ ap (option_map (λ (m : MutBor Activation). activation_of m.now)) c.in-Some.is in
    IfOk-weaker c.hop_on.result (λ h. Follows p c.args.me c.args.count c.args.operation h a (activation_of w)) (λ h. Plays c.args.me c.args.count c.args.operation h x (with_top x w))
    (λ h follows. in_place_plays p x w a c.args.me c.args.count c.args.operation h c.program-program.ensures top follows) c.hop_on.ensures.follows

pub returns-in-Some-clause-remains : goal.returns-in-Some-clause-remains
returns-in-Some-clause-remains c =
    remains_top c.args.store.now _ c.hop_on.new.activation (activation_of c.in-Some.activation.now)
    (sym c.top_mut.ensures.value ∙ ap (option_map (λ (m : MutBor Activation). activation_of m.now)) c.in-Some.is) refl c.hop_on.ensures.stays

pub returns-in-Some-clause-err : goal.returns-in-Some-clause-err
returns-in-Some-clause-err c =
    let x = c.args.store.now in
    let a = activation_of c.in-Some.activation.now in
    let w = c.hop_on.new.activation in
    let top : top_activation x.frames ≡ Some a = sym c.top_mut.ensures.value ∙ ap (option_map (λ (m : MutBor Activation). activation_of m.now)) c.in-Some.is in
    IfErr-weaker c.hop_on.result (λ e. activation_of w ≡ a) (λ e. with_top x w ≡ x) (λ e same. in_place_same x w a top same) c.hop_on.ensures.err

pub returns-in-Some-clause-told : goal.returns-in-Some-clause-told
returns-in-Some-clause-told c =
    let x = c.args.store.now in
    let p = c.program-program.result.now.image in
    let a = activation_of c.in-Some.activation.now in
    let w = c.hop_on.new.activation in
    let top : top_activation x.frames ≡ Some a = sym c.top_mut.ensures.value ∙ ap (option_map (λ (m : MutBor Activation). activation_of m.now)) c.in-Some.is in
    IfOk-weaker c.hop_on.result (λ h. Tells p h (activation_of w)) (λ h. IsTold h (with_top x w)) (λ h told. told_top p x w a h c.program-program.ensures top told) c.hop_on.ensures.told

pub returns-in-Some-clause-kept : goal.returns-in-Some-clause-kept
returns-in-Some-clause-kept c =
    let x = c.args.store.now in
    let a = activation_of c.in-Some.activation.now in
    let w = c.hop_on.new.activation in
    let top : top_activation x.frames ≡ Some a = sym c.top_mut.ensures.value ∙ ap (option_map (λ (m : MutBor Activation). activation_of m.now)) c.in-Some.is in
    IfOk-weaker c.hop_on.result (λ h. OnComes h (activation_of w ≡ a)) (λ h. OnComes h (with_top x w ≡ x)) (λ h kept. comes_top x w a h top kept) c.hop_on.ensures.kept
