use Rattle.std.proofs.Common.{◌≡◌, MutBor, Some, refl, sym, ap, ◌∙◌}
use Rattle.std.specs.Prelude.{slice_get}
use Rattle.std.specs.Option.{option_map, option_and_then}
use Rattle.sc_region.specs.declared.frame.Activation.{Activation}
use Rattle.sc_region.specs.Frames.{PlainActivation, activation_of, top_activation}
use Rattle.sc_interp.proofs.TopRoutines.{remains_top}
use Rattle.sc_interp.proofs.Targets.{calls_play}
use Rattle.sc_interp.proofs.Told.{comes_top, told_top}
use Rattle.sc_interp.proofs.features.call_target.Goals as goal

pub returns-in-Some-clause-plays : goal.returns-in-Some-clause-plays
returns-in-Some-clause-plays c =
    let x = c.args.store.now in
    let a = activation_of c.in-Some.activation.now in
    let top : top_activation x.frames ≡ Some a = sym c.top_mut.ensures.value ∙ ap (option_map (λ (m : MutBor Activation). activation_of m.now)) c.in-Some.is in
    calls_play c.args.me c.args.count c.args.number c.call_on.result x c.call_on.new.activation a c.args.site c.args.target c.feature_at-found.result c.requires.site top
    (ap (option_and_then (λ (b : PlainActivation). slice_get b.operands.values c.args.site.count)) (sym top) ∙ c.requires.target) c.feature_at-found.ensures c.call_on.ensures.calls

pub returns-in-Some-clause-remains : goal.returns-in-Some-clause-remains
returns-in-Some-clause-remains c =
    remains_top c.args.store.now _ c.call_on.new.activation (activation_of c.in-Some.activation.now)
    (sym c.top_mut.ensures.value ∙ ap (option_map (λ (m : MutBor Activation). activation_of m.now)) c.in-Some.is) refl c.call_on.ensures.stays

pub returns-in-Some-clause-told : goal.returns-in-Some-clause-told
returns-in-Some-clause-told c =
    let x = c.args.store.now in
    let a = activation_of c.in-Some.activation.now in
    let top : top_activation x.frames ≡ Some a = sym c.top_mut.ensures.value ∙ ap (option_map (λ (m : MutBor Activation). activation_of m.now)) c.in-Some.is in
    told_top x.program x c.call_on.new.activation a c.call_on.result refl top (c.call_on.ensures.told x.program c.requires.there)

pub returns-in-Some-clause-kept : goal.returns-in-Some-clause-kept
returns-in-Some-clause-kept c =
    let x = c.args.store.now in
    let a = activation_of c.in-Some.activation.now in
    let top : top_activation x.frames ≡ Some a = sym c.top_mut.ensures.value ∙ ap (option_map (λ (m : MutBor Activation). activation_of m.now)) c.in-Some.is in
    comes_top x c.call_on.new.activation a c.call_on.result top c.call_on.ensures.kept
