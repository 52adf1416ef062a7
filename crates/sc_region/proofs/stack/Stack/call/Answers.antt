use Rattle.std.proofs.Common.{◌≡◌, ◌-◌, ◌<◌, ◌++◌, [], ◌∷◌, List, get_or, suc, length, length-append, length-set, sym, ap, ◌∙◌, arith}
use Rattle.std.specs.Prelude.{slice_set}
use Rattle.std.proofs.lemmas.List.{with_items_is}
use Rattle.std.proofs.lemmas.Result.{err_from_is_err_and}
use Rattle.sc_region.specs.declared.frame.Activation.{Activation}
use Rattle.sc_region.specs.declared.value.Reference.{Reference}
use Rattle.sc_region.specs.Frames.{PlainFrame, activation_of, frame_with, frames_onto, top_activation}
use Rattle.sc_region.specs.Lending.{with_top_activation}
use Rattle.sc_region.proofs.OwnCalls.{called_is, frames_call, frames_front, frames_kept, operands_are}
use Rattle.sc_region.proofs.Stacks.{frames_length}
use Rattle.sc_region.proofs.stack.Stack.call.Goals as goal

pub last_values-actuals-requires : goal.last_values-actuals-requires
last_values-actuals-requires c =
    let s = c.self.inside in
    let rs = s.currents.items in
    let ts = c.split_at_mut-frames.result.0.now in
    let us = c.split_at_mut-frames.result.1.now in
    let place = c.in_ok-place.place in
    let caller = get_or ts (place - 1) c.index-frames-place.result in
    let high = frames_length rs s.activations.items [] c.self.invariant in
    let last : length rs ≡ suc (place - 1) = omega (arith, c.in_ok-place.ensures.place, c.requires.caller, ap length c.self.view_is, high) in
    let front : length ts ≡ suc (place - 1) = omega (arith, c.split_at_mut-frames.ensures.front_len, c.in_ok-place.ensures.place, last) in
    let joined = ap (λ (l : List Activation). frames_onto rs l []) (sym c.split_at_mut-frames.ensures.value ∙ c.deref_mut.ensures.value) ∙ c.place_above.ensures.frames ∙ c.self.view_is in
    let top = ap top_activation (sym joined) ∙ frames_front rs ts us (place - 1) c.index-frames-place.result [] last front in
    let many = ap length (operands_are (activation_of caller) c.args.self.now top) in
    omega (arith, many, c.requires.actuals)

pub returns-in_err-begin-clause-err : goal.returns-in_err-begin-clause-err
returns-in_err-begin-clause-err c =
    let s = c.self.inside in
    let rs = s.currents.items in
    let ts = c.split_at_mut-frames.result.0.now in
    let us = c.split_at_mut-frames.result.1.now in
    let place = c.in_ok-place.place in
    let caller = get_or ts (place - 1) c.index-frames-place.result in
    let high = frames_length rs s.activations.items [] c.self.invariant in
    let last : length rs ≡ suc (place - 1) = omega (arith, c.in_ok-place.ensures.place, c.requires.caller, ap length c.self.view_is, high) in
    let front : length ts ≡ suc (place - 1) = omega (arith, c.split_at_mut-frames.ensures.front_len, c.in_ok-place.ensures.place, last) in
    let parts : ts ++ us ≡ c.place_above.new.activations.items = sym c.split_at_mut-frames.ensures.value ∙ c.deref_mut.ensures.value in
    let fronts = slice_set ts (place - 1) caller in
    let behinds = slice_set us 0 c.begin.new.self in
    let kept : length (fronts ++ behinds) ≡ c.place_above.new.activations.len =
    omega (arith, length-append fronts behinds, length-set ts (place - 1) caller, length-set us 0 c.begin.new.self, length-append ts us, ap length parts, c.place_above.new.activations.ok.0) in
    let joined = ap (λ (l : List Activation). frames_onto rs l []) parts ∙ c.place_above.ensures.frames ∙ c.self.view_is in
    let p = err_from_is_err_and c.from_residual-in_err-begin.result c.from_residual-in_err-begin.ensures.1 in
    rw p.1 (ap (λ (l : List Activation). frames_onto c.place_above.new.currents.items l []) (with_items_is c.place_above.new.activations (fronts ++ behinds) kept)
    ∙ ap (λ (l : List Reference). frames_onto l (fronts ++ behinds) []) c.place_above.ensures.currents
    ∙ frames_kept rs ts us (place - 1) c.index-frames-place.result c.begin.new.self [] last front ∙ joined)

pub returns-clause-ok : goal.returns-clause-ok
returns-clause-ok c =
    let s = c.self.inside in
    let rs = s.currents.items in
    let ts = c.split_at_mut-frames.result.0.now in
    let us = c.split_at_mut-frames.result.1.now in
    let place = c.in_ok-place.place in
    let caller = get_or ts (place - 1) c.index-frames-place.result in
    let t = c.begin.new.self in
    let u = c.suspend.new.self in
    let high = frames_length rs s.activations.items [] c.self.invariant in
    let last : length rs ≡ suc (place - 1) = omega (arith, c.in_ok-place.ensures.place, c.requires.caller, ap length c.self.view_is, high) in
    let front : length ts ≡ suc (place - 1) = omega (arith, c.split_at_mut-frames.ensures.front_len, c.in_ok-place.ensures.place, last) in
    let parts : ts ++ us ≡ c.place_above.new.activations.items = sym c.split_at_mut-frames.ensures.value ∙ c.deref_mut.ensures.value in
    let fronts = slice_set ts (place - 1) u in
    let behinds = slice_set us 0 t in
    let kept : length (fronts ++ behinds) ≡ c.place_above.new.activations.len =
    omega (arith, length-append fronts behinds, length-set ts (place - 1) u, length-set us 0 t, length-append ts us, ap length parts, c.place_above.new.activations.ok.0) in
    let behind : 0 < length us = omega (arith, ap length parts, length-append ts us, front, c.in_ok-place.ensures.above) in
    let joined = ap (λ (l : List Activation). frames_onto rs l []) parts ∙ c.place_above.ensures.frames ∙ c.self.view_is in
    let top = ap top_activation (sym joined) ∙ frames_front rs ts us (place - 1) c.index-frames-place.result [] last front in
    ap (λ (l : List Activation). frames_onto c.push_reserved.new.self.items l []) (with_items_is c.place_above.new.activations (fronts ++ behinds) kept)
    ∙ ap (λ (l : List Reference). frames_onto l (fronts ++ behinds) [])
    (c.push_reserved.ensures.items ∙ ap (λ (l : List Reference). l ++ c.args.current ∷ []) c.place_above.ensures.currents)
    ∙ frames_call rs ts us c.args.current (place - 1) t u [] last front behind
    ∙ ap (λ (fs : List PlainFrame). frame_with c.args.current (activation_of t) ∷ with_top_activation u fs) joined
    ∙ called_is c.args.current c.args.routine c.args.code.now c.args.call c.args.self.now c.last_values-actuals.result.now (activation_of caller) t u top c.last_values-actuals.ensures c.in_ok-begin.ensures c.suspend.ensures
