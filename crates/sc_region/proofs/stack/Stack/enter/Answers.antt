use Rattle.std.proofs.Common.{◌<◌, [], ◌∷◌, ◌++◌, length, List, ap, ◌∙◌, arith}
use Rattle.std.specs.Prelude.{slice_set}
use Rattle.std.proofs.lemmas.Result.{err_from_is_err_and}
use Rattle.sc_region.specs.declared.value.Reference.{Reference}
use Rattle.sc_region.specs.Frames.{PlainFrame, PlainActivation, frame_with, frames_onto}
use Rattle.sc_region.specs.Stores.{entry}
use Rattle.sc_region.proofs.Stacks.{frames_under, frames_push}
use Rattle.sc_region.proofs.stack.Stack.enter.Goals as goal

pub returns-in_err-begin-clause-err : goal.returns-in_err-begin-clause-err
returns-in_err-begin-clause-err c =
    let rs = c.self.inside.currents.items in
    let ts = c.place_above.new.activations.items in
    let place = c.in_ok-place.place in
    let same = c.place_above.ensures.frames ∙ c.self.view_is in
    let p = err_from_is_err_and c.from_residual-in_err-begin.result c.from_residual-in_err-begin.ensures.1 in
    rw p.1 (ap (λ (l : List Reference). frames_onto l (slice_set ts place c.begin.new.self) []) c.place_above.ensures.currents
    ∙ frames_under rs ts place c.begin.new.self [] (omega (arith, c.in_ok-place.ensures.place)) ∙ same)

pub returns-clause-ok : goal.returns-clause-ok
returns-clause-ok c =
    let rs = c.self.inside.currents.items in
    let ts = c.place_above.new.activations.items in
    let place = c.in_ok-place.place in
    let t = c.begin.new.self in
    let r = c.args.current in
    let same = c.place_above.ensures.frames ∙ c.self.view_is in
    let room : length rs < length ts = omega (arith, c.in_ok-place.ensures.place, c.in_ok-place.ensures.above) in
    ap (λ (l : List Reference). frames_onto l (slice_set ts place t) []) c.push_reserved.ensures.items
    ∙ ap (λ (l : List Reference). frames_onto (l ++ r ∷ []) (slice_set ts place t) []) c.place_above.ensures.currents
    ∙ ap (λ n. frames_onto (rs ++ r ∷ []) (slice_set ts n t) []) c.in_ok-place.ensures.place
    ∙ frames_push rs ts r t [] room
    ∙ ap (λ (a : PlainActivation). frame_with r a ∷ frames_onto rs ts []) c.in_ok-begin.ensures
    ∙ ap (λ (fs : List PlainFrame). entry r c.args.routine c.args.code.now c.args.origin c.args.actuals.now ∷ fs) same
