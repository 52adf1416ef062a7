use Rattle.std.proofs.Common.{◌≡◌, ◌<◌, ℕ, List, Some, add-one, length, subst, sym, take}
use Rattle.std.proofs.lemmas.List.{take_all}
use Rattle.std.proofs.lemmas.List.Elements.{All-get_or}
use Rattle.std.proofs.lemmas.Option.{slice_get-get_or}
use Rattle.std.specs.Prelude.{get_or, slice_get}
use Rattle.sc_request.specs.Loading.{CountsFor}
use Rattle.sc_request.proofs.LoadedCores.{counts_more}
use Rattle.sc_request.proofs.loading.settlements_of.Goals as goal

pub loop-number-preserved : goal.loop-number-preserved
loop-number-preserved c =
    let l = c.loop-number in
    let T = c.args.parts.now in
    let ns = c.args.numbers.now in
    let i = l.number-index in
    let below : i < length ns = c.loop-number-test.true in
    let number = get_or ns i 0 in
    let p = get_or T number c.index-parts-number.result in
    let e : slice_get ns i ≡ Some number = slice_get-get_or ns i 0 below in
    let within : number < length T = All-get_or (λ (m : ℕ). m < length T) ns i 0 below c.requires.within in
    let f : slice_get T number ≡ Some p = slice_get-get_or T number c.index-parts-number.result within in
    subst (λ (j : ℕ). CountsFor T (take j ns) c.larger-most.result) (sym (add-one i))
    (counts_more T ns i number l.most c.larger-most.result p e f c.larger-most.ensures.one c.larger-most.ensures.other l.invariant)

pub returns : goal.returns
returns c =
    let l = c.loop-number in
    subst (λ (ns : List ℕ). CountsFor c.args.parts.now ns l.most) (take_all l.number-index c.args.numbers.now c.loop-number-test.false) l.invariant
