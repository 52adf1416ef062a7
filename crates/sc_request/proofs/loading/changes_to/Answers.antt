use Rattle.std.proofs.Common.{◌≡◌, ◌∙◌, ◌<◌, ℕ, Some, ap, length, refl, sym, arith}
use Rattle.std.proofs.lemmas.List.Elements.{All-get_or}
use Rattle.std.proofs.lemmas.Option.{slice_get-get_or}
use Rattle.std.specs.Prelude.{get_or, slice_get}
use Rattle.sc_handler.specs.declared.handler.Handler as coded
use Rattle.sc_request.specs.declared.parts.Part.{Part}
use Rattle.sc_request.specs.Parts.{PlainPart, part_in, part_of, parts_in}
use Rattle.sc_request.specs.Tables.{handler_in}
use Rattle.sc_request.proofs.ChangedPlaces.{had_below, had_more, out_in, put_below, put_more}
use Rattle.sc_request.proofs.LoadedCores.{part_there}
use Rattle.sc_request.proofs.loading.changes_to.Goals as goal

pub loop-place-preserved-then-has_part : goal.loop-place-preserved-then-has_part
loop-place-preserved-then-has_part c =
    let l = c.loop-place in
    let T = c.args.parts.now in
    let ns = c.args.numbers.now in
    let xs = c.args.handlers.now in
    let n = l.place in
    let below : n < length ns = c.loop-place-test.true in
    let number = get_or ns n 0 in
    let p = c.index-parts-numbers.result in
    let e : slice_get ns n ≡ Some number = slice_get-get_or ns n 0 below in
    let within : number < length T = All-get_or (λ (m : ℕ). m < length T) ns n 0 below c.requires.within in
    let f : slice_get T number ≡ Some p = slice_get-get_or T number p within ∙ ap (λ (q : Part). Some q) (sym c.index-parts-numbers.is) in
    let there : part_in (slice_get (parts_in T ns) n) ≡ part_of p = part_there T ns n number p e f in
    let x = c.index-handlers-place.result in
    let many = c.requires.many in
    let at : slice_get xs n ≡ Some x = slice_get-get_or xs n x (omega (arith, below, many)) ∙ ap (λ (y : coded.Handler). Some y) (sym c.index-handlers-place.is) in
    record {
      have = had_more T ns xs n l.changes.items l.invariant.have l.invariant.below
          (ap handler_in at ∙ c.has_part.ensures.handler c.if-has_part.true ∙ ap (λ (q : PlainPart). q.handler) (sym there))
          (ap out_in at ∙ c.has_part.ensures.home c.if-has_part.true);
      below = had_below T ns xs n l.changes.items l.invariant.below;
    }

pub loop-place-preserved : goal.loop-place-preserved
loop-place-preserved c =
    let l = c.loop-place in
    let T = c.args.parts.now in
    let ns = c.args.numbers.now in
    let xs = c.args.handlers.now in
    let n = l.place in
    let below : n < length ns = c.loop-place-test.true in
    let number = get_or ns n 0 in
    let p = c.index-parts-numbers.result in
    let e : slice_get ns n ≡ Some number = slice_get-get_or ns n 0 below in
    let within : number < length T = All-get_or (λ (m : ℕ). m < length T) ns n 0 below c.requires.within in
    let f : slice_get T number ≡ Some p = slice_get-get_or T number p within ∙ ap (λ (q : Part). Some q) (sym c.index-parts-numbers.is) in
    let there : part_in (slice_get (parts_in T ns) n) ≡ part_of p = part_there T ns n number p e f in
    let many = c.requires.many in
    let ds = c.push.new.self.items in
    let more = c.in_ok-push.ensures.items in
    record {
      have = put_more T ns xs n l.changes.items ds _ l.invariant.have l.invariant.below more refl (omega (arith, below, many))
          (c.in_ok-handler.ensures.handler ∙ ap (λ (q : PlainPart). q.handler) (sym there)) c.in_ok-handler.ensures.out;
      below = put_below T ns xs n l.changes.items ds _ l.invariant.have l.invariant.below more refl (omega (arith, below, many));
    }
