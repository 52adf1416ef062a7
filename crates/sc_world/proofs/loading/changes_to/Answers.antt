use Rattle.std.proofs.Common.{◌≡◌, ◌<◌, ℕ, Some, length, refl, arith}
use Rattle.std.proofs.lemmas.List.Elements.{All-get_or}
use Rattle.std.proofs.lemmas.Option.{slice_get-get_or, slice_get_read}
use Rattle.std.specs.Prelude.{get_or, slice_get}
use Rattle.sc_world.specs.Loading.{LeadsTo}
use Rattle.sc_world.proofs.LoadedRegions.{changes_all, changes_more, programs_more, pushed_many}
use Rattle.sc_world.proofs.loading.changes_to.Goals as goal

pub loop-place-preserved : goal.loop-place-preserved
loop-place-preserved c =
    let l = c.loop-place in
    let T = c.args.table.now in
    let ns = c.args.numbers.now in
    let xs = c.args.regions.now in
    let i = l.place in
    let cs = l.changes.items in
    let ds = c.push.new.self.items in
    let change = c.in_ok-change_to.field-0 in
    let below : i < length ns = c.loop-place-test.true in
    let number = get_or ns i 0 in
    let y = c.index-table-numbers.result in
    let x = c.index-regions-place.result in
    let e : slice_get ns i ≡ Some number = slice_get-get_or ns i 0 below in
    let within : number < length T = All-get_or (λ (m : ℕ). m < length T) ns i 0 below c.requires.within in
    let f : slice_get T number ≡ Some y = slice_get_read T (length T) number y refl within c.index-table-numbers.is in
    let many = c.requires.many in
    let at : slice_get xs i ≡ Some x = slice_get_read xs (length xs) i x refl (omega (arith, below, many)) c.index-regions-place.is in
    let leads : LeadsTo change x y = c.in_ok-change_to.ensures in
    record {
      many = pushed_many cs ds i change l.invariant.many c.in_ok-push.ensures.items;
      contents = changes_more T xs ns cs ds i number change x y l.invariant.many c.in_ok-push.ensures.items e f at leads l.invariant.contents;
      programs = programs_more T xs ns cs ds number change x y c.in_ok-push.ensures.items f leads l.invariant.programs;
    }

pub returns-clause-contents : goal.returns-clause-contents
returns-clause-contents c =
    let l = c.loop-place in
    changes_all c.args.table.now c.args.regions.now c.args.numbers.now l.changes.items l.place l.invariant.many c.loop-place-test.false l.invariant.contents
