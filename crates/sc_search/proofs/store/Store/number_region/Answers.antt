use Rattle.std.proofs.Common.{◌≡◌, ◌∙◌, Some, ap, refl, slice_get, sym}
use Rattle.sc_interning.specs.Tables.{values_of}
use Rattle.sc_world.specs.Views.{world_in}
use Rattle.sc_play.specs.Contents.{Contents, contents_in, contents_of}
use Rattle.sc_play.specs.Regions.{PlainRegion}
use Rattle.sc_search.proofs.Numbers.{stands_last}
use Rattle.sc_search.proofs.Stores.{grows_region}
use Rattle.sc_search.proofs.store.Store.number_region.Goals as goal

pub returns-clause-grows : goal.returns-clause-grows
returns-clause-grows c =
    let at : slice_get (world_in c.args.world.now).regions c.args.handler ≡ Some c.in-Some.region.now = sym c.in-Some.ensures in
    grows_region c.args.subject.program.now.image c.args.self.now _ c.in_ok-copy.copy refl refl refl c.in_ok-number.ensures.values
    (ap (λ (r : PlainRegion). r.store.program) c.in_ok-copy.ensures ∙ c.requires.of.programs c.args.handler c.in-Some.region.now at)

pub returns-clause-stands : goal.returns-clause-stands
returns-clause-stands c =
    let at : slice_get (world_in c.args.world.now).regions c.args.handler ≡ Some c.in-Some.region.now = sym c.in-Some.ensures in
    stands_last contents_of (values_of c.args.self.now.regions) (values_of c.push.new.self) c.in_ok-copy.copy c.in_ok-number.number c.in_ok-number.ensures.values
    c.in_ok-number.ensures.number
    ∙ ap (λ (x : Contents). Some x) (ap contents_of c.in_ok-copy.ensures ∙ sym (ap (contents_in c.args.handler) at))
