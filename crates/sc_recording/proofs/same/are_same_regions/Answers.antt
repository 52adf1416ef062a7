use Rattle.std.proofs.Common.{Option, slice_get, sym, ap, ◌∙◌}
use Rattle.std.specs.Borrow.{Bor}
use Rattle.std.specs.Option.{option_map}
use Rattle.sc_play.specs.Regions.{PlainRegion}
use Rattle.sc_recording.proofs.Comparisons.{got_none, got_some}
use Rattle.sc_recording.proofs.SameHandlers.{told-both, told-first, told-neither}
use Rattle.sc_recording.proofs.same.are_same_regions.Goals as goal

pub returns-in-Some-Some : goal.returns-in-Some-Some
returns-in-Some-Some c =
    told-both (slice_get c.args.world.now.configuration.regions.items c.args.handler) (slice_get c.args.regions.now c.args.handler) c.in-Some-Some.region.now
    c.in-Some-Some.other.now c.is_same.result
    (sym c.region.ensures ∙ ap (λ (o : Option (Bor PlainRegion)). option_map (λ (b : Bor PlainRegion). b.now) o) c.in-Some-Some.is-0)
    (got_some c.args.regions.now c.args.handler c.get.result c.in-Some-Some.other c.get.ensures.lookup c.in-Some-Some.is-1) c.is_same.ensures

pub returns-in-None-None : goal.returns-in-None-None
returns-in-None-None c =
    told-neither (slice_get c.args.world.now.configuration.regions.items c.args.handler) (slice_get c.args.regions.now c.args.handler)
    (sym c.region.ensures ∙ ap (λ (o : Option (Bor PlainRegion)). option_map (λ (b : Bor PlainRegion). b.now) o) c.in-None-None.is-0)
    (got_none c.args.regions.now c.args.handler c.get.result c.get.ensures.lookup c.in-None-None.is-1)

pub returns-in_default : goal.returns-in_default
returns-in_default c =
    told-first (slice_get c.args.world.now.configuration.regions.items c.args.handler) (slice_get c.args.regions.now c.args.handler) c.in_default.field-0-0.now
    (sym c.region.ensures ∙ ap (λ (o : Option (Bor PlainRegion)). option_map (λ (b : Bor PlainRegion). b.now) o) c.in_default.is-0)
    (got_none c.args.regions.now c.args.handler c.get.result c.get.ensures.lookup c.in_default.is-1)
