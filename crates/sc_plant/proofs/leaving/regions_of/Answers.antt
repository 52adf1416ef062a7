use Rattle.std.proofs.Common.{◌≡◌, List, Some, true, false, sym, subst, ◌∙◌, arith, All}
use Rattle.std.proofs.lemmas.List.Elements.{All-push}
use Rattle.sc_worklog.specs.declared.logged_region.LoggedRegion.{LoggedRegion}
use Rattle.sc_worklog.specs.LoggedRegions.{region_of}
use Rattle.sc_recording.specs.Regions.{IsMadeByLog}
use Rattle.sc_plant.proofs.leaving.regions_of.Goals.{then-is_refused, else-is_refused}
use Rattle.sc_plant.proofs.leaving.regions_of.Goals as goal

pub loop-slot-preserved : goal.loop-slot-preserved
loop-slot-preserved g c =
    let slot = c.into_inner-region.result in
    let P : LoggedRegion → Type 0 = λ r. g.P.OfProgram.image ≡ Some (region_of r).store.program in
    let M : LoggedRegion → Type 0 = λ r. ∥ IsMadeByLog r ∥₁ in
    let Q : List LoggedRegion → Type 0 = λ rs. All P rs in
    let N : List LoggedRegion → Type 0 = λ rs. All M rs in
    record {
      count = omega (arith, c.push_reserved.ensures.len, c.in-Some.ensures.len, c.loop-slot.invariant.count);
      room = omega (arith, c.push_reserved.ensures.capacity, c.loop-slot.invariant.room);
      programs = subst Q (sym c.push_reserved.ensures.items) (All-push P c.loop-slot.regions.items slot.region c.loop-slot.invariant.programs slot.program);
      made = λ whole. elim c.if-is_refused.branch [
        | then-is_refused w ↦ let bad : true ≡ false = sym w.if-is_refused.true ∙ (sym w.is_refused-is ∙ whole) in cc
        | else-is_refused w ↦
            subst N (sym c.push_reserved.ensures.items)
            (All-push M c.loop-slot.regions.items slot.region (c.loop-slot.invariant.made w.if-is_refused.false) (slot.made (sym w.is_refused-is ∙ whole)))
      ];
    }
