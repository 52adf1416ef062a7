use Rattle.std.proofs.Common.{◌≡◌, ◌+◌, ◌≤◌, vec_len, vec_capacity, false, Some, All}
use Rattle.sc_worklog.specs.declared.logged_region.LoggedRegion.{LoggedRegion}
use Rattle.sc_worklog.specs.LoggedRegions.{region_of}
use Rattle.sc_recording.specs.Regions.{IsMadeByLog}
use Rattle.sc_plant.proofs.leaving.regions_of.Given as goal

abbrev pub invariant-loop-slot : goal.invariant-loop-slot
invariant-loop-slot g l = record {
  count : vec_len l.regions + vec_len l.slots ≡ vec_len l.fn.slots;
  room : vec_len l.fn.slots ≤ vec_capacity l.regions;
  programs : All (λ (r : LoggedRegion). g.P.OfProgram.image ≡ Some (region_of r).store.program) l.regions.items;
  made : l.is_refused ≡ false → All (λ (r : LoggedRegion). ∥ IsMadeByLog r ∥₁) l.regions.items;
}

abbrev pub decreases-loop-slot : goal.decreases-loop-slot
decreases-loop-slot g l = vec_len l.slots
