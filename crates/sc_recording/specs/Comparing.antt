-- What the comparison of the logs knows on its way.
use Rattle.std.specs.Prelude.{◌≡◌, ◌<◌, ◌≤◌, ◌++◌, ℕ, List, Some, length, slice_get}
use Rattle.sc_handler.specs.declared.settlement.Settlement.{Settlement}
use Rattle.sc_worklog.specs.declared.logged_region.LoggedRegion.{LoggedRegion}
use Rattle.sc_worklog.specs.LoggedRegions.{entries_of, region_of}
use Rattle.sc_recording.specs.Recorded.{settlements_for}
use Rattle.sc_recording.specs.Regions.{AgreesIn}

-- The settlement is at this place in the log of the handler's region.
abbrev pub StandsAt : List LoggedRegion → ℕ → ℕ → Settlement → Type 0
StandsAt rs h n e = (r : LoggedRegion) × (slice_get rs h ≡ Some r) × (slice_get (entries_of r) n ≡ Some e)

-- The handler's region has that number, and this number of entries.
abbrev pub EndsAt : List LoggedRegion → ℕ → ℕ → Type 0
EndsAt rs h n =
    (r : LoggedRegion) × (slice_get rs h ≡ Some r) × ((region_of r).handler ≡ h) × (length (entries_of r) ≡ n)

-- These settlements were compared: this number of each handler, and the lowest that is known to differ, or 512.
pub record Walked (rs : List LoggedRegion) (es : List Settlement) (next : List ℕ) (least : ℕ) : Type 0 where
  pub few : least ≤ 512
  pub size : length next ≡ 512
  pub cursors : (h : ℕ) → h < 512 → slice_get next h ≡ Some (length (settlements_for h es))
  pub begins : (h : ℕ) → h < least → (r : LoggedRegion) → slice_get rs h ≡ Some r →
      (fs : List Settlement) × (settlements_for h es ++ fs ≡ entries_of r)
  pub differs : least < 512 → (r : LoggedRegion) → slice_get rs least ≡ Some r → (fs : List Settlement) →
      entries_of r ≡ settlements_for least (es ++ fs) → ⊥

-- All were compared, and the counts of the first handlers too.
pub record Counted (rs : List LoggedRegion) (es : List Settlement) (n least : ℕ) : Type 0 where
  pub few : least ≤ 512
  pub begins : (h : ℕ) → h < least → (r : LoggedRegion) → slice_get rs h ≡ Some r →
      (fs : List Settlement) × (settlements_for h es ++ fs ≡ entries_of r)
  pub agree : (h : ℕ) → h < n → h < least → AgreesIn rs es h
  pub differs : least < 512 → AgreesIn rs es least → ⊥
