-- Regions that threads leave.
use Rattle.std.specs.Prelude.{◌≡◌, ℕ, List, Some, slice_get}
use Rattle.sc_handler.specs.declared.settlement.Settlement.{Settlement}
use Rattle.sc_play.specs.Regions.{new_region}
use Rattle.sc_worklog.specs.declared.logged_region.LoggedRegion as coded
use Rattle.sc_worklog.specs.LoggedRegions.{entries_of, region_of}
use Rattle.sc_worklog.specs.Replaying.{AreMade}
use Rattle.sc_recording.specs.Recorded.{settlements_for}

-- The turns of its log lead its new region to it.
abbrev pub IsMadeByLog : coded.LoggedRegion → Type 0
IsMadeByLog r = AreMade (entries_of r) (new_region (region_of r).store.program (region_of r).handler) (region_of r)

-- It is that of the number, and has that handler's settlements as its log.
abbrev pub Agrees : ℕ → List Settlement → coded.LoggedRegion → Type 0
Agrees h es r = ((region_of r).handler ≡ h) × (entries_of r ≡ settlements_for h es)

abbrev pub AgreesIn : List coded.LoggedRegion → List Settlement → ℕ → Type 0
AgreesIn rs es h = (r : coded.LoggedRegion) → slice_get rs h ≡ Some r → Agrees h es r
