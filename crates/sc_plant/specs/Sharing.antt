-- What one thread has is put under locks.
use Rattle.std.specs.Prelude.{◌≡◌, ℕ, List, Option, Some, slice_get}
use Rattle.sc_code.specs.declared.program.Image.{Image}
use Rattle.sc_handler.specs.declared.logged.Log.{Log}
use Rattle.sc_handler.specs.declared.settlement.Settlement.{Settlement}
use Rattle.sc_handler.specs.Logged.{settlements_of}
use Rattle.sc_play.specs.Regions.{PlainRegion, new_region}
use Rattle.sc_worklog.specs.Replaying.{AreMade}
use Rattle.sc_plant.specs.declared.left.Left.{Left}
use Rattle.sc_plant.specs.Alone.{IsOnWay}
use Rattle.sc_recording.specs.Recorded.{settlements_for}

-- A run of the program that the types have has come to this.
pub record IsOnWayIn (image : Option Image) (left : Left) : Type 0 where
  pub program : Image
  pub named : image ≡ Some program
  pub way : IsOnWay program left

-- Each handler's log has its settlements.
abbrev pub AreLogs : List Log → List Settlement → Type 0
AreLogs ls es = (h : ℕ) (l : Log) → slice_get ls h ≡ Some l → settlements_of l ≡ settlements_for h es

-- The region is that of the handler of the number, for this program, and the turns of the log lead to it.
pub record Fits (image : Option Image) (h : ℕ) (x : PlainRegion) (l : Log) : Type 0 where
  pub handler : x.handler ≡ h
  pub program : image ≡ Some x.store.program
  pub made : ∥ AreMade (settlements_of l) (new_region x.store.program x.handler) x ∥₁

-- So each region and each log, by number.
abbrev pub AreFit : Option Image → List PlainRegion → List Log → Type 0
AreFit image xs ls = (h : ℕ) (x : PlainRegion) (l : Log) → slice_get xs h ≡ Some x → slice_get ls h ≡ Some l →
    Fits image h x l
