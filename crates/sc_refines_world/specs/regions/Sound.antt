-- What holds of each store after turns, whatever was played on it.
use Rattle.std.specs.Prelude.{◌≡◌, ℕ, Bool, true, false, List, [], ◌∷◌}
use Rattle.sc_code.specs.declared.program.Image.{Image}
use Rattle.sc_region.specs.declared.frame.Stage.{Stage}
use Rattle.sc_region.specs.declared.frame.Stage.TheVariants as stage
use Rattle.sc_region.specs.declared.job.Job.{Job}
use Rattle.sc_region.specs.declared.job.Want.{Want}
use Rattle.sc_region.specs.Frames.{PlainFrame}
use Rattle.sc_region.specs.Stores.{PlainStore, new_store}
use Rattle.sc_play.specs.Turns.{TurnOf, TurnUnder, Turns, begun}
use Rattle.sc_refines_world.specs.regions.Rooms.{HaveRoom}

-- A routine that waits for the handler that it creates is given no value.
abbrev pub CreatesForNothing : Stage → Type 0
CreatesForNothing (stage.Awaits k gives true) = gives ≡ false
CreatesForNothing (stage.Awaits k gives false) = Unit {0}
CreatesForNothing stage.Runs = Unit {0}
CreatesForNothing stage.Reserves = Unit {0}
CreatesForNothing stage.ReservesBlock = Unit {0}
CreatesForNothing (stage.InCall gives) = Unit {0}

abbrev pub CreateForNothing : List PlainFrame → Type 0
CreateForNothing [] = Unit {0}
CreateForNothing (f ∷ below) = CreatesForNothing f.activation.stage × CreateForNothing below

-- Each frame has room for the value that it is to be given; none gets a value for a handler that it creates.
pub record IsSound (z : PlainStore) : Type 0 where
  pub room : HaveRoom z.frames
  pub creations : CreateForNothing z.frames

-- ---- laws

-- A new store is sound.
abbrev pub NewStoresAreSound : Type 0
NewStoresAreSound = (p : Image) → IsSound (new_store p)

-- A sound store is still sound after a turn.
abbrev pub TurnsKeepSound : Type 0
TurnsKeepSound = (h : ℕ) (y z : PlainStore) (w : Want) → TurnOf h y z w → IsSound y → IsSound z

-- It is still sound when a job has begun, whether or not the creator had its new handler's number before, and after
-- the first turn under the job.
abbrev pub JobsKeepSound : Type 0
JobsKeepSound = (h : ℕ) (is_told : Bool) (j : Job) (y : PlainStore) → IsSound y →
    IsSound (begun is_told j y) × ((z : PlainStore) (w : Want) → TurnUnder h j (begun is_told j y) z w → IsSound z)

-- It is still sound after the turns under a job.
abbrev pub PlaysKeepSound : Type 0
PlaysKeepSound = (h : ℕ) (is_told : Bool) (j : Job) (y : PlainStore) (n : ℕ) (z : PlainStore) (w : Want) →
    Turns h is_told j y n z w → IsSound y → IsSound z
