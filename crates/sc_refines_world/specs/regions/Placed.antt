-- Turns on a sound store that stands for a half that fits: they do to the store what the definition does to the
-- half, and ask the same.
use Rattle.std.specs.Prelude.{◌≡◌, ◌≤◌, ℕ, Bool, true, false}
use Rattle.sc_tree.specs.Plain.{System}
use Rattle.sc_region.specs.declared.job.Job.{Job}
use Rattle.sc_region.specs.declared.job.Job.TheVariants as job
use Rattle.sc_region.specs.declared.job.Want.{Want}
use Rattle.sc_region.specs.Stores.{PlainStore}
use Rattle.sc_interp.specs.Hopping.{LeadsTo}
use Rattle.sc_interp.specs.Playing.{Remains}
use Rattle.sc_refines_world.specs.regions.RegionHalves.{IsRegionOf}
use Rattle.sc_refines_world.specs.regions.RegionSteps.{IsProgramFor, MakesTurns, first_want, names_of, next_want, numbering_by, task_of}
use Rattle.sc_refines_world.specs.regions.RegionTurns.{Half, played, taken_turn, turn}
use Rattle.sc_play.specs.Turns.{FirstTurn, TurnOf, TurnUnder, Turns}
use Rattle.sc_refines_world.specs.regions.Acting.{TopRuns}
use Rattle.sc_refines_world.specs.regions.Halves.{HalfFits, JobFits, PlayFits}
use Rattle.sc_refines_world.specs.regions.Making.{told_half}
use Rattle.sc_refines_world.specs.regions.Sound.{IsSound}
use Rattle.sc_code.specs.RequestRoom.{FitsRequests}

-- ---- what a region stands for

abbrev pub told_when : Bool → ℕ → Half → Half
told_when true k x = told_half k x
told_when false k x = x

-- What a region's store stands for when the job is to be taken in the half `x`. With `is_told`, a turn that was
-- refused memory has begun the job: the creator of a handler has the new number already.
abbrev pub begun_when : Bool → Job → Half → Half
begun_when is_told (job.Made k) x = told_when is_told k x
begun_when is_told (job.Take r) x = x
begun_when is_told (job.Reply v) x = x
begun_when is_told job.Failed x = x
begun_when is_told job.Refused x = x
begun_when is_told (job.Granted ks) x = x
begun_when is_told job.Go x = x

-- ---- laws

-- A turn that was refused memory may have done silent operations of the routine. A turn from the store after them is
-- also a turn from the store before them. So it is for a turn of a creator that has got its new handler's number.
abbrev pub TurnsJoin : Type 0
TurnsJoin = (h : ℕ) (y a z : PlainStore) (w : Want) → LeadsTo y a → Remains y a → TopRuns y →
    (TurnOf h a z w → TurnOf h y z w) × ((k : ℕ) → TurnUnder h (job.Made k) a z w → TurnUnder h (job.Made k) y z w)

-- A turn leads to a sound store that stands for the half after the defined turn, and asks the same.
abbrev pub SoundTurnsAreMade : Type 0
SoundTurnsAreMade =
    (h : ℕ) (y z : PlainStore) (w : Want) → TurnOf h y z w → IsSound y → FitsRequests y.program →
    (s : System) (x : Half) → IsProgramFor s y.program → IsRegionOf s x y → HalfFits s h x →
    IsSound z × IsRegionOf s (turn s h x) z × (w ≡ next_want (numbering_by (names_of y)) s h x)

-- So does the first turn under a job.
abbrev pub SoundJobsAreTaken : Type 0
SoundJobsAreTaken =
    (h : ℕ) (is_told : Bool) (j : Job) (y z : PlainStore) (w : Want) → FirstTurn h is_told j y z w → IsSound y →
    FitsRequests y.program → (s : System) (x : Half) →
    IsProgramFor s y.program → IsRegionOf s (begun_when is_told j x) y → JobFits s h (names_of y) j x →
    IsSound z × IsRegionOf s (taken_turn s h (task_of (names_of y) j) x) z
    × (w ≡ first_want (numbering_by (names_of y)) s h (task_of (names_of y) j) x)

-- So do `n` turns under a job.
abbrev pub SoundTurnsArePlayed : Type 0
SoundTurnsArePlayed =
    (h : ℕ) (is_told : Bool) (j : Job) (limit n : ℕ) (y z : PlainStore) (w : Want) → Turns h is_told j y n z w →
    n ≤ limit → IsSound y → FitsRequests y.program →
    (s : System) (x : Half) → IsProgramFor s y.program → IsRegionOf s (begun_when is_told j x) y →
    PlayFits s h (names_of y) j n x →
    (let b : Half = played s h (task_of (names_of y) j) n x in
    IsSound z × IsRegionOf s b z × MakesTurns (numbering_by (names_of y)) s h (task_of (names_of y) j) limit n w x b)
