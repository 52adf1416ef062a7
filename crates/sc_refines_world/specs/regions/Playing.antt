-- The turns of a handler under a job do to a store what the definition does to the half that the store stands
-- for, and ask the same.
use Rattle.std.specs.Prelude.{◌<◌, ◌≤◌, ℕ, false}
use Rattle.sc_tree.specs.Plain.{System}
use Rattle.sc_region.specs.declared.job.Job.{Job}
use Rattle.sc_region.specs.declared.job.Want.{Want}
use Rattle.sc_region.specs.declared.job.Want.TheVariants as want
use Rattle.sc_region.specs.Stores.{PlainStore}
use Rattle.sc_refines_world.specs.regions.RegionHalves.{IsRegionOf}
use Rattle.sc_refines_world.specs.regions.RegionSteps.{IsProgramFor, MakesTurns, names_of, numbering_by, task_of}
use Rattle.sc_refines_world.specs.regions.RegionTurns.{Half, Task, played}
use Rattle.sc_play.specs.Turns.{Turns, begun, first, more}
use Rattle.sc_refines_world.specs.regions.Turns.{MayTurn, MayTurnUnder, RefusesUnder}
use Rattle.sc_refines_world.specs.regions.Waiting.{RefusesInContract}

-- Each of the turns may be made.
abbrev pub MayPlay : (h : ℕ) (j : Job) (start : PlainStore) (n : ℕ) (z : PlainStore) (w : Want) →
    Turns h false j start n z w → Type 0
MayPlay h j start _ _ _ (first {y} {w} t) = MayTurnUnder h j (begun false j start) y w t
MayPlay h j start _ _ _ (more {n} {y} {z} {w} before t) = MayPlay h j start n y want.Continue before × MayTurn h y z w t

-- If a routine finds a clause false in one of the `n` turns under the job, it is in its contract.
pub record PlaysInContract (s : System) (h : ℕ) (j : Job) (task : Task) (n : ℕ) (x : Half) : Type 0 where
  pub first : RefusesUnder s j x
  pub later : (k : ℕ) → 0 < k → k < n → RefusesInContract s (played s h task k x).objects (played s h task k x).stack

-- If the job hasn't begun, `n` turns under it do to the store and ask what the definition says.
abbrev pub TurnsArePlayed : Type 0
TurnsArePlayed =
    (h : ℕ) (j : Job) (limit n : ℕ) (y z : PlainStore) (w : Want) (t : Turns h false j y n z w) → n ≤ limit →
    MayPlay h j y n z w t → (s : System) (x : Half) → IsProgramFor s y.program →
    IsRegionOf s x y → PlaysInContract s h j (task_of (names_of y) j) n x →
    (let b : Half = played s h (task_of (names_of y) j) n x in
    IsRegionOf s b z × MakesTurns (numbering_by (names_of y)) s h (task_of (names_of y) j) limit n w x b)
