-- Taking a request does to a store what the definition does to the half that the store stands for, and asks the same.
use Rattle.std.specs.Prelude.{◌≡◌, ℕ, ◌+◌, false, List, None, Some, length, slice_get}
use Rattle.sc_tree.specs.Plain.{System}
use Rattle.sc_region.specs.declared.job.Errand.{Errand}
use Rattle.sc_region.specs.declared.job.Errand.TheVariants as errand
use Rattle.sc_region.specs.declared.job.Job.{Job}
use Rattle.sc_region.specs.declared.job.Job.TheVariants as job
use Rattle.sc_region.specs.declared.job.Request.{Request}
use Rattle.sc_region.specs.declared.job.Want.{Want}
use Rattle.sc_region.specs.Frames.{is_current}
use Rattle.sc_region.specs.Objects.{PlainObject, object_numbered}
use Rattle.sc_region.specs.Stores.{PlainStore}
use Rattle.sc_refines_world.specs.regions.RegionHalves.{IsRegionOf}
use Rattle.sc_refines_world.specs.regions.RegionSteps.{IsProgramFor, first_want, names_of, numbering_by, task_of}
use Rattle.sc_refines_world.specs.regions.RegionTurns.{Half, taken_turn}
use Rattle.sc_acts.specs.Turning.{unless_failed}
use Rattle.sc_play.specs.Taking.{asks_taking, taken}
use Rattle.sc_refines_world.specs.regions.Acting.{AreWhole}

-- Whatever half `y` stands for, `z` stands for that half after the handler's first turn under the job.
abbrev pub JobBecomes : ℕ → Job → PlainStore → PlainStore → Type 0
JobBecomes h j y z = (s : System) (x : Half) → IsProgramFor s y.program → IsRegionOf s x y →
    IsRegionOf s (taken_turn s h (task_of (names_of y) j) x) z

-- The handler's first turn under the job asks `v`, unless `z` has failed.
abbrev pub JobAsks : ℕ → Job → PlainStore → PlainStore → Want → Type 0
JobAsks h j y z v = (s : System) (x : Half) → IsProgramFor s y.program → IsRegionOf s x y →
    first_want (numbering_by (names_of y)) s h (task_of (names_of y) j) x ≡ unless_failed z.failure v

-- The number is that of a name.
abbrev pub IsNameOf : List (List ℕ) → ℕ → Type 0
IsNameOf names k = (name : List ℕ) × (slice_get names k ≡ Some name)

-- The errand's number is that of a name, if it has one.
abbrev pub IsNamed : List (List ℕ) → Errand → Type 0
IsNamed names (errand.Calls k) = IsNameOf names k
IsNamed names (errand.Makes (Some k)) = IsNameOf names k
IsNamed names (errand.Makes None) = Unit {0}

-- What a request needs to be taken, of itself and of the store.
pub record IsTakeable (y : PlainStore) (r : Request) : Type 0 where
  pub named : IsNamed (names_of y) r.errand
  -- If the target is there, it has the class that the reference says.
  pub of_class : (o : PlainObject) → object_numbered r.target.number y.objects ≡ Some o → o.class ≡ r.target.class
  pub whole : AreWhole y
  -- No routine runs on the next object.
  pub unborn : is_current (length y.objects + 1) y.frames ≡ false

-- A request that is taken calls a feature or creates an object, as defined.
abbrev pub RequestsAreTaken : Type 0
RequestsAreTaken = (h : ℕ) (r : Request) (y : PlainStore) → IsTakeable y r → JobBecomes h (job.Take r) y (taken h r y)

-- A request that is taken asks for the reserve step of the routine that begins, or ends at once.
abbrev pub TakenRequestsAsk : Type 0
TakenRequestsAsk = (h : ℕ) (r : Request) (y : PlainStore) → IsTakeable y r →
    JobAsks h (job.Take r) y (taken h r y) (asks_taking h r y (taken h r y))
