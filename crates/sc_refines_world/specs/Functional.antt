-- Turns are functional: each turn, and each list of turns, has one outcome.
use Rattle.std.specs.Prelude.{◌≡◌, ℕ, Bool, List, [], ◌∷◌, length}
use Rattle.sc_tree.specs.Plain.{System}
use Rattle.sc_lockpass.specs.declared.version.Version.{Version}
use Rattle.sc_code.specs.declared.program.Image.{Image}
use Rattle.sc_code.specs.Programs.{IsProgramOf}
use Rattle.sc_code.specs.RequestRoom.{FitsRequests}
use Rattle.sc_region.specs.declared.job.Job.{Job}
use Rattle.sc_region.specs.declared.job.Want.{Want}
use Rattle.sc_region.specs.Classes.{class_at, defaults_of}
use Rattle.sc_region.specs.Objects.{PlainObject}
use Rattle.sc_region.specs.Stores.{PlainStore}
use Rattle.sc_refines_world.specs.regions.RegionHalves.{IsRegionOf}
use Rattle.sc_refines_world.specs.regions.RegionSteps.{IsProgramFor, names_of}
use Rattle.sc_refines_world.specs.regions.RegionTurns.{Half}
use Rattle.sc_play.specs.Turns.{FirstTurn}
use Rattle.sc_refines_world.specs.regions.Halves.{JobFits}
use Rattle.sc_refines_world.specs.regions.Placed.{begun_when}
use Rattle.sc_refines_world.specs.regions.Sound.{IsSound}
use Rattle.sc_machine_laws.specs.states.Values.{WhereAccepted}
use Rattle.sc_world.specs.Turning.{Runs}
use Rattle.sc_world.specs.Worlds.{PlainWorld, opened}

-- ---- what holds of each store after turns

-- The object has as many attributes as its class.
abbrev pub IsExact : Image → PlainObject → Type 0
IsExact p o = length o.attributes ≡ length (defaults_of (class_at p o.class))

-- Each of the objects has as many attributes as its class.
abbrev pub AreExact : Image → List PlainObject → Type 0
AreExact p [] = Unit {0}
AreExact p (o ∷ os) = IsExact p o × AreExact p os

-- ---- one turn

-- A sound store with exact objects, for the first turn under a job. It represents a half that fits the job.
pub record IsGiven (h : ℕ) (is_told : Bool) (j : Job) (y : PlainStore) (s : System) (x : Half) : Type 0 where
  pub sound : IsSound y
  pub exact : AreExact y.program y.objects
  pub fits : FitsRequests y.program
  pub program : IsProgramFor s y.program
  pub region : IsRegionOf s (begun_when is_told j x) y
  pub half : JobFits s h (names_of y) j x

-- From the given store, any two first turns under the job lead to the same store and ask the same.
abbrev pub FirstTurnsAreFunctional : Type 0
FirstTurnsAreFunctional =
    (h : ℕ) (is_told : Bool) (j : Job) (y : PlainStore) (s : System) (x : Half) → IsGiven h is_told j y s x →
    (z a : PlainStore) (w v : Want) → FirstTurn h is_told j y z w → FirstTurn h is_told j y a v → (z ≡ a) × (w ≡ v)

-- The objects are exact after the first turn under a job.
abbrev pub FirstTurnsKeepExact : Type 0
FirstTurnsKeepExact =
    (h : ℕ) (is_told : Bool) (j : Job) (y : PlainStore) (s : System) (x : Half) → IsGiven h is_told j y s x →
    (z : PlainStore) (w : Want) → FirstTurn h is_told j y z w → AreExact z.program z.objects

-- ---- turns one after the other

-- From the opening of an accepted system's program, turns of the same handlers always lead to the same world.
abbrev pub RunsAreFunctional : Type 0
RunsAreFunctional = WhereAccepted λ s root.
    (p : Image) (v : Version) (hs : List ℕ) (x y : PlainWorld) → IsProgramOf s root p → FitsRequests p →
    Runs hs (opened p v) x → Runs hs (opened p v) y → x ≡ y
