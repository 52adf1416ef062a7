-- What turns need of the half that a store stands for.
use Rattle.std.specs.Prelude.{◌≡◌, ◌<◌, ◌≤◌, ℕ, Bool, true, List, [], ◌∷◌, Option, Some, None, is_some, length}
use Rattle.std.specs.Option.{option_map}
use Rattle.sc_tree.specs.Plain.{System}
use Rattle.sc_class.specs.Tables.Features.{DeclaredFeature, features}
use Rattle.sc_rules.specs.declared.entity_types.entity_type.EntityType.{EntityType}
use Rattle.sc_model.specs.declared.cause.Cause.TheVariants as cause
use Rattle.sc_model.specs.Handlers.{Called, InCall, Awaits, Frame, Runs, point_of}
use Rattle.sc_model.specs.Moves.{moves}
use Rattle.sc_model.specs.Objects.{Object, fresh_attributes, object_numbered}
use Rattle.sc_model.specs.Routines.{version_of}
use Rattle.sc_model.specs.Steps.{Calling, Point, Does, Enters, Fails}
use Rattle.sc_model.specs.Values as values
use Rattle.sc_region.specs.declared.job.Job.{Job}
use Rattle.sc_region.specs.declared.job.Job.TheVariants as job
use Rattle.sc_region.specs.declared.job.Request.{Request}
use Rattle.sc_region.specs.declared.value.Value.{Value}
use Rattle.sc_refines_world.specs.regions.RegionSteps.{task_of}
use Rattle.sc_refines_world.specs.regions.RegionTurns.{Half, played}
use Rattle.sc_interp.specs.Serving.{is_routine}
use Rattle.sc_refines_world.specs.regions.Taking.{IsNamed}
use Rattle.sc_refines_world.specs.regions.Making.{told_half}
use Rattle.sc_refines_world.specs.regions.Waiting.{RefusesInContract}

-- ---- objects

-- The object has as many attributes as its class.
abbrev pub IsComplete : System → Object → Type 0
IsComplete s o = length o.attributes ≡ length (fresh_attributes s (features s o.class))

abbrev pub AreComplete : System → List Object → Type 0
AreComplete s [] = Unit {0}
AreComplete s (o ∷ os) = IsComplete s o × AreComplete s os

-- Each of the frames runs on one of `count` objects.
abbrev pub AreWithin : ℕ → List Frame → Type 0
AreWithin count [] = Unit {0}
AreWithin count (f ∷ below) = (f.current.number ≤ count) × AreWithin count below

-- ---- the topmost frame

-- If the frame was called by one that takes a value, it has a Result. The caller is the first of the frames.
abbrev pub GivesResult : Frame → List Frame → Type 0
GivesResult f [] = Unit {0}
GivesResult f (g ∷ gs) = (c : Calling) (t : EntityType) → f.origin ≡ Called c → g.stage ≡ InCall (Some t) →
    is_some f.result ≡ true

-- The class has a routine of the name.
abbrev pub HasRoutine : System → ℕ → List ℕ → Type 0
HasRoutine s class name =
    option_map (λ (f : DeclaredFeature). is_routine f.feature.kind) (version_of s class name) ≡ Some true

-- The frame runs on an object of handler `h` and gives its caller a Result. It enters only routines that exist, and
-- doesn't fail with the cause `BadCode`.
pub record GoesWell (s : System) (h : ℕ) (objects : List Object) (f : Frame) (below : List Frame) : Type 0 where
  pub own : f.current.handler ≡ h
  pub gives_result : GivesResult f below
  pub enters : (c : Calling) (r : values.Reference) (name : List ℕ) (us : List values.Operand)
      (t : Option EntityType) (p : Point) →
      moves s f.current (point_of f objects) ≡ Does (Enters c r name us t) p → HasRoutine s r.class name
  pub fits : (p : Point) → moves s f.current (point_of f objects) ≡ Does (Fails cause.BadCode) p → ⊥

-- If the topmost frame goes on, it goes well in this sense.
abbrev pub TopGoesWell : System → ℕ → List Object → List Frame → Type 0
TopGoesWell s h objects [] = Unit {0}
TopGoesWell s h objects (f ∷ below) = f.stage ≡ Runs → GoesWell s h objects f below

-- ---- halves

-- What a turn of handler `h` needs of its half: it hasn't failed, its objects are complete, its frames run on some of
-- them, the topmost frame goes well, and if that finds a clause false, it is in its contract.
pub record HalfFits (s : System) (h : ℕ) (x : Half) : Type 0 where
  pub lives : x.failure ≡ None
  pub complete : AreComplete s x.objects
  pub within : AreWithin (length x.objects) x.stack
  pub goes_well : TopGoesWell s h x.objects x.stack
  pub in_contract : RefusesInContract s x.objects x.stack

-- If the topmost frame waits for a value, `v` is one.
abbrev pub GetsReply : Option Value → List Frame → Type 0
GetsReply v [] = Unit {0}
GetsReply v (f ∷ below) = (k : ℕ) (t : EntityType) (is_creation : Bool) → f.stage ≡ Awaits k (Some t) is_creation →
    is_some v ≡ true

-- What a request needs: its number, if any, is a name's; its target, if it is there, has the class that the reference
-- says; the objects are complete, and the frames run on some of them.
pub record RequestFits (s : System) (names : List (List ℕ)) (r : Request) (x : Half) : Type 0 where
  pub named : IsNamed names r.errand
  pub of_class : (o : Object) → object_numbered r.target.number x.objects ≡ Some o → o.class ≡ r.target.class
  pub complete : AreComplete s x.objects
  pub within : AreWithin (length x.objects) x.stack

-- What the first turn under a job needs. If a routine goes on in that turn, the half in which the job has begun fits.
abbrev pub JobFits : System → ℕ → List (List ℕ) → Job → Half → Type 0
JobFits s h names (job.Take r) x = RequestFits s names r x
JobFits s h names (job.Reply v) x = GetsReply v x.stack
JobFits s h names job.Failed x = Unit {0}
JobFits s h names job.Refused x = Unit {0}
JobFits s h names (job.Granted ks) x = Unit {0}
JobFits s h names (job.Made k) x = HalfFits s h (told_half k x)
JobFits s h names job.Go x = HalfFits s h x

-- The half fits the first of `n` turns under the job, and before each further turn it fits that turn.
pub record PlayFits (s : System) (h : ℕ) (names : List (List ℕ)) (j : Job) (n : ℕ) (x : Half) : Type 0 where
  pub first : JobFits s h names j x
  pub later : (k : ℕ) → 0 < k → k < n → HalfFits s h (played s h (task_of names j) k x)
