-- Which handler objects, frames and requests belong to, and that each has what its class declares.
use Rattle.std.specs.Prelude.{◌≡◌, ◌⊎◌, ◌<◌, ℕ, Bool, false, true, List, Option, Some, Contains, is_some, length, map}
use Rattle.sc_tree.specs.Plain.{System}
use Rattle.sc_rules.specs.declared.entity_types.entity_type.EntityType.{EntityType}
use Rattle.sc_rules.specs.declared.entity_types.tag.Reserved.{Reserved}
use Rattle.sc_model.specs.declared.cause.Cause.{Cause}
use Rattle.sc_model.specs.Environments.{known_of}
use Rattle.sc_model.specs.Failures.{requests_at}
use Rattle.sc_model.specs.Handlers.{Frame, Request, World}
use Rattle.sc_model.specs.Objects.{Object, fresh_object}
use Rattle.sc_model.specs.Routines.{routine_named, version_of}
use Rattle.sc_model.specs.Turns.{turn}
use Rattle.sc_model.specs.Values.{Attached, Operand, Reference}
use Rattle.sc_machine_laws.specs.states.Fitting.{IsThere}
use Rattle.sc_machine_laws.specs.states.Places.{StandsAs, called_name}
use Rattle.sc_machine_laws.specs.states.Points.{IsAmong}
use Rattle.sc_machine_laws.specs.states.ValueSteps.{is_excluded}

-- ---- objects

-- The object's class is one of the system's. Its attributes are those of the class, in order, with the names and
-- types that the text gives them.
pub record IsOfClass (s : System) (o : Object) : Type 0 where
  pub is_class : o.class < length s.classes
  pub has_attributes : map known_of o.attributes ≡ map known_of (fresh_object s o.class).attributes

abbrev pub ObjectsAreOfClasses : System → World → Type 0
ObjectsAreOfClasses s w = (h : ℕ) (o : Object) → h < w.count → Contains (w.handlers h).objects o → IsOfClass s o

-- A reference leads to an object that exists and has the class that the reference says, or to the first object of a
-- handler whose creation waits to be taken.
abbrev pub ReferencesLead : System → World → Type 0
ReferencesLead s w = (h : ℕ) (of : Reserved → Option ℕ) (r : Reference) (t : EntityType) (may_be_unset : Bool) →
    StandsAs s w h of (Attached r) t may_be_unset → IsThere w r

-- ---- frames

-- A frame of handler `h` runs on one of that handler's objects. Its routine is the version that the object's class
-- has, and its Result has the type that the routine's text gives it.
pub record RunsOnOwn (s : System) (w : World) (h : ℕ) (f : Frame) : Type 0 where
  pub current_is_own : f.current.handler ≡ h
  pub current_is_there : IsAmong (w.handlers h).objects f.current
  pub is_version : routine_named s f.current.class f.routine.name ≡ Some f.routine
  pub text_is_own : (f.text ≡ f.routine.text) ⊎ (f.text ≡ f.routine.contract)
  pub result_is_typed : (u : Operand) → f.result ≡ Some u → f.routine.text.result ≡ Some (Some u.type)

abbrev pub FramesRunOnOwn : System → World → Type 0
FramesRunOnOwn s w = (h : ℕ) (f : Frame) → h < w.count → Contains (w.handlers h).stack f → RunsOnOwn s w h f

-- ---- requests

-- The target of a request at `h` is there, at `h` too. Its class has the feature that the request calls.
pub record StandsAtTarget (s : System) (w : World) (h : ℕ) (r : Request) : Type 0 where
  pub target_is_here : r.target.handler ≡ h
  pub target_is_there : IsThere w r.target
  pub is_known : (x : List ℕ) → called_name r.errand ≡ Some x → is_some (version_of s r.target.class x) ≡ true

abbrev pub RequestsStandAtTargets : System → World → Type 0
RequestsStandAtTargets s w =
    (h : ℕ) (r : Request) → h < w.count → Contains (requests_at (w.handlers h)) r → StandsAtTarget s w h r

-- ---- failures

-- Whichever handler makes the next turn, no handler has failed after it for an excluded cause.
abbrev pub NoTurnIsExcluded : ℕ → System → World → Type 0
NoTurnIsExcluded most s w = (h k : ℕ) (why : Cause) → ((turn most s h w).handlers k).failure ≡ Some why →
    is_excluded why ≡ false
