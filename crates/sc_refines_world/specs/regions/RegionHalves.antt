-- A region's half: the store that stands for it, and the handler of the machine that it is a part of.
use Rattle.std.specs.Prelude.{◌≡◌, ◌⊎◌, ℕ, Bool, true, false, List, [], ◌∷◌, Option, Some, None, reverse, slice_get}
use Rattle.std.specs.Option.{option_and_then}
use Rattle.sc_tree.specs.Plain.{System}
use Rattle.sc_rules.specs.declared.entity_types.entity_type.EntityType.{EntityType}
use Rattle.sc_typing.specs.FeatureNumbers.{all_features}
use Rattle.sc_model.specs.declared.cause.Cause.{Cause}
use Rattle.sc_model.specs.Values.{Value, Operand}
use Rattle.sc_model.specs.Objects.{Object}
use Rattle.sc_model.specs.Routines.{routine_of}
use Rattle.sc_model.specs.Preconditions.{is_creation}
use Rattle.sc_model.specs.Steps.{Calling, Unqualified, Qualified, Creation, Point}
use Rattle.sc_model.specs.Handlers as machine
use Rattle.sc_model.specs.Handlers.{Origin, Called, Requested, Stage, Runs, Reserves, ReservesBlock, InCall, Awaits, Frame, point_of}
use Rattle.sc_code.specs.Lowered.{run_of}
use Rattle.sc_code.specs.Stands.{Run, Stands, StandsWith, state_at}
use Rattle.sc_region.specs.declared.frame.Origin as code_origin
use Rattle.sc_region.specs.declared.frame.Origin.TheVariants as origin
use Rattle.sc_region.specs.declared.frame.Stage as code_stage
use Rattle.sc_region.specs.declared.frame.Stage.TheVariants as stage
use Rattle.sc_region.specs.Frames.{PlainFrame}
use Rattle.sc_region.specs.Stores.{PlainStore}
use Rattle.sc_handler.specs.Handlers as core
use Rattle.sc_interp.specs.Values.{reference_of}
use Rattle.sc_interp.specs.Objects.{objects_in}
use Rattle.sc_interp.specs.Standing.{state_of}
use Rattle.sc_refines_world.specs.regions.RegionTurns.{Half, told}

-- ---- in memory

abbrev pub calling_of : Calling → code_origin.Origin
calling_of Unqualified = origin.Unqualified
calling_of Qualified = origin.Qualified
calling_of Creation = origin.Creation

abbrev pub requested : Bool → code_origin.Origin
requested false = origin.Requested
requested true = origin.RequestedCreation

abbrev pub origin_of : Origin → code_origin.Origin
origin_of (Called c) = calling_of c
origin_of (Requested r) = requested (is_creation r.errand)

abbrev pub gives_value : Option EntityType → Bool
gives_value None = false
gives_value (Some t) = true

abbrev pub stage_of : Stage → code_stage.Stage
stage_of Runs = stage.Runs
stage_of Reserves = stage.Reserves
stage_of ReservesBlock = stage.ReservesBlock
stage_of (InCall gives) = stage.InCall (gives_value gives)
stage_of (Awaits k gives is_creation) = stage.Awaits k (gives_value gives) is_creation

-- The place stands for the point, with the value that the routine is to be given, if it is given one.
abbrev pub StandsIn : Stage → Run → ℕ → List Value → Point → Type 0
StandsIn Runs g place tail p = Stands g place tail p
StandsIn Reserves g place tail p = Stands g place tail p
StandsIn ReservesBlock g place tail p = Stands g place tail p
StandsIn (InCall gives) g place tail p = StandsWith g place tail gives p
StandsIn (Awaits k gives is_creation) g place tail p = StandsWith g place tail gives p

-- `g` in a store is the frame `f` of a handler with these objects. Its routine is the feature of its number; `tail`
-- is in the slots after those of its names.
pub record IsFrame (s : System) (objects : List Object) (f : Frame) (g : PlainFrame) : Type 0 where
  pub current : reference_of g.current ≡ f.current
  pub routine : option_and_then (routine_of s) (slice_get (all_features s) g.activation.routine) ≡ Some f.routine
  pub origin : g.activation.origin ≡ origin_of f.origin
  pub stage : g.activation.stage ≡ stage_of f.stage
  pub tail : List Value
  pub state : state_of objects g.activation ≡ state_at g.activation.place tail (point_of f objects)
  pub stands : StandsIn f.stage (run_of s f.routine) g.activation.place tail (point_of f objects)
  pub depth : g.activation.operands.depth ≡ (run_of s f.routine).code.depth
  pub reserved : g.activation.reserved ≡ f.reserved
  pub blocks : reverse g.activation.blocks ≡ f.blocks

abbrev pub AreFrames : System → List Object → List Frame → List PlainFrame → Type 0
AreFrames s objects [] [] = Unit {0}
AreFrames s objects (f ∷ fs) (g ∷ gs) = IsFrame s objects f g × AreFrames s objects fs gs
AreFrames s objects fs gs = ⊥

-- The store `y` stands for the half `x`.
pub record IsRegionOf (s : System) (x : Half) (y : PlainStore) : Type 0 where
  pub objects : objects_in s y.objects ≡ x.objects
  pub frames : AreFrames s x.objects x.stack y.frames
  pub output : y.output ≡ x.output
  pub failure : y.failure ≡ x.failure

-- ---- in the machine

-- the origin without what was passed, which only the core knows
abbrev pub unpassed : Origin → Origin
unpassed (Called c) = Called c
unpassed (Requested r) = Requested (record r { passed = None })

-- The region's stage is the machine's, with two exceptions. While it waits for a handler that it makes, the region
-- doesn't know the new number. After a command that it posts as a callback, the region goes on.
abbrev pub IsStageFor : ℕ → Stage → Stage → Type 0
IsStageFor h (Awaits k gives true) g = g ≡ Awaits h gives true
IsStageFor h (Awaits k gives false) g = (g ≡ Awaits k gives false) ⊎ ((gives ≡ None) × (g ≡ Runs))
IsStageFor h f g = g ≡ f

-- The machine's operands `us` are the region's `vs`, but for the number of a new handler not yet known there.
abbrev pub IsToldOf : Stage → core.HandlerStage → List Operand → List Operand → Type 0
IsToldOf (Awaits k gives true) stage us vs = us ≡ told k vs
IsToldOf Runs (core.HasMade k) us vs = us ≡ told k vs
IsToldOf f stage us vs = us ≡ vs

-- The region of handler `h` has the frame `g`, if the machine has `f` and the core has this stage.
pub record IsHalfOfFrame (h : ℕ) (stage : core.HandlerStage) (f g : Frame) : Type 0 where
  pub same : f ≡ record g { origin = f.origin; stage = f.stage; values = f.values; mark = f.mark }
  pub origin : g.origin ≡ unpassed f.origin
  pub stands : IsStageFor h f.stage g.stage
  pub values : IsToldOf f.stage stage f.values g.values

-- The region's frames match the machine's. Below the topmost, only a waiting creator lacks its handler's number.
abbrev pub AreHalvesOf : ℕ → core.HandlerStage → List Frame → List Frame → Type 0
AreHalvesOf h stage [] [] = Unit {0}
AreHalvesOf h stage (f ∷ fs) (g ∷ gs) = IsHalfOfFrame h stage f g × AreHalvesOf h core.Runs fs gs
AreHalvesOf h stage fs gs = ⊥

-- `x` is the region's half of the machine's handler `y`, which has the number `h`. In the machine a handler that has
-- failed has no frames. The region doesn't learn of a failure that the core finds.
pub record IsRegionHalf (h : ℕ) (y : machine.Handler) (stage : core.HandlerStage) (x : Half) : Type 0 where
  pub objects : x.objects ≡ y.objects
  pub output : x.output ≡ y.output
  pub stands : y.failure ≡ None → (x.failure ≡ None) × AreHalvesOf h stage y.stack x.stack
  pub failure : (why : Cause) → x.failure ≡ Some why → y.failure ≡ Some why
