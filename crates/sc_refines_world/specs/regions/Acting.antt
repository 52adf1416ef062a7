-- A turn does to a store what its definition does to the half that the store stands for.
use Rattle.std.specs.Prelude.{◌≡◌, ◌<◌, ◌≤◌, ℕ, suc, ℤ, ◌+◌, ◌-◌, Bool, true, false, ◌||◌, List, [], ◌∷◌, Option, Some, None, is_some, length, slice_get, slice_set, take}
use Rattle.std.specs.Fmt.{signed_decimal}
use Rattle.std.specs.Option.{option_map}
use Rattle.sc_tree.specs.Plain.{System}
use Rattle.sc_model.specs.declared.cause.Cause.{Cause}
use Rattle.sc_model.specs.declared.cause.Cause.TheVariants as cause
use Rattle.sc_model.specs.Values as model_values
use Rattle.sc_model.specs.Instructions.{boolean_text}
use Rattle.sc_model.specs.Moves.{moves as visible_step, step as model_step}
use Rattle.sc_model.specs.Steps as model
use Rattle.sc_model.specs.Steps.{Point, Does}
use Rattle.sc_model.specs.Routines.{routine_named}
use Rattle.sc_model.specs.Handlers.{Origin, Frame, Runs, point_of}
use Rattle.sc_code.specs.Lowered.{run_of}
use Rattle.sc_code.specs.Machine as flat
use Rattle.sc_code.specs.Programs.{pool_of}
use Rattle.sc_code.specs.Stands.{Seen, Leads, Stands, state_at}
use Rattle.sc_region.specs.declared.frame.Origin as code_origin
use Rattle.sc_region.specs.declared.frame.Origin.TheVariants as origin
use Rattle.sc_region.specs.declared.frame.Stage.TheVariants as stage
use Rattle.sc_region.specs.declared.value.Reference.{Reference}
use Rattle.sc_region.specs.declared.value.Value.{Value}
use Rattle.sc_region.specs.Classes.{class_at, defaults_of}
use Rattle.sc_region.specs.Objects.{PlainObject, object_numbered}
use Rattle.sc_region.specs.Frames.{PlainActivation, PlainFrame, frame_with, is_current, top_activation, top_current}
use Rattle.sc_region.specs.Stores.{PlainStore, failed, next_reference, printed}
use Rattle.sc_region.specs.declared.job.Want.TheVariants as want
use Rattle.sc_request.specs.Asked.{Numbering}
use Rattle.sc_acts.specs.declared.act.Act.{Act}
use Rattle.sc_acts.specs.declared.act.Act.TheVariants as act
use Rattle.sc_acts.specs.declared.act.Calling.{Calling}
use Rattle.sc_interp.specs.declared.hops.Hop.{Hop}
use Rattle.sc_interp.specs.declared.hops.Hop.TheVariants as hop
use Rattle.sc_interp.specs.Hopping.{ComesTo, LeadsTo, state_in}
use Rattle.sc_interp.specs.Playing.{Remains}
use Rattle.sc_refines_world.specs.regions.RegionHalves.{IsRegionOf, AreFrames, IsFrame, origin_of}
use Rattle.sc_refines_world.specs.regions.RegionSteps.{IsProgramFor, next_want}
use Rattle.sc_refines_world.specs.regions.RegionTurns.{Half, enters, turn}
use Rattle.sc_acts.specs.Tables.{version_in, formals_at, listed}
use Rattle.sc_interp.specs.Standing.{hopped}
use Rattle.sc_acts.specs.Creating.{created, created_by, has_room_in, with_reference, without_last}
use Rattle.sc_region.specs.Calls.{last_values, on_top, past}
use Rattle.sc_acts.specs.Entering.{Has, HasCall, called, entered_if, routine_in}
use Rattle.sc_acts.specs.Exiting.{exited}
use Rattle.sc_acts.specs.Refusing.{is_waited_for, refused}
use Rattle.sc_acts.specs.Turning.{round_ended, unless_failed}
use Rattle.sc_interp.specs.Values.{reference_of, values_of}
use Rattle.sc_acts.specs.CreatingHandlers.{creation_with}
use Rattle.sc_acts.specs.Requesting.{call_of}

-- ---- silent operations

-- The topmost routine goes on: it doesn't reserve, and it waits for nothing.
abbrev pub TopRuns : PlainStore → Type 0
TopRuns y = option_map (λ (a : PlainActivation). a.stage) (top_activation y.frames) ≡ Some stage.Runs

-- Silent operations of the topmost routine lead from the store `y` to `z`, and `o` comes next in `z`.
pub record Comes (o : Hop) (y z : PlainStore) : Type 0 where
  pub runs : TopRuns y
  pub comes : ComesTo o y z
  pub remains : Remains y z

-- The topmost frame of the half makes the visible step `step` next, from the point `last`. The place `place` of the
-- code stands for that point, and `silent` silent operations lead to it. In the store `z` the operation `o`, which is
-- that step in flat code, is still to be done.
pub record Meets (s : System) (x : Half) (o : Hop) (y z : PlainStore) : Type 0 where
  pub frame : Frame
  pub below : List Frame
  pub stack : x.stack ≡ frame ∷ below
  pub stage : frame.stage ≡ Runs
  pub step : model.Act
  pub point : Point
  pub moves : visible_step s frame.current (point_of frame x.objects) ≡ Does step point
  pub current : Reference
  pub before : PlainActivation
  pub activation : PlainActivation
  pub rest : List PlainFrame
  pub was : y.frames ≡ frame_with current before ∷ rest
  pub stood : IsFrame s x.objects frame (frame_with current before)
  pub frames : z.frames ≡ frame_with current activation ∷ rest
  pub others : AreFrames s x.objects below rest
  pub last : Point
  pub place : ℕ
  pub tail : List model_values.Value
  pub stands : Stands (run_of s frame.routine) place tail last
  pub silent : ℕ
  pub reaches : flat.hops silent s (run_of s frame.routine).code (reference_of current)
      (state_in s y before) ≡ flat.Goes (state_at place tail last)
  pub ends : model_step s frame.current last ≡ Does step point
  pub shown : flat.Act
  pub state : flat.State
  pub does : hopped y.program s (run_of s frame.routine).code (reference_of current) o
      (state_in s z activation) ≡ flat.Does shown state
  pub seen : Seen last.environment point.environment step shown
  pub leads : Leads (run_of s frame.routine) step point state

-- If silent operations lead from `y` to `z`, and others from `z` to `w`, all together lead from `y` to `w`.
abbrev pub SilentOperationsJoin : Type 0
SilentOperationsJoin = (o : Hop) (y z w : PlainStore) → LeadsTo y z → Remains y z → Comes o z w → Comes o y w

-- The silent operations in memory lead to the visible step that the half makes next.
abbrev pub SilentOperationsFollow : Type 0
SilentOperationsFollow = (s : System) (x : Half) (o : Hop) (y z : PlainStore) → IsProgramFor s y.program →
    IsRegionOf s x y → Comes o y z → Meets s x o y z

-- ---- what holds of stores

-- Each object has at least as many attributes as its class.
abbrev pub AreWhole : PlainStore → Type 0
AreWhole y = (number : ℕ) (o : PlainObject) → object_numbered number y.objects ≡ Some o →
    length (defaults_of (class_at y.program o.class)) ≤ length o.attributes

-- If the caller takes a value, `v` is one, and the caller has room for it. The caller is the first of the frames.
abbrev pub TakesAs : Option Value → List PlainFrame → Type 0
TakesAs v [] = Unit {0}
TakesAs v (g ∷ gs) = g.activation.stage ≡ stage.InCall true →
    (is_some v ≡ true) × (length g.activation.operands.values < g.activation.operands.depth)

-- A call of the same handler began the routine.
abbrev pub is_called : code_origin.Origin → Bool
is_called origin.Unqualified = true
is_called origin.Qualified = true
is_called origin.Creation = true
is_called origin.Requested = false
is_called origin.RequestedCreation = false

-- If the topmost routine was called for a value, it has a Result, and its caller has room for it.
abbrev pub TakesResult : List PlainFrame → Type 0
TakesResult [] = Unit {0}
TakesResult (f ∷ below) = is_called f.activation.origin ≡ true → TakesAs f.activation.result below

-- ---- turns

-- Whatever half `y` stands for, `z` stands for that half after a turn.
abbrev pub TurnsInto : PlainStore → PlainStore → Type 0
TurnsInto y z = (s : System) (h : ℕ) (x : Half) → IsProgramFor s y.program → IsRegionOf s x y →
    IsRegionOf s (turn s h x) z

-- Printing an integer does what its definition says.
abbrev pub IntegersArePrinted : Type 0
IntegersArePrinted = (v : ℤ) (y z : PlainStore) → Comes (hop.Comes (act.PrintInteger v)) y z →
    TurnsInto y (on_top (past 1) (printed (signed_decimal v) z))

-- Printing a truth value does what its definition says.
abbrev pub BooleansArePrinted : Type 0
BooleansArePrinted = (b : Bool) (y z : PlainStore) → Comes (hop.Comes (act.PrintBoolean b)) y z →
    TurnsInto y (on_top (past 1) (printed (boolean_text b) z))

-- Printing the text of the number `k` does what its definition says.
abbrev pub TextsArePrinted : Type 0
TextsArePrinted = (k : ℕ) (y z : PlainStore) → Comes (hop.Comes (act.PrintText k)) y z →
    TurnsInto y (on_top (past 0) (printed (listed (pool_of z.program.pool).texts k) z))

-- The end of a loop's round does what its definition says: the loop ends, or its body comes again.
abbrev pub RoundsEnd : Type 0
RoundsEnd = (n : Option ℕ) (y z : PlainStore) → Comes (hop.Comes (act.Until n)) y z →
    TurnsInto y (on_top (round_ended n) z)

-- The start of a body after its precondition does what its definition says.
abbrev pub BodiesStart : Type 0
BodiesStart = (y z : PlainStore) → Comes (hop.Comes act.Start) y z → TurnsInto y (on_top (past 0) z)

-- The failure of a routine does what its definition says.
abbrev pub RoutinesFail : Type 0
RoutinesFail = (why : Cause) (y z : PlainStore) → Comes (hop.Failed why) y z → TurnsInto y (failed why z)

-- The end of a routine does what its definition says.
abbrev pub RoutinesEnd : Type 0
RoutinesEnd = (y z : PlainStore) → Comes (hop.Comes act.Exit) y z → AreWhole z → TakesResult z.frames →
    TurnsInto y (exited z)

-- A clause on the formals in these slots isn't waited for.
abbrev pub IsNotWaitedFor : List ℕ → Option PlainActivation → Type 0
IsNotWaitedFor slots None = Unit {0}
IsNotWaitedFor slots (Some a) = is_waited_for a slots ≡ false

-- If a clause is false and isn't waited for, a request is refused or an own call fails, as defined.
abbrev pub CallsAreRefused : Type 0
CallsAreRefused =
    (k : ℕ) (y z : PlainStore) → Comes (hop.Comes (act.Refuse k)) y z → AreWhole z →
    IsNotWaitedFor (formals_at z.program k) (top_activation z.frames) → TurnsInto y (refused k z)

-- ---- requests, handlers and blocks

-- with the flag, the routine waits for the answer of the supplier `k`
abbrev pub awaiting_if : Bool → ℕ → Bool → Bool → PlainActivation → PlainActivation
awaiting_if false k gives is_creation a = a
awaiting_if true k gives is_creation a = record a { stage = stage.Awaits k gives is_creation }

-- The actuals and the target are gone. The routine waits if it passes its rights or is to be given a value.
abbrev pub sending : Reference → ℕ → Bool → Bool → PlainActivation → PlainActivation
sending r n gives passes a = awaiting_if (passes || gives) r.handler gives false (without_last (past n a))

-- A request to another handler does what its definition says.
abbrev pub RequestsAreMade : Type 0
RequestsAreMade = (r : Reference) (k n : ℕ) (gives passes : Bool) (y z : PlainStore) →
    Comes (hop.Comes (act.Request (call_of r k n gives passes))) y z →
    TurnsInto y (on_top (sending r n gives passes) z)

-- the first object of the new handler, with the creator's number until the creator learns the new one
abbrev pub first_object : ℕ → ℕ → Reference
first_object h class = record { handler = h; number = 1; class = class }

-- The reference takes the place of the actuals. The creator waits if it passes its rights.
abbrev pub creating : ℕ → ℕ → ℕ → Bool → PlainActivation → PlainActivation
creating h class n passes a = awaiting_if passes h false true (with_reference (first_object h class) (past n a))

-- The creation of a handler by `h` does what its definition says.
abbrev pub HandlersAreCreated : Type 0
HandlersAreCreated = (h class : ℕ) (k : Option ℕ) (n : ℕ) (passes : Bool) (y z : PlainStore) →
    Comes (hop.Comes (act.CreateHandler (creation_with class k n passes))) y z →
    (s : System) (x : Half) → IsProgramFor s y.program → IsRegionOf s x y →
    IsRegionOf s (turn s h x) (on_top (creating h class n passes) z)

-- the slots, with the values in them from slot `k` on
abbrev pub written : ℕ → List Value → List Value → List Value
written k [] slots = slots
written k (v ∷ vs) slots = written (suc k) vs (slice_set slots k v)

-- The `n` heads go into the slots from `first` on, and the reserve step comes next.
abbrev pub opening : ℕ → ℕ → PlainActivation → PlainActivation
opening first n a =
    record (past n a) { slots = written first (last_values n a.operands.values) a.slots; stage = stage.ReservesBlock }

-- The beginning of a separate block does what its definition says.
abbrev pub BlocksBegin : Type 0
BlocksBegin = (first n : ℕ) (y z : PlainStore) → Comes (hop.Comes (act.Open first n)) y z →
    TurnsInto y (on_top (opening first n) z)

-- The innermost block is closed.
abbrev pub closing : PlainActivation → PlainActivation
closing a = record (past 0 a) { blocks = take (length a.blocks - 1) a.blocks }

abbrev pub HasBlock : Option PlainActivation → Type 0
HasBlock None = Unit {0}
HasBlock (Some a) = 0 < length a.blocks

abbrev pub HasNoBlock : Option PlainActivation → Type 0
HasNoBlock None = Unit {0}
HasNoBlock (Some a) = a.blocks ≡ []

-- The end of a separate block does what its definition says.
abbrev pub BlocksEnd : Type 0
BlocksEnd = (y z : PlainStore) → Comes (hop.Comes act.Leave) y z → HasBlock (top_activation z.frames) →
    TurnsInto y (on_top closing z)

-- If no block is open, the end of a block is a failure, as defined.
abbrev pub NoBlockEnds : Type 0
NoBlockEnds = (y z : PlainStore) → Comes (hop.Comes act.Leave) y z → HasNoBlock (top_activation z.frames) →
    TurnsInto y (failed cause.BadCode z)

-- ---- routines that are entered

-- Entering the routine whose name has the number `k`, on top of the frames, does what its definition says.
abbrev pub RoutinesAreEntered : Type 0
RoutinesAreEntered =
    (s : System) (x : Half) (y : PlainStore) (me : Reference) (k : ℕ) (name : List ℕ) (from : Origin)
    (us : List Value) → IsProgramFor s y.program → IsRegionOf s x y →
    slice_get (pool_of y.program.pool).names k ≡ Some name →
    IsRegionOf s (enters s (reference_of me) (routine_named s me.class name) from x.stack (values_of us) x)
    (entered_if (routine_in (version_in y.program me.class k)) me (origin_of from) us y)

-- A call on the same handler does what its definition says, if its name has the number `k`, with its operands there.
abbrev pub CallsAreMade : Type 0
CallsAreMade = (c : Calling) (r : Reference) (k n : ℕ) (gives : Bool) (name : List ℕ) (y z : PlainStore) →
    Comes (hop.Comes (act.Enter c r k n gives)) y z →
    slice_get (pool_of z.program.pool).names k ≡ Some name → HasCall c n (top_activation z.frames) →
    TurnsInto y (called c r k n gives z)

-- ---- objects that are created

-- The topmost routine of the store runs on an object of this handler.
abbrev pub RunsOn : ℕ → PlainStore → Type 0
RunsOn h z = option_map (λ (r : Reference). r.handler) (top_current z.frames) ≡ Some h

-- The store hasn't failed, its topmost routine runs on an object of this handler, and none runs on the next object.
pub record IsCreator (h : ℕ) (z : PlainStore) : Type 0 where
  pub lives : z.failure ≡ None
  pub handler : RunsOn h z
  pub unborn : is_current (length z.objects + 1) z.frames ≡ false

-- The creation of an object by handler `h` without a procedure does what its definition says.
abbrev pub ObjectsAreCreated : Type 0
ObjectsAreCreated = (h class n : ℕ) (y z : PlainStore) → Comes (hop.Comes (act.Create class None n)) y z →
    IsCreator h z →
    TurnsInto y (created (next_reference h class z) n z)

-- So does the creation by the procedure whose name has the number `k`, if that is a routine, and its operands are
-- there with room for the reference.
abbrev pub ObjectsAreCreatedBy : Type 0
ObjectsAreCreatedBy = (h class k n routine : ℕ) (name : List ℕ) (y z : PlainStore) →
    Comes (hop.Comes (act.Create class (Some k) n)) y z → RunsOn h z →
    slice_get (pool_of z.program.pool).names k ≡ Some name → Has n (top_activation z.frames) →
    has_room_in n (top_activation z.frames) ≡ true →
    routine_in (version_in z.program class k) ≡ Some routine → TurnsInto y (created_by (next_reference h class z) k n z)

-- ---- what turns ask

-- The operation prints, tests a loop's end, or starts a body.
abbrev pub asks_nothing : Act → Bool
asks_nothing (act.PrintInteger v) = true
asks_nothing (act.PrintBoolean b) = true
asks_nothing (act.PrintText k) = true
asks_nothing (act.Until n) = true
asks_nothing act.Start = true
asks_nothing other = false

-- These operations ask nothing of the core, unless the store after the turn has failed.
abbrev pub SimpleStepsAskNothing : Type 0
SimpleStepsAskNothing = (a : Act) (y z w : PlainStore) → asks_nothing a ≡ true → Comes (hop.Comes a) y z →
    TurnsInto y w →
    (n : Numbering) (s : System) (h : ℕ) (x : Half) → IsProgramFor s y.program → IsRegionOf s x y →
    next_want n s h x ≡ unless_failed w.failure want.Continue

-- A turn after which the store has failed reports the cause.
abbrev pub FailuresAreTold : Type 0
FailuresAreTold = (why : Cause) (y w : PlainStore) → TurnsInto y w → w.failure ≡ Some why →
    (n : Numbering) (s : System) (h : ℕ) (x : Half) → IsProgramFor s y.program → IsRegionOf s x y →
    next_want n s h x ≡ want.Fail why
