-- One whole turn of a handler does to a store what the definition of a turn does to the half that the store stands
-- for, and asks the same.
use Rattle.std.specs.Prelude.{◌≡◌, ℕ, true, false, Option, Some, None, length, nat_lt}
use Rattle.sc_tree.specs.Plain.{System}
use Rattle.sc_region.specs.declared.frame.Stage.{Stage}
use Rattle.sc_region.specs.declared.frame.Stage.TheVariants as stage
use Rattle.sc_region.specs.declared.job.Job.{Job}
use Rattle.sc_region.specs.declared.job.Job.TheVariants as job
use Rattle.sc_region.specs.declared.job.Want.{Want}
use Rattle.sc_region.specs.Frames.{top_activation}
use Rattle.sc_region.specs.Stores.{PlainStore, max_objects}
use Rattle.sc_acts.specs.declared.act.Act.{Act}
use Rattle.sc_acts.specs.declared.act.Act.TheVariants as act
use Rattle.sc_interp.specs.declared.hops.Hop.{Hop}
use Rattle.sc_interp.specs.declared.hops.Hop.TheVariants as hop
use Rattle.sc_acts.specs.Creating.{has_room_in}
use Rattle.sc_acts.specs.Entering.{Has, HasCall, routine_in}
use Rattle.sc_refines_world.specs.regions.RegionHalves.{IsRegionOf}
use Rattle.sc_refines_world.specs.regions.RegionSteps.{IsProgramFor, first_want, names_of, next_want, numbering_by, task_of}
use Rattle.sc_refines_world.specs.regions.RegionTurns.{Half, taken_turn, turn}
use Rattle.sc_acts.specs.Tables.{version_in}
use Rattle.sc_play.specs.Answering.{top_stage}
use Rattle.sc_play.specs.Turns.{FirstTurn, GoesOn, TurnIn, TurnMade, TurnOf, TurnUnder, begun}
use Rattle.sc_refines_world.specs.regions.Acting.{AreWhole, IsCreator, RunsOn, TakesResult}
use Rattle.sc_refines_world.specs.regions.Jobs.{TakesAnswer}
use Rattle.sc_refines_world.specs.regions.Making.{told_half}
use Rattle.sc_refines_world.specs.regions.Reserving.{MayOpen}
use Rattle.sc_refines_world.specs.regions.Taking.{IsNameOf, IsTakeable}
use Rattle.sc_refines_world.specs.regions.Waiting.{RefusesInContract}
use Rattle.sc_refines_world.specs.regions.Wanting.{IsNumbered, IsProcedure, MayCreate, MayRequest}

-- ---- what an operation needs of a store

-- The store may create an object. A creation by a procedure needs a name with the procedure's number, the operands
-- and room for the reference. If there is room for one more object, the procedure must be a routine.
abbrev pub MayCreateHere : ℕ → ℕ → Option ℕ → ℕ → PlainStore → Type 0
MayCreateHere h class None n z = IsCreator h z
MayCreateHere h class (Some k) n z =
    IsNameOf (names_of z) k × Has n (top_activation z.frames)
    × (has_room_in n (top_activation z.frames) ≡ true)
    × (nat_lt (length z.objects) max_objects ≡ true →
    (routine : ℕ) × (routine_in (version_in z.program class k) ≡ Some routine)) × RunsOn h z

-- The numbers of the operation are those of names, and its operands are there. If it tests objects, they are whole;
-- if it ends a routine, that has a Result for its caller.
abbrev pub MayAct : ℕ → Act → PlainStore → Type 0
MayAct h (act.Enter c r k n gives) z = IsNameOf (names_of z) k × HasCall c n (top_activation z.frames)
MayAct h (act.Request q) z = IsNumbered z q.name × MayRequest q.count (top_activation z.frames)
MayAct h (act.Create class k n) z = MayCreateHere h class k n z
MayAct h (act.CreateHandler q) z =
    IsProcedure z q.procedure × MayCreate q.count (top_activation z.frames)
MayAct h (act.Open first n) z = MayOpen first n (top_activation z.frames)
MayAct h (act.Refuse k) z = AreWhole z
MayAct h act.Exit z = AreWhole z × TakesResult z.frames
MayAct h (act.PrintInteger v) z = Unit {0}
MayAct h (act.PrintBoolean b) z = Unit {0}
MayAct h (act.PrintText k) z = Unit {0}
MayAct h (act.Until n) z = Unit {0}
MayAct h act.Start z = Unit {0}
MayAct h act.Leave z = Unit {0}

-- Handler `h` may do the operation, if it is visible.
abbrev pub MayDo : ℕ → Hop → PlainStore → Type 0
MayDo h hop.Passed z = Unit {0}
MayDo h (hop.Failed why) z = Unit {0}
MayDo h (hop.Comes a) z = MayAct h a z

-- The operation that comes after the silent ones may be done.
abbrev pub MayGoOn : (h : ℕ) (y z : PlainStore) (w : Want) → GoesOn h y z w → Type 0
MayGoOn h y z w t = MayDo h t.operation t.before

-- A handler whose topmost routine is in the stage `o` may make the turn.
abbrev pub MayTurnIn : (o : Option Stage) (h : ℕ) (y z : PlainStore) (w : Want) → TurnIn o h y z w → Type 0
MayTurnIn None h y z w t = Unit {0}
MayTurnIn (Some stage.Runs) h y z w t = MayGoOn h y z w t
MayTurnIn (Some stage.Reserves) h y z w t = Unit {0}
MayTurnIn (Some stage.ReservesBlock) h y z w t = Unit {0}
MayTurnIn (Some (stage.InCall gives)) h y z w t = Unit {0}
MayTurnIn (Some (stage.Awaits k gives is_creation)) h y z w t = Unit {0}

abbrev pub MayTurn : (h : ℕ) (y z : PlainStore) (w : Want) → TurnOf h y z w → Type 0
MayTurn h y z w t = MayTurnIn (top_stage y) h y z w t

-- ---- turns

-- A turn of a handler leads to a store that stands for the half after the defined turn, and asks the same.
abbrev pub TurnsAreMade : Type 0
TurnsAreMade =
    (h : ℕ) (y z : PlainStore) (w : Want) (t : TurnOf h y z w) → MayTurn h y z w t → (s : System) (x : Half) →
    IsProgramFor s y.program → IsRegionOf s x y →
    RefusesInContract s x.objects x.stack →
    IsRegionOf s (turn s h x) z × (w ≡ next_want (numbering_by (names_of y)) s h x)

-- ---- jobs

-- the half in which the job has begun: the creator of a handler has the new number
abbrev pub begun_half : Job → Half → Half
begun_half (job.Made k) x = told_half k x
begun_half (job.Take r) x = x
begun_half (job.Reply v) x = x
begun_half job.Failed x = x
begun_half job.Refused x = x
begun_half (job.Granted ks) x = x
begun_half job.Go x = x

-- A creator that gets the number of its new handler may make the turn. A creation that is waited for gives no value.
abbrev pub MayTurnMade : (o : Option Stage) (h : ℕ) (y z : PlainStore) (w : Want) → TurnMade o h y z w → Type 0
MayTurnMade None h y z w t = Unit {0}
MayTurnMade (Some (stage.Awaits k gives true)) h y z w t = gives ≡ false
MayTurnMade (Some (stage.Awaits k gives false)) h y z w t = Unit {0}
MayTurnMade (Some stage.Runs) h y z w t = MayGoOn h y z w t
MayTurnMade (Some stage.Reserves) h y z w t = Unit {0}
MayTurnMade (Some stage.ReservesBlock) h y z w t = Unit {0}
MayTurnMade (Some (stage.InCall gives)) h y z w t = Unit {0}

-- The first turn under the job may be made, in a store in which the job has begun.
abbrev pub MayTurnUnder : (h : ℕ) (j : Job) (y z : PlainStore) (w : Want) → TurnUnder h j y z w → Type 0
MayTurnUnder h (job.Take r) y z w t = IsTakeable y r
MayTurnUnder h (job.Reply v) y z w t = TakesAnswer v y.frames
MayTurnUnder h job.Failed y z w t = Unit {0}
MayTurnUnder h job.Refused y z w t = Unit {0}
MayTurnUnder h (job.Granted ks) y z w t = Unit {0}
MayTurnUnder h (job.Made k) y z w t = MayTurnMade (top_stage y) h y z w t
MayTurnUnder h job.Go y z w t = MayTurn h y z w t

-- If a routine goes on in the first turn under the job and finds a clause false, it is in its contract.
abbrev pub RefusesUnder : System → Job → Half → Type 0
RefusesUnder s (job.Made k) x = RefusesInContract s x.objects (told_half k x).stack
RefusesUnder s job.Go x = RefusesInContract s x.objects x.stack
RefusesUnder s (job.Take r) x = Unit {0}
RefusesUnder s (job.Reply v) x = Unit {0}
RefusesUnder s job.Failed x = Unit {0}
RefusesUnder s job.Refused x = Unit {0}
RefusesUnder s (job.Granted ks) x = Unit {0}

-- The first turn under a job that has begun in the store does and asks what the definition says.
abbrev pub JobsAreTaken : Type 0
JobsAreTaken =
    (h : ℕ) (j : Job) (y z : PlainStore) (w : Want) (t : TurnUnder h j y z w) → MayTurnUnder h j y z w t →
    (s : System) (x : Half) → IsProgramFor s y.program →
    IsRegionOf s (begun_half j x) y → RefusesUnder s j x →
    IsRegionOf s (taken_turn s h (task_of (names_of y) j) x) z
    × (w ≡ first_want (numbering_by (names_of y)) s h (task_of (names_of y) j) x)

-- So does the first turn under a job that hasn't begun.
abbrev pub FirstTurnsAreMade : Type 0
FirstTurnsAreMade =
    (h : ℕ) (j : Job) (y z : PlainStore) (w : Want)
    (t : FirstTurn h false j y z w) → MayTurnUnder h j (begun false j y) z w t → (s : System) (x : Half) →
    IsProgramFor s y.program →
    IsRegionOf s x y → RefusesUnder s j x →
    IsRegionOf s (taken_turn s h (task_of (names_of y) j) x) z
    × (w ≡ first_want (numbering_by (names_of y)) s h (task_of (names_of y) j) x)
