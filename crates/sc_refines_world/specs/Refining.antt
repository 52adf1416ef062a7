-- What holds of each world that turns lead to from the opening of an accepted system's program.
use Rattle.std.specs.List.{range_with_len}
use Rattle.std.specs.Prelude.{◌≡◌, ◌≢◌, ◌⊎◌, ◌<◌, ◌≤◌, ◌+◌, ◌-◌, ◌++◌, ℕ, Bool, true, false, List, [], ◌∷◌, Option, Some, None, Contains, drop, if◌then◌else◌, length, map, slice_get, take}
use Rattle.sc_tree.specs.Plain.{System}
use Rattle.sc_class.specs.ClassNames.{Root}
use Rattle.sc_rules.specs.declared.entity_types.entity_type.EntityType.{EntityType}
use Rattle.sc_rules.specs.declared.entity_types.tag.Reserved.{Reserved}
use Rattle.sc_rules.specs.declared.entity_types.tag.Tag.TheVariants as tag
use Rattle.sc_lockpass.specs.Rights.{held}
use Rattle.sc_lockpass.specs.Versions.{most_handlers}
use Rattle.sc_lockpass.specs.declared.version.Version.{Version}
use Rattle.sc_model.specs.Fits.{Fits, IsUnset}
use Rattle.sc_model.specs.Failures.{requests_at}
use Rattle.sc_model.specs.Handlers.{Request, World}
use Rattle.sc_model.specs.Reports as machine
use Rattle.sc_model.specs.Runs.{IsReached, has_turn, opening, run}
use Rattle.sc_model.specs.Settled.{SettledObjectsMeet}
use Rattle.sc_model.specs.Turns.{turn}
use Rattle.sc_model.specs.Values.{Attached, Reference, Value}
use Rattle.sc_code.specs.declared.program.Image.{Image}
use Rattle.sc_code.specs.Programs.{IsProgramOf}
use Rattle.sc_code.specs.RequestRoom.{FitsRequests}
use Rattle.sc_region.specs.declared.job.Job.{Job}
use Rattle.sc_request.specs.Logs.{next, pick_for}
use Rattle.sc_machine_laws.specs.states.Formals.{FormalsAreHeld, NamesAreHeld}
use Rattle.sc_machine_laws.specs.states.Headline.{CallbacksComeFirst, ChainsHold, OnlyWaitersAreTold, RepliesMeetNone, ReservedAreHeld, TargetsAreKept, WaitersAreTold}
use Rattle.sc_machine_laws.specs.RequestLaws.{AnswerComes, IsUnused}
use Rattle.sc_machine_laws.specs.states.Places.{StandsAs}
use Rattle.sc_machine_laws.specs.states.Values.{WhereAccepted}
use Rattle.sc_machine_laws.specs.Starting.{StartsWhereTheyHold}
use Rattle.sc_world.specs.Reports.{report, statuses}
use Rattle.sc_play.specs.Regions.{PlainRegion}
use Rattle.sc_world.specs.Turning.{Attempt, Attempts, IsRefusedTurn, IsTurn, Runs, StopsBehind, made_by}
use Rattle.sc_world.specs.Worlds.{PlainWorld, opened}
use Rattle.sc_refines_world.specs.Belonging.{FramesRunOnOwn, NoTurnIsExcluded, ObjectsAreOfClasses, ReferencesLead, RequestsStandAtTargets}
use Rattle.sc_refines_world.specs.Posting.{WerePosted}
use Rattle.sc_refines_world.specs.Moving.{CreatedBeginWithOne, TurnsMoveRequests, WaitersHaveRequests}
use Rattle.sc_refines_world.specs.Standing.{IsRegionFor, StandsFor, StandsNear}
use Rattle.sc_refines_world.specs.Texts.{FramesAreTyped, FramesKnowTheirTexts}

-- ---- the state that a world represents

-- `h` posted each request that a handler has in `v` but not in `w`. Then `h` held that handler in `w`, or the handler
-- is the next new one.
abbrev pub ComeUnderRight : ℕ → World → World → Type 0
ComeUnderRight h w v = (k : ℕ) (r : Request) → Contains (requests_at (v.handlers k)) r →
    Contains (requests_at (w.handlers k)) r ⊎ ((r.poster ≡ Some h) × ((held w.rights h k ≡ true) ⊎ (k ≡ w.count)))

-- So it is in the next turn of any handler `h`.
abbrev pub PostsUnderRight : ℕ → System → World → Type 0
PostsUnderRight most s w = (h : ℕ) → ComeUnderRight h w (turn most s h w)

-- In a turn of `g` any other handler keeps its answer, gets one as its request ends, or learns that `g` failed.
abbrev pub TurnsAnswer : ℕ → System → World → Type 0
TurnsAnswer most s w = (g k : ℕ) → k < w.count → k ≢ g → AnswerComes s w g k (turn most s g w)

-- The headline's claims about a state, if there may be `most` handlers: under which right a handler posts, and posted
-- each request that is there; how frames, requests and answers come and go; how handlers begin; which handlers hold and wait for which; what belongs
-- to which handler; that names and operands have the types of the text; that values fit; that settled objects meet
-- their class invariants; that in the next turn a body starts only if the clauses of its precondition hold; and that
-- no excluded failure occurs in it.
pub record HasHeadline (most : ℕ) (s : System) (w : World) : Type 0 where
  pub posts_under_right : PostsUnderRight most s w
  pub were_posted : WerePosted most s w
  pub turns_move_requests : TurnsMoveRequests most s w
  pub turns_answer : TurnsAnswer most s w
  pub created_begin_with_one : CreatedBeginWithOne most s w
  pub beyond_is_unused : (k : ℕ) → w.count ≤ k → IsUnused w k
  pub waiters_have_requests : WaitersHaveRequests w
  pub reserved_are_held : ReservedAreHeld w
  pub formals_are_held : FormalsAreHeld w
  pub names_are_held : NamesAreHeld w
  pub targets_are_kept : TargetsAreKept w
  pub chains_hold : ChainsHold w
  pub waiters_are_told : WaitersAreTold w
  pub only_waiters_are_told : OnlyWaitersAreTold w
  pub replies_meet_none : RepliesMeetNone w
  pub callbacks_come_first : CallbacksComeFirst w
  pub objects_are_of_classes : ObjectsAreOfClasses s w
  pub references_lead : ReferencesLead s w
  pub frames_run_on_own : FramesRunOnOwn s w
  pub requests_stand_at_targets : RequestsStandAtTargets s w
  pub frames_know_their_texts : FramesKnowTheirTexts s w
  pub frames_are_typed : FramesAreTyped s w
  pub values_fit : (h : ℕ) (of : Reserved → Option ℕ) (v : Value) (t : EntityType) (may_be_unset : Bool) →
      StandsAs s w h of v t may_be_unset → Fits s h of v t ⊎ ((may_be_unset ≡ true) × IsUnset v t)
  pub non_separate_is_own :
      (h : ℕ) (of : Reserved → Option ℕ) (r : Reference) (t : EntityType) (may_be_unset : Bool) →
      StandsAs s w h of (Attached r) t may_be_unset → t.tag ≡ tag.Own → r.handler ≡ h
  pub settled_objects_meet : SettledObjectsMeet s w
  pub bodies_start_where_clauses_hold : StartsWhereTheyHold s most w
  pub no_turn_is_excluded : NoTurnIsExcluded most s w

-- The headline holds of each state that the machine reaches on an accepted system.
abbrev pub MachineHasHeadline : Type 0
MachineHasHeadline = WhereAccepted λ s root. (most : ℕ) (w : World) → IsReached most s root w → HasHeadline most s w

-- ---- turns one after the other

-- A program's world after turns of any handlers represents the machine's state after turns of the same handlers.
abbrev pub WorldRunsAsMachine : Type 0
WorldRunsAsMachine = WhereAccepted λ s root.
    (p : Image) (v : Version) (hs : List ℕ) (y : PlainWorld) → IsProgramOf s root p → FitsRequests p →
    Runs hs (opened p v) y → StandsFor s p (run (most_handlers v) s hs (opening s root)) y

-- So each world that turns lead to represents a reached state, and the headline holds of that state.
abbrev pub WorldHasHeadline : Type 0
WorldHasHeadline = WhereAccepted λ s root.
    (p : Image) (v : Version) (hs : List ℕ) (y : PlainWorld) → IsProgramOf s root p → FitsRequests p →
    Runs hs (opened p v) y →
    (w : World) × IsReached (most_handlers v) s root w × StandsFor s p w y × HasHeadline (most_handlers v) s w

-- ---- when memory was refused

-- A world that represents a state is near it.
abbrev pub StandingWorldIsNear : Type 0
StandingWorldIsNear = (s : System) (p : Image) (w : World) (x : PlainWorld) → StandsFor s p w x → StandsNear s p w x

-- If a world represents a state, it is near that state after memory was refused to a handler's turn.
abbrev pub RefusedTurnStaysNear : Type 0
RefusedTurnStaysNear =
    (s : System) (p : Image) (h : ℕ) (w : World) (x y : PlainWorld) → StandsFor s p w x → IsRefusedTurn h x y →
    StandsNear s p w y

-- If memory is refused after the first `n` turns of `hs`, a program's world is near the state to which these `n`
-- turns lead the machine.
abbrev pub StoppedWorldStaysNear : Type 0
StoppedWorldStaysNear = WhereAccepted λ s root.
    (p : Image) (v : Version) (n : ℕ) (hs : List ℕ) (y : PlainWorld) → IsProgramOf s root p → FitsRequests p →
    StopsBehind n hs (opened p v) y → StandsNear s p (run (most_handlers v) s (take n hs) (opening s root)) y

-- A world that is near a state reports what the machine reports of that state, and each handler has the
-- same status in both.
abbrev pub WorldReportsAsMachine : Type 0
WorldReportsAsMachine =
    (s : System) (p : Image) (w : World) (x : PlainWorld) → StandsNear s p w x →
    (report x ≡ machine.report w) × (statuses x ≡ map (λ h. machine.status_of h w) (range_with_len 0 w.count))

-- ---- turns that were made or refused

-- Some turns are made, and memory is refused to others. They lead a program's world near the state to which the turns
-- that were made lead the machine.
abbrev pub AttemptsRunAsMachine : Type 0
AttemptsRunAsMachine = WhereAccepted λ s root.
    (p : Image) (v : Version) (ts : List Attempt) (y : PlainWorld) → IsProgramOf s root p → FitsRequests p →
    Attempts ts (opened p v) y → StandsNear s p (run (most_handlers v) s (made_by ts) (opening s root)) y

-- So each world that attempts lead to is near a reached state, and the headline holds of that state.
abbrev pub AttemptsHaveHeadline : Type 0
AttemptsHaveHeadline = WhereAccepted λ s root.
    (p : Image) (v : Version) (ts : List Attempt) (y : PlainWorld) → IsProgramOf s root p → FitsRequests p →
    Attempts ts (opened p v) y →
    (w : World) × IsReached (most_handlers v) s root w × StandsNear s p w y × HasHeadline (most_handlers v) s w

-- After a handler's turn its region represents its part of the state exactly, whatever was refused before.
abbrev pub TurnsStandExactly : Type 0
TurnsStandExactly = WhereAccepted λ s root.
    (p : Image) (v : Version) (ts : List Attempt) (h : ℕ) (j : Job) (x y : PlainWorld) → IsProgramOf s root p →
    FitsRequests p → Attempts ts (opened p v) x → pick_for h x.center ≡ Some j → IsTurn h x y →
    (r : PlainRegion) × (slice_get y.regions h ≡ Some r)
    × IsRegionFor s p h ((run (most_handlers v) s (made_by ts ++ h ∷ []) (opening s root)).handlers h)
    (y.center.state.handlers h).stage r

-- If memory is refused after `n` turns of `hs`, and the rest of `hs` follows then, the world ends near the state to
-- which all of `hs` leads the machine, after the turns that `ts` made.
abbrev pub RestRunsAsMachine : Type 0
RestRunsAsMachine = WhereAccepted λ s root.
    (p : Image) (v : Version) (ts : List Attempt) (n : ℕ) (hs : List ℕ) (x y z : PlainWorld) → IsProgramOf s root p →
    FitsRequests p → Attempts ts (opened p v) x → StopsBehind n hs x y → Runs (drop n hs) y z →
    StandsNear s p (run (most_handlers v) s (made_by ts ++ hs) (opening s root)) z

-- ---- idle worlds

-- If no handler of the world has a job, none has a turn in the machine.
abbrev pub IdleWorldIsIdle : Type 0
IdleWorldIsIdle =
    (s : System) (p : Image) (w : World) (x : PlainWorld) → StandsFor s p w x → next x.center ≡ None →
    machine.some_has_turn w.count w ≡ false
