-- How frames that evaluate clauses of a precondition, and frames of pure functions, follow the evaluation by its
-- parts.
use Rattle.std.specs.Prelude.{ℕ, ◌≡◌, ◌≢◌, ◌<◌, ◌⊎◌, Bool, true, false, List, [], ◌∷◌, ◌++◌, Option, Some, None, is_some, length, take, Contains}
use Rattle.sc_tree.specs.Plain.{System, Clause}
use Rattle.sc_rules.specs.declared.entity_types.entity_type.EntityType.{EntityType}
use Rattle.sc_rules.specs.Names.{RoutineName}
use Rattle.sc_model.specs.Values.{Reference, Value, Operand, values_of}
use Rattle.sc_model.specs.Environments.{Binding, formals_bound}
use Rattle.sc_model.specs.Objects.{Object}
use Rattle.sc_model.specs.Routines.{Routine, routine_named}
use Rattle.sc_model.specs.Olds.{olds_of_clauses}
use Rattle.sc_model.specs.Tasks.{Task, Do, In, Declare, Forget, Require, Required, keeps_olds, ensures}
use Rattle.sc_model.specs.Steps.{Calling, Point, Act, Enters, Requests, Does}
use Rattle.sc_model.specs.Moves.{step}
use Rattle.sc_model.specs.Entries.{result_of}
use Rattle.sc_model.specs.Clauses.{body_point}
use Rattle.sc_model.specs.Handlers.{Request, Calls, Origin, Called, Requested, Reply, Failed, Refused, Stage, Runs, Reserves, InCall, Awaits, Frame, World, point_of}
use Rattle.sc_machine_laws.specs.states.Headline.{is_awaiting}
use Rattle.sc_machine_laws.specs.states.Points.{Each}
use Rattle.sc_machine_laws.specs.settlements.Calm.{name_of}
use Rattle.sc_machine_laws.specs.settlements.Entries.{HasStarted}
use Rattle.sc_machine_laws.specs.settlements.Clauses.{RunsPureIfRoutine}
use Rattle.sc_machine_laws.specs.Evaluating.{Answers, Reaches, EndsTrue, clause_point, extended}
use Rattle.sc_machine_laws.specs.Texts.{TaskHasNoOld, IsOfContract}

-- ---- objects, handlers that may be asked, and actuals

abbrev pub objects_of : World → ℕ → List Object
objects_of w k = (w.handlers k).objects

-- An evaluation on the handler `h` may ask `k`: `k` is `h` itself or one of `asked`.
abbrev pub MayAsk : ℕ → List ℕ → ℕ → Type 0
MayAsk h asked k = (k ≡ h) ⊎ Contains asked k

-- `k` is the handler `h` itself.
abbrev pub Own : ℕ → ℕ → Type 0
Own h k = k ≡ h

-- the formals of a frame with its actuals: the first names of its environment
abbrev pub bound_in : Frame → List Binding
bound_in f = take (length f.routine.text.formals) f.environment

-- `bs` binds the formals of the routine to some actuals.
abbrev pub AreBound : System → Routine → List Binding → Type 0
AreBound s r bs = (vs : List Value) × (formals_bound s r.text.formals 0 r.text.formals vs ≡ Some bs)

-- ---- the tasks left of a routine

-- the tasks after its body
abbrev pub behind_body : Routine → List Task
behind_body r = Forget (length r.text.formals) ∷ In r.contract ∷ ensures 0 r.ensure

-- the tasks of its body, and those after it
abbrev pub body_tasks : Routine → List Task
body_tasks r = In r.text ∷ Declare r.locals ∷ Do r.body ∷ behind_body r

-- the tasks after a clause of its precondition: the other clauses, the `old`s, the body
abbrev pub behind_clause : Routine → List Clause → List Task
behind_clause r ks = Require ks ∷ keeps_olds (olds_of_clauses r.ensure) ++ body_tasks r

-- ---- points: an evaluation within one text

-- The evaluation that began at `start` has reached `p`. After it, the tasks `ts` are left.
pub record IsAt (s : System) (M : ℕ → Type 0) (O : ℕ → List Object) (me : Reference) (start : Point) (ts : List Task)
    (p : Point) : Type 0 where
  pub at : Point
  pub reaches : Reaches s M O me start at
  pub stands : p ≡ extended p.olds ts at
  pub without_old : Each TaskHasNoOld at.tasks

-- The evaluation that began at `start` has made the call or request `a`. At `p` its value hasn't come yet.
pub record HasDone (s : System) (M : ℕ → Type 0) (O : ℕ → List Object) (me : Reference) (start : Point) (ts : List Task)
    (a : Act) (p : Point) : Type 0 where
  pub before : Point
  pub after : Point
  pub reaches : Reaches s M O me start before
  pub step_is : step s me before ≡ Does a after
  pub stands : p ≡ extended p.olds ts after
  pub without_old : Each TaskHasNoOld after.tasks

-- ---- points: a pure function, with these actuals

abbrev pub start_of : System → (ℕ → List Object) → Reference → Routine → List Binding → Point
start_of s O me r bs = body_point s r (O me.handler) bs

-- At `p` the function is in its precondition or its `old`s, in its body, or after its body.
pub data PureAt (s : System) (O : ℕ → List Object) (me : Reference) (r : Routine) (bs : List Binding) (p : Point) :
    Type 0 where
  before : (ts : List Task) → p.tasks ≡ ts ++ body_tasks r → Each IsOfContract ts → p.environment ≡ bs →
      p.result ≡ result_of r.text.result → PureAt s O me r bs p
  during : IsAt s (Own me.handler) O me (start_of s O me r bs) (behind_body r) p → PureAt s O me r bs p
  behind : {e : Point} → Reaches s (Own me.handler) O me (start_of s O me r bs) e → e.tasks ≡ [] →
      p.result ≡ e.result → Each IsOfContract p.tasks → PureAt s O me r bs p

-- The function is at one of these places, and has made a call on its own handler. If the call is in the body, `For`
-- holds of its object, name and actuals.
pub data PureCalls (s : System) (O : ℕ → List Object) (me : Reference) (r : Routine) (bs : List Binding)
    (t : EntityType) (For : Reference → List ℕ → List Operand → Type 0) (p : Point) : Type 0 where
  before : (ts : List Task) → p.tasks ≡ ts ++ body_tasks r → Each IsOfContract ts → p.environment ≡ bs →
      p.result ≡ result_of r.text.result → PureCalls s O me r bs t For p
  during : {c : Calling} {o : Reference} {x : List ℕ} {us : List Operand} → o.handler ≡ me.handler →
      HasDone s (Own me.handler) O me (start_of s O me r bs) (behind_body r) (Enters c o x us (Some t)) p →
      For o x us → PureCalls s O me r bs t For p
  behind : {e : Point} → Reaches s (Own me.handler) O me (start_of s O me r bs) e → e.tasks ≡ [] →
      p.result ≡ e.result → Each IsOfContract p.tasks → PureCalls s O me r bs t For p

-- ---- points: a precondition

-- the point of the routine before the evaluation of its clause `k`, with the actuals `bs`
abbrev pub clause_of : (ℕ → List Object) → Reference → Routine → List Binding → Clause → Point
clause_of O me r bs k = clause_point (O me.handler) r.contract bs (result_of r.text.result) k

-- the point between clauses of the precondition, with the clauses `ks` left
abbrev pub between_point : (ℕ → List Object) → Reference → Routine → List Binding → List Clause → Point
between_point O me r bs ks = record {
  objects = O me.handler;
  text = r.contract;
  environment = bs;
  result = result_of r.text.result;
  olds = [];
  tasks = behind_clause r ks;
  values = [];
}

-- The evaluation of each of these clauses ends with true.
abbrev pub Hold : System → (ℕ → Type 0) → (ℕ → List Object) → Reference → Routine → List Binding → List Clause →
    Type 0
Hold s M O me r bs ks = Each (λ (k : Clause). EndsTrue s M O me (clause_of O me r bs k)) ks

-- Some clauses hold. At `p` the routine is before the other clauses, or inside the next one.
pub data ClausesAt (s : System) (M : ℕ → Type 0) (O : ℕ → List Object) (me : Reference) (r : Routine)
    (bs : List Binding) (p : Point) : Type 0 where
  between : (done ks : List Clause) → r.require ≡ done ++ ks → Hold s M O me r bs done →
      p ≡ between_point O me r bs ks → ClausesAt s M O me r bs p
  inside : (done ks : List Clause) (k : Clause) → r.require ≡ done ++ k ∷ ks → Hold s M O me r bs done → p.olds ≡ [] →
      IsAt s M O me (clause_of O me r bs k) (Required k ∷ behind_clause r ks) p → ClausesAt s M O me r bs p

-- Inside a clause the routine has made the call or request `a`.
pub data ClauseDone (s : System) (M : ℕ → Type 0) (O : ℕ → List Object) (me : Reference) (r : Routine)
    (bs : List Binding) (a : Act) (p : Point) : Type 0 where
  inside : (done ks : List Clause) (k : Clause) → r.require ≡ done ++ k ∷ ks → Hold s M O me r bs done → p.olds ≡ [] →
      HasDone s M O me (clause_of O me r bs k) (Required k ∷ behind_clause r ks) a p → ClauseDone s M O me r bs a p

-- ---- frames

-- The frame runs the routine of the object `o` with the name `x`, with the actuals `vs`.
pub record IsFor (s : System) (o : Reference) (x : List ℕ) (vs : List Value) (c : Frame) : Type 0 where
  pub current_is : c.current ≡ o
  pub routine_is : routine_named s o.class x ≡ Some c.routine
  pub bound_is : formals_bound s c.routine.text.formals 0 c.routine.text.formals vs ≡ Some (bound_in c)

-- There is a frame above, and it is for this call.
abbrev pub AboveIsFor : System → Option Frame → Reference → List ℕ → List Operand → Type 0
AboveIsFor s None o x us = ⊥
AboveIsFor s (Some c) o x us = IsFor s o x (values_of us) c

-- The frame of a pure function, in this stage and below the frame `above`, follows its evaluation.
abbrev pub FollowsPure : System → (ℕ → List Object) → Option Frame → Frame → Stage → Type 0
FollowsPure s O above f Runs = PureAt s O f.current f.routine (bound_in f) (point_of f (O f.current.handler))
FollowsPure s O above f (InCall (Some t)) =
    PureCalls s O f.current f.routine (bound_in f) t (AboveIsFor s above) (point_of f (O f.current.handler))
FollowsPure s O above f stage = ⊥

-- ---- other handlers

-- The handler `k` doesn't change as long as `h` asks nothing of it: `k` has failed; or it has nothing to do and
-- only `h` may post to it; or it waits and only `h` may call it back.
pub data IsQuiet (w : World) (h k : ℕ) : Type 0 where
  failed : is_some (w.handlers k).failure ≡ true → IsQuiet w h k
  idle : (w.handlers k).stack ≡ [] → (w.handlers k).queue ≡ [] → w.rights.queue k ≡ Some h → IsQuiet w h k
  waiting : w.rights.top k ≡ Some h → IsQuiet w h k

abbrev pub is_called : Origin → Bool
is_called (Called c) = true
is_called (Requested r) = false

-- The frame runs a pure function, and a call on its own handler began it, not a request.
abbrev pub IsCalledPure : (RoutineName → Bool) → Frame → Type 0
IsCalledPure pure f = (is_called f.origin ≡ true) × (pure (name_of f.routine) ≡ true)

-- the request of `h` for a clause
abbrev pub clause_request : ℕ → Reference → List ℕ → List Operand → Request
clause_request h o x us =
    record { poster = Some h; target = o; errand = Calls x; actuals = values_of us; is_waited = true; passed = None }

-- The request of `h` for a clause is at its target: in the queue, as the callback, or in a frame. If `h` has asked
-- the target before, the target does nothing else until the request ends.
pub data RequestStands (s : System) (pure : RoutineName → Bool) (w : World) (h : ℕ) (asked : List ℕ) (o : Reference)
    (x : List ℕ) (us : List Operand) : Type 0 where
  queued : (qs : List Request) → (w.handlers o.handler).queue ≡ qs ++ clause_request h o x us ∷ [] →
      w.rights.queue o.handler ≡ Some h →
      (Contains asked o.handler → (qs ≡ []) × ((w.handlers o.handler).stack ≡ [])) →
      RequestStands s pure w h asked o x us
  called_back : (w.handlers o.handler).callback ≡ Some (clause_request h o x us) → w.rights.top o.handler ≡ Some h →
      RequestStands s pure w h asked o x us
  runs : (fs below : List Frame) (c : Frame) → (w.handlers o.handler).stack ≡ fs ++ c ∷ below →
      Each (IsCalledPure pure) fs → pure (name_of c.routine) ≡ true →
      c.origin ≡ Requested (clause_request h o x us) → IsFor s o x (values_of us) c →
      ((below ≡ []) × ((w.handlers o.handler).queue ≡ []) × (w.rights.queue o.handler ≡ Some h))
      ⊎ (w.rights.top o.handler ≡ Some h) →
      RequestStands s pure w h asked o x us

-- A frame of `h` has asked for `x` of `o` and waits, and nothing has failed: the request is at its target, or the
-- value has come.
pub data IsPending (s : System) (pure : RoutineName → Bool) (w : World) (h : ℕ) (asked : List ℕ) (o : Reference)
    (x : List ℕ) (us : List Operand) : Type 0 where
  stands : (w.handlers h).answer ≡ None → RequestStands s pure w h asked o x us → IsPending s pure w h asked o x us
  replied : {v : Value} → (w.handlers h).answer ≡ Some (Reply (Some v)) →
      Answers s (Own o.handler) (objects_of w) o x us v → IsQuiet w h o.handler → IsPending s pure w h asked o x us

-- ---- a routine in its precondition

-- The frame, in this stage, follows the evaluation of its clauses, and has asked the handlers `asked`.
abbrev pub StandsByStage : System → (RoutineName → Bool) → World → ℕ → List ℕ → Option Frame → Frame → Stage → Type 0
StandsByStage s pure w h asked above f Runs =
    ClausesAt s (MayAsk h asked) (objects_of w) f.current f.routine (bound_in f) (point_of f (w.handlers h).objects)
StandsByStage s pure w h asked above f Reserves =
    (asked ≡ []) × (point_of f (w.handlers h).objects
    ≡ between_point (objects_of w) f.current f.routine (bound_in f) f.routine.require)
StandsByStage s pure w h asked above f (InCall (Some t)) =
    (c : Calling) × (o : Reference) × (x : List ℕ) × (us : List Operand)
    × ClauseDone s (MayAsk h asked) (objects_of w) f.current f.routine (bound_in f) (Enters c o x us (Some t))
    (point_of f (w.handlers h).objects)
    × (o.handler ≡ h) × AboveIsFor s above o x us
StandsByStage s pure w h asked above f (Awaits k (Some t) false) =
    (o : Reference) × (x : List ℕ) × (us : List Operand)
    × ClauseDone s (MayAsk h asked) (objects_of w) f.current f.routine (bound_in f) (Requests o x us (Some t) false)
    (point_of f (w.handlers h).objects)
    × (o.handler ≡ k) × (k ≢ h) × (above ≡ None) × RunsPureIfRoutine s pure o x × IsPending s pure w h asked o x us
StandsByStage s pure w h asked above f stage = ⊥

-- A frame in this stage waits for `k`.
abbrev pub AwaitsOf : Stage → ℕ → Type 0
AwaitsOf (Awaits j gives is_creation) k = j ≡ k
AwaitsOf stage k = ⊥

-- The routine is in its precondition. It has asked other handlers only, and each is quiet, except the one that it
-- waits for. Only its actuals are bound in it.
pub record InPrecondition (s : System) (pure : RoutineName → Bool) (w : World) (h : ℕ) (above : Option Frame)
    (f : Frame) : Type 0 where
  pub asked : List ℕ
  pub quiet : (k : ℕ) → Contains asked k → (k ≢ h) × (IsQuiet w h k ⊎ AwaitsOf f.stage k)
  pub environment_is : f.environment ≡ bound_in f
  pub stands : StandsByStage s pure w h asked above f f.stage

-- The frame waits for an answer, and a failure or a refusal has come: its handler fails in its next turn.
abbrev pub IsLost : World → ℕ → Frame → Type 0
IsLost w h f =
    (is_awaiting f.stage ≡ true) × (((w.handlers h).answer ≡ Some Failed) ⊎ ((w.handlers h).answer ≡ Some Refused))

-- ---- stacks and worlds

-- The frame above, if there is one, runs a pure function that was called on the same handler.
abbrev pub AboveIsPure : (RoutineName → Bool) → Option Frame → Type 0
AboveIsPure pure None = Unit {0}
AboveIsPure pure (Some g) = IsCalledPure pure g

-- The frame follows the evaluation by its parts: its precondition is done, or the frame is lost, or it is in its
-- precondition. If it runs a pure function, it follows the evaluation of that function.
pub record FrameFollows (s : System) (pure : RoutineName → Bool) (w : World) (h : ℕ) (above : Option Frame)
    (f : Frame) : Type 0 where
  pub in_precondition : HasStarted f.tasks
      ⊎ (IsLost w h f ⊎ (AboveIsPure pure above × InPrecondition s pure w h above f))
  pub in_pure : pure (name_of f.routine) ≡ true →
      AboveIsPure pure above × FollowsPure s (objects_of w) above f f.stage
  pub is_bound : pure (name_of f.routine) ≡ true → AreBound s f.routine (bound_in f)
  pub reserves_nothing : pure (name_of f.routine) ≡ true → f.reserved ≡ []

-- Each frame of the stack, which lies below the frame `above`, follows the evaluation.
abbrev pub StackFollows : System → (RoutineName → Bool) → World → ℕ → Option Frame → List Frame → Type 0
StackFollows s pure w h above [] = Unit {0}
StackFollows s pure w h above (f ∷ below) = FrameFollows s pure w h above f × StackFollows s pure w h (Some f) below

-- Each frame of each handler that hasn't failed follows the evaluation.
abbrev pub WorldFollows : System → (RoutineName → Bool) → World → Type 0
WorldFollows s pure w = (h : ℕ) → h < w.count → (w.handlers h).failure ≡ None →
    StackFollows s pure w h None (w.handlers h).stack
