-- What the moves of a turn make of a point that follows the evaluation by its parts.
use Rattle.std.specs.Prelude.{ℕ, ◌≡◌, ◌<◌, Bool, true, false, List, [], ◌∷◌, ◌++◌, Some, None, length, take}
use Rattle.sc_tree.specs.Plain.{System}
use Rattle.sc_class.specs.ClassNames.{Root}
use Rattle.sc_class.specs.Faults.ClassRules.{IsFaultless}
use Rattle.sc_rules.specs.declared.entity_types.entity_type.EntityType.{EntityType}
use Rattle.sc_rules.specs.Names.{RoutineName}
use Rattle.sc_rules.specs.Purity.{IsPurity}
use Rattle.sc_rules.specs.SystemRules.{WellFormed}
use Rattle.sc_model.specs.Entries.{entry, result_of}
use Rattle.sc_model.specs.Environments.{Binding, formals_bound}
use Rattle.sc_model.specs.Exits.{is_unset_value}
use Rattle.sc_model.specs.Handlers.{Origin, Runs, Frame, World, point_of}
use Rattle.sc_model.specs.Moves.{moves}
use Rattle.sc_model.specs.Objects.{Object, object_numbered}
use Rattle.sc_model.specs.Olds.{olds_of_clauses}
use Rattle.sc_model.specs.Routines.{Routine, routine_named}
use Rattle.sc_model.specs.Runs.{IsReached}
use Rattle.sc_model.specs.Steps.{Calling, Point, Act, Until, Enters, Requests, Starts, Refuses, Exits, Fails, Step, Goes, Does}
use Rattle.sc_model.specs.Tasks.{keeps_olds}
use Rattle.sc_model.specs.Values.{Reference, Value, Operand, operand, values_of}
use Rattle.sc_machine_laws.specs.settlements.Calm.{name_of}
use Rattle.sc_machine_laws.specs.settlements.Clauses.{RunsPure, RunsPureIfRoutine}
use Rattle.sc_machine_laws.specs.settlements.Entries.{HasStarted}
use Rattle.sc_machine_laws.specs.Evaluating.{Answers, Reaches}
use Rattle.sc_machine_laws.specs.Following.{objects_of, Own, AreBound, bound_in, body_tasks, start_of, PureAt, PureCalls, between_point, Hold, ClausesAt, ClauseDone}

-- ---- a precondition

-- the point after its precondition, before its `old`s
abbrev pub started_point : (ℕ → List Object) → Reference → Routine → List Binding → Point
started_point O me r bs = record {
  objects = O me.handler;
  text = r.contract;
  environment = bs;
  result = result_of r.text.result;
  olds = [];
  tasks = keeps_olds (olds_of_clauses r.ensure) ++ body_tasks r;
  values = [];
}

-- The point is in the contract of the routine, with the actuals `bs`. Only the tasks and the values may have
-- changed since the entry.
pub record InContract (O : ℕ → List Object) (me : Reference) (r : Routine) (bs : List Binding) (p : Point) :
    Type 0 where
  pub objects_are : p.objects ≡ O me.handler
  pub text_is : p.text ≡ r.contract
  pub environment_is : p.environment ≡ bs
  pub result_is : p.result ≡ result_of r.text.result
  pub olds_are : p.olds ≡ []

module _ (s : System) (pure : RoutineName → Bool) (M : ℕ → Type 0) (O : ℕ → List Object) (me : Reference)
    (r : Routine) (bs : List Binding) where
  -- A routine in its precondition may do the act, and is then at the point.
  abbrev pub ClauseActs : Act → Point → Type 0
  ClauseActs (Enters c o x us g) q = (t : EntityType) × (g ≡ Some t) × (o.handler ≡ me.handler) × RunsPure s pure o x
      × ClauseDone s M O me r bs (Enters c o x us (Some t)) q × InContract O me r bs q
  ClauseActs (Requests o x us g passing) q = (t : EntityType) × (g ≡ Some t) × (passing ≡ false)
      × RunsPureIfRoutine s pure o x
      × ClauseDone s M O me r bs (Requests o x us (Some t) false) q × InContract O me r bs q
  ClauseActs Starts q = Hold s M O me r bs r.require × HasStarted q.tasks × (q ≡ started_point O me r bs)
  ClauseActs (Refuses k) q = InContract O me r bs q
  ClauseActs (Fails why) q = Unit {0}
  ClauseActs act q = ⊥

  -- In the step the routine goes on in its precondition, or does one of these acts.
  abbrev pub ClauseSteps : Step → Type 0
  ClauseSteps (Goes q) = ClausesAt s M O me r bs q × InContract O me r bs q
  ClauseSteps (Does a q) = ClauseActs a q

-- In this turn of the handler `h` its topmost frame goes on.
pub record GoesOn (w : World) (h : ℕ) (f : Frame) (below : List Frame) : Type 0 where
  pub is_there : h < w.count
  pub lives : (w.handlers h).failure ≡ None
  pub stack_is : (w.handlers h).stack ≡ f ∷ below
  pub runs : f.stage ≡ Runs

-- In a state that is reached, the moves of a frame in its precondition make a step of this kind.
abbrev pub ClauseMoves : Type 1
ClauseMoves = (s : System) (root : Root) (pure : RoutineName → Bool) → IsFaultless s root → WellFormed s →
    IsPurity s pure → (most : ℕ) (w : World) → IsReached most s root w →
    (h : ℕ) (f : Frame) (below : List Frame) → GoesOn w h f below →
    (M : ℕ → Type 0) (bs : List Binding) →
    ClausesAt s M (objects_of w) f.current f.routine bs (point_of f (w.handlers h).objects) →
    ClauseSteps s pure M (objects_of w) f.current f.routine bs (moves s f.current (point_of f (w.handlers h).objects))

-- A routine that has made a call inside a clause goes on with the value of the call.
abbrev pub ClauseGoesOn : Type 1
ClauseGoesOn = (s : System) (M : ℕ → Type 0) (O : ℕ → List Object) (me : Reference) (r : Routine) (bs : List Binding)
    (p : Point) (c : Calling) (o : Reference) (x : List ℕ) (us : List Operand) (t : EntityType) (v : Value) →
    ClauseDone s M O me r bs (Enters c o x us (Some t)) p → Answers s M O o x us v →
    ClausesAt s M O me r bs (record p { values = operand v t ∷ p.values })

-- A routine that has made a request inside a clause goes on with the value of the request.
abbrev pub ClauseGoesOnAnswered : Type 1
ClauseGoesOnAnswered = (s : System) (M : ℕ → Type 0) (O : ℕ → List Object) (me : Reference) (r : Routine)
    (bs : List Binding) (p : Point) (o : Reference) (x : List ℕ) (us : List Operand) (t : EntityType) (passing : Bool)
    (v : Value) →
    ClauseDone s M O me r bs (Requests o x us (Some t) passing) p → Answers s M O o x us v →
    ClausesAt s M O me r bs (record p { values = operand v t ∷ p.values })

-- ---- a pure function

-- The point has the objects of the handler, and its formals are bound to `bs`.
pub record KeepsActuals (O : ℕ → List Object) (me : Reference) (r : Routine) (bs : List Binding) (p : Point) :
    Type 0 where
  pub objects_are : p.objects ≡ O me.handler
  pub bound_are : take (length r.text.formals) p.environment ≡ bs

-- The evaluation of the function's body has ended, and its Result is that of `p`.
pub record HasRun (s : System) (O : ℕ → List Object) (me : Reference) (r : Routine) (bs : List Binding) (p : Point) :
    Type 0 where
  pub end : Point
  pub reaches : Reaches s (Own me.handler) O me (start_of s O me r bs) end
  pub tasks_are : end.tasks ≡ []
  pub result_is : p.result ≡ end.result

-- The object, the name and the actuals are `o`, `x` and `us`.
abbrev pub IsThisCall : Reference → List ℕ → List Operand → Reference → List ℕ → List Operand → Type 0
IsThisCall o x us p y vs = (p ≡ o) × (y ≡ x) × (vs ≡ us)

module _ (s : System) (pure : RoutineName → Bool) (O : ℕ → List Object) (me : Reference) (r : Routine)
    (bs : List Binding) where
  -- A pure function may do the act, and is then at the point.
  abbrev pub PureActs : Act → Point → Type 0
  PureActs (Enters c o x us g) q = (t : EntityType) × (g ≡ Some t) × (o.handler ≡ me.handler) × RunsPure s pure o x
      × PureCalls s O me r bs t (IsThisCall o x us) q × KeepsActuals O me r bs q
  PureActs Until q = PureAt s O me r bs q × KeepsActuals O me r bs q
  PureActs Starts q = PureAt s O me r bs q × KeepsActuals O me r bs q
  PureActs Exits q = HasRun s O me r bs q × ((u : Operand) × (q.result ≡ Some u)) × KeepsActuals O me r bs q
  PureActs (Refuses k) q = KeepsActuals O me r bs q
  PureActs (Fails why) q = Unit {0}
  PureActs act q = ⊥

  -- In the step the function goes on as its evaluation does, or does one of these acts.
  abbrev pub PureSteps : Step → Type 0
  PureSteps (Goes q) = PureAt s O me r bs q × KeepsActuals O me r bs q
  PureSteps (Does a q) = PureActs a q

-- In a state that is reached, the moves of a frame that runs a pure function make a step of this kind.
abbrev pub PureMoves : Type 0
PureMoves = (s : System) (root : Root) (pure : RoutineName → Bool) → IsFaultless s root → WellFormed s →
    IsPurity s pure → (most : ℕ) (w : World) → IsReached most s root w →
    (h : ℕ) (f : Frame) (below : List Frame) → GoesOn w h f below →
    pure (name_of f.routine) ≡ true → AreBound s f.routine (bound_in f) →
    PureAt s (objects_of w) f.current f.routine (bound_in f) (point_of f (w.handlers h).objects) →
    PureSteps s pure (objects_of w) f.current f.routine (bound_in f)
    (moves s f.current (point_of f (w.handlers h).objects))

-- The condition on the call, `For`, may be replaced by a condition that follows from it, `Such`.
abbrev pub PureCallsMore : Type 1
PureCallsMore = (s : System) (O : ℕ → List Object) (me : Reference) (r : Routine) (bs : List Binding) (p : Point)
    (t : EntityType) (For Such : Reference → List ℕ → List Operand → Type 0) →
    ((o : Reference) (x : List ℕ) (us : List Operand) → For o x us → Such o x us) →
    PureCalls s O me r bs t For p → PureCalls s O me r bs t Such p

-- A pure function that has made a call goes on with the value of the call.
abbrev pub PureGoesOn : Type 1
PureGoesOn = (s : System) (O : ℕ → List Object) (me : Reference) (r : Routine) (bs : List Binding) (p : Point)
    (t : EntityType) (For : Reference → List ℕ → List Operand → Type 0) (v : Value) →
    PureCalls s O me r bs t For p →
    ((o : Reference) (x : List ℕ) (us : List Operand) → For o x us → Answers s (Own me.handler) O o x us v) →
    PureAt s O me r bs (record p { values = operand v t ∷ p.values })

-- When a function has run, its Result is the value of the call.
abbrev pub PureAnswers : Type 0
PureAnswers = (s : System) (O : ℕ → List Object) (o : Reference) (x : List ℕ) (us : List Operand) (r : Routine)
    (bs : List Binding) (b : Object) (p : Point) (u : Operand) → routine_named s o.class x ≡ Some r →
    object_numbered o.number (O o.handler) ≡ Some b →
    formals_bound s r.text.formals 0 r.text.formals (values_of us) ≡ Some bs → HasRun s O o r bs p → p.result ≡ Some u →
    is_unset_value u.value u.type ≡ false → Answers s (Own o.handler) O o x us u.value

-- ---- entries

-- A routine begins before its body, and its actuals are bound in it.
abbrev pub EntryFollows : Type 0
EntryFollows = (s : System) (root : Root) → IsFaultless s root → WellFormed s → (O : ℕ → List Object)
    (me : Reference) (x : List ℕ) (r : Routine) → routine_named s me.class x ≡ Some r →
    (bs : List Binding) → AreBound s r bs → (o : Origin) →
    PureAt s O me r bs (point_of (entry me r o bs) (O me.handler)) × (bound_in (entry me r o bs) ≡ bs)

-- A routine that has a precondition begins before its clauses.
abbrev pub EntryIsBetween : Type 0
EntryIsBetween = (O : ℕ → List Object) (me : Reference) (r : Routine) (bs : List Binding) (o : Origin) →
    (r.require ≡ [] → ⊥) → point_of (entry me r o bs) (O me.handler) ≡ between_point O me r bs r.require
