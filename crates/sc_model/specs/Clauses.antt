-- When a clause holds: evaluated over the objects of all handlers at once, with the bodies of functions and without
-- their contracts, it is true.
use Rattle.std.specs.Prelude.{ℕ, zero, suc, ◌≡◌, true, List, [], ◌∷◌, Option, Some, None, if◌then◌else◌}
use Rattle.sc_tree.specs.Plain as tree
use Rattle.sc_tree.specs.Plain.{System, Clause, FeatureKind}
use Rattle.sc_class.specs.Tables.Features.{DeclaredFeature}
use Rattle.sc_rules.specs.declared.entity_types.entity_type.EntityType.{EntityType}
use Rattle.sc_model.specs.Values.{Reference, Value, Boolean, Operand, operand, values_of}
use Rattle.sc_model.specs.Environments.{Binding, binding_named, formals_bound}
use Rattle.sc_model.specs.Objects.{Object, object_numbered}
use Rattle.sc_model.specs.Routines.{Routine, version_of, routine_of}
use Rattle.sc_model.specs.Tasks.{Declare, Do, Eval}
use Rattle.sc_model.specs.Steps.{Point, Act, Until, Enters, Requests, Exits, Step, Goes, Does}
use Rattle.sc_model.specs.Moves.{step}
use Rattle.sc_model.specs.Handlers.{Frame, World, point_of}
use Rattle.sc_model.specs.Entries.{result_of}
use Rattle.sc_model.specs.Exits.{is_unset_value}

-- A text on an object, in the middle of its evaluation. The call that it waits for gives a value of this type.
pub record Evaluation : Type 0 where
  pub current : Reference
  pub point : Point
  pub gives : Option EntityType

-- The state of an evaluation: it goes on, over those of its callers, or it ends with a value, or has none.
pub data EvaluationState : Type 0 where
  Further : (top : Evaluation) (callers : List Evaluation) → EvaluationState
  Comes : (value : Value) → EvaluationState
  Sticks : EvaluationState

-- ---- the end of an evaluation

abbrev pub last_value : List Operand → EvaluationState
last_value [] = Sticks
last_value (u ∷ us) = Comes u.value

-- a value for the caller, that its call gives as one of this type
abbrev pub goes_to : Option EntityType → Value → Evaluation → List Evaluation → EvaluationState
goes_to None v e callers = Sticks
goes_to (Some t) v e callers =
    Further (record e { point = record e.point { values = operand v t ∷ e.point.values } }) callers

-- a function returns its Result, unless that is unset
abbrev pub returns : Option Operand → Evaluation → List Evaluation → EvaluationState
returns None e callers = Sticks
returns (Some u) e callers = if is_unset_value u.value u.type then Sticks else goes_to e.gives u.value e callers

-- the clause itself has its value
abbrev pub ends : Point → List Evaluation → EvaluationState
ends p [] = last_value p.values
ends p (e ∷ callers) = returns p.result e callers

-- ---- a call

-- the body of a function, without its contract
abbrev pub body_point : System → Routine → List Object → List Binding → Point
body_point s q objects bs =
    record {
      objects = objects;
      text = q.text;
      environment = bs;
      result = result_of q.text.result;
      olds = [];
      tasks = Declare q.locals ∷ Do q.body ∷ [];
      values = [];
    }

abbrev pub evaluates_bound : System → Reference → Routine → List Object → List Evaluation → Option (List Binding) →
    EvaluationState
evaluates_bound s r q objects callers None = Sticks
evaluates_bound s r q objects callers (Some bs) =
    Further (record { current = r; point = body_point s q objects bs; gives = None }) callers

abbrev pub evaluates_routine : System → Reference → List Operand → List Object → List Evaluation → Option Routine →
    EvaluationState
evaluates_routine s r us objects callers None = Sticks
evaluates_routine s r us objects callers (Some q) =
    evaluates_bound s r q objects callers (formals_bound s q.text.formals 0 q.text.formals (values_of us))

-- an attribute gives its value, unless that is unset
abbrev pub gives_attribute : Option EntityType → Option Binding → Evaluation → List Evaluation → EvaluationState
gives_attribute (Some t) (Some b) e callers =
    if is_unset_value b.value b.type then Sticks else goes_to (Some t) b.value e callers
gives_attribute gives b e callers = Sticks

abbrev pub calls_kind : System → Reference → List ℕ → List Operand → List Object → Object → DeclaredFeature →
    FeatureKind → Evaluation → List Evaluation → EvaluationState
calls_kind s r x us objects o f (tree.Attribute d) e callers =
    gives_attribute e.gives (binding_named x o.attributes) e callers
calls_kind s r x us objects o f (tree.Routine c) e callers =
    evaluates_routine s r us objects (e ∷ callers) (routine_of s f)

-- the object's version of the feature, on its handler's objects
abbrev pub calls : System → Reference → List ℕ → List Operand → List Object → Option Object → Option DeclaredFeature →
    Evaluation → List Evaluation → EvaluationState
calls s r x us objects (Some o) (Some f) e callers = calls_kind s r x us objects o f f.feature.kind e callers
calls s r x us objects o f e callers = Sticks

abbrev pub call_of : System → World → Reference → List ℕ → List Operand → Evaluation → List Evaluation → EvaluationState
call_of s w r x us e callers =
    let objects : List Object = (w.handlers r.handler).objects
    in calls s r x us objects (object_numbered r.number objects) (version_of s r.class x) e callers

-- ---- evaluation

-- The steps are those of a turn, except that a call is made at once, on whatever handler. A clause has nothing else
-- that is visible.
abbrev pub acts : System → World → Reference → Act → Point → List Evaluation → EvaluationState
acts s w me (Enters c r x us gives) p callers =
    call_of s w r x us (record { current = me; point = p; gives = gives }) callers
acts s w me (Requests r x us gives passing) p callers =
    call_of s w r x us (record { current = me; point = p; gives = gives }) callers
acts s w me Until p callers = Further (record { current = me; point = p; gives = None }) callers
acts s w me Exits p callers = ends p callers
acts s w me other p callers = Sticks

abbrev pub after_step : System → World → Reference → Step → List Evaluation → EvaluationState
after_step s w me (Goes p) callers = Further (record { current = me; point = p; gives = None }) callers
after_step s w me (Does a p) callers = acts s w me a p callers

abbrev pub next : System → World → EvaluationState → EvaluationState
next s w (Further e callers) = after_step s w e.current (step s e.current e.point) callers
next s w (Comes v) = Comes v
next s w Sticks = Sticks

abbrev pub after : ℕ → System → World → EvaluationState → EvaluationState
after zero s w o = o
after (suc n) s w o = after n s w (next s w o)

-- a clause of the frame's contract before its evaluation, on its handler's objects; `old`s are there
abbrev pub begun : World → Frame → Clause → EvaluationState
begun w f k = Further (record {
  current = f.current;
  point = record (point_of f (w.handlers f.current.handler).objects) {
    text = f.routine.contract;
    tasks = Eval 0 k.condition ∷ [];
    values = [];
  };
  gives = None;
}) []

-- The clause holds in the world for the frame.
pub record Holds (s : System) (w : World) (f : Frame) (k : Clause) : Type 0 where
  pub steps : ℕ
  pub is_true : after steps s w (begun w f k) ≡ Comes (Boolean true)
