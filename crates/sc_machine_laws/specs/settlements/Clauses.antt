-- Routines in their own preconditions, and what they may do there.
use Rattle.std.specs.Prelude.{◌≡◌, ◌⊎◌, ◌<◌, ℕ, Bool, true, false, List, [], ◌∷◌, ◌++◌, Option, Some, length, Contains}
use Rattle.std.specs.List.{list_all}
use Rattle.sc_tree.specs.declared.expression.UnaryOperator.{UnaryOperator}
use Rattle.sc_tree.specs.declared.expression.BinaryOperator.{BinaryOperator}
use Rattle.sc_tree.specs.Plain.{System, Clause, Expr}
use Rattle.sc_class.specs.declared.identity.ClassId.TheVariants as class
use Rattle.sc_class.specs.Tables.Conformance.{is_expanded}
use Rattle.sc_class.specs.Tables.Features.{DeclaredFeature, feature_named}
use Rattle.sc_rules.specs.declared.entity_types.entity_type.EntityType.{EntityType}
use Rattle.sc_rules.specs.declared.position.Context.TheVariants as context
use Rattle.sc_rules.specs.declared.position.Position.{Position}
use Rattle.sc_rules.specs.declared.position.Position.TheVariants.{Plain}
use Rattle.sc_rules.specs.Positions.{is_condition}
use Rattle.sc_rules.specs.Names.{RoutineName, Entities, current, formals_known, signature_of, routine_of}
use Rattle.sc_rules.specs.Types.{is_foreign}
use Rattle.sc_rules.specs.Typing.{HasType, typing}
use Rattle.sc_rules.specs.Purity.{IsPurity}
use Rattle.sc_rules.specs.SystemRules.{WellFormed}
use Rattle.sc_class.specs.ClassNames.{Root}
use Rattle.sc_class.specs.Faults.ClassRules.{IsFaultless}
use Rattle.sc_model.specs.Entries.{entry}
use Rattle.sc_model.specs.Environments.{Binding, formals_bound, scope_of}
use Rattle.sc_model.specs.Handlers.{Origin, Frame, World, point_of}
use Rattle.sc_model.specs.Moves.{moves}
use Rattle.sc_model.specs.Objects.{Object}
use Rattle.sc_model.specs.Runs.{IsReached}
use Rattle.sc_model.specs.Routines.{Text, Routine, routine_named, version_of}
use Rattle.sc_model.specs.Steps.{Act, Enters, Requests, Starts, Refuses, Fails, Step, Goes, Does, Point}
use Rattle.sc_model.specs.Tasks.{Task, Eval, ApplyUnary, EvalRight, ApplyBinary, Conclude, CallUnqualified, CallQualified, Require, Required}
use Rattle.sc_model.specs.Values.{Reference, Value, Operand}
use Rattle.sc_machine_laws.specs.states.Fitting.{ActualsFit, coming_to}
use Rattle.sc_machine_laws.specs.states.Points.{Each}
use Rattle.sc_machine_laws.specs.states.Places.{is_routine, of_actuals}
use Rattle.sc_machine_laws.specs.states.ValueSteps.{IsThereIfOwn, StandsSo, ValuesDo}
use Rattle.sc_machine_laws.specs.states.Typed.{context_in, stacked}
use Rattle.sc_machine_laws.specs.settlements.Entries.{HasStarted}

-- The operand is of the type `a`, or both its type and `a` are INTEGER or BOOLEAN.
abbrev pub IsOfType : EntityType → Operand → Type 0
IsOfType a u = (u.type ≡ a) ⊎ ((is_expanded a.class ≡ true) × (is_expanded u.type.class ≡ true))

-- The operands are of the types, one by one.
abbrev pub AreOfTypes : List EntityType → List Operand → Type 0
AreOfTypes [] [] = Unit {0}
AreOfTypes (a ∷ as') (u ∷ us) = IsOfType a u × AreOfTypes as' us
AreOfTypes as' us = ⊥

-- If the feature is a routine, contracts may call it.
abbrev pub IsPureIfRoutine : (RoutineName → Bool) → DeclaredFeature → Option RoutineName → Type 0
IsPureIfRoutine pure f name = name ≡ Some (routine_of f) → pure (routine_of f) ≡ true

-- The first tasks are what is left of clauses of the precondition, and the rules accept each of them. The text is
-- `t`, the names `n` are known, and the values there have these types.
pub data InClauses (s : System) (pure : RoutineName → Bool) (t : Text) (n : Entities) : List Task →
    List EntityType → Type 0 where
  require : {k : List Task} {ks : List Clause} → HasStarted k →
      ((q : Clause) → Contains ks q → (a : EntityType) × (b : Bool)
      × HasType (context_in s pure t) context.Require Plain n q.condition (typing (Some a) b)) →
      InClauses s pure t n (Require ks ∷ k) []
  required : {k : List Task} {q : Clause} {a : EntityType} → InClauses s pure t n k [] →
      InClauses s pure t n (Required q ∷ k) (a ∷ [])
  eval : {k : List Task} {vs : List EntityType} {i : ℕ} {e : Expr} {a : EntityType} {b : Bool} (q : Position) →
      is_condition q ≡ false →
      HasType (context_in s pure t) context.Require q n e (typing (Some a) b) → InClauses s pure t n k (a ∷ vs) →
      InClauses s pure t n (Eval i e ∷ k) vs
  apply_unary : {k : List Task} {vs : List EntityType} {op : UnaryOperator} {a b : EntityType} →
      is_expanded b.class ≡ true →
      InClauses s pure t n k (b ∷ vs) → InClauses s pure t n (ApplyUnary op ∷ k) (a ∷ vs)
  eval_right : {k : List Task} {vs : List EntityType} {op : BinaryOperator} {i : ℕ} {e : Expr} {a b u : EntityType}
      {c : Bool} (q : Position) → is_condition q ≡ false →
      HasType (context_in s pure t) context.Require q n e (typing (Some b) c) → is_expanded u.class ≡ true →
      InClauses s pure t n k (u ∷ vs) → InClauses s pure t n (EvalRight op i e ∷ k) (a ∷ vs)
  apply_binary : {k : List Task} {vs : List EntityType} {op : BinaryOperator} {a b u : EntityType} →
      is_expanded u.class ≡ true →
      InClauses s pure t n k (u ∷ vs) → InClauses s pure t n (ApplyBinary op ∷ k) (b ∷ a ∷ vs)
  conclude : {k : List Task} {vs : List EntityType} {a u : EntityType} → is_expanded u.class ≡ true →
      InClauses s pure t n k (u ∷ vs) → InClauses s pure t n (Conclude ∷ k) (a ∷ vs)
  call_unqualified : {k : List Task} {vs us : List EntityType} (ts : List EntityType) {x : List ℕ} {i : ℕ}
      {f : DeclaredFeature} {a : EntityType} →
      feature_named s (class.Declared t.class) x ≡ Some f → pure (routine_of f) ≡ true →
      (signature_of s (current (context_in s pure t)) f).gives ≡ Some (Some a) → i ≡ length ts → vs ≡ stacked ts us →
      InClauses s pure t n k (a ∷ us) → InClauses s pure t n (CallUnqualified x i ∷ k) vs
  call_qualified : {k : List Task} {vs us : List EntityType} (ts : List EntityType) (a : EntityType) {x : List ℕ}
      {i : ℕ} {f : DeclaredFeature} {b : EntityType} →
      feature_named s a.class x ≡ Some f → IsPureIfRoutine pure f (signature_of s a f).routine →
      (signature_of s a f).gives ≡ Some (Some b) →
      (is_foreign a.tag ≡ true → list_all (λ (u : EntityType). is_expanded u.class) ts ≡ true) → i ≡ length ts →
      vs ≡ stacked ts (a ∷ us) →
      InClauses s pure t n k (b ∷ us) → InClauses s pure t n (CallQualified x i ∷ k) vs

-- The routine is in its precondition, and values of the types `coming` are still to come.
pub record StandsInClauses (s : System) (pure : RoutineName → Bool) (t : Text) (n : Entities) (coming : List EntityType)
    (p : Point) : Type 0 where
  pub types : List EntityType
  pub text_is : p.text ≡ t
  pub names_are : scope_of p.environment ≡ n
  pub left : InClauses s pure t n p.tasks (coming ++ types)
  pub values : AreOfTypes types p.values

-- Contracts may call the version of `x` that the object runs.
abbrev pub RunsPure : System → (RoutineName → Bool) → Reference → List ℕ → Type 0
RunsPure s pure o x = (f : DeclaredFeature) → version_of s o.class x ≡ Some f → pure (routine_of f) ≡ true

-- If that version is a routine, contracts may call it.
abbrev pub RunsPureIfRoutine : System → (RoutineName → Bool) → Reference → List ℕ → Type 0
RunsPureIfRoutine s pure o x =
    (f : DeclaredFeature) → version_of s o.class x ≡ Some f → is_routine f.feature.kind ≡ true →
    pure (routine_of f) ≡ true

-- The routine calls and requests only what contracts may call, and passes no locks with a request. Otherwise it
-- starts, is refused or fails.
abbrev pub ClauseAct : System → (RoutineName → Bool) → Text → Entities → Act → Point → Type 0
ClauseAct s pure t n (Enters c o x us gives) p =
    RunsPure s pure o x × ((a : EntityType) × (gives ≡ Some a) × StandsInClauses s pure t n (a ∷ []) p)
ClauseAct s pure t n (Requests o x us gives passes) p =
    (passes ≡ false) × ((a : EntityType) × (gives ≡ Some a) × StandsInClauses s pure t n (a ∷ []) p)
    × RunsPureIfRoutine s pure o x
ClauseAct s pure t n Starts p = HasStarted p.tasks
ClauseAct s pure t n (Refuses k) p = Unit {0}
ClauseAct s pure t n (Fails why) p = Unit {0}
ClauseAct s pure t n act p = ⊥

abbrev pub ClauseStep : System → (RoutineName → Bool) → Text → Entities → Step → Type 0
ClauseStep s pure t n (Goes p) = StandsInClauses s pure t n [] p
ClauseStep s pure t n (Does a p) = ClauseAct s pure t n a p

-- ---- laws

-- If a routine is in its precondition and its values fit, its next turn is a step of this kind.
abbrev pub ClausesCallPure : Type 0
ClausesCallPure = (s : System) (root : Root) (pure : RoutineName → Bool) → IsFaultless s root → WellFormed s →
    IsPurity s pure → (r : Routine) (me : Reference) →
    routine_named s me.class r.name ≡ Some r → (n : Entities) (p : Point) → StandsSo s pure r me [] p →
    ValuesDo (IsThereIfOwn me.handler p.objects) p →
    StandsInClauses s pure r.contract n [] p → ClauseStep s pure r.contract n (moves s me p)

-- A routine with a precondition begins there, if it is entered with actuals that fit.
abbrev pub ClausesComeFirst : Type 0
ClausesComeFirst = (s : System) (root : Root) (pure : RoutineName → Bool) → IsFaultless s root → WellFormed s →
    IsPurity s pure → (r : Routine) (me : Reference) →
    routine_named s me.class r.name ≡ Some r → (r.require ≡ [] → ⊥) → (vs : List Value) →
    ActualsFit s me.handler r.text.formals (of_actuals vs) r.text.formals vs →
    (bs : List Binding) → formals_bound s r.text.formals 0 r.text.formals vs ≡ Some bs →
    (o : Origin) (objects : List Object) →
    StandsInClauses s pure r.contract (formals_known s r.text.formals) [] (point_of (entry me r o bs) objects)

-- ---- in each state that is reached

-- The routine of the frame has started, or is in its own precondition.
abbrev pub HasStartedOrStands : System → (RoutineName → Bool) → Frame → Type 0
HasStartedOrStands s pure f =
    HasStarted f.tasks ⊎ StandsInClauses s pure f.routine.contract (formals_known s f.routine.text.formals)
    (coming_to f.stage) (point_of f [])

-- This holds of each frame in each state that is reached.
abbrev pub EachStandsInClauses : Type 0
EachStandsInClauses = (s : System) (root : Root) (pure : RoutineName → Bool) → IsFaultless s root → WellFormed s →
    IsPurity s pure → (most : ℕ) (w : World) → IsReached most s root w →
    (h : ℕ) → h < w.count → Each (HasStartedOrStands s pure) (w.handlers h).stack
