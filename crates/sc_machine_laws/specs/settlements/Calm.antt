-- Functions that contracts may call (pure functions): the points of their runs, and what they do there.
use Rattle.std.specs.Prelude.{◌≡◌, ◌⊎◌, ◌<◌, ℕ, Bool, true, false, List, [], ◌∷◌, ◌++◌, Option, Some, length, Contains}
use Rattle.sc_tree.specs.declared.expression.UnaryOperator.{UnaryOperator}
use Rattle.sc_tree.specs.declared.expression.BinaryOperator.{BinaryOperator}
use Rattle.sc_tree.specs.Plain.{System, Clause, Declaration, DeclaredType, Expr, Instrs, Branches, Variable, Loop}
use Rattle.sc_text.specs.declared.token.Span.{Span}
use Rattle.sc_class.specs.ClassNames.{Root}
use Rattle.sc_class.specs.Faults.ClassRules.{IsFaultless}
use Rattle.sc_class.specs.declared.identity.ClassId.TheVariants as class
use Rattle.sc_class.specs.Tables.Features.{DeclaredFeature, feature_named}
use Rattle.sc_rules.specs.declared.entity_types.entity_type.EntityType.{EntityType}
use Rattle.sc_rules.specs.entity_types.Conformance.{boolean}
use Rattle.sc_rules.specs.declared.position.Context.{Context}
use Rattle.sc_rules.specs.declared.position.Context.TheVariants as context
use Rattle.sc_rules.specs.declared.position.Position.{Position}
use Rattle.sc_rules.specs.declared.position.Position.TheVariants.{Plain, Condition}
use Rattle.sc_rules.specs.declared.position.Role.TheVariants as role
use Rattle.sc_rules.specs.Positions.{is_and_then, is_condition, wants_pure}
use Rattle.sc_rules.specs.Names.{RoutineName, Entities, blocks, current, entity, formals_known, locals_known, signature_of, routine_of, test_type}
use Rattle.sc_rules.specs.Laws.{are_declared}
use Rattle.sc_rules.specs.Sites.{Site, Within, branches, expression, instruction, instructions}
use Rattle.sc_rules.specs.Purity.{IsPurity}
use Rattle.sc_rules.specs.SystemLaws.{Stands}
use Rattle.sc_rules.specs.SystemRules.{WellFormed}
use Rattle.sc_rules.specs.Types.{binary_type, is_foreign, unary_type}
use Rattle.sc_rules.specs.Typing.{Gives, HasType, typing}
use Rattle.sc_model.specs.Environments.{scope_of}
use Rattle.sc_model.specs.Handlers.{Frame, Runs, World, point_of}
use Rattle.sc_model.specs.Moves.{moves}
use Rattle.sc_model.specs.Routines.{Routine, Text, place_in, routine_named}
use Rattle.sc_model.specs.Runs.{IsReached}
use Rattle.sc_model.specs.Steps.{Act, Enters, Starts, Until, Refuses, Exits, Fails, Step, Goes, Does, Point}
use Rattle.sc_model.specs.Tasks.{Task, ApplyBinary, ApplyUnary, AssignTo, Bind, CallQualified, CallUnqualified, Checked, Choose, Conclude, Declare, Do, EndLoop, Ensured, Eval, EvalRight, Forget, In, KeepOld, Repeat, Require, Required, tasks_of}
use Rattle.sc_model.specs.Values.{Boolean, Operand, Reference}
use Rattle.sc_machine_laws.specs.states.Points.{types_of}
use Rattle.sc_machine_laws.specs.states.ValueSteps.{IsThereIfOwn, StandsSo, ValuesDo}
use Rattle.sc_machine_laws.specs.states.Typed.{Extends, context_in, stacked}
use Rattle.sc_machine_laws.specs.settlements.Clauses.{IsPureIfRoutine, RunsPure}

-- ---- what is evaluated

-- The site is in the routine's body, read by the text `t`.
abbrev pub InBody : System → (RoutineName → Bool) → Routine → Text → Site → Type 0
InBody s pure r t b = Within (context_in s pure t)
    (instructions (formals_known s r.text.formals ++ locals_known s r.text.formals r.locals) r.body) b

-- The expression is in the routine's body, or in its contract with no separate block known.
pub data IsCalm (s : System) (pure : RoutineName → Bool) (r : Routine) (t : Text) (c : Context) (q : Position)
    (n : Entities) (e : Expr) : Type 0 where
  in_body : t ≡ r.text → InBody s pure r t (expression c q n e) → IsCalm s pure r t c q n e
  in_contract : t ≡ r.contract → wants_pure c ≡ true → is_condition q ≡ false → blocks n ≡ 0 →
      Stands s pure (context_in s pure t) (expression c q n e) → IsCalm s pure r t c q n e

-- ---- the tasks that are left

-- What is known when tasks are left (`at`): the text, the names, and the types of the values. After a condition
-- (`after`) its value lies on top of these: if it is true the second names are known, else the first and perhaps
-- more.
pub data Ahead : Type 0 where
  at : Text → Entities → List EntityType → Ahead
  after : Text → Entities → Entities → List EntityType → Ahead

-- The tasks that are left of the function. They call only what contracts may call, and ask no other handler. They
-- print nothing, open no separate block and make no object.
pub data InPure (s : System) (pure : RoutineName → Bool) (r : Routine) : List Task → Ahead → Type 0 where
  done : {t : Text} {n : Entities} → InPure s pure r [] (at t n [])
  in_text : {k : List Task} {t u : Text} {n : Entities} → InPure s pure r k (at u n []) →
      InPure s pure r (In u ∷ k) (at t n [])
  declare : {k : List Task} {t : Text} {n : Entities} {ls : List Declaration} → are_declared s t.formals ls ≡ true →
      InPure s pure r k (at t (n ++ locals_known s t.formals ls) []) → InPure s pure r (Declare ls ∷ k) (at t n [])
  body : {k : List Task} {t : Text} {n : Entities} {is : Instrs} → t ≡ r.text → InBody s pure r t (instructions n is) →
      InPure s pure r k (at t n []) → InPure s pure r (Do is ∷ k) (at t n [])
  forget : {k : List Task} {t : Text} {n m : Entities} {d : ℕ} → d ≡ length n → Extends n m →
      InPure s pure r k (at t n []) → InPure s pure r (Forget d ∷ k) (at t m [])
  -- expressions
  eval : {k : List Task} {t : Text} {n : Entities} {vs : List EntityType} {i : ℕ} {e : Expr} {a : EntityType} {b : Bool}
      (c : Context) (q : Position) → is_condition q ≡ false → IsCalm s pure r t c q n e →
      HasType (context_in s pure t) c q n e (typing (Some a) b) → InPure s pure r k (at t n (a ∷ vs)) →
      InPure s pure r (Eval i e ∷ k) (at t n vs)
  condition : {k : List Task} {t : Text} {n m : Entities} {vs : List EntityType} {i : ℕ} {e : Expr} {a : EntityType}
      {b : Bool} (c : Context) → IsCalm s pure r t c Condition n e →
      HasType (context_in s pure t) c Condition n e (typing (Some a) b) → Gives (context_in s pure t) c n e m →
      InPure s pure r k (after t n m vs) → InPure s pure r (Eval i e ∷ k) (at t n vs)
  apply_unary : {k : List Task} {t : Text} {n : Entities} {vs : List EntityType} {op : UnaryOperator}
      {a b : EntityType} → unary_type op a ≡ Some b → InPure s pure r k (at t n (b ∷ vs)) →
      InPure s pure r (ApplyUnary op ∷ k) (at t n (a ∷ vs))
  eval_right : {k : List Task} {t : Text} {n : Entities} {vs : List EntityType} {op : BinaryOperator} {i : ℕ} {e : Expr}
      {a b u : EntityType} {w : Bool} (c : Context) (q : Position) → is_condition q ≡ false →
      IsCalm s pure r t c q n e → HasType (context_in s pure t) c q n e (typing (Some b) w) →
      binary_type op a b ≡ Some u → InPure s pure r k (at t n (u ∷ vs)) →
      InPure s pure r (EvalRight op i e ∷ k) (at t n (a ∷ vs))
  right_condition : {k : List Task} {t : Text} {n m o : Entities} {vs : List EntityType} {op : BinaryOperator} {i : ℕ}
      {e : Expr} {a : EntityType} {w : Bool} (c : Context) → is_and_then op ≡ true → IsCalm s pure r t c Condition m e →
      HasType (context_in s pure t) c Condition m e (typing (Some a) w) → Gives (context_in s pure t) c m e o →
      Extends n m → InPure s pure r k (after t n o vs) → InPure s pure r (EvalRight op i e ∷ k) (after t n m vs)
  apply_binary : {k : List Task} {t : Text} {n : Entities} {vs : List EntityType} {op : BinaryOperator}
      {a b u : EntityType} → binary_type op a b ≡ Some u → InPure s pure r k (at t n (u ∷ vs)) →
      InPure s pure r (ApplyBinary op ∷ k) (at t n (b ∷ a ∷ vs))
  conclude : {k : List Task} {t : Text} {n : Entities} {vs : List EntityType} {a : EntityType} →
      InPure s pure r k (at t n (boolean ∷ vs)) → InPure s pure r (Conclude ∷ k) (at t n (a ∷ vs))
  conclude_condition : {k : List Task} {t : Text} {n m o : Entities} {vs : List EntityType} → Extends n m →
      InPure s pure r k (after t n o vs) → InPure s pure r (Conclude ∷ k) (after t m o vs)
  bind : {k : List Task} {t : Text} {n : Entities} {vs : List EntityType} {d : Option DeclaredType} {x : List ℕ}
      {a b : EntityType} → test_type (place_in s t) d (Some a) ≡ Some b →
      InPure s pure r k (after t n (n ++ entity x (Some b) role.Test ∷ []) vs) →
      InPure s pure r (Bind d x ∷ k) (at t n (a ∷ vs))
  call_unqualified : {k : List Task} {t : Text} {n : Entities} {vs us : List EntityType} (ts : List EntityType)
      {x : List ℕ} {i : ℕ} {f : DeclaredFeature} {a : EntityType} →
      feature_named s (class.Declared t.class) x ≡ Some f → pure (routine_of f) ≡ true →
      (signature_of s (current (context_in s pure t)) f).gives ≡ Some (Some a) → i ≡ length ts → vs ≡ stacked ts us →
      InPure s pure r k (at t n (a ∷ us)) → InPure s pure r (CallUnqualified x i ∷ k) (at t n vs)
  call_qualified : {k : List Task} {t : Text} {n : Entities} {vs us : List EntityType} (ts : List EntityType)
      (a : EntityType) {x : List ℕ} {i : ℕ} {f : DeclaredFeature} {b : EntityType} →
      feature_named s a.class x ≡ Some f → IsPureIfRoutine pure f (signature_of s a f).routine →
      (signature_of s a f).gives ≡ Some (Some b) → is_foreign a.tag ≡ false → i ≡ length ts → vs ≡ stacked ts (a ∷ us) →
      InPure s pure r k (at t n (b ∷ us)) → InPure s pure r (CallQualified x i ∷ k) (at t n vs)
  -- instructions
  assign : {k : List Task} {t : Text} {n : Entities} {a : EntityType} {v : Variable} → InPure s pure r k (at t n []) →
      InPure s pure r (AssignTo v ∷ k) (at t n (a ∷ []))
  choose : {k : List Task} {t : Text} {n m : Entities} {d : ℕ} {is other : Instrs} {bs : Branches} → t ≡ r.text →
      d ≡ length n → Extends n m → InBody s pure r t (instructions m is) → InBody s pure r t (branches n bs) →
      InBody s pure r t (instructions n other) → InPure s pure r k (at t n []) →
      InPure s pure r (Choose d is bs other ∷ k) (after t n m [])
  repeat : {k : List Task} {t : Text} {n : Entities} {q : Span} {initial : Instrs} {e : Expr} {is : Instrs} →
      t ≡ r.text → InBody s pure r t (instruction n (Loop q initial e is)) → InPure s pure r k (at t n []) →
      InPure s pure r (Repeat e is ∷ k) (at t n [])
  end_loop : {k : List Task} {t : Text} {n : Entities} {q : Span} {initial : Instrs} {e : Expr} {is : Instrs}
      {a : EntityType} → t ≡ r.text → InBody s pure r t (instruction n (Loop q initial e is)) →
      InPure s pure r k (at t n []) → InPure s pure r (EndLoop e is ∷ k) (at t n (a ∷ []))
  -- contracts
  checked : {k : List Task} {t : Text} {n : Entities} {a : EntityType} → InPure s pure r k (at t n []) →
      InPure s pure r (Checked ∷ k) (at t n (a ∷ []))
  require : {k : List Task} {t : Text} {n : Entities} {ks : List Clause} →
      ((q : Clause) → Contains ks q → IsCalm s pure r t context.Require Plain n q.condition ×
      ((a : EntityType) × (b : Bool) ×
      HasType (context_in s pure t) context.Require Plain n q.condition (typing (Some a) b))) →
      InPure s pure r k (at t n []) → InPure s pure r (Require ks ∷ k) (at t n [])
  required : {k : List Task} {t : Text} {n : Entities} {q : Clause} {a : EntityType} → InPure s pure r k (at t n []) →
      InPure s pure r (Required q ∷ k) (at t n (a ∷ []))
  keep_old : {k : List Task} {t : Text} {n : Entities} {a : EntityType} → InPure s pure r k (at t n []) →
      InPure s pure r (KeepOld ∷ k) (at t n (a ∷ []))
  ensured : {k : List Task} {t : Text} {n : Entities} {a : EntityType} → InPure s pure r k (at t n []) →
      InPure s pure r (Ensured ∷ k) (at t n (a ∷ []))
  -- any value may be that of a condition that gives no names
  settled : {k : List Task} {t : Text} {n m : Entities} {vs : List EntityType} {a : EntityType} → Extends n m →
      InPure s pure r k (after t n m vs) → InPure s pure r k (at t m (a ∷ vs))

-- The function is at `p`, and values of the types `coming` are still to come.
pub record StandsAt (s : System) (pure : RoutineName → Bool) (r : Routine) (coming : List EntityType)
    (p : Point) : Type 0 where
  pub text : Text
  pub names : Entities
  pub types : List EntityType
  pub text_is : p.text ≡ text
  pub names_are : scope_of p.environment ≡ names
  pub left : InPure s pure r p.tasks (at text names (coming ++ types))
  pub types_are : types_of p.values ≡ types

-- If the value of the condition is true, the names `high` are known at `p`; else `low` and perhaps more.
pub record Came (low high : Entities) (value : Operand) (p : Point) : Type 0 where
  pub held : value.value ≡ Boolean true → scope_of p.environment ≡ high
  pub denied : (value.value ≡ Boolean true → ⊥) → Extends low (scope_of p.environment)

pub record StandsAfter (s : System) (pure : RoutineName → Bool) (r : Routine) (p : Point) : Type 0 where
  pub text : Text
  pub low : Entities
  pub high : Entities
  pub types : List EntityType
  pub value : Operand
  pub others : List Operand
  pub text_is : p.text ≡ text
  pub values_are : p.values ≡ value ∷ others
  pub came : Came low high value p
  pub left : InPure s pure r p.tasks (after text low high types)
  pub types_are : types_of others ≡ types

abbrev pub StandsPure : System → (RoutineName → Bool) → Routine → List EntityType → Point → Type 0
StandsPure s pure r coming p = StandsAt s pure r coming p ⊎ ((coming ≡ []) × StandsAfter s pure r p)

-- ---- what it does

-- The function calls what contracts may call, tests a loop, starts, is refused, exits or fails.
abbrev pub PureAct : System → (RoutineName → Bool) → Routine → Act → Point → Type 0
PureAct s pure r (Enters c o x us gives) p = RunsPure s pure o x ×
    ((a : EntityType) × (gives ≡ Some a) × StandsPure s pure r (a ∷ []) p)
PureAct s pure r Starts p = StandsPure s pure r [] p
PureAct s pure r Until p = StandsPure s pure r [] p
PureAct s pure r (Refuses k) p = Unit {0}
PureAct s pure r Exits p = Unit {0}
PureAct s pure r (Fails why) p = Unit {0}
PureAct s pure r act p = ⊥

abbrev pub PureStep : System → (RoutineName → Bool) → Routine → Step → Type 0
PureStep s pure r (Goes p) = StandsPure s pure r [] p
PureStep s pure r (Does a p) = PureAct s pure r a p

-- The act is one of these, whatever tasks are left after it.
abbrev pub CalmAct : System → (RoutineName → Bool) → Act → Type 0
CalmAct s pure (Enters c o x us gives) = RunsPure s pure o x
CalmAct s pure Starts = Unit {0}
CalmAct s pure Until = Unit {0}
CalmAct s pure (Refuses k) = Unit {0}
CalmAct s pure Exits = Unit {0}
CalmAct s pure (Fails why) = Unit {0}
CalmAct s pure act = ⊥

abbrev pub CalmStep : System → (RoutineName → Bool) → Step → Type 0
CalmStep s pure (Goes p) = Unit {0}
CalmStep s pure (Does a p) = CalmAct s pure a

-- ---- laws

-- the class and the name of the routine, as the rules use them
abbrev pub name_of : Routine → RoutineName
name_of r = record { class = r.text.class; name = r.name }

-- A pure function begins with tasks of this kind, in the text of its contract, with only its formals known.
abbrev pub PureBeginPure : Type 0
PureBeginPure = (s : System) (root : Root) (pure : RoutineName → Bool) → IsFaultless s root → WellFormed s →
    IsPurity s pure → (r : Routine) (me : Reference) → routine_named s me.class r.name ≡ Some r →
    pure (name_of r) ≡ true → InPure s pure r (tasks_of r) (at r.contract (formals_known s r.text.formals) [])

-- If a pure function is at a point of this kind and its values fit, its next turn calls only what contracts may
-- call, and it is then at a point of this kind.
abbrev pub PureCallPure : Type 0
PureCallPure = (s : System) (root : Root) (pure : RoutineName → Bool) → IsFaultless s root → WellFormed s →
    IsPurity s pure → (r : Routine) (me : Reference) → routine_named s me.class r.name ≡ Some r →
    pure (name_of r) ≡ true → (p : Point) → StandsSo s pure r me [] p → ValuesDo (IsThereIfOwn me.handler p.objects) p →
    StandsPure s pure r [] p → PureStep s pure r (moves s me p)

-- In each state that is reached, the next turn of a pure function calls only what contracts may call, and does
-- nothing else that others see.
abbrev pub EachPureIsCalm : Type 0
EachPureIsCalm = (s : System) (root : Root) (pure : RoutineName → Bool) → IsFaultless s root → WellFormed s →
    IsPurity s pure → (most : ℕ) (w : World) → IsReached most s root w → (h : ℕ) → h < w.count → (f : Frame)
    (below : List Frame) → (w.handlers h).stack ≡ f ∷ below → f.stage ≡ Runs → pure (name_of f.routine) ≡ true →
    CalmStep s pure (moves s f.current (point_of f (w.handlers h).objects))
