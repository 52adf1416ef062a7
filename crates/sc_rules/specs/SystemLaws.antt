-- Laws of well-formed systems, on which proofs about their runs rest.
use Rattle.std.specs.Prelude.{◌≡◌, ℕ, Bool, true, false, List, [], length, Some, is_some, Contains, slice_get}
use Rattle.sc_text.specs.declared.token.Span.{Span}
use Rattle.sc_tree.specs.Plain.{System, Class, Feature, RoutineDeclaration, Routine, Clause, Name, Variable, CreationCall, Creation, Expr, Call, Target, target, Exprs, Assign, CallRoutine, Create}
use Rattle.sc_rules.specs.declared.entity_types.entity_type.EntityType.{EntityType}
use Rattle.sc_rules.specs.entity_types.Conformance.{conforms}
use Rattle.sc_rules.specs.declared.entity_types.known.Known.{Known}
use Rattle.sc_rules.specs.entity_types.Combiners.{combined_argument}
use Rattle.sc_rules.specs.declared.position.Context.{Context}
use Rattle.sc_rules.specs.declared.position.Context.TheVariants as context
use Rattle.sc_rules.specs.declared.position.Position.{Position}
use Rattle.sc_rules.specs.declared.position.Position.TheVariants.{Plain, Source}
use Rattle.sc_rules.specs.declared.position.Use.{Use}
use Rattle.sc_rules.specs.declared.position.Use.TheVariants.{Value, Instruction}
use Rattle.sc_rules.specs.Types.{is_controlled}
use Rattle.sc_rules.specs.Names.{RoutineName, RoutineContext, context_of, Entities, formals_known, known_in_body, of_type, Signature, named, meaning_of, qualified_meaning, assignee, assignee_type}
use Rattle.sc_rules.specs.Typing.{Typing, typing, may_call, is_exported_to, HasType, HasReceiver}
use Rattle.sc_rules.specs.Sites.{Site, expression, instruction, instructions, Within}
use Rattle.sc_rules.specs.Purity.{IsPurity, IsCall}
use Rattle.sc_rules.specs.CallRules.{count, ActualAt, IsKnown}
use Rattle.sc_rules.specs.SystemRules.{invariant_context, WellFormed}

-- A body, or a clause of a contract or an invariant, of the system, and what it is judged by.
pub data IsText (s : System) (pure : RoutineName → Bool) : RoutineContext → Site → Type 0 where
  body : {k : ℕ} {c : Class} {f : Feature} {routine : RoutineDeclaration} →
      slice_get s.classes k ≡ Some c → Contains c.features f → f.kind ≡ Routine routine →
      IsText s pure (context_of s pure k routine) (instructions (known_in_body s routine) routine.body)
  precondition : {k : ℕ} {c : Class} {f : Feature} {routine : RoutineDeclaration} {q : Clause} →
      slice_get s.classes k ≡ Some c → Contains c.features f → f.kind ≡ Routine routine →
      Contains routine.precondition q →
      IsText s pure (context_of s pure k routine)
      (expression context.Require Plain (formals_known s routine.formals) q.condition)
  postcondition : {k : ℕ} {c : Class} {f : Feature} {routine : RoutineDeclaration} {q : Clause} →
      slice_get s.classes k ≡ Some c → Contains c.features f → f.kind ≡ Routine routine →
      Contains routine.postcondition q →
      IsText s pure (context_of s pure k routine)
      (expression context.Ensure Plain (formals_known s routine.formals) q.condition)
  invariant : {k : ℕ} {c : Class} {q : Clause} → slice_get s.classes k ≡ Some c → Contains c.invariant q →
      IsText s pure (invariant_context s pure k) (expression context.Invariant Plain [] q.condition)

-- The site is in the text of the system.
pub data Stands (s : System) (pure : RoutineName → Bool) (h : RoutineContext) (b : Site) : Type 0 where
  stands_in : {a : Site} → IsText s pure h a → Within h a b → Stands s pure h b

-- the law of each well-formed system, with the test that separates its pure functions
abbrev pub WhereWellFormed : (System → (RoutineName → Bool) → Type 0) → Type 0
WhereWellFormed law = (s : System) (pure : RoutineName → Bool) → WellFormed s → IsPurity s pure → law s pure

-- Each expression has a type.
abbrev pub EachIsTyped : Type 0
EachIsTyped = WhereWellFormed λ s pure. (h : RoutineContext) (c : Context) (k : Position) (n : Entities) (e : Expr) →
    Stands s pure h (expression c k n e) →
    (t : EntityType) × (b : Bool) × HasType h c k n e (typing (Some t) b)

-- The target of each call is controlled.
abbrev pub TargetsAreControlled : Type 0
TargetsAreControlled = WhereWellFormed λ s pure. (h : RoutineContext) (b : Site) (c : Context) (n : Entities)
    (a : Expr) (x : Name) → Stands s pure h b → IsCall b c n (target a) x →
    (t : EntityType) (is_separate : Bool) → HasType h c Plain n a (typing (Some t) is_separate) → is_controlled t ≡ true

-- It is a call, used so, of this name on this target with these actuals.
pub data CallsWith : Site → Use → Context → Entities → Target → Name → Exprs → Type 0 where
  as_value : {c : Context} {k : Position} {n : Entities} {s : Span} {a : Target} {x : Name} {es : Exprs} →
      CallsWith (expression c k n (Call s a x es)) Value c n a x es
  as_instruction : {n : Entities} {s : Span} {a : Target} {x : Name} {es : Exprs} →
      CallsWith (instruction n (CallRoutine s a x es)) Instruction context.Body n a x es

abbrev pub is_value_use : Use → Bool
is_value_use Value = true
is_value_use Instruction = false

-- The feature may be called there: with this number of actuals, as what it is, on such a target, and as a pure
-- function if one is asked for.
pub record MayBeCalled (h : RoutineContext) (c : Context) (u : Use) (a : Target) (es : Exprs)
    (g : Signature) : Type 0 where
  pub as_many_actuals : count es ≡ length g.formals
  pub used_as_it_is : is_some g.gives ≡ is_value_use u
  pub is_exported : is_exported_to a g ≡ true
  pub pure_where_asked : may_call h c g.routine ≡ true

-- Each call has a target, and its name is that of a feature that may be called there.
abbrev pub CallsStand : Type 0
CallsStand = WhereWellFormed λ s pure. (h : RoutineContext) (b : Site) (u : Use) (c : Context) (n : Entities)
    (a : Target) (x : Name) (es : Exprs) → Stands s pure h b →
    CallsWith b u c n a x es → (r : Typing) × (g : Signature) × HasReceiver h c n a r ×
    (meaning_of h n a r.type x ≡ named g) × MayBeCalled h c u a es g

-- Each actual conforms to its combined formal.
abbrev pub Conform : RoutineContext → Context → Entities → Exprs → Signature → Type 0
Conform h c n es g =
    (i : ℕ) (e : Expr) (f a : EntityType) (is_separate : Bool) (ks : List Known) → ActualAt e es i →
    slice_get g.formals i ≡ Some (of_type f) →
    HasType h c Source n e (typing (Some a) is_separate) → IsKnown h c n es f ks →
    conforms h.system a (combined_argument g.target f ks) ≡ true

-- The actuals of each call do.
abbrev pub ActualsConform : Type 0
ActualsConform = WhereWellFormed λ s pure. (h : RoutineContext) (b : Site) (u : Use) (c : Context) (n : Entities)
    (a : Target) (x : Name) (es : Exprs) → Stands s pure h b →
    CallsWith b u c n a x es → (r : Typing) (g : Signature) → HasReceiver h c n a r →
    meaning_of h n a r.type x ≡ named g → Conform h c n es g

-- The actuals of each creation do, where the created entity has this type.
abbrev pub CreationActualsConform : Type 0
CreationActualsConform = WhereWellFormed λ s pure. (h : RoutineContext) (n : Entities) (p : Span) (creation : Creation)
    (k : CreationCall) →
    Stands s pure h (instruction n (Create p creation)) → creation.call ≡ Some k → (t : EntityType) (g : Signature) →
    assignee_type (assignee h n creation.variable) ≡ Some t → qualified_meaning h t k.name.text ≡ named g →
    Conform h context.Body n k.actuals g

-- Each right side conforms to its left side.
abbrev pub RightSidesConform : Type 0
RightSidesConform = WhereWellFormed λ s pure. (h : RoutineContext) (n : Entities) (p : Span) (v : Variable)
    (e : Expr) → Stands s pure h (instruction n (Assign p v e)) →
    (t a : EntityType) (is_separate : Bool) → assignee_type (assignee h n v) ≡ Some t →
    HasType h context.Body Source n e (typing (Some a) is_separate) → conforms h.system a t ≡ true
