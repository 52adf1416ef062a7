-- Which rule fails where in a call: at its target, at its actuals, and at its name (ECMA-367, 8.7, 8.22 and 8.23).
use Rattle.std.specs.Prelude.{◌≡◌, ℕ, zero, suc, Bool, true, false, List, ◌∷◌, Option, Some, None, length, slice_get}
use Rattle.sc_text.specs.declared.token.Span.{Span}
use Rattle.sc_tree.specs.Plain.{Name, Expr, Target, target, Exprs, no_exprs, expr_then}
use Rattle.sc_class.specs.Tables.Conformance.{is_expanded}
use Rattle.sc_rules.specs.declared.entity_types.entity_type.EntityType.{EntityType}
use Rattle.sc_rules.specs.entity_types.Conformance.{conforms}
use Rattle.sc_rules.specs.declared.entity_types.known.Known.{Known}
use Rattle.sc_rules.specs.entity_types.Combiners.{known_of, combined_argument}
use Rattle.sc_rules.specs.declared.rule.Rule.{Rule}
use Rattle.sc_rules.specs.declared.rule.Rule.TheVariants.{UnknownName, WrongArity, ArgumentType, TargetDetachable, TargetUncontrolled, ResultType, ImpureContract, PreconditionArgument, NotExported}
use Rattle.sc_rules.specs.declared.position.Context.{Context}
use Rattle.sc_rules.specs.declared.position.Position.TheVariants.{Plain, Source}
use Rattle.sc_rules.specs.declared.position.Use.{Use}
use Rattle.sc_rules.specs.declared.position.Use.TheVariants.{Value, Instruction}
use Rattle.sc_rules.specs.Types.{is_controlled_tag}
use Rattle.sc_rules.specs.Positions.{span_of, is_require, wants_pure}
use Rattle.sc_rules.specs.Names.{RoutineName, RoutineContext, Entities, FormalType, of_type, of_expanded, Signature, Meaning, unknown, named, meaning_of, is_qualified}
use Rattle.sc_rules.specs.Typing.{Typing, typing, is_foreign_type, named_formal, HasType, HasReceiver}
use Rattle.sc_rules.specs.Sites.{IsActual}

abbrev pub count : Exprs → ℕ
count no_exprs = 0
count (expr_then e es) = suc (count es)

-- the actual at a number of the list, from 0
pub data ActualAt (e : Expr) : Exprs → ℕ → Type 0 where
  actual_here : {es : Exprs} → ActualAt e (expr_then e es) zero
  actual_later : {d : Expr} {es : Exprs} {i : ℕ} → ActualAt e es i → ActualAt e (expr_then d es) (suc i)

-- The handler that a formal of this type names, as far as the actuals determine it; if the actual of the formal that
-- it names is missing, it isn't known.
pub data IsKnown (h : RoutineContext) (c : Context) (n : Entities) (es : Exprs) (f : EntityType)
    (ks : List Known) : Type 0 where
  names_none : named_formal f.tag ≡ None → IsKnown h c n es f ks
  names_one : {y : ℕ} {e : Expr} {t : EntityType} {b : Bool} → named_formal f.tag ≡ Some y → ActualAt e es y →
      HasType h c Source n e (typing (Some t) b) →
      slice_get ks y ≡ Some (known_of t.tag) → IsKnown h c n es f ks
  names_missing : {y : ℕ} → named_formal f.tag ≡ Some y → ((e : Expr) → ActualAt e es y → ⊥) → slice_get ks y ≡ None →
      IsKnown h c n es f ks

-- An actual of this type can't be passed to the formal, after a target of that type.
pub data Untaken (h : RoutineContext) (c : Context) (n : Entities) (es : Exprs) (t : EntityType) : FormalType →
    EntityType → Type 0 where
  differs : {f a : EntityType} {ks : List Known} → IsKnown h c n es f ks →
      conforms h.system a (combined_argument t f ks) ≡ false →
      Untaken h c n es t (of_type f) a
  reference : {a : EntityType} → is_expanded a.class ≡ false → Untaken h c n es t of_expanded a

-- The actual at this place can't be passed to its formal. `all` are the actuals of the call, and these are the last
-- ones.
pub data Mismatches (h : RoutineContext) (c : Context) (n : Entities) (all : Exprs)
    (t : EntityType) : List FormalType → Exprs → Span → Type 0 where
  first_pair : {f : FormalType} {fs : List FormalType} {e : Expr} {es : Exprs} {a : EntityType} {b : Bool} →
      HasType h c Source n e (typing (Some a) b) →
      Untaken h c n all t f a → Mismatches h c n all t (f ∷ fs) (expr_then e es) (span_of e)
  later_pair : {f : FormalType} {fs : List FormalType} {e : Expr} {es : Exprs} {p : Span} →
      Mismatches h c n all t fs es p →
      Mismatches h c n all t (f ∷ fs) (expr_then e es) p

-- At the name of a feature with this meaning, called with this number of actuals.
pub data AtName (h : RoutineContext) (c : Context) (a : Target) : Use → Meaning → ℕ → Rule → Type 0 where
  unknown_name : {u : Use} {k : ℕ} → AtName h c a u unknown k UnknownName
  wrong_count : {u : Use} {g : Signature} {k : ℕ} → (k ≡ length g.formals → ⊥) → AtName h c a u (named g) k WrongArity
  procedure_as_value : {g : Signature} {k : ℕ} → g.gives ≡ None → AtName h c a Value (named g) k ResultType
  query_as_instruction : {g : Signature} {k : ℕ} {t : Option EntityType} → g.gives ≡ Some t →
      AtName h c a Instruction (named g) k ResultType
  impure : {u : Use} {g : Signature} {k : ℕ} {f : RoutineName} → g.routine ≡ Some f → wants_pure c ≡ true →
      h.pure f ≡ false →
      AtName h c a u (named g) k ImpureContract
  hidden : {u : Use} {g : Signature} {k : ℕ} → is_qualified a ≡ true → g.is_secret ≡ true →
      AtName h c a u (named g) k NotExported

-- In a call: at its target, where that has a type, at an actual, or at its name.
pub data CallFails (h : RoutineContext) (c : Context) (n : Entities) (u : Use) : Target → Name → Exprs → Rule → Span →
    Type 0 where
  detachable : {a : Expr} {x : Name} {es : Exprs} {t : EntityType} {b : Bool} →
      HasType h c Plain n a (typing (Some t) b) → t.attached ≡ false →
      CallFails h c n u (target a) x es TargetDetachable (span_of a)
  uncontrolled : {a : Expr} {x : Name} {es : Exprs} {t : EntityType} {b : Bool} →
      HasType h c Plain n a (typing (Some t) b) → is_controlled_tag t.tag ≡ false →
      CallFails h c n u (target a) x es TargetUncontrolled (span_of a)
  argument : {a : Target} {x : Name} {es : Exprs} {r : Typing} {g : Signature} {p : Span} → HasReceiver h c n a r →
      meaning_of h n a r.type x ≡ named g →
      Mismatches h c n es g.target g.formals es p → CallFails h c n u a x es ArgumentType p
  reference_in_precondition : {a : Target} {x : Name} {es : Exprs} {e : Expr} {r : Typing} {t : EntityType}
      {b : Bool} → is_require c ≡ true →
      HasReceiver h c n a r → is_foreign_type r.type ≡ true → IsActual e es →
      HasType h c Source n e (typing (Some t) b) → is_expanded t.class ≡ false →
      CallFails h c n u a x es PreconditionArgument (span_of e)
  at_name : {a : Target} {x : Name} {es : Exprs} {r : Typing} {q : Rule} → HasReceiver h c n a r →
      AtName h c a u (meaning_of h n a r.type x) (count es) q →
      CallFails h c n u a x es q x.span
