-- Which expression has which type (ECMA-367, 8.14, 8.23, 8.24 and 8.28; controlled targets after Nienaltowski's
-- thesis).
use Rattle.std.specs.Prelude.{◌≡◌, ℕ, ℤ, Bool, true, false, not, ◌&&◌, ◌||◌, List, [], ◌∷◌, ◌++◌, Option, Some, None, is_some, length, map, slice_get}
use Rattle.std.specs.List.{list_any, list_all}
use Rattle.sc_text.specs.declared.token.Span.{Span}
use Rattle.sc_tree.specs.declared.expression.UnaryOperator.{UnaryOperator}
use Rattle.sc_tree.specs.declared.expression.BinaryOperator.{BinaryOperator}
use Rattle.sc_tree.specs.Plain as plain
use Rattle.sc_tree.specs.Plain.{System, DeclaredType, Name, Expr, Integer, Boolean, Void, Current, Call, Unary, Binary, ObjectTest, Target, no_target, target, Exprs, no_exprs, expr_then}
use Rattle.sc_class.specs.Tables.Conformance.{is_expanded}
use Rattle.sc_rules.specs.declared.entity_types.tag.Reserved.TheVariants.{Formal, BlockName}
use Rattle.sc_rules.specs.declared.entity_types.tag.Tag.{Tag}
use Rattle.sc_rules.specs.declared.entity_types.tag.Tag.TheVariants as tag
use Rattle.sc_rules.specs.declared.entity_types.entity_type.EntityType.{EntityType}
use Rattle.sc_rules.specs.entity_types.Conformance.{integer, boolean, conforms}
use Rattle.sc_rules.specs.entity_types.Conformance as conformance
use Rattle.sc_rules.specs.declared.entity_types.known.Known.{Known}
use Rattle.sc_rules.specs.declared.entity_types.known.Known.TheVariants as known
use Rattle.sc_rules.specs.entity_types.Combiners.{known_of, combined_argument}
use Rattle.sc_rules.specs.declared.position.Context.{Context}
use Rattle.sc_rules.specs.declared.position.Position.{Position}
use Rattle.sc_rules.specs.declared.position.Position.TheVariants.{Plain, Condition, Source}
use Rattle.sc_rules.specs.declared.position.Role.TheVariants as role
use Rattle.sc_rules.specs.Types.{declared_type, is_controlled, is_foreign, unary_result, binary_result, test_result}
use Rattle.sc_rules.specs.Positions.{is_old, is_and_then, is_require, is_ensure, wants_pure, takes_void, operand_context, operand_position, shares_names, may_give}
use Rattle.sc_rules.specs.Names.{RoutineName, RoutineContext, Entities, entity, test_type, FormalType, of_type, of_none, of_expanded, Signature, named, current, meaning_of, is_qualified}

-- The result of judging an expression in which no rule fails: its type, or none if a declaration that it depends on
-- is faulty; and whether it makes a separate call.
pub record Typing : Type 0 where
  pub type : Option EntityType
  pub is_separate : Bool

abbrev pub typing : Option EntityType → Bool → Typing
typing t b = record { type = t; is_separate = b }

-- of this type, with no separate call
abbrev pub simple_typing : EntityType → Typing
simple_typing t = typing (Some t) false

-- the types of actuals
abbrev pub types : List Typing → List (Option EntityType)
types ts = map (λ (t : Typing). t.type) ts

-- ---- targets

-- a target without a type is judged no further
abbrev pub may_target : Option EntityType → Bool
may_target (Some t) = is_controlled t
may_target None = true

abbrev pub is_foreign_type : Option EntityType → Bool
is_foreign_type (Some t) = is_foreign t.tag
is_foreign_type None = false

-- ---- actuals and formals

-- what is known of an actual's handler
abbrev pub known_handler : Option EntityType → Known
known_handler None = known.Neither
known_handler (Some t) = known_of t.tag

abbrev pub known_handlers : List (Option EntityType) → List Known
known_handlers ts = map known_handler ts

-- the formal that a formal's tag names
abbrev pub named_formal : Tag → Option ℕ
named_formal (tag.With (Formal y)) = Some y
named_formal (tag.With (BlockName y)) = None
named_formal tag.Own = None
named_formal tag.Any = None
named_formal tag.None = None

-- an actual is there, and has no type
abbrev pub is_untyped : Option (Option EntityType) → Bool
is_untyped None = false
is_untyped (Some None) = true
is_untyped (Some (Some t)) = false

-- the formal that a formal's tag names, if it names one, has such an actual
abbrev pub names_untyped : List (Option EntityType) → Option ℕ → Bool
names_untyped ts None = false
names_untyped ts (Some y) = is_untyped (slice_get ts y)

-- An actual with a type may be passed to the formal, where the target and all actuals have these types. Where a
-- formal's tag names another whose actual has no type, nothing is judged; where that actual is missing, the tag names
-- no handler.
abbrev pub takes : System → EntityType → List (Option EntityType) → FormalType → EntityType → Bool
takes s t ts (of_type f) a =
    names_untyped ts (named_formal f.tag) || conforms s a (combined_argument t f (known_handlers ts))
takes s t ts of_none a = true
takes s t ts of_expanded a = is_expanded a.class

abbrev pub takes_if_any : System → EntityType → List (Option EntityType) → FormalType → Option EntityType → Bool
takes_if_any s t ts f None = true
takes_if_any s t ts f (Some a) = takes s t ts f a

-- Pair by pair, as far as there are both: the actuals may be passed to the formals.
abbrev pub formals_take : System → EntityType → List (Option EntityType) → List FormalType → List (Option EntityType) →
    Bool
formals_take s t ts [] as' = true
formals_take s t ts (f ∷ fs) [] = true
formals_take s t ts (f ∷ fs) (a ∷ as') = takes_if_any s t ts f a && formals_take s t ts fs as'

-- no reference, as far as there is a type
abbrev pub is_value : Option EntityType → Bool
is_value None = true
is_value (Some t) = is_expanded t.class

-- In a precondition a separate call passes no references.
abbrev pub passes_values : Context → Option EntityType → List (Option EntityType) → Bool
passes_values c t ts = not (is_require c && is_foreign_type t) || list_all is_value ts

-- ---- at the name

-- what is called in a contract, a `check` or `old` is pure
abbrev pub may_call : RoutineContext → Context → Option RoutineName → Bool
may_call h c None = true
may_call h c (Some f) = not (wants_pure c) || h.pure f

-- a call on a target is of an exported feature
abbrev pub is_exported_to : Target → Signature → Bool
is_exported_to t g = not (is_qualified t && g.is_secret)

-- ---- object tests and `old`

-- the type that is tested is declared without fault, if one is
abbrev pub is_testable : RoutineContext → Option DeclaredType → Bool
is_testable h None = true
is_testable h (Some d) = is_some (declared_type h.system h.formals d)

-- `old` is in a postcondition, and makes no separate call.
abbrev pub old_stands : Context → UnaryOperator → Typing → Bool
old_stands c op t = not (is_old op) || (is_ensure c && not t.is_separate)

mutual
  -- The expression has the type, in this context and at this spot, where these entities are known.
  pub data HasType (h : RoutineContext) : Context → Position → Entities → Expr → Typing → Type 0 where
    number : {c : Context} {k : Position} {n : Entities} {s : Span} {v : ℤ} →
        HasType h c k n (Integer s v) (simple_typing integer)
    truth : {c : Context} {k : Position} {n : Entities} {s : Span} {v : Bool} →
        HasType h c k n (Boolean s v) (simple_typing boolean)
    void : {c : Context} {k : Position} {n : Entities} {s : Span} → takes_void k ≡ true →
        HasType h c k n (Void s) (simple_typing conformance.void)
    current_object : {c : Context} {k : Position} {n : Entities} {s : Span} →
        HasType h c k n (Current s) (simple_typing (current h))
    result : {c : Context} {k : Position} {n : Entities} {s : Span} {t : Option EntityType} → h.result ≡ Some t →
        HasType h c k n (plain.Result s) (typing t false)
    call : {c : Context} {k : Position} {n : Entities} {s : Span} {a : Target} {x : Name} {es : Exprs} {r : Typing}
        {ts : List Typing} {g : Signature} {t : Option EntityType} →
        HasReceiver h c n a r → may_target r.type ≡ true → meaning_of h n a r.type x ≡ named g → HasTypes h c n es ts →
        formals_take h.system g.target (types ts) g.formals (types ts) ≡ true →
        passes_values c r.type (types ts) ≡ true → length ts ≡ length g.formals →
        g.gives ≡ Some t → may_call h c g.routine ≡ true → is_exported_to a g ≡ true →
        HasType h c k n (Call s a x es) (typing t (r.is_separate || list_any (λ (u : Typing). u.is_separate) ts))
    untyped_target_call : {c : Context} {k : Position} {n : Entities} {s : Span} {a : Expr} {x : Name} {es : Exprs}
        {r : Typing} {ts : List Typing} →
        HasReceiver h c n (target a) r → r.type ≡ None → HasTypes h c n es ts →
        HasType h c k n (Call s (target a) x es)
        (typing None (r.is_separate || list_any (λ (u : Typing). u.is_separate) ts))
    unary : {c : Context} {k : Position} {n : Entities} {s : Span} {op : UnaryOperator} {a : Expr} {t : Typing}
        {r : Option EntityType} →
        HasType h (operand_context op c) Plain n a t → old_stands c op t ≡ true → unary_result op t.type ≡ Some r →
        HasType h c k n (Unary s op a) (typing r t.is_separate)
    binary : {c : Context} {k : Position} {n : Entities} {s : Span} {op : BinaryOperator} {a b : Expr} {t u : Typing}
        {r : Option EntityType} →
        shares_names k op ≡ false → HasType h c (operand_position op) n a t → HasType h c (operand_position op) n b u →
        binary_result op t.type u.type ≡ Some r →
        HasType h c k n (Binary s op a b) (typing r (t.is_separate || u.is_separate))
    -- in a condition the names that the left operand of an `and then` gives are known in its right one
    and_then : {c : Context} {k : Position} {n m : Entities} {s : Span} {op : BinaryOperator} {a b : Expr}
        {t u : Typing} {r : Option EntityType} →
        shares_names k op ≡ true → HasType h c Condition n a t → Gives h c n a m → HasType h c Condition m b u →
        binary_result op t.type u.type ≡ Some r →
        HasType h c k n (Binary s op a b) (typing r (t.is_separate || u.is_separate))
    -- nowhere else than in a condition
    test : {c : Context} {n : Entities} {s : Span} {d : Option DeclaredType} {a : Expr} {x : Name} {t : Typing} →
        is_testable h d ≡ true → HasType h c Plain n a t →
        HasType h c Condition n (ObjectTest s d a x) (typing (test_result t.type) t.is_separate)

  -- The target of a call has the type; without one it is Current's. A call on a target that isn't of the current
  -- handler is separate.
  pub data HasReceiver (h : RoutineContext) : Context → Entities → Target → Typing → Type 0 where
    implicit : {c : Context} {n : Entities} → HasReceiver h c n no_target (simple_typing (current h))
    explicit : {c : Context} {n : Entities} {a : Expr} {t : Typing} → HasType h c Plain n a t →
        HasReceiver h c n (target a) (typing t.type (t.is_separate || is_foreign_type t.type))

  -- The actuals have these types.
  pub data HasTypes (h : RoutineContext) : Context → Entities → Exprs → List Typing → Type 0 where
    none : {c : Context} {n : Entities} → HasTypes h c n no_exprs []
    more : {c : Context} {n : Entities} {e : Expr} {es : Exprs} {t : Typing} {ts : List Typing} →
        HasType h c Source n e t → HasTypes h c n es ts →
        HasTypes h c n (expr_then e es) (t ∷ ts)

  -- Where these entities are known and the condition holds, those are: its object tests' names too.
  pub data Gives (h : RoutineContext) : Context → Entities → Expr → Entities → Type 0 where
    by_test : {c : Context} {n : Entities} {s : Span} {d : Option DeclaredType} {a : Expr} {x : Name} {t : Typing} →
        HasType h c Plain n a t →
        Gives h c n (ObjectTest s d a x) (n ++ entity x.text (test_type h d t.type) role.Test ∷ [])
    by_both : {c : Context} {n m o : Entities} {s : Span} {op : BinaryOperator} {a b : Expr} → is_and_then op ≡ true →
        Gives h c n a m → Gives h c m b o →
        Gives h c n (Binary s op a b) o
    nothing : {c : Context} {n : Entities} {e : Expr} → may_give e ≡ false → Gives h c n e n
