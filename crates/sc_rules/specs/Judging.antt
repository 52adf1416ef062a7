-- Judging an expression, as a function: its type, or the first rule that fails in it, in the order of the walk. The
-- contract of the check says by these functions which fault is answered if several rules fail; what the rules mean
-- is in `TextRules` and `SystemRules`, which a proof compares with these.
use Rattle.std.specs.Prelude.{ℕ, Bool, true, false, not, ◌&&◌, ◌||◌, ◌==◌, if◌then◌else◌, List, [], ◌∷◌, ◌++◌, length, map, Option, Some, None, is_some, Result, Ok, Err}
use Rattle.std.specs.List.{list_any}
use Rattle.sc_text.specs.declared.token.Span.{Span}
use Rattle.sc_tree.specs.Plain as plain
use Rattle.sc_tree.specs.Plain.{System, Declaration, DeclaredType, Name, Expr, Integer, Boolean, Void, Current, Call, Unary, Binary, ObjectTest, Target, no_target, target, Exprs, no_exprs, expr_then}
use Rattle.sc_class.specs.Tables.Conformance.{type_class}
use Rattle.sc_rules.specs.declared.entity_types.entity_type.EntityType.{EntityType}
use Rattle.sc_rules.specs.entity_types.Conformance.{void, integer, boolean}
use Rattle.sc_rules.specs.declared.rule.Rule.{Rule}
use Rattle.sc_rules.specs.declared.rule.Rule.TheVariants.{UnknownName, WrongArity, ArgumentType, TargetDetachable, TargetUncontrolled, ResultType, OperatorType, TagName, ImpureContract, PreconditionArgument, NotExported, ObjectTestPlace, OldPlace, VoidUse}
use Rattle.sc_rules.specs.declared.fault.Fault.{Fault}
use Rattle.sc_rules.specs.declared.position.Context.{Context}
use Rattle.sc_rules.specs.declared.position.Position.{Position}
use Rattle.sc_rules.specs.declared.position.Position.TheVariants.{Plain, Condition, Source}
use Rattle.sc_rules.specs.declared.position.Use.{Use}
use Rattle.sc_rules.specs.declared.position.Use.TheVariants.{Value, Instruction}
use Rattle.sc_rules.specs.declared.position.Role.TheVariants as role
use Rattle.sc_rules.specs.Types.{declared_type, is_controlled_tag, unary_result, binary_result, test_result}
use Rattle.sc_rules.specs.Positions.{span_of, is_and_then, is_require, is_condition, takes_void, operand_context, operand_position, shares_names}
use Rattle.sc_rules.specs.Names.{RoutineContext, Entities, entity, test_type, FormalType, Meaning, unknown, target_untyped, named, current, meaning_of}
use Rattle.sc_rules.specs.Typing.{Typing, typing, simple_typing, is_foreign_type, takes_if_any, is_value, may_call, is_exported_to, old_stands}

abbrev pub Judged : Type 0 → Type 0
Judged A = Result A Fault

infixl 10 ◌>>=◌
abbrev pub ◌>>=◌ : {A B : Type 0} → Judged A → (A → Judged B) → Judged B
(Ok x) >>= f = f x
(Err e) >>= f = Err e

abbrev pub fault : Rule → Span → Fault
fault r p = record { rule = r; span = p }

-- the rule fails unless the test holds
abbrev pub required : Bool → Rule → Span → Judged (Unit {0})
required true r p = Ok tt
required false r p = Err (fault r p)

-- each of them, in order
abbrev pub judge_each : {A : Type 0} → (A → Judged (Unit {0})) → List A → Judged (Unit {0})
judge_each judge [] = Ok tt
judge_each judge (x ∷ xs) = do
  _ ← judge x
  judge_each judge xs

-- ---- types

-- the class of a declared type, then its tag and its mark
abbrev pub judge_type : System → List Declaration → DeclaredType → Judged (Unit {0})
judge_type s formals d = do
  _ ← required (is_some (type_class s d.class.text)) UnknownName d.class.span
  required (is_some (declared_type s formals d)) TagName d.span

abbrev pub judge_tested : RoutineContext → Option DeclaredType → Judged (Unit {0})
judge_tested h None = Ok tt
judge_tested h (Some d) = judge_type h.system h.formals d

-- ---- calls

-- a target that has a type is attached and controlled
abbrev pub judge_target : Span → Option EntityType → Judged (Unit {0})
judge_target p None = Ok tt
judge_target p (Some t) = do
  _ ← required t.attached TargetDetachable p
  required (is_controlled_tag t.tag) TargetUncontrolled p

-- an actual: its place, and the result of judging it
abbrev pub JudgedActual : Type 0
JudgedActual = Span × Judged Typing

abbrev pub judged_type : Judged Typing → Option EntityType
judged_type (Ok t) = t.type
judged_type (Err f) = None

abbrev pub judged_types : List JudgedActual → List (Option EntityType)
judged_types rs = map (λ (r : JudgedActual). judged_type r.1) rs

abbrev pub formals_of : Meaning → List FormalType
formals_of unknown = []
formals_of target_untyped = []
formals_of (named g) = g.formals

abbrev pub target_of : RoutineContext → Meaning → EntityType
target_of h unknown = current h
target_of h target_untyped = current h
target_of h (named g) = g.target

-- an actual that has a formal
abbrev pub is_taken : System → EntityType → List (Option EntityType) → List FormalType → Option EntityType → Bool
is_taken s t ts [] a = true
is_taken s t ts (f ∷ fs) a = takes_if_any s t ts f a

abbrev pub rest : List FormalType → List FormalType
rest [] = []
rest (f ∷ fs) = fs

-- an actual of a separate call in a precondition is no reference
abbrev pub may_pass : Context → Option EntityType → Option EntityType → Bool
may_pass c r a = not (is_require c && is_foreign_type r) || is_value a

-- the actuals in order, each with its formal, before the next one; r is the type of the target
abbrev pub judge_actuals : RoutineContext → Context → Option EntityType → EntityType → List (Option EntityType) →
    List FormalType → List JudgedActual → Judged (List Typing)
judge_actuals h c r t ts fs [] = Ok []
judge_actuals h c r t ts fs (a ∷ rs) = do
  b ← a.1
  _ ← required (is_taken h.system t ts fs b.type) ArgumentType a.0
  _ ← required (may_pass c r b.type) PreconditionArgument a.0
  bs ← judge_actuals h c r t ts (rest fs) rs
  Ok (b ∷ bs)

-- a query is a value, a procedure an instruction
abbrev pub judge_use : Use → Option (Option EntityType) → Span → Judged (Option EntityType)
judge_use Value None p = Err (fault ResultType p)
judge_use Value (Some t) p = Ok t
judge_use Instruction None p = Ok None
judge_use Instruction (Some t) p = Err (fault ResultType p)

-- what is judged at the name, with this number of actuals
abbrev pub judge_name : RoutineContext → Context → Use → Target → Meaning → ℕ → Span → Judged (Option EntityType)
judge_name h c u a unknown k p = Err (fault UnknownName p)
judge_name h c u a target_untyped k p = Ok None
judge_name h c u a (named g) k p = do
  _ ← required (k == length g.formals) WrongArity p
  t ← judge_use u g.gives p
  _ ← required (may_call h c g.routine) ImpureContract p
  _ ← required (is_exported_to a g) NotExported p
  Ok t

-- the actuals, then the name, if it means this
abbrev pub judge_actuals_and_name : RoutineContext → Context → Use → Target → Meaning → Span → List JudgedActual →
    Typing → Judged Typing
judge_actuals_and_name h c u a m p rs r = do
  ts ← judge_actuals h c r.type (target_of h m) (judged_types rs) (formals_of m) rs
  t ← judge_name h c u a m (length ts) p
  Ok (typing t (r.is_separate || list_any (λ (b : Typing). b.is_separate) ts))

-- what is judged of a call after its target, with this result for the target
abbrev pub judge_called : RoutineContext → Context → Entities → Use → Target → Name → List JudgedActual → Typing →
    Judged Typing
judge_called h c n u a x rs r = judge_actuals_and_name h c u a (meaning_of h n a r.type x) x.span rs r

-- ---- operators

-- the result's type, where the operator takes its operands
abbrev pub judge_operation : Span → Bool → Option (Option EntityType) → Judged Typing
judge_operation p b None = Err (fault OperatorType p)
judge_operation p b (Some t) = Ok (typing t b)

abbrev pub judge_result : Span → Option (Option EntityType) → Judged (Option EntityType)
judge_result p None = Err (fault ResultType p)
judge_result p (Some t) = Ok t

unfoldable mutual
  pub judge : RoutineContext → Context → Position → Entities → Expr → Judged Typing
  judge h c k n (Integer p v) = Ok (simple_typing integer)
  judge h c k n (Boolean p v) = Ok (simple_typing boolean)
  judge h c k n (Void p) = do
    _ ← required (takes_void k) VoidUse p
    Ok (simple_typing void)
  judge h c k n (Current p) = Ok (simple_typing (current h))
  judge h c k n (plain.Result p) = do
    t ← judge_result p h.result
    Ok (typing t false)
  judge h c k n (Call p a x es) = do
    r ← judge_receiver h c n a
    judge_called h c n Value a x (judged_actuals h c n es) r
  judge h c k n (Unary p op a) = do
    t ← judge h (operand_context op c) Plain n a
    _ ← required (old_stands c op t) OldPlace p
    judge_operation p t.is_separate (unary_result op t.type)
  judge h c k n (Binary p op a b) =
      if shares_names k op
      then (do
        t ← judge h c Condition n a
        m ← judge_given h c n a
        u ← judge h c Condition m b
        judge_operation p (t.is_separate || u.is_separate) (binary_result op t.type u.type))
      else (do
        t ← judge h c (operand_position op) n a
        u ← judge h c (operand_position op) n b
        judge_operation p (t.is_separate || u.is_separate) (binary_result op t.type u.type))
  judge h c k n (ObjectTest p d a x) = do
    _ ← judge_tested h d
    t ← judge h c Plain n a
    _ ← required (is_condition k) ObjectTestPlace p
    Ok (typing (test_result t.type) t.is_separate)

  pub judge_receiver : RoutineContext → Context → Entities → Target → Judged Typing
  judge_receiver h c n no_target = Ok (simple_typing (current h))
  judge_receiver h c n (target a) = do
    t ← judge h c Plain n a
    _ ← judge_target (span_of a) t.type
    Ok (typing t.type (t.is_separate || is_foreign_type t.type))

  pub judged_actuals : RoutineContext → Context → Entities → Exprs → List JudgedActual
  judged_actuals h c n no_exprs = []
  judged_actuals h c n (expr_then e es) = (span_of e, judge h c Source n e) ∷ judged_actuals h c n es

  -- the entities that are known where the condition holds
  pub judge_given : RoutineContext → Context → Entities → Expr → Judged Entities
  judge_given h c n (ObjectTest p d a x) = do
    t ← judge h c Plain n a
    Ok (n ++ entity x.text (test_type h d t.type) role.Test ∷ [])
  judge_given h c n (Binary p op a b) =
      if is_and_then op
      then (do
        m ← judge_given h c n a
        judge_given h c m b)
      else Ok n
  judge_given h c n e = Ok n
