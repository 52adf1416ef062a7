-- What judging finds of an expression is so, and the rule that it answers fails at its place.
use Rattle.std.proofs.Common.{◌≡◌, ℕ, suc, ◌==◌, Bool, true, false, List, [], ◌∷◌, length, Option, Some, None, Ok, refl, ap, sym, subst, arith}
use Rattle.std.specs.Prelude.{not, ◌&&◌, ◌||◌, ◌++◌, if◌then◌else◌}
use Rattle.std.specs.List.{list_any}
use Rattle.sc_text.specs.declared.token.Span.{Span}
use Rattle.sc_tree.specs.Plain as plain
use Rattle.sc_tree.specs.Plain.{System, DeclaredType, Name, Expr, Integer, Boolean, Void, Current, Call, Unary, Binary, ObjectTest, Target, no_target, target, Exprs, no_exprs, expr_then}
use Rattle.sc_class.specs.declared.identity.ClassId.TheVariants as class
use Rattle.sc_tree.specs.Properties.{is_print}
use Rattle.sc_class.specs.Tables.Features.{DeclaredFeature, feature_named}
use Rattle.sc_rules.specs.declared.entity_types.entity_type.EntityType.{EntityType}
use Rattle.sc_rules.specs.entity_types.Conformance as conformance
use Rattle.sc_rules.specs.declared.rule.Rule.{Rule}
use Rattle.sc_rules.specs.declared.rule.Rule.TheVariants.{WrongArity, ImpureContract, NotExported, ObjectTestPlace, OldPlace, VoidUse}
use Rattle.sc_rules.specs.declared.position.Context.{Context}
use Rattle.sc_rules.specs.declared.position.Position.{Position}
use Rattle.sc_rules.specs.declared.position.Position.TheVariants as position
use Rattle.sc_rules.specs.declared.position.Position.TheVariants.{Plain, Condition, Source}
use Rattle.sc_rules.specs.declared.position.Use.{Use}
use Rattle.sc_rules.specs.declared.position.Use.TheVariants.{Value, Instruction}
use Rattle.sc_rules.specs.Types.{TypeFails, unary_result, binary_result, test_result}
use Rattle.sc_rules.specs.Positions.{span_of, is_old, is_and_then, is_ensure, is_condition, wants_pure, takes_void, operand_context, operand_position, shares_names}
use Rattle.sc_rules.specs.declared.position.Role.TheVariants as role
use Rattle.sc_rules.specs.Names.{RoutineName, RoutineContext, Entities, Entity, entity, test_type, Signature, Meaning, unknown, target_untyped, named, current, print_signature, entity_or, entity_named, meaning_of_feature, meaning_of, is_qualified}
use Rattle.sc_rules.specs.Typing.{Typing, typing, simple_typing, types, may_target, is_foreign_type, formals_take, passes_values, may_call, is_exported_to, is_testable, old_stands, HasType, number, truth, void, current_object, result, call, untyped_target_call, unary, binary, and_then, test, HasReceiver, implicit, explicit, HasTypes, none, more, Gives, by_test, by_both, nothing}
use Rattle.sc_rules.specs.Sites.{expression, IsActual, target_part, actual_part, operand_part, left_part, right_part, joined_left_part, joined_right_part, tested_part}
use Rattle.sc_rules.specs.CallRules.{count, AtName, unknown_name, wrong_count, procedure_as_value, query_as_instruction, impure, hidden, CallFails, argument, reference_in_precondition, at_name}
use Rattle.sc_rules.specs.TextRules.{void_use, no_result, in_call, operand, operands, joined_operands, misplaced_test, tested_type, Fails}
use Rattle.sc_rules.specs.Judging.{◌>>=◌, required, judge_target, JudgedActual, judged_types, formals_of, target_of, judge_use, judge_name, judge_actuals_and_name, judge_called, judge_operation, judge_result, judge, judge_receiver, judged_actuals, judge_given}
use Rattle.sc_rules.proofs.Refusals.{Gave, gave, refuses, gave_then, gave_more, gave_map, gave_if, gave_required}
use Rattle.sc_rules.proofs.Complete.{types_ok}
use Rattle.sc_rules.proofs.ToldActuals.{ActualsFail, ActualsFit, AllTold, TargetFails, Told, here, in_target, old_fails, operated_told, target_told, told_actuals, told_more, told_none, told_tested, up, in_actual, at_target, mismatch, passed_reference}

-- ---- the name

-- what is given where the feature is used so
pub data UsedSo : Use → Option (Option EntityType) → Option EntityType → Type 0 where
  used_as_value : {t : Option EntityType} → UsedSo Value (Some t) t
  used_as_instruction : UsedSo Instruction None None

-- no rule fails at a name of this meaning, and this is given
pub data NameStands (h : RoutineContext) (c : Context) (u : Use) (a : Target) (k : ℕ) : Meaning → Option EntityType →
    Type 0 where
  stands_unresolved : NameStands h c u a k target_untyped None
  stands_for : {g : Signature} {t : Option EntityType} → k ≡ length g.formals → UsedSo u g.gives t →
      may_call h c g.routine ≡ true → is_exported_to a g ≡ true →
      NameStands h c u a k (named g) t

-- at this place, a rule at the name
abbrev pub NameFails : RoutineContext → Context → Use → Target → Meaning → ℕ → Span → Rule → Span → Type 0
NameFails h c u a m k p r q = (q ≡ p) × AtName h c a u m k r

equal_counts : (m n : ℕ) → (m == n) ≡ true → m ≡ n
equal_counts m n e = grind arith

other_counts : (m n : ℕ) → (m == n) ≡ false → m ≡ n → ⊥
other_counts m n e d = grind arith

told_use : (h : RoutineContext) (c : Context) (u : Use) (a : Target) (g : Signature) (k : ℕ) (p : Span)
    (o : Option (Option EntityType)) → g.gives ≡ o →
    Gave (UsedSo u o) (NameFails h c u a (named g) k p) (judge_use u o p)
told_use h c Value a g k p None e = refuses (refl, procedure_as_value e)
told_use h c Value a g k p (Some t) e = gave used_as_value
told_use h c Instruction a g k p None e = gave used_as_instruction
told_use h c Instruction a g k p (Some t) e = refuses (refl, query_as_instruction e)

not_pure : (h : RoutineContext) (c : Context) (u : Use) (a : Target) (g : Signature) (k : ℕ) (o : Option RoutineName) →
    g.routine ≡ o → may_call h c o ≡ false →
    AtName h c a u (named g) k ImpureContract
not_pure h c u a g k None e i = cc
not_pure h c u a g k (Some f) e i = by_purity (wants_pure c) (h.pure f) refl refl i
  where
    by_purity : (w p : Bool) → wants_pure c ≡ w → h.pure f ≡ p → (not w || p) ≡ false →
        AtName h c a u (named g) k ImpureContract
    by_purity true true d j i = cc
    by_purity true false d j i = impure e d j
    by_purity false p d j i = cc

not_exported : (h : RoutineContext) (c : Context) (u : Use) (a : Target) (g : Signature) (k : ℕ) (i j : Bool) →
    is_qualified a ≡ i → g.is_secret ≡ j →
    not (i && j) ≡ false →
    AtName h c a u (named g) k NotExported
not_exported h c u a g k true true d e f = hidden d e
not_exported h c u a g k true false d e f = cc
not_exported h c u a g k false j d e f = cc

pub told_name : (h : RoutineContext) (c : Context) (u : Use) (a : Target) (m : Meaning) (k : ℕ) (p : Span) →
    Gave (NameStands h c u a k m) (NameFails h c u a m k p) (judge_name h c u a m k p)
told_name h c u a unknown k p = refuses (refl, unknown_name)
told_name h c u a target_untyped k p = gave stands_unresolved
told_name h c u a (named g) k p =
    gave_then (λ w. judge_use u g.gives p >>= λ t. required (may_call h c g.routine) ImpureContract p >>= λ w. required (is_exported_to a g) NotExported p >>= λ w. Ok t)
    (gave_required (NameFails h c u a (named g) k p) (k == length g.formals) WrongArity p (λ e. (refl, wrong_count (other_counts k (length g.formals) e))))
    (λ w e. gave_then (λ t. required (may_call h c g.routine) ImpureContract p >>= λ w. required (is_exported_to a g) NotExported p >>= λ w. Ok t)
    (told_use h c u a g k p g.gives refl)
    (λ t s. gave_then (λ w. required (is_exported_to a g) NotExported p >>= λ w. Ok t)
    (gave_required (NameFails h c u a (named g) k p) (may_call h c g.routine) ImpureContract p (λ i. (refl, not_pure h c u a g k g.routine refl i)))
    (λ w i. gave_then (λ w. Ok t)
    (gave_required (NameFails h c u a (named g) k p) (is_exported_to a g) NotExported p
    (λ x. (refl, not_exported h c u a g k (is_qualified a) g.is_secret refl refl x)))
    (λ w x. gave (stands_for (equal_counts k (length g.formals) e) s i x)))))

-- ---- calls

pub resolved_feature : (s : System) (t : EntityType) (o : Option DeclaredFeature) →
    meaning_of_feature s t o ≡ target_untyped → ⊥
resolved_feature s t None e = cc
resolved_feature s t (Some f) e = cc

pub resolved_near : (h : RoutineContext) (x : List ℕ) (o : Option Entity) → entity_or h x o ≡ target_untyped → ⊥
resolved_near h x (Some e) d = cc
resolved_near h x None d = by_print (is_print x) d
  where
    by_print : (b : Bool) →
        (if b then named (print_signature h) else meaning_of_feature h.system (current h) (feature_named h.system (class.Declared h.class) x)) ≡ target_untyped → ⊥
    by_print true d = cc
    by_print false d = resolved_feature h.system (current h) (feature_named h.system (class.Declared h.class) x) d

-- what judging the actuals and the name tells
pub record Meant (h : RoutineContext) (c : Context) (n : Entities) (u : Use) (a : Target) (m : Meaning) (es : Exprs)
    (rs : List JudgedActual) (r t : Typing) : Type 0 where
  pub actuals : List Typing
  pub given : Option EntityType
  pub fitting : ActualsFit h c n r.type (judged_types rs) (target_of h m) (formals_of m) es rs actuals
  pub named : NameStands h c u a (length actuals) m given
  pub is : t ≡ typing given (r.is_separate || list_any (λ (b : Typing). b.is_separate) actuals)

-- in an actual, at one, or at the name, which stands at this place
pub data MeantFails (h : RoutineContext) (c : Context) (n : Entities) (u : Use) (a : Target) (m : Meaning) (p : Span)
    (es : Exprs) (r : Option EntityType) (q : Rule) (s : Span) : Type 0 where
  by_actuals : ActualsFail h c n r es (target_of h m) (formals_of m) es q s → MeantFails h c n u a m p es r q s
  by_name : NameFails h c u a m (count es) p q s → MeantFails h c n u a m p es r q s

pub counted : {h : RoutineContext} {c : Context} {n : Entities} {es : Exprs} {ts : List Typing} →
    HasTypes h c n es ts → length ts ≡ count es
counted none = refl
counted (more d ds) = ap suc (counted ds)

pub told_meant : {h : RoutineContext} {c : Context} {n : Entities} (u : Use) (a : Target) (m : Meaning) (p : Span)
    {es : Exprs} {rs : List JudgedActual} (r : Typing) →
    AllTold h c n es rs →
    Gave (Meant h c n u a m es rs r) (MeantFails h c n u a m p es r.type) (judge_actuals_and_name h c u a m p rs r)
told_meant {h} {c} {n} u a m p {es} {rs} r k =
    gave_then (λ ts. judge_name h c u a m (length ts) p >>= λ t. Ok (typing t (r.is_separate || list_any (λ (b : Typing). b.is_separate) ts)))
    (gave_more (λ q s f. by_actuals f) (told_actuals r.type k (target_of h m) (formals_of m) k))
    (λ ts f. gave_then (λ t. Ok (typing t (r.is_separate || list_any (λ (b : Typing). b.is_separate) ts)))
    (gave_more (λ q s g. by_name (subst (λ i. NameFails h c u a m i p q s) (counted f.typed_all) g)) (told_name h c u a m (length ts) p))
    (λ t s. gave (record { actuals = ts; given = t; fitting = f; named = s; is = refl })))

-- ---- calls as expressions

used_value : {o : Option (Option EntityType)} {t : Option EntityType} → UsedSo Value o t → o ≡ Some t
used_value used_as_value = refl

typed_call : (h : RoutineContext) (c : Context) (k : Position) (n : Entities) (s : Span) (a : Target) (x : Name)
    (es : Exprs) (r : Typing) (ts : List Typing) (t : Option EntityType) (m : Meaning) →
    meaning_of h n a r.type x ≡ m → HasReceiver h c n a r → may_target r.type ≡ true → HasTypes h c n es ts →
    formals_take h.system (target_of h m) (types ts) (formals_of m) (types ts) ≡ true →
    passes_values c r.type (types ts) ≡ true → NameStands h c Value a (length ts) m t →
    HasType h c k n (Call s a x es) (typing t (r.is_separate || list_any (λ (b : Typing). b.is_separate) ts))
typed_call h c k n s a x es r ts t m e v i d f p (stands_for l w y z) = call v i e d f p l (used_value w) y z
typed_call h c k n s no_target x es r ts t m e implicit i d f p stands_unresolved =
    absurd (resolved_near h x.text (entity_named x.text n) e)
typed_call h c k n s (target a) x es r ts t m e v i d f p stands_unresolved = by_type r.type refl e
  where
    by_type : (o : Option EntityType) → r.type ≡ o → meaning_of h n (target a) o x ≡ target_untyped →
        HasType h c k n (Call s (target a) x es)
        (typing None (r.is_separate || list_any (λ (b : Typing). b.is_separate) ts))
    by_type None j e = untyped_target_call v j d
    by_type (Some u) j e = absurd (resolved_feature h.system u (feature_named h.system u.class x.text) e)

-- where a rule fails in what is meant, it does in the call
pub meant_call : {h : RoutineContext} {c : Context} {n : Entities} {u : Use} {a : Target} {x : Name} {es : Exprs}
    {r : Typing} (m : Meaning) →
    meaning_of h n a r.type x ≡ m →
    HasReceiver h c n a r → (P : Rule → Span → Type 0) →
    ((q : Rule) (p : Span) → CallFails h c n u a x es q p → P q p) →
    ((e : Expr) → IsActual e es → (q : Rule) (p : Span) → Fails h (expression c Source n e) q p → P q p) →
    (q : Rule) (p : Span) → MeantFails h c n u a m x.span es r.type q p → P q p
meant_call m e v P f g q p (by_actuals (in_actual {e = d} i k)) = g d i q p k
meant_call unknown e v P f g q p (by_actuals (mismatch k)) = elim (k) [ ]
meant_call target_untyped e v P f g q p (by_actuals (mismatch k)) = elim (k) [ ]
meant_call (named s) e v P f g q p (by_actuals (mismatch k)) = f q p (argument v e k)
meant_call m e v P f g q p (by_actuals (passed_reference i j k d w)) = f q p (reference_in_precondition i v j k d w)
meant_call {h} {c} {n} {u} {a} {x} {es} {r} m e v P f g q p (by_name (i, k)) =
    subst (P q) (sym i) (f q x.span (at_name v (subst (λ m. AtName h c a u m (count es) q) (sym e) k)))

told_call : {h : RoutineContext} {c : Context} {n : Entities} (k : Position) (s : Span) (a : Target) (x : Name)
    (es : Exprs) (r : Typing) → HasReceiver h c n a r →
    may_target r.type ≡ true →
    AllTold h c n es (judged_actuals h c n es) → Told h c k n (Call s a x es)
    (judge_called h c n Value a x (judged_actuals h c n es) r)
told_call {h} {c} {n} k s a x es r v i t =
    gave_more (meant_call (meaning_of h n a r.type x) refl v (Fails h (expression c k n (Call s a x es))) (λ q p f. here (in_call f)) (λ e i q p f. up (actual_part i) q p f))
    (gave_map (λ w m. of_meant w m) (told_meant Value a (meaning_of h n a r.type x) x.span r t))
  where
    of_meant : (w : Typing) → Meant h c n Value a (meaning_of h n a r.type x) es (judged_actuals h c n es) r w →
        HasType h c k n (Call s a x es) w
    of_meant w m = subst (HasType h c k n (Call s a x es)) (sym m.is)
        (typed_call h c k n s a x es r m.actuals m.given (meaning_of h n a r.type x) refl v i m.fitting.typed_all
        (subst (λ ts. formals_take h.system (target_of h (meaning_of h n a r.type x)) ts (formals_of (meaning_of h n a r.type x)) (types m.actuals) ≡ true) (types_ok m.fitting.found_all) m.fitting.fits)
        m.fitting.passes m.named)

receiver_fails : {h : RoutineContext} {c : Context} {n : Entities} {k : Position} {s : Span} (a : Target) (x : Name)
    (es : Exprs) (r : Rule) (p : Span) →
    TargetFails h c n a r p →
    Fails h (expression c k n (Call s a x es)) r p
receiver_fails no_target x es r p f = elim (f) [ ]
receiver_fails (target a) x es r p (in_target f) = up target_part r p f
receiver_fails (target a) x es r p (at_target f) = here (in_call (f Value x es))

told_result : (h : RoutineContext) (c : Context) (k : Position) (n : Entities) (p : Span)
    (o : Option (Option EntityType)) → h.result ≡ o →
    Told h c k n (plain.Result p) (judge_result p o >>= λ t. Ok (typing t false))
told_result h c k n p None e = refuses (here (no_result e))
told_result h c k n p (Some t) e = gave (result e)

test_type_fails : (h : RoutineContext) (c : Context) (k : Position) (n : Entities) (s : Span) (d : Option DeclaredType)
    (a : Expr) (x : Name) (r : Rule) (p : Span) →
    ((t : DeclaredType) × (d ≡ Some t) × TypeFails h.system h.formals t r p) →
    Fails h (expression c k n (ObjectTest s d a x)) r p
test_type_fails h c k n s d a x r p (t, e, f) = subst (λ d. Fails h (expression c k n (ObjectTest s d a x)) r p)
    (sym e) (here (tested_type f))

told_placed : (h : RoutineContext) (c : Context) (k : Position) (n : Entities) (s : Span) (d : Option DeclaredType)
    (a : Expr) (x : Name) (t : Typing) →
    is_testable h d ≡ true →
    HasType h c Plain n a t → Told h c k n (ObjectTest s d a x)
    (required (is_condition k) ObjectTestPlace s >>= λ u. Ok (typing (test_result t.type) t.is_separate))
told_placed h c position.Condition n s d a x t i e = gave (test i e)
told_placed h c position.Plain n s d a x t i e = refuses (here (misplaced_test refl))
told_placed h c position.Source n s d a x t i e = refuses (here (misplaced_test refl))

mutual
  unfolding judge

  pub told : (h : RoutineContext) (c : Context) (k : Position) (n : Entities) (e : Expr) →
      Told h c k n e (judge h c k n e)
  told h c k n (Integer p v) = gave number
  told h c k n (Boolean p v) = gave truth
  told h c k n (Void p) = gave_then (λ u. Ok (simple_typing conformance.void))
      (gave_required (Fails h (expression c k n (Void p))) (takes_void k) VoidUse p (λ e. here (void_use e)))
      (λ u e. gave (void e))
  told h c k n (Current p) = gave current_object
  told h c k n (plain.Result p) = told_result h c k n p h.result refl
  told h c k n (Call p a x es) =
      gave_then (λ r. judge_called h c n Value a x (judged_actuals h c n es) r)
      (gave_more (λ q s f. receiver_fails a x es q s f) (told_receiver h c n a))
      (λ r v. told_call k p a x es r v.0 v.1 (told_found h c n es))
  told h c k n (Unary p op a) =
      gave_then (λ t. required (old_stands c op t) OldPlace p >>= λ u. judge_operation p t.is_separate (unary_result op t.type)) (gave_more (up operand_part) (told h (operand_context op c) Plain n a))
      (λ t d. gave_then (λ u. judge_operation p t.is_separate (unary_result op t.type))
      (gave_required (Fails h (expression c k n (Unary p op a))) (old_stands c op t) OldPlace p
      (λ e. here (old_fails h c k n p op a t.type (is_old op) (is_ensure c) t.is_separate refl refl d e)))
      (λ u o. operated_told p t.is_separate (unary_result op t.type) (λ e. here (operand d e)) (λ r e. unary d o e)))
  told h c k n (Binary p op a b) =
      gave_if (shares_names k op) _ _
      (λ j. gave_then (λ t. judge_given h c n a >>= λ m. judge h c Condition m b >>= λ u. judge_operation p (t.is_separate || u.is_separate) (binary_result op t.type u.type))
      (gave_more (up (joined_left_part j)) (told h c Condition n a))
      (λ t d. gave_then (λ m. judge h c Condition m b >>= λ u. judge_operation p (t.is_separate || u.is_separate) (binary_result op t.type u.type))
      (gave_more (up (joined_left_part j)) (told_given h c n a))
      (λ m g. gave_then (λ u. judge_operation p (t.is_separate || u.is_separate) (binary_result op t.type u.type))
      (gave_more (up (joined_right_part j g)) (told h c Condition m b))
      (λ u e. operated_told p (t.is_separate || u.is_separate) (binary_result op t.type u.type) (λ i. here (joined_operands j d g e i)) (λ r i. and_then j d g e i)))))
      (λ j. gave_then (λ t. judge h c (operand_position op) n b >>= λ u. judge_operation p (t.is_separate || u.is_separate) (binary_result op t.type u.type))
      (gave_more (up (left_part j)) (told h c (operand_position op) n a))
      (λ t d. gave_then (λ u. judge_operation p (t.is_separate || u.is_separate) (binary_result op t.type u.type))
      (gave_more (up (right_part j)) (told h c (operand_position op) n b))
      (λ u e. operated_told p (t.is_separate || u.is_separate) (binary_result op t.type u.type) (λ i. here (operands j d e i)) (λ r i. binary j d e i))))
  told h c k n (ObjectTest p d a x) =
      gave_then (λ u. judge h c Plain n a >>= λ t. required (is_condition k) ObjectTestPlace p >>= λ u. Ok (typing (test_result t.type) t.is_separate))
      (gave_more (λ q s f. test_type_fails h c k n p d a x q s f) (told_tested h d))
      (λ u i. gave_then (λ t. required (is_condition k) ObjectTestPlace p >>= λ u. Ok (typing (test_result t.type) t.is_separate))
      (gave_more (up tested_part) (told h c Plain n a))
      (λ t e. told_placed h c k n p d a x t i e))

  pub told_receiver : (h : RoutineContext) (c : Context) (n : Entities) (a : Target) →
      Gave (λ r. HasReceiver h c n a r × (may_target r.type ≡ true)) (TargetFails h c n a) (judge_receiver h c n a)
  told_receiver h c n no_target = gave (implicit, refl)
  told_receiver h c n (target a) =
      gave_then (λ t. judge_target (span_of a) t.type >>= λ u. Ok (typing t.type (t.is_separate || is_foreign_type t.type)))
      (gave_more (λ q s f. in_target f) (told h c Plain n a))
      (λ t d. gave_then (λ u. Ok (typing t.type (t.is_separate || is_foreign_type t.type))) (target_told h c n a t.type t.is_separate d) (λ u i. gave (explicit d, i)))

  pub told_found : (h : RoutineContext) (c : Context) (n : Entities) (es : Exprs) →
      AllTold h c n es (judged_actuals h c n es)
  told_found h c n no_exprs = told_none
  told_found h c n (expr_then e es) = told_more (told h c Source n e) (told_found h c n es)

  pub told_given : (h : RoutineContext) (c : Context) (n : Entities) (e : Expr) →
      Gave (Gives h c n e) (Fails h (expression c Condition n e)) (judge_given h c n e)
  told_given h c n (ObjectTest p d a x) = gave_then (λ t. Ok (n ++ entity x.text (test_type h d t.type) role.Test ∷ [])) (gave_more (up tested_part) (told h c Plain n a)) (λ t e. gave (by_test e))
  told_given h c n (Binary p op a b) =
      gave_if (is_and_then op) _ _
      (λ j. gave_then (λ m. judge_given h c m b) (gave_more (up (joined_left_part j)) (told_given h c n a))
      (λ m g. gave_map (λ o i. by_both j g i) (gave_more (up (joined_right_part j g)) (told_given h c m b))))
      (λ j. gave (nothing j))
  told_given h c n e = gave (nothing refl)
