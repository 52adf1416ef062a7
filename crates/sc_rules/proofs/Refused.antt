-- Where a rule fails at an expression or in a part of it, judging refuses it.
use Rattle.std.proofs.Common.{◌≡◌, suc, Bool, true, false, List, [], ◌∷◌, length, Option, Some, Ok, Err, refl, ap, sym, ◌∙◌, subst}
use Rattle.std.specs.Prelude.{not, ◌&&◌, ◌||◌}
use Rattle.sc_text.specs.declared.token.Span.{Span}
use Rattle.sc_tree.specs.Plain.{Name, Expr, Target, target, Exprs, no_exprs, expr_then}
use Rattle.sc_rules.specs.declared.entity_types.entity_type.EntityType.{EntityType}
use Rattle.sc_rules.specs.declared.rule.Rule.{Rule}
use Rattle.sc_rules.specs.declared.rule.Rule.TheVariants.{ArgumentType, TargetDetachable, TargetUncontrolled, PreconditionArgument, ObjectTestPlace, OldPlace, VoidUse}
use Rattle.sc_rules.specs.declared.position.Context.{Context}
use Rattle.sc_rules.specs.declared.position.Position.{Position}
use Rattle.sc_rules.specs.declared.position.Position.TheVariants.{Plain, Condition, Source}
use Rattle.sc_rules.specs.declared.position.Use.{Use}
use Rattle.sc_rules.specs.declared.position.Use.TheVariants.{Value}
use Rattle.sc_rules.specs.Types.{is_controlled_tag, unary_result, binary_result}
use Rattle.sc_rules.specs.Positions.{span_of, is_old, is_ensure, is_condition, takes_void, operand_context, operand_position, shares_names}
use Rattle.sc_rules.specs.Names.{RoutineContext, Entities, FormalType, Meaning, named, meaning_of}
use Rattle.sc_rules.specs.Typing.{Typing, typing, is_foreign_type, old_stands, HasType, HasReceiver, implicit, explicit}
use Rattle.sc_rules.specs.Sites.{Site, expression, instruction, instructions, branches, IsActual, Part, target_part, actual_part, operand_part, left_part, right_part, joined_left_part, joined_right_part, tested_part}
use Rattle.sc_rules.specs.CallRules.{count, AtName, CallFails, detachable, uncontrolled, argument, reference_in_precondition, at_name}
use Rattle.sc_rules.specs.TextRules.{ExpressionFails, void_use, no_result, in_call, operand, operands, joined_operands, old_outside, old_over_separate, misplaced_test, tested_type}
use Rattle.sc_rules.specs.Judging.{Judged, ◌>>=◌, required, judge_type, judge_tested, judge_target, JudgedActual, judged_types, formals_of, target_of, is_taken, rest, may_pass, judge_actuals, judge_name, judge_actuals_and_name, judge_called, judge_result, judge, judge_receiver, judged_actuals, judge_given}
use Rattle.sc_rules.specs.JudgingText.{judge_instr, judge_instrs, judge_branches}
use Rattle.sc_rules.proofs.Refusals.{Refused, stops, stops_behind, stops_at, unmet}
use Rattle.sc_rules.proofs.Complete.{typed, given}
use Rattle.sc_rules.proofs.RefusedParts.{actual_refused, mismatch_refused, name_refused, no_operation, reference_refused, refused_else, refused_then, stops_after, type_refused}

-- ---- calls

refused_behind : {A B C : Type 0} (m : Judged A) (x : B) (f : B → Judged C) → Refused (f x) →
    Refused ((m >>= λ u. Ok x) >>= f)
refused_behind (Ok u) x f r = r
refused_behind (Err e) x f r = tt

-- what comes behind the target, where that has the type
pub behind_receiver : {h : RoutineContext} {c : Context} {n : Entities} {a : Target} {r : Typing} {B : Type 0} →
    HasReceiver h c n a r → (f : Typing → Judged B) →
    Refused (f r) →
    Refused (judge_receiver h c n a >>= f)
unfolding judge_receiver
behind_receiver implicit f k = k
behind_receiver {h} {c} {n} (explicit {a} {t} d) f k =
    subst (λ j. Refused ((j >>= λ t. judge_target (span_of a) t.type >>= λ u. Ok (typing t.type (t.is_separate || is_foreign_type t.type))) >>= f)) (sym (typed d))
    (refused_behind (judge_target (span_of a) t.type) (typing t.type (t.is_separate || is_foreign_type t.type)) f k)

-- a bind that gives something: its parts do
pub record Bound {A B : Type 0} (m : Judged A) (f : A → Judged B) (y : B) : Type 0 where
  pub first : A
  pub is_first : m ≡ Ok first
  pub is_last : f first ≡ Ok y

pub bound : {A B : Type 0} (m : Judged A) (f : A → Judged B) (y : B) → (m >>= f) ≡ Ok y → Bound m f y
bound (Ok x) f y e = record { first = x; is_first = refl; is_last = e }
bound (Err g) f y e = cc

pub same_ok : {A : Type 0} (x y : A) (i : Judged A) → i ≡ Ok x → i ≡ Ok y → x ≡ y
same_ok x y i d e = cc

-- the length of what is found of the rest, with which it is found of the whole
abbrev LengthOf : RoutineContext → Context → Option EntityType → EntityType → List (Option EntityType) →
    List FormalType → List JudgedActual → Type 0
LengthOf h c r t all fs rs = (ts : List Typing) → judge_actuals h c r t all fs rs ≡ Ok ts → length ts ≡ length rs

longer : (h : RoutineContext) (c : Context) (r : Option EntityType) (t : EntityType) (all : List (Option EntityType))
    (fs : List FormalType) (a : JudgedActual) (rs : List JudgedActual) →
    LengthOf h c r t all (rest fs) rs → LengthOf h c r t all fs (a ∷ rs)
longer h c r t all fs a rs l ts e = of_first (bound a.1 _ ts e)
  where
    of_last : (b : Typing) → Bound (judge_actuals h c r t all (rest fs) rs) (λ bs. Ok (b ∷ bs)) ts →
        length ts ≡ length (a ∷ rs)
    of_last b k = ap length (sym (same_ok (b ∷ k.first) ts (Ok (b ∷ k.first)) refl k.is_last)) ∙ ap suc (l k.first k.is_first)

    of_third : (b : Typing) → Bound (required (may_pass c r b.type) PreconditionArgument a.0)
        (λ u. judge_actuals h c r t all (rest fs) rs >>= λ bs. Ok (b ∷ bs)) ts → length ts ≡ length (a ∷ rs)
    of_third b k = of_last b (bound (judge_actuals h c r t all (rest fs) rs) (λ bs. Ok (b ∷ bs)) ts k.is_last)

    of_second : (b : Typing) → Bound (required (is_taken h.system t all fs b.type) ArgumentType a.0)
        (λ u. required (may_pass c r b.type) PreconditionArgument a.0 >>= λ u. judge_actuals h c r t all (rest fs) rs >>= λ bs. Ok (b ∷ bs)) ts → length ts ≡ length (a ∷ rs)
    of_second b k = of_third b (bound (required (may_pass c r b.type) PreconditionArgument a.0) (λ u. judge_actuals h c r t all (rest fs) rs >>= λ bs. Ok (b ∷ bs)) ts k.is_last)

    of_first : Bound a.1 (λ b. required (is_taken h.system t all fs b.type) ArgumentType a.0 >>= λ u. required (may_pass c r b.type) PreconditionArgument a.0 >>= λ u.
        judge_actuals h c r t all (rest fs) rs >>= λ bs. Ok (b ∷ bs)) ts → length ts ≡ length (a ∷ rs)
    of_first k = of_second k.first (bound (required (is_taken h.system t all fs k.first.type) ArgumentType a.0) _ ts k.is_last)

actuals_length : (h : RoutineContext) (c : Context) (r : Option EntityType) (t : EntityType)
    (all : List (Option EntityType)) (fs : List FormalType) (rs : List JudgedActual) →
    LengthOf h c r t all fs rs
actuals_length h c r t all fs [] ts e = ap length (sym (same_ok [] ts (Ok []) refl e))
actuals_length h c r t all fs (a ∷ rs) ts e = longer h c r t all fs a rs (actuals_length h c r t all (rest fs) rs) ts e

found_count : (h : RoutineContext) (c : Context) (n : Entities) (es : Exprs) →
    length (judged_actuals h c n es) ≡ count es
unfolding judged_actuals
found_count h c n no_exprs = refl
found_count h c n (expr_then e es) = ap suc (found_count h c n es)

-- a rule that fails at an actual or at the name refuses what is meant
pub meant_refused_by_actuals : (h : RoutineContext) (c : Context) (u : Use) (a : Target) (m : Meaning) (p : Span)
    (rs : List JudgedActual) (r : Typing) →
    Refused (judge_actuals h c r.type (target_of h m) (judged_types rs) (formals_of m) rs) →
    Refused (judge_actuals_and_name h c u a m p rs r)
meant_refused_by_actuals h c u a m p rs r k =
    stops (judge_actuals h c r.type (target_of h m) (judged_types rs) (formals_of m) rs) _ k

pub meant_refused_by_name : {h : RoutineContext} {c : Context} (n : Entities) {u : Use} {a : Target} {m : Meaning}
    (es : Exprs) {q : Rule} (p : Span) (r : Typing) →
    AtName h c a u m (count es) q →
    Refused (judge_actuals_and_name h c u a m p (judged_actuals h c n es) r)
meant_refused_by_name {h} {c} n {u} {a} {m} es {q} p r k =
    stops_after (judge_actuals h c r.type (target_of h m) (judged_types (judged_actuals h c n es)) (formals_of m) (judged_actuals h c n es)) _
    (λ ts e. stops (judge_name h c u a m (length ts) p) _
    (subst (λ i. Refused (judge_name h c u a m i p)) (sym (actuals_length h c r.type (target_of h m) (judged_types (judged_actuals h c n es)) (formals_of m) (judged_actuals h c n es) ts e ∙ found_count h c n es))
    (name_refused k p)))

-- an actual in which a rule fails refuses the call
pub called_refused_inside : (h : RoutineContext) (c : Context) (n : Entities) (u : Use) (a : Target) (x : Name)
    {e : Expr} {es : Exprs} → IsActual e es →
    Refused (judge h c Source n e) → (r : Typing) →
    Refused (judge_called h c n u a x (judged_actuals h c n es) r)
called_refused_inside h c n u a x {e} {es} i k r =
    meant_refused_by_actuals h c u a (meaning_of h n a r.type x) x.span (judged_actuals h c n es) r
    (actual_refused h c n i k r.type (target_of h (meaning_of h n a r.type x)) (judged_types (judged_actuals h c n es)) (formals_of (meaning_of h n a r.type x)))

pub receiver_refused : (h : RoutineContext) (c : Context) (n : Entities) (a : Expr) {B : Type 0}
    (f : Typing → Judged B) → Refused (judge h c Plain n a) → Refused (judge_receiver h c n (target a) >>= f)
unfolding judge_receiver
receiver_refused h c n a f k = stops (judge_receiver h c n (target a)) f (stops (judge h c Plain n a) _ k)

at_receiver : (h : RoutineContext) (c : Context) (n : Entities) (a : Expr) (t : Typing) {B : Type 0}
    (f : Typing → Judged B) → HasType h c Plain n a t →
    Refused (judge_target (span_of a) t.type) →
    Refused (judge_receiver h c n (target a) >>= f)
unfolding judge_receiver
at_receiver h c n a t f d k =
    stops (judge_receiver h c n (target a)) f (stops_at (judge h c Plain n a) _ t (typed d) (stops (judge_target (span_of a) t.type) _ k))

pub call_refused : {h : RoutineContext} {c : Context} {n : Entities} {u : Use} {a : Target} {x : Name} {es : Exprs}
    {q : Rule} {p : Span} → CallFails h c n u a x es q p →
    Refused (judge_receiver h c n a >>= λ r. judge_called h c n u a x (judged_actuals h c n es) r)
call_refused {h} {c} {n} {u} (detachable {a} {x} {es} {t} {b} d e) =
    at_receiver h c n a (typing (Some t) b) (λ r. judge_called h c n u (target a) x (judged_actuals h c n es) r) d
    (stops (required t.attached TargetDetachable (span_of a)) _ (unmet t.attached TargetDetachable (span_of a) e))
call_refused {h} {c} {n} {u} (uncontrolled {a} {x} {es} {t} {b} d e) =
    at_receiver h c n a (typing (Some t) b) (λ r. judge_called h c n u (target a) x (judged_actuals h c n es) r) d
    (stops_behind (required t.attached TargetDetachable (span_of a)) _ (λ w. unmet (is_controlled_tag t.tag) TargetUncontrolled (span_of a) e))
call_refused {h} {c} {n} {u} (argument {a} {x} {es} {r} {g} v e m) =
    behind_receiver v (λ r. judge_called h c n u a x (judged_actuals h c n es) r)
    (subst (λ m. Refused (judge_actuals_and_name h c u a m x.span (judged_actuals h c n es) r)) (sym e)
    (meant_refused_by_actuals h c u a (named g) x.span (judged_actuals h c n es) r (mismatch_refused m r.type)))
call_refused {h} {c} {n} {u} (reference_in_precondition {a} {x} {es} {e} {r} {t} {b} q v f i d w) =
    behind_receiver v (λ r. judge_called h c n u a x (judged_actuals h c n es) r)
    (meant_refused_by_actuals h c u a (meaning_of h n a r.type x) x.span (judged_actuals h c n es) r
    (reference_refused i d w q r.type f (target_of h (meaning_of h n a r.type x)) (judged_types (judged_actuals h c n es)) (formals_of (meaning_of h n a r.type x))))
call_refused {h} {c} {n} {u} (at_name {a} {x} {es} {r} v k) =
    behind_receiver v (λ r. judge_called h c n u a x (judged_actuals h c n es) r)
    (meant_refused_by_name n es x.span r k)

-- ---- expressions

pub expression_refused : {h : RoutineContext} {c : Context} {k : Position} {n : Entities} {e : Expr} {r : Rule}
    {p : Span} → ExpressionFails h c k n e r p →
    Refused (judge h c k n e)
unfolding judge
expression_refused {h} {c} {k} (void_use {s} e) =
    stops (required (takes_void k) VoidUse s) _ (unmet (takes_void k) VoidUse s e)
expression_refused {h} (no_result {s} e) =
    stops (judge_result s h.result) _ (subst (λ o. Refused (judge_result s o)) (sym e) tt)
expression_refused (in_call f) = call_refused f
expression_refused {h} (operand {c} {k} {n} {s} {op} {a} {t} d e) =
    stops_at (judge h (operand_context op c) Plain n a) _ t (typed d)
    (stops_behind (required (old_stands c op t) OldPlace s) _ (λ u. no_operation s t.is_separate (unary_result op t.type) e))
expression_refused {h} (operands {c} {k} {n} {s} {op} {a} {b} {t} {u} j d e f) =
    refused_else (shares_names k op) _ _ j (stops_at (judge h c (operand_position op) n a) _ t (typed d) (stops_at (judge h c (operand_position op) n b) _ u (typed e)
    (no_operation s (t.is_separate || u.is_separate) (binary_result op t.type u.type) f)))
expression_refused {h} (joined_operands {c} {k} {n} {m} {s} {op} {a} {b} {t} {u} j d g e f) =
    refused_then (shares_names k op) _ _ j (stops_at (judge h c Condition n a) _ t (typed d) (stops_at (judge_given h c n a) _ m (given g) (stops_at (judge h c Condition m b) _ u (typed e)
    (no_operation s (t.is_separate || u.is_separate) (binary_result op t.type u.type) f))))
expression_refused {h} (old_outside {c} {k} {n} {s} {op} {a} e f) =
    stops_behind (judge h (operand_context op c) Plain n a) _ (λ t. stops (required (old_stands c op t) OldPlace s) _ (unmet (old_stands c op t) OldPlace s (simp (e, f) refl)))
expression_refused {h} (old_over_separate {c} {k} {n} {s} {op} {a} {t} e d) =
    stops_at (judge h (operand_context op c) Plain n a) _ (typing t true) (typed d)
    (stops (required (old_stands c op (typing t true)) OldPlace s) _
    (unmet (old_stands c op (typing t true)) OldPlace s (no_separate (is_old op) (is_ensure c) e)))
  where
    no_separate : (o e : Bool) → o ≡ true → (not o || (e && false)) ≡ false
    no_separate true true i = refl
    no_separate true false i = refl
    no_separate false e i = cc
expression_refused {h} (misplaced_test {c} {k} {n} {s} {d} {a} e) =
    stops_behind (judge_tested h d) _ (λ u. stops_behind (judge h c Plain n a) _ (λ t. stops (required (is_condition k) ObjectTestPlace s) _ (unmet (is_condition k) ObjectTestPlace s e)))
expression_refused {h} (tested_type {d} f) = stops (judge_type h.system h.formals d) _ (type_refused f)

-- judging the site refuses it
abbrev pub RefusedAt : RoutineContext → Site → Type 0
RefusedAt h (expression c k n e) = Refused (judge h c k n e)
RefusedAt h (instruction n i) = Refused (judge_instr h n i)
RefusedAt h (instructions n is) = Refused (judge_instrs h n is)
RefusedAt h (branches n bs) = Refused (judge_branches h n bs)

-- where a part of an expression is refused, the whole is
pub expression_part_refused : {h : RoutineContext} {c : Context} {k : Position} {n : Entities} {e : Expr} {b : Site} →
    Part h (expression c k n e) b → RefusedAt h b →
    Refused (judge h c k n e)
unfolding judge
expression_part_refused {h} (target_part {c} {k} {n} {s} {a} {x} {es}) r =
    receiver_refused h c n a (λ r. judge_called h c n Value (target a) x (judged_actuals h c n es) r) r
expression_part_refused {h} (actual_part {c} {k} {n} {s} {t} {x} {es} i) r =
    stops_behind (judge_receiver h c n t) _ (λ w. called_refused_inside h c n Value t x i r w)
expression_part_refused {h} (operand_part {c} {k} {n} {s} {op} {a}) r =
    stops (judge h (operand_context op c) Plain n a) _ r
expression_part_refused {h} (left_part {c} {k} {n} {s} {op} {a} {b} j) r =
    refused_else (shares_names k op) _ _ j (stops (judge h c (operand_position op) n a) _ r)
expression_part_refused {h} (right_part {c} {k} {n} {s} {op} {a} {b} j) r =
    refused_else (shares_names k op) _ _ j (stops_behind (judge h c (operand_position op) n a) _ (λ t. stops (judge h c (operand_position op) n b) _ r))
expression_part_refused {h} (joined_left_part {c} {k} {n} {s} {op} {a} {b} j) r =
    refused_then (shares_names k op) _ _ j (stops (judge h c Condition n a) _ r)
expression_part_refused {h} (joined_right_part {c} {k} {n} {m} {s} {op} {a} {b} j g) r =
    refused_then (shares_names k op) _ _ j (stops_behind (judge h c Condition n a) _ (λ t. stops_at (judge_given h c n a) _ m (given g) (stops (judge h c Condition m b) _ r)))
expression_part_refused {h} (tested_part {c} {k} {n} {s} {d} {a}) r =
    stops_behind (judge_tested h d) _ (λ u. stops (judge h c Plain n a) _ r)
