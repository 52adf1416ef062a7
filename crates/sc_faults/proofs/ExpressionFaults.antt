-- The faults that are listed of expressions: each is one of them, and there is none where judging refuses nothing.
use Rattle.std.proofs.Common.{◌≡◌, Bool, true, false, List, [], ◌++◌, Option, None, Ok, refl, sym, subst}
use Rattle.std.specs.Prelude.{All, not, ◌&&◌, ◌||◌, if◌then◌else◌}
use Rattle.std.proofs.lemmas.List.Elements.{All-nil}
use Rattle.sc_text.specs.declared.token.Span.{Span}
use Rattle.sc_tree.specs.declared.expression.UnaryOperator.{UnaryOperator}
use Rattle.sc_tree.specs.Plain as plain
use Rattle.sc_tree.specs.Plain.{Name, Expr, Integer, Boolean, Void, Current, Call, Unary, Binary, ObjectTest, Target, no_target, target, Exprs, no_exprs, expr_then}
use Rattle.sc_rules.specs.declared.entity_types.entity_type.EntityType.{EntityType}
use Rattle.sc_rules.specs.declared.rule.Rule.{Rule}
use Rattle.sc_rules.specs.declared.rule.Rule.TheVariants.{ObjectTestPlace, OldPlace}
use Rattle.sc_rules.specs.declared.fault.Fault.{Fault}
use Rattle.sc_rules.specs.declared.position.Context.{Context}
use Rattle.sc_rules.specs.declared.position.Position.{Position}
use Rattle.sc_rules.specs.declared.position.Position.TheVariants.{Plain, Condition, Source}
use Rattle.sc_rules.specs.declared.position.Use.TheVariants.{Value}
use Rattle.sc_rules.specs.Positions.{span_of, is_old, is_ensure, is_condition, operand_context, operand_position, shares_names}
use Rattle.sc_rules.specs.Names.{RoutineContext, Entities, FormalType}
use Rattle.sc_rules.specs.Typing.{Typing, typing, old_stands, Gives}
use Rattle.sc_rules.specs.Sites.{expression, first_actual, target_part, actual_part, operand_part, left_part, right_part, joined_left_part, joined_right_part, tested_part}
use Rattle.sc_rules.specs.TextRules.{in_call, old_outside, misplaced_test, tested_type, Fails}
use Rattle.sc_rules.specs.Judging.{Judged, JudgedActual, judged_types, formals_of, target_of, rest, judge, judged_actuals, judge_given}
use Rattle.sc_rules.specs.JudgingPurity.{receiver_type}
use Rattle.sc_rules.proofs.Refusals.{Refused, Tells, passes, tells_then, tells_gave}
use Rattle.sc_rules.proofs.Sound.{told as told_expression, told_given}
use Rattle.sc_rules.proofs.ToldActuals.{up, here, TargetFails, in_target, at_target, ActualsFail, in_actual}
use Rattle.sc_rules.proofs.TextComplete.{refused}
use Rattle.sc_rules.proofs.TextSound.{tells_required}
use Rattle.sc_faults.specs.Internal.Listing.{faults_at, where_known, faults_of_type_if_any, judge_before, judge_passed, meant, judge_old, judge_place, faults_in, faults_in_target, faults_in_actuals, faults_of}
use Rattle.sc_faults.proofs.ReportedFaults.{Holds, all_more, joined, none_left, at_all, known_all}
use Rattle.sc_faults.proofs.TypeFaults.{tested_all}
use Rattle.sc_faults.proofs.CallFaults.{tells_before, tells_passed, later_fails, call_all}

pub reports : (h : RoutineContext) (c : Context) (k : Position) (n : Entities) (e : Expr) →
    Tells (Fails h (expression c k n e)) (judge h c k n e)
reports h c k n e = tells_gave (told_expression h c k n e)

-- the faults of a part are some of the whole
of_all : (h : RoutineContext) (c : Context) (k : Position) (n : Entities) (e : Expr) (P : Rule → Span → Type 0) →
    ((r : Rule) (p : Span) → Fails h (expression c k n e) r p → P r p) →
    All (Holds (Fails h (expression c k n e))) (faults_in h c k n e) → All (Holds P) (faults_of h c k n e)
of_all h c k n e P g a =
    all_more (Fails h (expression c k n e)) P (faults_of h c k n e) g
    (at_all (Fails h (expression c k n e)) (judge h c k n e) (faults_in h c k n e) (reports h c k n e) a)

if_all : (P : Rule → Span → Type 0) (b : Bool) (fs gs : List Fault) → (b ≡ true → All (Holds P) fs) →
    (b ≡ false → All (Holds P) gs) → All (Holds P) (if b then fs else gs)
if_all P true fs gs f g = f refl
if_all P false fs gs f g = g refl

receiver_up : {h : RoutineContext} {c : Context} {k : Position} {n : Entities} {s : Span} (a : Target) {x : Name} {es : Exprs}
    (r : Rule) (p : Span) → TargetFails h c n a r p → Fails h (expression c k n (Call s a x es)) r p
receiver_up no_target r p f = elim (f) [ ]
receiver_up (target a) r p (in_target f) = up target_part r p f
receiver_up (target a) {x} {es} r p (at_target f) = here (in_call (f Value x es))

both_false : (b c : Bool) → (not b || (c && true)) ≡ false → (b ≡ true) × (c ≡ false)
both_false true true e = cc
both_false true false e = (refl, refl)
both_false false c e = cc

tells_old : (h : RoutineContext) (c : Context) (k : Position) (n : Entities) (s : Span) (op : UnaryOperator) (a : Expr) →
    Tells (Fails h (expression c k n (Unary s op a))) (judge_old c op s)
tells_old h c k n s op a =
    tells_then _
    (tells_then _
    (tells_required (Fails h (expression c k n (Unary s op a))) (old_stands c op (typing None false)) OldPlace s
    (λ e. here (old_outside (both_false (is_old op) (is_ensure c) e).0 (both_false (is_old op) (is_ensure c) e).1)))
    (λ u. passes))
    (λ t. passes)

mutual
  unfolding faults_in

  pub in_all : (h : RoutineContext) (c : Context) (k : Position) (n : Entities) (e : Expr) →
      All (Holds (Fails h (expression c k n e))) (faults_in h c k n e)
  in_all h c k n (Integer p v) = All-nil (Holds (Fails h (expression c k n (Integer p v))))
  in_all h c k n (Boolean p v) = All-nil (Holds (Fails h (expression c k n (Boolean p v))))
  in_all h c k n (Void p) = All-nil (Holds (Fails h (expression c k n (Void p))))
  in_all h c k n (Current p) = All-nil (Holds (Fails h (expression c k n (Current p))))
  in_all h c k n (plain.Result p) = All-nil (Holds (Fails h (expression c k n (plain.Result p))))
  in_all h c k n (Call p a x es) =
      call_all h c n Value a x es (Fails h (expression c k n (Call p a x es))) (λ r q f. receiver_up a r q f) (λ r q f. here (in_call f))
      (λ e i r q f. up (actual_part i) r q f) (target_in h c n a)
      (actuals_in h c n (receiver_type h c n a) es (target_of h (meant h c n a x)) (formals_of (meant h c n a x)) es)
  in_all h c k n (Unary p op a) =
      let P : Rule → Span → Type 0 = Fails h (expression c k n (Unary p op a)) in
      joined P (faults_of h (operand_context op c) Plain n a) (faults_at (judge_old c op p) [])
      (of_all h (operand_context op c) Plain n a P (λ r q f. up operand_part r q f) (in_all h (operand_context op c) Plain n a))
      (at_all P (judge_old c op p) [] (tells_old h c k n p op a) (All-nil (Holds P)))
  in_all h c k n (Binary p op a b) =
      let P : Rule → Span → Type 0 = Fails h (expression c k n (Binary p op a b)) in
      let side : Position = operand_position op in
      if_all P (shares_names k op)
      (faults_of h c Condition n a ++ where_known (judge_given h c n a) (λ m. faults_of h c Condition m b))
      (faults_of h c side n a ++ faults_of h c side n b)
      (λ j. joined P (faults_of h c Condition n a) (where_known (judge_given h c n a) (λ m. faults_of h c Condition m b))
      (of_all h c Condition n a P (λ r q f. up (joined_left_part j) r q f) (in_all h c Condition n a))
      (known_all P (Gives h c n a) (Fails h (expression c Condition n a)) (judge_given h c n a)
      (λ m. faults_of h c Condition m b) (told_given h c n a)
      (λ m g. of_all h c Condition m b P (λ r q f. up (joined_right_part j g) r q f) (in_all h c Condition m b))))
      (λ j. joined P (faults_of h c side n a) (faults_of h c side n b)
      (of_all h c side n a P (λ r q f. up (left_part j) r q f) (in_all h c side n a))
      (of_all h c side n b P (λ r q f. up (right_part j) r q f) (in_all h c side n b)))
  in_all h c k n (ObjectTest p d a x) =
      let P : Rule → Span → Type 0 = Fails h (expression c k n (ObjectTest p d a x)) in
      joined P (faults_of_type_if_any h.system h.formals d) (faults_of h c Plain n a ++ faults_at (judge_place k p) [])
      (tested_all h d P (λ t e r q f. subst (λ d. Fails h (expression c k n (ObjectTest p d a x)) r q) (sym e) (here (tested_type f))))
      (joined P (faults_of h c Plain n a) (faults_at (judge_place k p) [])
      (of_all h c Plain n a P (λ r q f. up tested_part r q f) (in_all h c Plain n a))
      (at_all P (judge_place k p) []
      (tells_required P (is_condition k) ObjectTestPlace p (λ e. here (misplaced_test e))) (All-nil (Holds P))))

  pub target_in : (h : RoutineContext) (c : Context) (n : Entities) (a : Target) →
      All (Holds (TargetFails h c n a)) (faults_in_target h c n a)
  target_in h c n no_target = All-nil (Holds (TargetFails h c n no_target))
  target_in h c n (target b) =
      at_all (TargetFails h c n (target b)) (judge_before h c n b) (faults_of h c Plain n b) (tells_before h c n b)
      (of_all h c Plain n b (TargetFails h c n (target b)) (λ r p f. in_target f) (in_all h c Plain n b))

  pub actuals_in : (h : RoutineContext) (c : Context) (n : Entities) (r : Option EntityType) (all : Exprs) (t : EntityType)
      (fs : List FormalType) (es : Exprs) → All (Holds (ActualsFail h c n r all t fs es))
      (faults_in_actuals h c n (judge_passed h c r t (judged_types (judged_actuals h c n all))) fs es)
  actuals_in h c n r all t fs no_exprs = All-nil (Holds (ActualsFail h c n r all t fs no_exprs))
  actuals_in h c n r all t fs (expr_then e es) =
      let P : Rule → Span → Type 0 = ActualsFail h c n r all t fs (expr_then e es) in
      let pass : List FormalType → JudgedActual → Judged (Unit {0}) = judge_passed h c r t (judged_types (judged_actuals h c n all)) in
      joined P (faults_at (pass fs (span_of e, judge h c Source n e)) (faults_of h c Source n e))
      (faults_in_actuals h c n pass (rest fs) es)
      (at_all P (pass fs (span_of e, judge h c Source n e)) (faults_of h c Source n e) (tells_passed h c n r t all fs e es)
      (of_all h c Source n e P (λ q p f. in_actual first_actual f) (in_all h c Source n e)))
      (all_more (ActualsFail h c n r all t (rest fs) es) P (faults_in_actuals h c n pass (rest fs) es)
      (λ q p f. later_fails fs e es q p f) (actuals_in h c n r all t (rest fs) es))

pub expression_all : (h : RoutineContext) (c : Context) (k : Position) (n : Entities) (e : Expr) (P : Rule → Span → Type 0) →
    ((r : Rule) (p : Span) → Fails h (expression c k n e) r p → P r p) → All (Holds P) (faults_of h c k n e)
expression_all h c k n e P g = of_all h c k n e P g (in_all h c k n e)

-- an expression that has a type has no faults in its operands
pub none_within : (h : RoutineContext) (c : Context) (k : Position) (n : Entities) (e : Expr) (t : Typing) →
    judge h c k n e ≡ Ok t → faults_in h c k n e ≡ []
none_within h c k n e t j =
    none_left (Fails h (expression c k n e)) (faults_in h c k n e)
    (λ r p f. subst (λ (j : Judged Typing). Refused j) j (refused f)) (in_all h c k n e)
