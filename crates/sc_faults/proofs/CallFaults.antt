-- The faults that are listed of a call: each is one of it, and there is one at each place at which a rule fails at its target, at an
-- actual or at its name.
use Rattle.std.proofs.Common.{◌≡◌, ℕ, Bool, true, false, List, [], ◌∷◌, Option, Some, None, Ok, Err, refl, ap, sym, subst, ◌∙◌}
use Rattle.std.specs.Prelude.{All, Any}
use Rattle.std.proofs.lemmas.List.Elements.{All-nil}
use Rattle.sc_text.specs.declared.token.Span.{Span}
use Rattle.sc_tree.specs.Plain.{Name, Expr, Target, no_target, target, Exprs, no_exprs, expr_then}
use Rattle.sc_class.specs.Tables.Conformance.{is_expanded}
use Rattle.sc_class.proofs.Anys.{any_left, any_right}
use Rattle.sc_rules.specs.declared.entity_types.entity_type.EntityType.{EntityType}
use Rattle.sc_rules.specs.declared.rule.Rule.{Rule}
use Rattle.sc_rules.specs.declared.rule.Rule.TheVariants.{ArgumentType, TargetDetachable, TargetUncontrolled, PreconditionArgument}
use Rattle.sc_rules.specs.declared.fault.Fault.{Fault}
use Rattle.sc_rules.specs.declared.position.Context.{Context}
use Rattle.sc_rules.specs.declared.position.Position.TheVariants.{Plain, Source}
use Rattle.sc_rules.specs.declared.position.Use.{Use}
use Rattle.sc_rules.specs.Types.{is_controlled_tag}
use Rattle.sc_rules.specs.Positions.{span_of, is_require}
use Rattle.sc_rules.specs.Names.{RoutineContext, Entities, FormalType, Meaning, target_untyped, meaning_of}
use Rattle.sc_rules.specs.Typing.{Typing, typing, is_foreign_type, HasType, HasReceiver, implicit, explicit}
use Rattle.sc_rules.specs.Sites.{expression, IsActual, first_actual, later_actual}
use Rattle.sc_rules.specs.CallRules.{count, Mismatches, first_pair, later_pair, AtName, CallFails, detachable, uncontrolled, argument, reference_in_precondition, at_name}
use Rattle.sc_rules.specs.TextRules.{Fails}
use Rattle.sc_rules.specs.Judging.{Judged, ◌>>=◌, required, judge_target, JudgedActual, judged_type, judged_types, target_of, formals_of, is_taken, rest, may_pass, judge_actuals, judge_name, judge, judged_actuals}
use Rattle.sc_rules.specs.JudgingPurity.{receiver_type}
use Rattle.sc_rules.proofs.Refusals.{Refused, Tells, passes, tells, tells_more, tells_then, gave, refuses, tells_gave}
use Rattle.sc_rules.proofs.Complete.{typed}
use Rattle.sc_rules.proofs.ToldActuals.{Told, TargetFails, in_target, target_told, told_more, ActualsFail, in_actual, mismatch, passed_reference, told_actuals}
use Rattle.sc_rules.proofs.Sound.{MeantFails, by_actuals, by_name, told_name, meant_call, told, told_found}
use Rattle.sc_rules.proofs.RefusedParts.{name_refused, reference_refused, mismatch_refused}
use Rattle.sc_typing.specs.Judges.{judge_received}
use Rattle.sc_faults.specs.Internal.Listing.{faults_at, judge_before, judge_passed, judge_passed_to, judge_named, meant, faults_in_target, faults_in_actuals, faults_of, faults_of_meant, faults_of_call}
use Rattle.sc_faults.proofs.ReportedFaults.{Holds, all_more, joined, at_all}
use Rattle.sc_faults.proofs.Places.{At, There, at_place, there_first, there_next, there_required, there_either, there_told}

-- ---- what judging tells of each part

pub tells_before : (h : RoutineContext) (c : Context) (n : Entities) (b : Expr) → Tells (TargetFails h c n (target b)) (judge_before h c n b)
tells_before h c n b = by (judge h c Plain n b) (told h c Plain n b)
  where
    by : (j : Judged Typing) → Told h c Plain n b j →
        Tells {A = Unit {0}} (TargetFails h c n (target b)) (j >>= λ t. judge_received (span_of b) t >>= λ r. Ok tt)
    by (Ok t) (gave d) =
        tells_then _ (tells_then _ (tells_gave (target_told h c n b t.type t.is_separate d)) (λ u. passes)) (λ r. passes)
    by (Err f) (refuses g) = tells (in_target g)

-- where the actuals from this one on are judged, it is judged first
passed_first : {P : Rule → Span → Type 0} (h : RoutineContext) (c : Context) (r : Option EntityType) (t : EntityType)
    (ts : List (Option EntityType)) (fs : List FormalType) (p : Span) (j : Judged Typing) (rs : List JudgedActual) →
    Tells P (judge_actuals h c r t ts fs ((p, j) ∷ rs)) → Tells P (judge_passed h c r t ts fs (p, j))
passed_first {P} h c r t ts fs p (Ok b) rs k =
    by (is_taken h.system t ts fs b.type) (may_pass c r b.type) (judge_actuals h c r t ts (rest fs) rs >>= λ bs. Ok (b ∷ bs)) k
  where
    by : (i m : Bool) (l : Judged (List Typing)) →
        Tells P (required i ArgumentType p >>= λ u. required m PreconditionArgument p >>= λ u. l) →
        Tells {A = Unit {0}} P (required i ArgumentType p >>= λ u. required m PreconditionArgument p)
    by true true l k = passes
    by true false l (tells e) = tells e
    by false m l (tells e) = tells e
passed_first h c r t ts fs p (Err f) rs (tells e) = tells e

pub tells_passed : (h : RoutineContext) (c : Context) (n : Entities) (r : Option EntityType) (t : EntityType) (all : Exprs)
    (fs : List FormalType) (e : Expr) (es : Exprs) →
    Tells (ActualsFail h c n r all t fs (expr_then e es))
    (judge_passed h c r t (judged_types (judged_actuals h c n all)) fs (span_of e, judge h c Source n e))
tells_passed h c n r t all fs e es =
    passed_first h c r t (judged_types (judged_actuals h c n all)) fs (span_of e) (judge h c Source n e) (judged_actuals h c n es)
    (tells_gave (told_actuals r (told_found h c n all) t fs (told_more (told h c Source n e) (told_found h c n es))))

pub later_fails : {h : RoutineContext} {c : Context} {n : Entities} {r : Option EntityType} {all : Exprs} {t : EntityType}
    (fs : List FormalType) (e : Expr) (es : Exprs) (q : Rule) (p : Span) → ActualsFail h c n r all t (rest fs) es q p →
    ActualsFail h c n r all t fs (expr_then e es) q p
later_fails fs e es q p (in_actual i f) = in_actual (later_actual i) f
later_fails [] e es q p (mismatch m) = elim (m) [ ]
later_fails (f ∷ fs) e es q p (mismatch m) = mismatch (later_pair m)
later_fails fs e es q p (passed_reference i j k d x) = passed_reference i j (later_actual k) d x

-- ---- the type of the target

pub received_type : {h : RoutineContext} {c : Context} {n : Entities} {a : Target} {r : Typing} → HasReceiver h c n a r →
    receiver_type h c n a ≡ r.type
received_type implicit = refl
received_type (explicit d) = ap judged_type (typed d)

-- the target has a type, or none is known and so nothing of the call
data Received (h : RoutineContext) (c : Context) (n : Entities) (a : Target) (x : Name) : Type 0 where
  received : {r : Typing} → HasReceiver h c n a r → Received h c n a x
  unreceived : receiver_type h c n a ≡ None → meant h c n a x ≡ target_untyped → Received h c n a x

receives : (h : RoutineContext) (c : Context) (n : Entities) (a : Target) (x : Name) → Received h c n a x
receives h c n no_target x = received implicit
receives h c n (target b) x = by (judge h c Plain n b) refl (told h c Plain n b)
  where
    by : (j : Judged Typing) → judge h c Plain n b ≡ j → Told h c Plain n b j → Received h c n (target b) x
    by (Ok t) e (gave d) = received (explicit d)
    by (Err f) e (refuses g) = unreceived (ap judged_type e) (ap (λ j. meaning_of h n (target b) (judged_type j) x) e)

-- ---- each fault is one of the call

pub untyped_fails : {h : RoutineContext} {c : Context} {n : Entities} {u : Use} {a : Target} {p : Span} {es : Exprs} (P : Rule → Span → Type 0) →
    ((e : Expr) → IsActual e es → (q : Rule) (p : Span) → Fails h (expression c Source n e) q p → P q p) → (q : Rule) (s : Span) →
    MeantFails h c n u a target_untyped p es None q s → P q s
untyped_fails P g q s (by_actuals (in_actual {e = d} i f)) = g d i q s f
untyped_fails P g q s (by_actuals (mismatch m)) = elim (m) [ ]
untyped_fails P g q s (by_actuals (passed_reference i f a d x)) = cc
untyped_fails P g q s (by_name (i, f)) = elim (f) [ ]

-- at the actuals and the name of what is meant
pub meant_all : (h : RoutineContext) (c : Context) (n : Entities) (u : Use) (a : Target) (m : Meaning) (r : Option EntityType) (x : Name)
    (es : Exprs) (P : Rule → Span → Type 0) →
    ((q : Rule) (p : Span) → MeantFails h c n u a m x.span es r q p → P q p) →
    All (Holds (ActualsFail h c n r es (target_of h m) (formals_of m) es))
    (faults_in_actuals h c n (judge_passed_to h c n r m es) (formals_of m) es) →
    All (Holds P) (faults_of_meant h c n r m es (judge_named h c u a m (count es) x.span))
meant_all h c n u a m r x es P f k =
    joined P (faults_in_actuals h c n (judge_passed_to h c n r m es) (formals_of m) es)
    (faults_at (judge_named h c u a m (count es) x.span) [])
    (all_more (ActualsFail h c n r es (target_of h m) (formals_of m) es) P
    (faults_in_actuals h c n (judge_passed_to h c n r m es) (formals_of m) es) (λ q p g. f q p (by_actuals g)) k)
    (at_all P (judge_named h c u a m (count es) x.span) []
    (tells_then _ (tells_more (λ q p g. f q p (by_name g)) (tells_gave (told_name h c u a m (count es) x.span))) (λ t. passes))
    (All-nil (Holds P)))

pub call_all : (h : RoutineContext) (c : Context) (n : Entities) (u : Use) (a : Target) (x : Name) (es : Exprs) (P : Rule → Span → Type 0) →
    ((q : Rule) (p : Span) → TargetFails h c n a q p → P q p) →
    ((q : Rule) (p : Span) → CallFails h c n u a x es q p → P q p) →
    ((e : Expr) → IsActual e es → (q : Rule) (p : Span) → Fails h (expression c Source n e) q p → P q p) →
    All (Holds (TargetFails h c n a)) (faults_in_target h c n a) →
    All (Holds (ActualsFail h c n (receiver_type h c n a) es (target_of h (meant h c n a x)) (formals_of (meant h c n a x)) es))
    (faults_in_actuals h c n (judge_passed_to h c n (receiver_type h c n a) (meant h c n a x) es) (formals_of (meant h c n a x)) es) →
    All (Holds P) (faults_of_call h c n u a x es)
call_all h c n u a x es P t f g i k =
    joined P (faults_in_target h c n a)
    (faults_of_meant h c n (receiver_type h c n a) (meant h c n a x) es (judge_named h c u a (meant h c n a x) (count es) x.span))
    (all_more (TargetFails h c n a) P (faults_in_target h c n a) t i)
    (meant_all h c n u a (meant h c n a x) (receiver_type h c n a) x es P (λ q p m. by (receives h c n a x) q p m) k)
  where
    by : Received h c n a x → (q : Rule) (p : Span) →
        MeantFails h c n u a (meant h c n a x) x.span es (receiver_type h c n a) q p → P q p
    by (received {r} v) q p m =
        meant_call (meant h c n a x) (ap (λ t. meaning_of h n a t x) (sym (received_type v))) v P f g q p
        (subst (λ r. MeantFails h c n u a (meant h c n a x) x.span es r q p) (received_type v) m)
    by (unreceived d e) q p m =
        untyped_fails P g q p
        (subst (λ m. MeantFails h c n u a m x.span es None q p) e
        (subst (λ r. MeantFails h c n u a (meant h c n a x) x.span es r q p) d m))

-- ---- places

-- an actual that has a type and is refused is refused at its place
passed_there : (h : RoutineContext) (c : Context) (r : Option EntityType) (t : EntityType) (ts : List (Option EntityType))
    (fs : List FormalType) (p : Span) (j : Judged Typing) (b : Typing) → j ≡ Ok b →
    Refused (judge_actuals h c r t ts fs ((p, j) ∷ [])) → There p (judge_passed h c r t ts fs (p, j))
passed_there h c r t ts fs p j b e k =
    subst (λ j. There p (judge_passed h c r t ts fs (p, j))) (sym e)
    (by (is_taken h.system t ts fs b.type) (may_pass c r b.type)
    (subst (λ j. Refused (judge_actuals h c r t ts fs ((p, j) ∷ []))) e k))
  where
    by : (i m : Bool) → Refused (required i ArgumentType p >>= λ u. required m PreconditionArgument p >>= λ u. Ok (b ∷ [])) →
        There p (required i ArgumentType p >>= λ u. required m PreconditionArgument p)
    by true true k = absurd k
    by true false k = refl
    by false m k = refl

-- at the actuals of a call; `all` are all of them
module _ (h : RoutineContext) (c : Context) (n : Entities) (all : Exprs) (t : EntityType) (r : Option EntityType) where
  abbrev passed : List FormalType → Exprs → List Fault
  passed fs es = faults_in_actuals h c n (judge_passed h c r t (judged_types (judged_actuals h c n all))) fs es

  first_passed : (fs : List FormalType) (e : Expr) (es : Exprs) (b : Typing) → HasType h c Source n e b →
      Refused (judge_actuals h c r t (judged_types (judged_actuals h c n all)) fs (judged_actuals h c n (expr_then e no_exprs))) →
      Any (Holds (At (span_of e))) (passed fs (expr_then e es))
  unfolding faults_in_actuals judged_actuals
  first_passed fs e es b d k =
      any_left _ (passed (rest fs) es)
      (at_place (judge_passed h c r t (judged_types (judged_actuals h c n all)) fs (span_of e, judge h c Source n e))
      (faults_of h c Source n e) (span_of e)
      (passed_there h c r t (judged_types (judged_actuals h c n all)) fs (span_of e) (judge h c Source n e) b (typed d) k))

  later_passed : (fs : List FormalType) (e : Expr) (es : Exprs) (p : Span) → Any (Holds (At p)) (passed (rest fs) es) →
      Any (Holds (At p)) (passed fs (expr_then e es))
  unfolding faults_in_actuals
  later_passed fs e es p a = any_right _ (passed (rest fs) es) a

  pub mismatch_place : {fs : List FormalType} {es : Exprs} {p : Span} → Mismatches h c n all t fs es p →
      Any (Holds (At p)) (passed fs es)
  mismatch_place (first_pair {f} {fs} {e} {es} {a} {b} d u) =
      first_passed (f ∷ fs) e es (typing (Some a) b) d (mismatch_refused {fs = f ∷ fs} {es = expr_then e no_exprs} (first_pair d u) r)
  mismatch_place (later_pair {f} {fs} {e} {es} {p} m) = later_passed (f ∷ fs) e es p (mismatch_place m)

  pub reference_place : {e : Expr} {es : Exprs} {a : EntityType} {b : Bool} → IsActual e es → HasType h c Source n e (typing (Some a) b) →
      is_expanded a.class ≡ false → is_require c ≡ true → is_foreign_type r ≡ true → (fs : List FormalType) →
      Any (Holds (At (span_of e))) (passed fs es)
  reference_place {e} {a} {b} (first_actual {es}) d x q f fs =
      first_passed fs e es (typing (Some a) b) d
      (reference_refused {es = expr_then e no_exprs} first_actual d x q r f t (judged_types (judged_actuals h c n all)) fs)
  reference_place {e} (later_actual {d = g} {es} i) d x q f fs = later_passed fs g es (span_of e) (reference_place i d x q f (rest fs))

pub name_place : {h : RoutineContext} {c : Context} {a : Target} {u : Use} {m : Meaning} {k : ℕ} {q : Rule} (p : Span) →
    AtName h c a u m k q → There p (judge_name h c u a m k p)
name_place {h} {c} {a} {u} {m} {k} p f =
    there_told p (judge_name h c u a m k p) (tells_more (λ r q g. g.0) (tells_gave (told_name h c u a m k p))) (name_refused f p)

pub named_place : {h : RoutineContext} {c : Context} {a : Target} {u : Use} {m : Meaning} {k : ℕ} {q : Rule} (p : Span) →
    AtName h c a u m k q → There p (judge_named h c u a m k p)
named_place {h} {c} {a} {u} {m} {k} p f = there_first p (judge_name h c u a m k p) _ (name_place p f)

-- at the target
target_place : (h : RoutineContext) (c : Context) (n : Entities) (a : Expr) (t : EntityType) (b : Bool) →
    HasType h c Plain n a (typing (Some t) b) → There (span_of a) (judge_target (span_of a) (Some t)) →
    Any (Holds (At (span_of a))) (faults_in_target h c n (target a))
unfolding faults_in_target
target_place h c n a t b d k =
    at_place (judge_before h c n a) (faults_of h c Plain n a) (span_of a)
    (there_next (span_of a) (judge h c Plain n a) _ (typing (Some t) b) (typed d)
    (there_first (span_of a) (judge_received (span_of a) (typing (Some t) b)) _
    (there_first (span_of a) (judge_target (span_of a) (Some t)) _ k)))

pub call_place : {h : RoutineContext} {c : Context} {n : Entities} {u : Use} {a : Target} {x : Name} {es : Exprs} {q : Rule} {p : Span} →
    CallFails h c n u a x es q p → Any (Holds (At p)) (faults_of_call h c n u a x es)
call_place {h} {c} {n} {u} (detachable {a} {x} {es} {t} {b} d e) =
    any_left (faults_in_target h c n (target a)) _
    (target_place h c n a t b d
    (there_first (span_of a) (required t.attached TargetDetachable (span_of a)) _
    (there_required t.attached TargetDetachable (span_of a) e)))
call_place {h} {c} {n} {u} (uncontrolled {a} {x} {es} {t} {b} d e) =
    any_left (faults_in_target h c n (target a)) _
    (target_place h c n a t b d
    (there_either t.attached TargetDetachable (span_of a) (required (is_controlled_tag t.tag) TargetUncontrolled (span_of a))
    (there_required (is_controlled_tag t.tag) TargetUncontrolled (span_of a) e)))
call_place {h} {c} {n} {u} (argument {a} {x} {es} {r} {g} {p} v m f) =
    any_right (faults_in_target h c n a) _
    (any_left (faults_in_actuals h c n (judge_passed_to h c n (receiver_type h c n a) (meant h c n a x) es) (formals_of (meant h c n a x)) es) _
    (subst (λ m. Any (Holds (At p)) (faults_in_actuals h c n (judge_passed_to h c n (receiver_type h c n a) m es) (formals_of m) es))
    (sym (ap (λ t. meaning_of h n a t x) (received_type v) ∙ m)) (mismatch_place h c n es g.target (receiver_type h c n a) f)))
call_place {h} {c} {n} {u} (reference_in_precondition {a} {x} {es} {e} {r} {t} {b} q v f i d w) =
    any_right (faults_in_target h c n a) _
    (any_left (faults_in_actuals h c n (judge_passed_to h c n (receiver_type h c n a) (meant h c n a x) es) (formals_of (meant h c n a x)) es) _
    (reference_place h c n es (target_of h (meant h c n a x)) (receiver_type h c n a) i d w q
    (ap is_foreign_type (received_type v) ∙ f) (formals_of (meant h c n a x))))
call_place {h} {c} {n} {u} (at_name {a} {x} {es} {r} {q} v f) =
    any_right (faults_in_target h c n a) _
    (any_right (faults_in_actuals h c n (judge_passed_to h c n (receiver_type h c n a) (meant h c n a x) es) (formals_of (meant h c n a x)) es) _
    (at_place (judge_named h c u a (meant h c n a x) (count es) x.span) [] x.span
    (named_place x.span (subst (λ m. AtName h c a u m (count es) q) (sym (ap (λ t. meaning_of h n a t x) (received_type v))) f))))
