-- Where a rule fails in a system of classes, judging it refuses.
use Rattle.std.proofs.Common.{◌≡◌, ◌+◌, ℕ, zero, suc, Bool, true, false, List, [], ◌∷◌, Option, Some, None, Ok, Err, ap, sym, subst, arith}
use Rattle.std.specs.Prelude.{Any, not, ◌&&◌, if◌then◌else◌, slice_get}
use Rattle.sc_text.specs.declared.token.Span.{Span}
use Rattle.sc_tree.specs.Plain.{System, Class, Feature, FeatureKind, Declaration, Clause, Name}
use Rattle.sc_class.specs.declared.identity.ClassId.TheVariants as class
use Rattle.sc_class.specs.Tables.Features.{DeclaredFeature, feature_named}
use Rattle.sc_rules.specs.declared.rule.Rule.{Rule}
use Rattle.sc_rules.specs.declared.rule.Rule.TheVariants.{ResultType, InvariantForm}
use Rattle.sc_rules.specs.declared.fault.Fault.{Fault}
use Rattle.sc_rules.specs.declared.position.Context.{Context}
use Rattle.sc_rules.specs.declared.position.Context.TheVariants as context
use Rattle.sc_rules.specs.Types.{TypeFails}
use Rattle.sc_rules.specs.Names.{RoutineName, RoutineContext, context_of, Entities, formals_known, known_in_body}
use Rattle.sc_rules.specs.TextRules.{ClauseFails}
use Rattle.sc_rules.specs.SystemRules.{FeatureFails, attribute_type, formal_type, result_type, precondition, local_type, in_body, postcondition, invariant_context, may_be_formula, clause_span, InvariantFails, in_invariant_clause, form, is_query, CreatorFails, no_feature, listed_query, ClassFails, in_creators, in_features, in_invariant}
use Rattle.sc_rules.specs.Judging.{Judged, fault, judge_each, judge_type}
use Rattle.sc_rules.specs.JudgingText.{judge_clause, judge_instrs}
use Rattle.sc_rules.specs.JudgingSystem.{judge_clauses, judge_declarations, judge_result_type, judge_feature, is_late, is_same_span, judge_form, judge_invariant, judge_listed, judge_creator, judge_class, judge_classes, judge_system}
use Rattle.sc_rules.proofs.Refusals.{Refused, stops, stops_behind, unmet, refused_each}
use Rattle.sc_rules.proofs.TextComplete.{refused, clause_refused}
use Rattle.sc_rules.proofs.RefusedParts.{type_refused}

any_refused : {A : Type 0} {P : A → Type 0} (judge : A → Judged (Unit {0})) (xs : List A) →
    ((x : A) → P x → Refused (judge x)) → Any P xs →
    Refused (judge_each judge xs)
any_refused judge xs f (k, x, l, e, p) = refused_each judge xs (k, x, l, e, f x p)

-- ---- features

declarations_refused : (s : System) (formals ds : List Declaration) (r : Rule) (p : Span) →
    Any (λ (d : Declaration). TypeFails s formals d.declared_type r p) ds →
    Refused (judge_declarations s formals ds)
declarations_refused s formals ds r p f =
    any_refused (λ (d : Declaration). judge_type s formals d.declared_type) ds (λ d g. type_refused g) f

clauses_refused : (h : RoutineContext) (c : Context) (n : Entities) (ks : List Clause) (r : Rule) (p : Span) →
    Any (λ k. ClauseFails h c n k r p) ks →
    Refused (judge_each (judge_clause h c n) ks)
clauses_refused h c n ks r p f = any_refused (judge_clause h c n) ks (λ k g. clause_refused g) f

feature_refused : {s : System} {pure : RoutineName → Bool} {k : ℕ} {f : FeatureKind} {r : Rule} {p : Span} →
    FeatureFails s pure k f r p →
    Refused (judge_feature s pure k f)
feature_refused (attribute_type f) = type_refused f
feature_refused {s} (formal_type {routine} {r} {p} f) =
    stops (judge_declarations s routine.formals routine.formals) _ (declarations_refused s routine.formals routine.formals r p f)
feature_refused {s} (result_type {routine} {d} e f) =
    stops_behind (judge_declarations s routine.formals routine.formals) _
    (λ u. stops (judge_result_type s routine.result_type) _ (subst (λ o. Refused (judge_result_type s o)) (sym e) (type_refused f)))
feature_refused {s} {pure} {k} (precondition {routine} {r} {p} f) =
    stops_behind (judge_declarations s routine.formals routine.formals) _ (λ u. stops_behind (judge_result_type s routine.result_type) _
    (λ u. stops (judge_clauses s pure k routine context.Require routine.precondition) _
    (clauses_refused (context_of s pure k routine) context.Require (formals_known s routine.formals) routine.precondition r p f)))
feature_refused {s} {pure} {k} (local_type {routine} {r} {p} f) =
    stops_behind (judge_declarations s routine.formals routine.formals) _ (λ u. stops_behind (judge_result_type s routine.result_type) _
    (λ u. stops_behind (judge_clauses s pure k routine context.Require routine.precondition) _
    (λ u. stops (judge_declarations s routine.formals routine.locals) _ (declarations_refused s routine.formals routine.locals r p f))))
feature_refused {s} {pure} {k} (in_body {routine} f) =
    stops_behind (judge_declarations s routine.formals routine.formals) _ (λ u. stops_behind (judge_result_type s routine.result_type) _
    (λ u. stops_behind (judge_clauses s pure k routine context.Require routine.precondition) _
    (λ u. stops_behind (judge_declarations s routine.formals routine.locals) _
    (λ u. stops (judge_instrs (context_of s pure k routine) (known_in_body s routine) routine.body) _ (refused f)))))
feature_refused {s} {pure} {k} (postcondition {routine} {r} {p} f) =
    stops_behind (judge_declarations s routine.formals routine.formals) _ (λ u. stops_behind (judge_result_type s routine.result_type) _
    (λ u. stops_behind (judge_clauses s pure k routine context.Require routine.precondition) _
    (λ u. stops_behind (judge_declarations s routine.formals routine.locals) _
    (λ u. stops_behind (judge_instrs (context_of s pure k routine) (known_in_body s routine) routine.body) _
    (λ u. clauses_refused (context_of s pure k routine) context.Ensure (formals_known s routine.formals) routine.postcondition r p f)))))

-- ---- invariants

either_refused : (b : Bool) (f g : Fault) → Refused {A = Unit {0}} (if b then Err f else Err g)
either_refused true f g = tt
either_refused false f g = tt

form_refused : (b : Bool) (p : Span) (j : Judged (Unit {0})) → Refused j → Refused (judge_form b p j)
form_refused b p (Ok u) r = absurd r
form_refused b p (Err f) r = either_refused (not b && (is_same_span f.span p && is_late f.rule))
    (fault InvariantForm p) f

formless : (b : Bool) (p : Span) (j : Judged (Unit {0})) → b ≡ false → Refused (judge_form b p j)
formless b p (Ok u) e = unmet b InvariantForm p e
formless b p (Err f) e = either_refused (not b && (is_same_span f.span p && is_late f.rule)) (fault InvariantForm p) f

invariant_refused : {s : System} {pure : RoutineName → Bool} {k : ℕ} {c : Clause} {r : Rule} {p : Span} →
    InvariantFails s pure k c r p →
    Refused (judge_invariant s pure k c)
invariant_refused {s} {pure} {k} {c} (in_invariant_clause f) =
    form_refused (may_be_formula s k c.condition) (clause_span c.tag c.condition)
    (judge_clause (invariant_context s pure k) context.Invariant [] c) (clause_refused f)
invariant_refused {s} {pure} {k} {c} (form e) =
    formless (may_be_formula s k c.condition) (clause_span c.tag c.condition)
    (judge_clause (invariant_context s pure k) context.Invariant [] c) e

-- ---- creation procedures

unlisted : (p : Span) (o : Option DeclaredFeature) → o ≡ None → Refused (judge_listed p o)
unlisted p o e = subst (λ o. Refused (judge_listed p o)) (sym e) tt

query_refused : (p : Span) (o : Option DeclaredFeature) (f : DeclaredFeature) → o ≡ Some f →
    is_query f.feature.kind ≡ true → Refused (judge_listed p o)
query_refused p o f e q = subst (λ o. Refused (judge_listed p o)) (sym e)
    (unmet (not (is_query f.feature.kind)) ResultType p (ap not q))

creator_refused : {s : System} {k : ℕ} {x : Name} {r : Rule} {p : Span} → CreatorFails s k x r p →
    Refused (judge_creator s k x)
creator_refused {s} {k} {x} (no_feature e) = unlisted x.span (feature_named s (class.Declared k) x.text) e
creator_refused {s} {k} {x} (listed_query {f} e q) =
    query_refused x.span (feature_named s (class.Declared k) x.text) f e q

-- ---- classes and systems

class_refused : {s : System} {pure : RoutineName → Bool} {k : ℕ} {c : Class} {r : Rule} {p : Span} →
    ClassFails s pure k c r p →
    Refused (judge_class s pure k c)
class_refused {s} {pure} {k} {c} (in_creators f) =
    stops (judge_each (judge_creator s k) c.creators) _ (any_refused (judge_creator s k) c.creators (λ x g. creator_refused g) f)
class_refused {s} {pure} {k} {c} (in_features f) =
    stops_behind (judge_each (judge_creator s k) c.creators) _ (λ u. stops (judge_each (λ (f : Feature). judge_feature s pure k f.kind) c.features) _
    (any_refused (λ (f : Feature). judge_feature s pure k f.kind) c.features (λ f g. feature_refused g) f))
class_refused {s} {pure} {k} {c} (in_invariant f) =
    stops_behind (judge_each (judge_creator s k) c.creators) _ (λ u. stops_behind (judge_each (λ (f : Feature). judge_feature s pure k f.kind) c.features) _
    (λ u. any_refused (judge_invariant s pure k) c.invariant (λ i g. invariant_refused g) f))

first_number : (k : ℕ) → k + zero ≡ k
first_number k = omega arith

next_number : (k j : ℕ) → k + suc j ≡ (k + 1) + j
next_number k j = omega arith

-- the first of these classes is at the number k
classes_refused : (s : System) (pure : RoutineName → Bool) (k : ℕ) (cs : List Class) (j : ℕ) (c : Class) (r : Rule)
    (p : Span) → slice_get cs j ≡ Some c →
    ClassFails s pure (k + j) c r p → Refused (judge_classes s pure k cs)
classes_refused s pure k [] j c r p e f = cc
classes_refused s pure k (d ∷ ds) zero c r p e f =
    stops (judge_class s pure k d) _ (class_refused (subst (λ c. ClassFails s pure k c r p) (same_class e) (subst (λ k. ClassFails s pure k c r p) (first_number k) f)))
  where
    same_class : Some d ≡ Some c → c ≡ d
    same_class e = cc
classes_refused s pure k (d ∷ ds) (suc j) c r p e f =
    stops_behind (judge_class s pure k d) _ (λ u. classes_refused s pure (k + 1) ds j c r p e (subst (λ k. ClassFails s pure k c r p) (next_number k j) f))

zero_first : (k : ℕ) → k ≡ 0 + k
zero_first k = omega arith

pub system_refused : (s : System) (pure : RoutineName → Bool) (k : ℕ) (c : Class) (r : Rule) (p : Span) →
    slice_get s.classes k ≡ Some c →
    ClassFails s pure k c r p →
    Refused (judge_system s pure)
system_refused s pure k c r p e f =
    classes_refused s pure 0 s.classes k c r p e (subst (λ k. ClassFails s pure k c r p) (zero_first k) f)
