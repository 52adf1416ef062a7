-- The faults that are listed of a name under `create` or a clause: each is one of it, and there is one at each place at which a rule
-- fails in it.
use Rattle.std.proofs.Common.{◌≡◌, ℕ, Bool, true, false, List, [], ◌++◌, Option, Some, None, Ok, Err, refl, ap, sym, subst, ◌∙◌}
use Rattle.std.specs.Prelude.{All, Any, not, ◌&&◌, if◌then◌else◌}
use Rattle.std.proofs.lemmas.List.Elements.{All-nil}
use Rattle.sc_text.specs.declared.token.Span.{Span}
use Rattle.sc_tree.specs.Plain.{System, Clause, Name}
use Rattle.sc_class.specs.declared.identity.ClassId.TheVariants as class
use Rattle.sc_class.specs.Tables.Features.{DeclaredFeature, feature_named}
use Rattle.sc_class.proofs.Anys.{any_left, any_right}
use Rattle.sc_rules.specs.declared.rule.Rule.{Rule}
use Rattle.sc_rules.specs.declared.rule.Rule.TheVariants.{ResultType, InvariantForm}
use Rattle.sc_rules.specs.declared.fault.Fault.{Fault}
use Rattle.sc_rules.specs.declared.position.Context.{Context}
use Rattle.sc_rules.specs.declared.position.Context.TheVariants as context
use Rattle.sc_rules.specs.declared.position.Position.TheVariants.{Plain}
use Rattle.sc_rules.specs.Names.{RoutineName, RoutineContext, Entities}
use Rattle.sc_rules.specs.TextRules.{ClauseFails, in_clause, clause_type}
use Rattle.sc_rules.specs.SystemRules.{invariant_context, may_be_formula, clause_span, InvariantFails, in_invariant_clause, form, is_query, CreatorFails, no_feature, listed_query}
use Rattle.sc_rules.specs.Judging.{Judged, fault, required}
use Rattle.sc_rules.specs.JudgingText.{judge_clause}
use Rattle.sc_rules.specs.JudgingSystem.{is_late, is_same_span, judge_form, judge_invariant, judge_listed, judge_creator}
use Rattle.sc_rules.proofs.Refusals.{Refused, unmet, Tells, tells, tells_more}
use Rattle.sc_rules.proofs.TextSound.{tells_required, tells_clause}
use Rattle.sc_faults.specs.Internal.Listing.{faults_at, faults_of, faults_of_clause, faults_of_creator, faults_of_form, faults_of_invariant}
use Rattle.sc_faults.proofs.ReportedFaults.{Holds, joined, at_all, at_any}
use Rattle.sc_faults.proofs.Places.{At, There, same_place, at_place, there_required}
use Rattle.sc_faults.proofs.ExpressionFaults.{expression_all}
use Rattle.sc_faults.proofs.FirstFaults.{either_refused}
use Rattle.sc_faults.proofs.SitePlaces.{clause_type_there, clause_type_place}
use Rattle.sc_faults.proofs.SiteFaults.{fails_place}

-- ---- what judging reports of each part

-- names under `create`
holds : (b : Bool) → not b ≡ false → b ≡ true
holds true e = refl
holds false e = cc

tells_listed : (s : System) (k : ℕ) (x : Name) (o : Option DeclaredFeature) →
    feature_named s (class.Declared k) x.text ≡ o → Tells (CreatorFails s k x) (judge_listed x.span o)
tells_listed s k x None e = tells (no_feature e)
tells_listed s k x (Some f) e = tells_required (CreatorFails s k x)
    (not (is_query f.feature.kind)) ResultType x.span (λ i. listed_query e (holds (is_query f.feature.kind) i))

tells_creator : (s : System) (k : ℕ) (x : Name) → Tells (CreatorFails s k x) (judge_creator s k x)
tells_creator s k x = tells_listed s k x (feature_named s (class.Declared k) x.text) refl

unlisted : (p : Span) (o : Option DeclaredFeature) → o ≡ None → There p (judge_listed p o)
unlisted p o e = subst (λ o. There p (judge_listed p o)) (sym e) refl

query_there : (p : Span) (o : Option DeclaredFeature) (f : DeclaredFeature) → o ≡ Some f → is_query f.feature.kind ≡ true →
    There p (judge_listed p o)
query_there p o f e q =
    subst (λ o. There p (judge_listed p o)) (sym e) (there_required (not (is_query f.feature.kind)) ResultType p (ap not q))

creator_there : {s : System} {k : ℕ} {x : Name} {r : Rule} {p : Span} → CreatorFails s k x r p → There p (judge_creator s k x)
creator_there {s} {k} {x} (no_feature e) = unlisted x.span (feature_named s (class.Declared k) x.text) e
creator_there {s} {k} {x} (listed_query {f} e q) = query_there x.span (feature_named s (class.Declared k) x.text) f e q

-- clauses of an invariant
tells_either : (P : Rule → Span → Type 0) (b c : Bool) (p : Span) (f : Fault) → P f.rule f.span →
    (b ≡ false → P InvariantForm p) →
    Tells {A = Unit {0}} P (if not b && c then Err (fault InvariantForm p) else Err f)
tells_either P true c p f t w = tells t
tells_either P false true p f t w = tells (w refl)
tells_either P false false p f t w = tells t

tells_form : (P : Rule → Span → Type 0) (b : Bool) (p : Span) (j : Judged (Unit {0})) → Tells P j →
    (b ≡ false → P InvariantForm p) → Tells P (judge_form b p j)
tells_form P b p (Ok u) t w = tells_required P b InvariantForm p w
tells_form P b p (Err f) (tells t) w = tells_either P b (is_same_span f.span p && is_late f.rule) p f t w

tells_invariant : (s : System) (pure : RoutineName → Bool) (k : ℕ) (c : Clause) →
    Tells (InvariantFails s pure k c) (judge_invariant s pure k c)
tells_invariant s pure k c =
    tells_form (InvariantFails s pure k c) (may_be_formula s k c.condition) (clause_span c.tag c.condition)
    (judge_clause (invariant_context s pure k) context.Invariant [] c)
    (tells_more (λ r p f. in_invariant_clause f) (tells_clause (invariant_context s pure k) context.Invariant [] c))
    (λ e. form e)

-- ---- what is listed of each part

pub creator_all : (s : System) (k : ℕ) (x : Name) (P : Rule → Span → Type 0) →
    ((r : Rule) (p : Span) → CreatorFails s k x r p → P r p) → All (Holds P) (faults_of_creator s k x)
creator_all s k x P g = at_all P (judge_creator s k x) [] (tells_more g (tells_creator s k x)) (All-nil (Holds P))

pub creator_place : (s : System) (k : ℕ) (x : Name) (r : Rule) (p : Span) → CreatorFails s k x r p →
    Any (Holds (At p)) (faults_of_creator s k x)
creator_place s k x r p f = at_place (judge_creator s k x) [] p (creator_there f)

-- clauses of contracts
pub clause_all : (h : RoutineContext) (c : Context) (n : Entities) (i : Clause) (P : Rule → Span → Type 0) →
    ((r : Rule) (p : Span) → ClauseFails h c n i r p → P r p) → All (Holds P) (faults_of_clause h c n i)
clause_all h c n i P g =
    at_all P (judge_clause h c n i) (faults_of h c Plain n i.condition) (tells_more g (tells_clause h c n i))
    (expression_all h c Plain n i.condition P (λ r p f. g r p (in_clause f)))

pub clause_place : (h : RoutineContext) (c : Context) (n : Entities) (i : Clause) (r : Rule) (p : Span) → ClauseFails h c n i r p →
    Any (Holds (At p)) (faults_of_clause h c n i)
clause_place h c n i r p (in_clause f) = at_any (At p) (judge_clause h c n i) (faults_of h c Plain n i.condition) (fails_place f)
clause_place h c n i r p (clause_type f) = clause_type_place i f

-- clauses of invariants
form_all : (j : Judged (Unit {0})) (b : Bool) (p : Span) (P : Rule → Span → Type 0) → (b ≡ false → P InvariantForm p) →
    All (Holds P) (faults_of_form j b p)
form_all (Ok u) b p P g = All-nil (Holds P)
form_all (Err f) b p P g = by (is_same_span f.span p)
  where
    by : (c : Bool) → All (Holds P) (if c then [] else faults_at (required b InvariantForm p) [])
    by true = All-nil (Holds P)
    by false = at_all P (required b InvariantForm p) [] (tells_required P b InvariantForm p g) (All-nil (Holds P))

pub invariant_all : (s : System) (pure : RoutineName → Bool) (k : ℕ) (i : Clause) (P : Rule → Span → Type 0) →
    ((r : Rule) (p : Span) → InvariantFails s pure k i r p → P r p) → All (Holds P) (faults_of_invariant s pure k i)
invariant_all s pure k i P g =
    let h : RoutineContext = invariant_context s pure k in
    let j : Judged (Unit {0}) = judge_invariant s pure k i in
    let operands : List Fault = faults_of h context.Invariant Plain [] i.condition in
    let p : Span = clause_span i.tag i.condition in
    joined P (faults_at j operands) (faults_of_form j (may_be_formula s k i.condition) p)
    (at_all P j operands (tells_more g (tells_invariant s pure k i))
    (expression_all h context.Invariant Plain [] i.condition P (λ r p f. g r p (in_invariant_clause (in_clause f)))))
    (form_all j (may_be_formula s k i.condition) p P (λ e. g InvariantForm p (form e)))

-- what is refused stays refused at its place where the form is judged too
form_there : (b : Bool) (p q : Span) (j : Judged (Unit {0})) → There q j → There q (judge_form b p j)
form_there b p q (Ok u) r = absurd r
form_there b p q (Err f) r = by b (is_same_span f.span p) (is_late f.rule) refl
  where
    by : (b c d : Bool) → is_same_span f.span p ≡ c →
        There {A = Unit {0}} q (if not b && (c && d) then Err (fault InvariantForm p) else Err f)
    by true c d e = r
    by false true true e = sym (same_place f.span p e) ∙ r
    by false true false e = r
    by false false d e = r

-- a clause that is no formula is refused at its place, or that is listed of its form
form_place : (j : Judged (Unit {0})) (b : Bool) (p : Span) (operands : List Fault) → b ≡ false →
    Any (Holds (At p)) (faults_at (judge_form b p j) operands ++ faults_of_form (judge_form b p j) b p)
form_place j b p operands e = by (judge_form b p j) (refuses j)
  where
    refuses : (j : Judged (Unit {0})) → Refused (judge_form b p j)
    refuses (Ok u) = unmet b InvariantForm p e
    refuses (Err f) = either_refused (not b && (is_same_span f.span p && is_late f.rule)) (fault InvariantForm p) f

    here : (f : Fault) (c : Bool) → is_same_span f.span p ≡ c →
        Any (Holds (At p)) (faults_at {A = Unit {0}} (Err f) operands ++ (if c then [] else faults_at (required b InvariantForm p) []))
    here f true i = any_left (faults_at {A = Unit {0}} (Err f) operands) _ (at_place {A = Unit {0}} (Err f) operands p (same_place f.span p i))
    here f false i =
        any_right (faults_at {A = Unit {0}} (Err f) operands) _
        (at_place (required b InvariantForm p) [] p (there_required b InvariantForm p e))

    by : (j : Judged (Unit {0})) → Refused j → Any (Holds (At p)) (faults_at j operands ++ faults_of_form j b p)
    by (Ok u) r = absurd r
    by (Err f) r = here f (is_same_span f.span p) refl

pub invariant_place : (s : System) (pure : RoutineName → Bool) (k : ℕ) (i : Clause) (r : Rule) (p : Span) → InvariantFails s pure k i r p →
    Any (Holds (At p)) (faults_of_invariant s pure k i)
invariant_place s pure k i r p (in_invariant_clause (in_clause f)) =
    let h : RoutineContext = invariant_context s pure k in
    any_left (faults_at (judge_invariant s pure k i) (faults_of h context.Invariant Plain [] i.condition)) _
    (at_any (At p) (judge_invariant s pure k i) (faults_of h context.Invariant Plain [] i.condition) (fails_place f))
invariant_place s pure k i r p (in_invariant_clause (clause_type f)) =
    let h : RoutineContext = invariant_context s pure k in
    any_left (faults_at (judge_invariant s pure k i) (faults_of h context.Invariant Plain [] i.condition)) _
    (at_place (judge_invariant s pure k i) (faults_of h context.Invariant Plain [] i.condition) p
    (form_there (may_be_formula s k i.condition) (clause_span i.tag i.condition) p (judge_clause h context.Invariant [] i)
    (clause_type_there i f)))
invariant_place s pure k i r p (form e) =
    let h : RoutineContext = invariant_context s pure k in
    form_place (judge_clause h context.Invariant [] i) (may_be_formula s k i.condition) p (faults_of h context.Invariant Plain [] i.condition) e
