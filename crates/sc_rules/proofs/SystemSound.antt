-- The rule that judging a system of classes answers fails at its place.
use Rattle.std.proofs.Common.{◌≡◌, ◌+◌, ℕ, zero, suc, Bool, true, false, List, [], ◌∷◌, Option, Some, None, Err, refl, subst, arith}
use Rattle.std.specs.Prelude.{Any, not, ◌&&◌, if◌then◌else◌, slice_get}
use Rattle.sc_text.specs.declared.token.Span.{Span}
use Rattle.sc_tree.specs.Plain.{System, Class, Feature, FeatureKind, RoutineDeclaration, Attribute, Routine, Declaration, DeclaredType, Clause, Name}
use Rattle.sc_class.specs.declared.identity.ClassId.TheVariants as class
use Rattle.sc_class.specs.Tables.Features.{DeclaredFeature, feature_named}
use Rattle.sc_rules.specs.declared.rule.Rule.{Rule}
use Rattle.sc_rules.specs.declared.rule.Rule.TheVariants.{ResultType, InvariantForm}
use Rattle.sc_rules.specs.declared.fault.Fault.{Fault}
use Rattle.sc_rules.specs.declared.position.Context.{Context}
use Rattle.sc_rules.specs.declared.position.Context.TheVariants as context
use Rattle.sc_rules.specs.Types.{TypeFails}
use Rattle.sc_rules.specs.Names.{RoutineName, RoutineContext, context_of, Entities, formals_known, known_in_body}
use Rattle.sc_rules.specs.TextRules.{ClauseFails}
use Rattle.sc_rules.specs.SystemRules.{FeatureFails, attribute_type, formal_type, result_type, precondition, local_type, in_body, postcondition, invariant_context, may_be_formula, clause_span, InvariantFails, in_invariant_clause, form, is_query, CreatorFails, no_feature, listed_query, ClassFails, in_creators, in_features, in_invariant}
use Rattle.sc_rules.specs.Judging.{Judged, fault, judge_each, judge_type}
use Rattle.sc_rules.specs.JudgingText.{judge_clause}
use Rattle.sc_rules.specs.JudgingSystem.{judge_declarations, judge_result_type, judge_feature, is_late, is_same_span, judge_form, judge_invariant, judge_listed, judge_creator, judge_class, judge_classes, judge_system}
use Rattle.sc_rules.proofs.Refusals.{Tells, passes, tells, tells_more, tells_then, tells_each, tells_gave}
use Rattle.sc_rules.proofs.TextSound.{tells_required, tells_clause, tells_instrs}
use Rattle.sc_rules.proofs.ToldActuals.{told_type}

-- ---- features

tells_type : (s : System) (formals : List Declaration) (d : DeclaredType) →
    Tells (TypeFails s formals d) (judge_type s formals d)
tells_type s formals d = tells_gave (told_type s formals d)

tells_declarations : (s : System) (formals ds : List Declaration) →
    Tells (λ r p. Any (λ (d : Declaration). TypeFails s formals d.declared_type r p) ds)
    (judge_declarations s formals ds)
tells_declarations s formals ds =
    tells_each (λ (d : Declaration). TypeFails s formals d.declared_type)
    (λ (d : Declaration). judge_type s formals d.declared_type) (λ d. tells_type s formals d.declared_type) ds

tells_clauses : (h : RoutineContext) (c : Context) (n : Entities) (ks : List Clause) →
    Tells (λ r p. Any (λ k. ClauseFails h c n k r p) ks) (judge_each (judge_clause h c n) ks)
tells_clauses h c n ks = tells_each (ClauseFails h c n) (judge_clause h c n) (tells_clause h c n) ks

tells_result_type : (s : System) (pure : RoutineName → Bool) (k : ℕ) (routine : RoutineDeclaration)
    (o : Option DeclaredType) → routine.result_type ≡ o →
    Tells (FeatureFails s pure k (Routine routine)) (judge_result_type s o)
tells_result_type s pure k routine None e = passes
tells_result_type s pure k routine (Some d) e = tells_more (λ r p f. result_type e f) (tells_type s [] d)

tells_feature : (s : System) (pure : RoutineName → Bool) (k : ℕ) (f : FeatureKind) →
    Tells (FeatureFails s pure k f) (judge_feature s pure k f)
tells_feature s pure k (Attribute d) = tells_more (λ r p f. attribute_type f) (tells_type s [] d)
tells_feature s pure k (Routine routine) =
    tells_then _ (tells_more (λ r p f. formal_type f) (tells_declarations s routine.formals routine.formals))
    (λ u. tells_then _ (tells_result_type s pure k routine routine.result_type refl)
    (λ u. tells_then _ (tells_more (λ r p f. precondition f)
    (tells_clauses (context_of s pure k routine) context.Require (formals_known s routine.formals) routine.precondition))
    (λ u. tells_then _ (tells_more (λ r p f. local_type f) (tells_declarations s routine.formals routine.locals))
    (λ u. tells_then _ (tells_more (λ r p f. in_body f) (tells_instrs (context_of s pure k routine) (known_in_body s routine) routine.body))
    (λ u. tells_more (λ r p f. postcondition f)
    (tells_clauses (context_of s pure k routine) context.Ensure (formals_known s routine.formals) routine.postcondition))))))

-- ---- invariants

tells_either : (P : Rule → Span → Type 0) (b c : Bool) (p : Span) (f : Fault) → P f.rule f.span →
    (b ≡ false → P InvariantForm p) →
    Tells {A = Unit {0}} P (if not b && c then Err (fault InvariantForm p) else Err f)
tells_either P true c p f t w = tells t
tells_either P false true p f t w = tells (w refl)
tells_either P false false p f t w = tells t

tells_form : (P : Rule → Span → Type 0) (b : Bool) (p : Span) {j : Judged (Unit {0})} → Tells P j →
    (b ≡ false → P InvariantForm p) → Tells P (judge_form b p j)
tells_form P b p passes w = tells_required P b InvariantForm p w
tells_form P b p (tells {f} t) w = tells_either P b (is_same_span f.span p && is_late f.rule) p f t w

tells_invariant : (s : System) (pure : RoutineName → Bool) (k : ℕ) (c : Clause) →
    Tells (InvariantFails s pure k c) (judge_invariant s pure k c)
tells_invariant s pure k c =
    tells_form (InvariantFails s pure k c) (may_be_formula s k c.condition) (clause_span c.tag c.condition)
    (tells_more (λ r p f. in_invariant_clause f) (tells_clause (invariant_context s pure k) context.Invariant [] c))
    (λ e. form e)

-- ---- creation procedures

holds : (b : Bool) → not b ≡ false → b ≡ true
holds true e = refl
holds false e = cc

tells_listed : (s : System) (k : ℕ) (x : Name) (o : Option DeclaredFeature) →
    feature_named s (class.Declared k) x.text ≡ o →
    Tells (CreatorFails s k x) (judge_listed x.span o)
tells_listed s k x None e = tells (no_feature e)
tells_listed s k x (Some f) e = tells_required (CreatorFails s k x)
    (not (is_query f.feature.kind)) ResultType x.span (λ i. listed_query e (holds (is_query f.feature.kind) i))

tells_creator : (s : System) (k : ℕ) (x : Name) → Tells (CreatorFails s k x) (judge_creator s k x)
tells_creator s k x = tells_listed s k x (feature_named s (class.Declared k) x.text) refl

-- ---- classes and systems

tells_class : (s : System) (pure : RoutineName → Bool) (k : ℕ) (c : Class) →
    Tells (ClassFails s pure k c) (judge_class s pure k c)
tells_class s pure k c =
    tells_then _ (tells_more (λ r p f. in_creators f) (tells_each (CreatorFails s k) (judge_creator s k) (tells_creator s k) c.creators))
    (λ u. tells_then _ (tells_more (λ r p f. in_features f)
    (tells_each (λ (f : Feature). FeatureFails s pure k f.kind) (λ (f : Feature). judge_feature s pure k f.kind) (λ f. tells_feature s pure k f.kind) c.features))
    (λ u. tells_more (λ r p f. in_invariant f) (tells_each (InvariantFails s pure k) (judge_invariant s pure k) (tells_invariant s pure k) c.invariant)))

-- in one of these classes, of which the first is at the number k
record OneFails (s : System) (pure : RoutineName → Bool) (k : ℕ) (cs : List Class) (r : Rule) (p : Span) : Type 0 where
  index : ℕ
  class : Class
  is_there : slice_get cs index ≡ Some class
  fails : ClassFails s pure (k + index) class r p

first_number : (k : ℕ) → k ≡ k + zero
first_number k = omega arith

next_number : (k j : ℕ) → (k + 1) + j ≡ k + suc j
next_number k j = omega arith

tells_classes : (s : System) (pure : RoutineName → Bool) (k : ℕ) (cs : List Class) →
    Tells (OneFails s pure k cs) (judge_classes s pure k cs)
tells_classes s pure k [] = passes
tells_classes s pure k (c ∷ cs) =
    tells_then _ (tells_more (λ r p f. record { index = zero; class = c; is_there = refl; fails = subst (λ k. ClassFails s pure k c r p) (first_number k) f }) (tells_class s pure k c))
    (λ u. tells_more (λ r p f. record { index = suc f.index; class = f.class; is_there = f.is_there; fails = subst (λ k. ClassFails s pure k f.class r p) (next_number k f.index) f.fails })
    (tells_classes s pure (k + 1) cs))

zero_first : (k : ℕ) → 0 + k ≡ k
zero_first k = omega arith

-- the rule fails in the class at the number
pub record InSystem (s : System) (pure : RoutineName → Bool) (r : Rule) (p : Span) : Type 0 where
  pub number : ℕ
  pub class : Class
  pub is_there : slice_get s.classes number ≡ Some class
  pub fails : ClassFails s pure number class r p

pub tells_system : (s : System) (pure : RoutineName → Bool) → Tells (InSystem s pure) (judge_system s pure)
tells_system s pure =
    tells_more (λ r p f. record { number = f.index; class = f.class; is_there = f.is_there; fails = subst (λ k. ClassFails s pure k f.class r p) (zero_first f.index) f.fails })
    (tells_classes s pure 0 s.classes)
