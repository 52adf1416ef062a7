-- The laws of types.
use Rattle.std.proofs.Common.{◌≡◌, inl, inr, ℕ, ◌+◌, Bool, true, false, List, [], ◌∷◌, Option, Some, None, refl, subst}
use Rattle.std.specs.Prelude.{◌⊎◌, Any, ◌&&◌, ◌++◌, map, is_some, slice_get}
use Rattle.std.specs.Option.{option_map_or}
use Rattle.std.specs.List.{list_all}
use Rattle.sc_text.specs.declared.token.Span.{Span}
use Rattle.sc_tree.specs.Plain.{System, Class, DeclaredType, Declaration, Feature, FeatureKind, RoutineDeclaration, Attribute, Routine, Expr}
use Rattle.sc_class.specs.Tables.Features.{DeclaredFeature, declared_in}
use Rattle.sc_rules.specs.declared.rule.Rule.{Rule}
use Rattle.sc_rules.specs.declared.position.Context.{Context}
use Rattle.sc_rules.specs.declared.position.Position.{Position}
use Rattle.sc_rules.specs.declared.position.Role.TheVariants as role
use Rattle.sc_rules.specs.Types.{declared_type, TypeFails}
use Rattle.sc_rules.specs.Names.{RoutineName, RoutineContext, Entity, Entities, entity, reserved, formal_entities, formals_known, locals_known}
use Rattle.sc_rules.specs.Typing.{Typing, HasType}
use Rattle.sc_rules.specs.Sites.{expression}
use Rattle.sc_rules.specs.Purity.{IsPurity}
use Rattle.sc_rules.specs.TextRules.{Fails}
use Rattle.sc_rules.specs.SystemRules.{FeatureFails, attribute_type, formal_type, result_type, local_type, in_features, in_class, WellFormed}
use Rattle.sc_rules.specs.Judging.{Judged, judge, judge_type}
use Rattle.sc_rules.specs.Laws.{SomeFails, are_declared, is_result_declared, is_declared, AllDeclared, are_typed}
use Rattle.sc_rules.proofs.Refusals.{Refused, Gave, gave, refuses, any_first, any_later}
use Rattle.sc_rules.proofs.Complete.{typed}
use Rattle.sc_rules.proofs.ToldActuals.{Told, told_type}
use Rattle.sc_rules.proofs.Sound.{told}
use Rattle.sc_rules.proofs.Refused.{same_ok}
use Rattle.sc_rules.proofs.TextComplete.{refused}
use Rattle.sc_rules.proofs.Typings.{all_append, some_map}

pub one_type : (h : RoutineContext) (c : Context) (k : Position) (n : Entities) (e : Expr) (t u : Typing) →
    HasType h c k n e t → HasType h c k n e u → t ≡ u
one_type h c k n e t u d f = same_ok t u (judge h c k n e) (typed d) (typed f)

pub none_where_a_rule_fails : (h : RoutineContext) (c : Context) (k : Position) (n : Entities) (e : Expr) (t : Typing)
    (r : Rule) (p : Span) → HasType h c k n e t →
    Fails h (expression c k n e) r p → ⊥
none_where_a_rule_fails h c k n e t r p d f = subst Refused (typed d) (refused f)

either : (h : RoutineContext) (c : Context) (k : Position) (n : Entities) (e : Expr) (j : Judged Typing) →
    Told h c k n e j →
    ((t : Typing) × HasType h c k n e t) ⊎ SomeFails h c k n e
either h c k n e j (gave {x} d) = inl (x, d)
either h c k n e j (refuses {f = g} f) = inr (g.rule, g.span, f)

pub type_or_fault : (h : RoutineContext) (c : Context) (k : Position) (n : Entities) (e : Expr) →
    ((t : Typing) × HasType h c k n e t) ⊎ SomeFails h c k n e
type_or_fault h c k n e = either h c k n e (judge h c k n e) (told h c k n e)

-- ---- declarations

-- it holds, or some rule fails
abbrev Either : Bool → (Rule → Span → Type 0) → Type 0
Either b P = (b ≡ true) ⊎ ((r : Rule) × (p : Span) × P r p)

both_or : (a b : Bool) (P : Rule → Span → Type 0) → Either a P → Either b P → Either (a && b) P
both_or a b P (inr f) e = inr f
both_or a b P (inl d) (inr f) = inr f
both_or a b P (inl d) (inl e) = inl (simp (d, e) refl)

either_more : (b : Bool) (P Q : Rule → Span → Type 0) → ((r : Rule) (p : Span) → P r p → Q r p) → Either b P →
    Either b Q
either_more b P Q f (inl e) = inl e
either_more b P Q f (inr (r, p, g)) = inr (r, p, f r p g)

all_or : {A : Type 0} (q : A → Bool) (P : A → Rule → Span → Type 0) → ((x : A) → Either (q x) (P x)) → (xs : List A) →
    Either (list_all q xs) (λ r p. Any (λ x. P x r p) xs)
all_or q P d [] = inl refl
all_or q P d (x ∷ xs) =
    both_or (q x) (list_all q xs) (λ r p. Any (λ x. P x r p) (x ∷ xs))
    (either_more (q x) (P x) (λ r p. Any (λ x. P x r p) (x ∷ xs)) (λ r p f. any_first x xs f) (d x))
    (either_more (list_all q xs) (λ r p. Any (λ x. P x r p) xs) (λ r p. Any (λ x. P x r p) (x ∷ xs)) (λ r p f. any_later x xs f) (all_or q P d xs))

of_told : (b : Bool) (P : Rule → Span → Type 0) (j : Judged (Unit {0})) → Gave (λ (u : Unit {0}). b ≡ true) P j →
    Either b P
of_told b P j (gave e) = inl e
of_told b P j (refuses {f = g} f) = inr (g.rule, g.span, f)

type_or : (s : System) (formals : List Declaration) (d : DeclaredType) →
    Either (is_some (declared_type s formals d)) (TypeFails s formals d)
type_or s formals d = of_told (is_some (declared_type s formals d)) (TypeFails s formals d) (judge_type s formals d)
    (told_type s formals d)

declarations_or : (s : System) (formals ds : List Declaration) →
    Either (are_declared s formals ds) (λ r p. Any (λ (d : Declaration). TypeFails s formals d.declared_type r p) ds)
declarations_or s formals ds =
    all_or (λ (d : Declaration). is_some (declared_type s formals d.declared_type))
    (λ (d : Declaration) r p. TypeFails s formals d.declared_type r p)
    (λ d. type_or s formals d.declared_type) ds

result_or : (s : System) (pure : RoutineName → Bool) (k : ℕ) (routine : RoutineDeclaration) (o : Option DeclaredType) →
    routine.result_type ≡ o →
    Either (is_result_declared s o) (FeatureFails s pure k (Routine routine))
result_or s pure k routine None e = inl refl
result_or s pure k routine (Some d) e =
    either_more (is_some (declared_type s [] d)) (TypeFails s [] d) (FeatureFails s pure k (Routine routine))
    (λ r p f. result_type e f) (type_or s [] d)

kind_or : (s : System) (pure : RoutineName → Bool) (k : ℕ) (f : FeatureKind) →
    Either (is_declared s f) (FeatureFails s pure k f)
kind_or s pure k (Attribute d) =
    either_more (is_some (declared_type s [] d)) (TypeFails s [] d) (FeatureFails s pure k (Attribute d))
    (λ r p f. attribute_type f) (type_or s [] d)
kind_or s pure k (Routine routine) =
    both_or (are_declared s formals formals) (is_result_declared s result && are_declared s formals locals)
    (FeatureFails s pure k (Routine routine))
    (either_more (are_declared s formals formals) (λ r p. Any (λ (d : Declaration). TypeFails s formals d.declared_type r p) formals)
    (FeatureFails s pure k (Routine routine)) (λ r p f. formal_type f) (declarations_or s formals formals))
    (both_or (is_result_declared s result) (are_declared s formals locals) (FeatureFails s pure k (Routine routine)) (result_or s pure k routine result refl)
    (either_more (are_declared s formals locals) (λ r p. Any (λ (d : Declaration). TypeFails s formals d.declared_type r p) locals)
    (FeatureFails s pure k (Routine routine)) (λ r p f. local_type f) (declarations_or s formals locals)))
  where
    formals : List Declaration
    formals = routine.formals

    locals : List Declaration
    locals = routine.locals

    result : Option DeclaredType
    result = routine.result_type

all_of_map : {A B : Type 0} (v : A → B) (q : B → Bool) (xs : List A) → list_all (λ x. q (v x)) xs ≡ true →
    list_all q (map v xs) ≡ true
all_of_map v q [] e = refl
all_of_map v q (x ∷ xs) e = of_both (q (v x)) refl e (all_of_map v q xs)
  where
    of_both : (b : Bool) → q (v x) ≡ b → (b && list_all (λ x. q (v x)) xs) ≡ true →
        (list_all (λ x. q (v x)) xs ≡ true → list_all q (map v xs) ≡ true) →
        (q (v x) && list_all q (map v xs)) ≡ true
    of_both true i e f = simp (i, f e) refl
    of_both false i e f = cc

class_declared : (s : System) (pure : RoutineName → Bool) → IsPurity s pure → WellFormed s →
    (k : ℕ) (o : Option Class) → slice_get s.classes k ≡ o →
    list_all (λ (f : DeclaredFeature). is_declared s f.feature.kind)
    (option_map_or (λ (c : Class). map (declared_in k) c.features) o []) ≡ true
class_declared s pure i w k None e = refl
class_declared s pure i w k (Some c) e =
    all_of_map (declared_in k) (λ (f : DeclaredFeature). is_declared s f.feature.kind) c.features
    (of_either (all_or (λ (f : Feature). is_declared s f.kind) (λ (f : Feature) r p. FeatureFails s pure k f.kind r p) (λ f. kind_or s pure k f.kind) c.features))
  where
    of_either : Either (list_all (λ (f : Feature). is_declared s f.kind) c.features)
        (λ r p. Any (λ (f : Feature). FeatureFails s pure k f.kind r p) c.features) →
        list_all (λ (f : Feature). is_declared s f.kind) c.features ≡ true
    of_either (inl e) = e
    of_either (inr (r, p, f)) = absurd (w r p (in_class i e (in_features f)))

pub declared : (s : System) (pure : RoutineName → Bool) → IsPurity s pure → WellFormed s → AllDeclared s
declared s pure i w k = class_declared s pure i w k (slice_get s.classes k) refl

-- ---- names

formals_typed : (s : System) (all : List Declaration) (i : ℕ) (ds : List Declaration) → are_declared s all ds ≡ true →
    are_typed (formal_entities s all i ds) ≡ true
formals_typed s all i [] e = refl
formals_typed s all i (d ∷ ds) e =
    of_both (is_some (declared_type s all d.declared_type)) refl e (formals_typed s all (i + 1) ds)
  where
    of_both : (b : Bool) → is_some (declared_type s all d.declared_type) ≡ b → (b && are_declared s all ds) ≡ true →
        (are_declared s all ds ≡ true → are_typed (formal_entities s all (i + 1) ds) ≡ true) →
        are_typed (formal_entities s all i (d ∷ ds)) ≡ true
    of_both true j e f = simp (some_map (reserved i) (declared_type s all d.declared_type) j, f e) refl
    of_both false j e f = cc

locals_typed : (s : System) (formals ds : List Declaration) → are_declared s formals ds ≡ true →
    are_typed (locals_known s formals ds) ≡ true
locals_typed s formals ds e =
    all_of_map (λ (d : Declaration). entity d.name.text (declared_type s formals d.declared_type) role.Local)
    (λ (e : Entity). is_some e.type) ds e

pub names_typed : (s : System) (formals locals : List Declaration) → are_declared s formals formals ≡ true →
    are_declared s formals locals ≡ true →
    (are_typed (formals_known s formals) ≡ true) ×
    (are_typed (formals_known s formals ++ locals_known s formals locals) ≡ true)
names_typed s formals locals d e = (
  formals_typed s formals 0 formals d,
  all_append (λ (e : Entity). is_some e.type) (formals_known s formals) (locals_known s formals locals)
      (formals_typed s formals 0 formals d) (locals_typed s formals locals e),
)
