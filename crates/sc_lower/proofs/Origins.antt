-- Where a feature was first declared, ancestor by ancestor; and the routine that it is.
use Rattle.std.proofs.Common.{◌≡◌, ◌+◌, ◌<◌, ◌≤◌, ℕ, zero, suc, List, [], ◌∷◌, Bool, true, false, Option, Some, None, length, drop, get_or, map, refl, sym, ap, ◌∙◌, arith}
use Rattle.std.specs.Prelude.{nat_lt, slice_get, if◌then◌else◌}
use Rattle.std.specs.Option.{option_map_or, option_and_then, option_or}
use Rattle.std.proofs.lemmas.Bool.Decides.{nat_tests}
use Rattle.std.proofs.lemmas.List.{at_drop_more}
use Rattle.std.proofs.lemmas.Option.{slice_get_past}
use Rattle.sc_tree.specs.Plain as tree
use Rattle.sc_tree.specs.Plain.{System, Class, FeatureKind, RoutineDeclaration}
use Rattle.sc_class.specs.declared.identity.ClassId.TheVariants as class
use Rattle.sc_class.specs.ClassNames.{Root}
use Rattle.sc_class.specs.Faults.ClassRules.{IsFaultless}
use Rattle.sc_class.specs.Tables.Ancestors.{ancestors, ancestors_within, parent_of}
use Rattle.sc_class.specs.Tables.ByClass.{ancestors_of}
use Rattle.sc_class.specs.Tables.Features.{DeclaredFeature, declared_features, declared_in, named_among}
use Rattle.sc_class.specs.Tables.Heirs.{topmost_along}
use Rattle.sc_model.specs.Routines as model
use Rattle.sc_model.specs.Routines.{origin_of, routine_with, routine_from, routine_of}
use Rattle.sc_code.proofs.TypingOrigins.{origin_is}
use Rattle.sc_lower.specs.Origins.{routine_declared}

-- ---- the origin

-- one class further up the name isn't declared, so this class has the topmost declaration, if it has one
pub topmost_here : (s : System) (x : List ℕ) (ks : List ℕ) (i : ℕ) (o : Option DeclaredFeature) → i < length ks → o ≡ named_among x (declared_features s (get_or ks i 0)) →
    topmost_along s x (drop (i + 1) ks) ≡ None → topmost_along s x (drop i ks) ≡ o
topmost_here s x ks i o l e none =
    at_drop_more (topmost_along s x) ks i 0 l ∙ ap (λ p. option_or p (named_among x (declared_features s (get_or ks i 0)))) none ∙ sym e

-- what is topmost of the upper classes is topmost of all
pub topmost_below : (s : System) (x : List ℕ) (ks : List ℕ) (i : ℕ) (d : DeclaredFeature) → topmost_along s x (drop i ks) ≡ Some d → topmost_along s x ks ≡ Some d
topmost_below s x ks zero d e = e
topmost_below s x [] (suc i) d e = cc
topmost_below s x (k ∷ ks) (suc i) d e = ap (λ o. option_or o (named_among x (declared_features s k))) (topmost_below s x ks i d e)

-- what stands at no number declares nothing
none_along : (s : System) (x : List ℕ) (n k : ℕ) → slice_get s.classes k ≡ None → topmost_along s x (ancestors_within n s k) ≡ None
none_along s x zero k e = refl
none_along s x (suc n) k e =
    ap (λ (o : Option Class). option_or (topmost_along s x (option_map_or (ancestors_within n s) (option_and_then (parent_of s) o) []))
    (named_among x (option_map_or (λ (c : Class). map (declared_in k) c.features) o []))) e

past : {A : Type 0} (xs : List A) (k : ℕ) → nat_lt k (length xs) ≡ false → slice_get xs k ≡ None
past xs k e = let l : length xs ≤ k = grind (arith, nat_tests) in slice_get_past xs k l

-- the same along the ancestors that tables know of
along_ancestors : (s : System) (x : List ℕ) (k : ℕ) → topmost_along s x (if nat_lt k (length s.classes) then ancestors s k else []) ≡ topmost_along s x (ancestors s k)
along_ancestors s x k = by (nat_lt k (length s.classes)) (past s.classes k)
  where
    by : (b : Bool) → (b ≡ false → slice_get s.classes k ≡ None) → topmost_along s x (if b then ancestors s k else []) ≡ topmost_along s x (ancestors s k)
    by true m = refl
    by false m = sym (none_along s x (length s.classes) k (m refl))

-- the topmost declaration among the ancestors that tables know of is the origin
pub topmost_is_origin : (s : System) (root : Root) → IsFaultless s root → (f : DeclaredFeature) →
    topmost_along s f.feature.name.text (ancestors_of s (class.Declared f.class)) ≡ origin_of s f
topmost_is_origin s root w f = along_ancestors s f.feature.name.text f.class ∙ sym (origin_is s root w f)

-- ---- the routine

-- the routine of the first text with the contract of the second
abbrev pub with_contract : System → DeclaredFeature → RoutineDeclaration → DeclaredFeature → RoutineDeclaration → Option model.Routine
with_contract s f own o original = routine_with s f.feature.name.text f.class (tree.Routine own) o.class (tree.Routine original)

kind_is : (k : FeatureKind) (r : RoutineDeclaration) → routine_declared k ≡ Some r → k ≡ tree.Routine r
kind_is (tree.Attribute d) r e = cc
kind_is (tree.Routine q) r e = cc

no_own : (s : System) (x : List ℕ) (k : ℕ) (own : FeatureKind) (j : ℕ) (other : FeatureKind) → routine_declared own ≡ None → routine_with s x k own j other ≡ None
no_own s x k (tree.Attribute d) j other e = refl
no_own s x k (tree.Routine r) j other e = cc

no_contract : (s : System) (x : List ℕ) (k : ℕ) (own : FeatureKind) (j : ℕ) (other : FeatureKind) → routine_declared other ≡ None → routine_with s x k own j other ≡ None
no_contract s x k (tree.Attribute d) j other e = refl
no_contract s x k (tree.Routine r) j (tree.Attribute d) e = refl
no_contract s x k (tree.Routine r) j (tree.Routine q) e = cc

module _ (s : System) (f : DeclaredFeature) where
  pub without_origin : origin_of s f ≡ None → routine_of s f ≡ None
  without_origin e = ap (routine_from s f) e

  module _ (o : DeclaredFeature) (found : origin_of s f ≡ Some o) where
    pub without_routine : routine_declared f.feature.kind ≡ None → routine_of s f ≡ None
    without_routine e = ap (routine_from s f) found ∙ no_own s f.feature.name.text f.class f.feature.kind o.class o.feature.kind e

    pub without_contract : routine_declared o.feature.kind ≡ None → routine_of s f ≡ None
    without_contract e = ap (routine_from s f) found ∙ no_contract s f.feature.name.text f.class f.feature.kind o.class o.feature.kind e

    pub routine_is : (own original : RoutineDeclaration) → routine_declared f.feature.kind ≡ Some own → routine_declared o.feature.kind ≡ Some original →
        routine_of s f ≡ with_contract s f own o original
    routine_is own original e g =
        ap (routine_from s f) found
        ∙ ap (λ (k : FeatureKind). routine_with s f.feature.name.text f.class k o.class o.feature.kind) (kind_is f.feature.kind own e)
        ∙ ap (λ (k : FeatureKind). routine_with s f.feature.name.text f.class (tree.Routine own) o.class k) (kind_is o.feature.kind original g)
