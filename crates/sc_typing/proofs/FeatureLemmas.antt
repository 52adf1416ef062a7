-- Features that are found by name.
use Rattle.std.proofs.Common.{◌≡◌, ℕ, Bool, true, false, cond, List, [], ◌∷◌, Option, Some, None, refl, ap, sym, ◌∙◌, subst}
use Rattle.std.specs.Prelude.{is_some, bytes_eq}
use Rattle.std.specs.Option.{option_map}
use Rattle.sc_tree.specs.Plain.{System, Feature}
use Rattle.sc_class.specs.Tables.Features.{DeclaredFeature, declared_in, declared_features, named_among}
use Rattle.sc_class.proofs.Items.{some_is}
use Rattle.sc_class.proofs.FeatureLemmas.{named_declared}
use Rattle.sc_rules.specs.Names.{RoutineName}

pub named_text : (x : List ℕ) (fs : List DeclaredFeature) (d : DeclaredFeature) → named_among x fs ≡ Some d → bytes_eq d.feature.name.text x ≡ true
named_text x [] d e = cc
named_text x (f ∷ fs) d e = by_first (bytes_eq f.feature.name.text x) refl (λ e. named_text x fs d e) e
  where
    by_first : (b : Bool) → bytes_eq f.feature.name.text x ≡ b → (named_among x fs ≡ Some d → bytes_eq d.feature.name.text x ≡ true) → cond b (Some f) (named_among x fs) ≡ Some d → bytes_eq d.feature.name.text x ≡ true
    by_first true i further e = subst (λ f. bytes_eq f.feature.name.text x ≡ true) (some_is f d e) i
    by_first false i further e = further e

pub own_class : (s : System) (k : ℕ) (x : List ℕ) (d : DeclaredFeature) → named_among x (declared_features s k) ≡ Some d → d.class ≡ k
own_class s k x d e = of_some _ (sym (named_declared s k x) ∙ e)
  where
    of_some : (o : Option Feature) → option_map (declared_in k) o ≡ Some d → d.class ≡ k
    of_some None e = cc
    of_some (Some f) e = ap (λ (d : DeclaredFeature). d.class) (sym (some_is (declared_in k f) d e))

pub one_there : {A : Type 0} (o : Option A) → is_some o ≡ true → (x : A) × (o ≡ Some x)
one_there None e = cc
one_there (Some x) e = (x, refl)

pub same_routine : (f g : RoutineName) → f.class ≡ g.class → f.name ≡ g.name → f ≡ g
same_routine f g e i = ap (λ (k : ℕ). of f.name k) e ∙ ap (λ (x : List ℕ). of x g.class) i
  where
    of : List ℕ → ℕ → RoutineName
    of x k = record { class = k; name = x }
