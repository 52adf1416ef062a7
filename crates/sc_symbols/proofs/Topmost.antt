-- The topmost of some classes that declares a feature, one class after the other.
use Rattle.std.proofs.Common.{◌≡◌, ℕ, ◌+◌, ◌<◌, List, [], ◌∷◌, ◌++◌, length, take, get_or, Option, Some, None, refl, ap, sym, ◌∙◌}
use Rattle.std.specs.Option.{option_or}
use Rattle.std.proofs.lemmas.List.{take_more}
use Rattle.sc_tree.specs.Plain.{System}
use Rattle.sc_class.specs.Tables.Features.{DeclaredFeature, declared_features, named_among}
use Rattle.sc_class.specs.Tables.Heirs.{topmost_along}

or_none : {A : Type 0} (a : Option A) → option_or None a ≡ option_or a None
or_none None = refl
or_none (Some x) = refl

or_or : {A : Type 0} (a b c : Option A) → option_or (option_or a b) c ≡ option_or a (option_or b c)
or_or None b c = refl
or_or (Some x) b c = refl

module _ (s : System) (x : List ℕ) where
  topmost_last : (ks : List ℕ) (k : ℕ) →
      topmost_along s x (ks ++ k ∷ []) ≡ option_or (named_among x (declared_features s k)) (topmost_along s x ks)
  topmost_last [] k = or_none (named_among x (declared_features s k))
  topmost_last (j ∷ ks) k =
      ap (λ o. option_or o (named_among x (declared_features s j))) (topmost_last ks k)
      ∙ or_or (named_among x (declared_features s k)) (topmost_along s x ks) (named_among x (declared_features s j))

  -- what one class more has, and what the classes before it have
  pub topmost_more : (ks : List ℕ) (i d : ℕ) (own before found : Option DeclaredFeature) → i < length ks → own ≡ named_among x (declared_features s (get_or ks i d)) →
      before ≡ topmost_along s x (take i ks) → found ≡ option_or own before → found ≡ topmost_along s x (take (i + 1) ks)
  topmost_more ks i d own before found l is-own is-before is =
      is ∙ ap (λ o. option_or o before) is-own
      ∙ ap (λ o. option_or (named_among x (declared_features s (get_or ks i d))) o) is-before
      ∙ sym (ap (topmost_along s x) (take_more ks i d l) ∙ topmost_last (take i ks) (get_or ks i d))
