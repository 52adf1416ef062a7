-- The features of a class by its parent's, and its joined invariant.
use Rattle.std.proofs.Common.{◌≡◌, ℕ, zero, suc, List, [], ◌∷◌, Option, None, length, refl, ap, ◌∙◌, arith}
use Rattle.std.proofs.lemmas.List.{append-nil}
use Rattle.sc_tree.specs.Plain.{System, Class}
use Rattle.sc_class.specs.Tables.Ancestors.{parent_number, ancestors_within, ancestors_from}
use Rattle.sc_class.specs.Tables.Features.{features_along, declared_features, invariant_along}
use Rattle.sc_class.specs.Tables.Heirs.{FeaturesInherited, FeaturesDeclared, InvariantsJoined}
use Rattle.sc_class.proofs.Acyclic.{ancestors_climb}

pub features_inherited : FeaturesInherited
features_inherited s root w k i e = ap (features_along s) (ancestors_climb s root w k i e)

-- along at most so many ancestors, where there are at least as many
alone : (s : System) (k n : ℕ) → n ≡ length s.classes → parent_number s k ≡ None → features_along s (ancestors_within n s k) ≡ declared_features s k
alone s k zero l e = by s.classes l
  where
    by : (cs : List Class) → zero ≡ length cs → [] ≡ declared_features (record s { classes = cs }) k
    by [] l = refl
    by (c ∷ cs) l = absurd (omega arith)
alone s k (suc n) l e = ap (λ (o : Option ℕ). features_along s (k ∷ ancestors_from n s o)) e ∙ append-nil (declared_features s k)

pub features_declared : FeaturesDeclared
features_declared s k e = alone s k (length s.classes) refl e

pub invariants_joined : InvariantsJoined
invariants_joined s root w k i e = ap (invariant_along s) (ancestors_climb s root w k i e)
