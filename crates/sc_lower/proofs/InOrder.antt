-- The features of a system in the order of the text, class by class.
use Rattle.std.proofs.Common.{◌≡◌, ◌+◌, ◌<◌, ◌++◌, ◌∷◌, ℕ, suc, List, length, map, drop, get_or, sym, ap, ◌∙◌, arith}
use Rattle.std.proofs.lemmas.List.{at_drop_more}
use Rattle.sc_tree.specs.declared.system.Class.{Class}
use Rattle.sc_tree.specs.View.{class_of, feature_of}
use Rattle.sc_class.specs.Tables.Features.{declared_in}
use Rattle.sc_typing.specs.FeatureNumbers.{features_from}

-- those of the class at the number, then those of the classes behind it
pub features_here : (cs : List Class) (k : ℕ) (c : Class) → k < length cs → c ≡ get_or cs k c →
    features_from k (map class_of (drop k cs)) ≡ map (declared_in k) (map feature_of c.features.items) ++ features_from (k + 1) (map class_of (drop (k + 1) cs))
unfolding class_of
features_here cs k c l at =
    let next : suc k ≡ k + 1 = omega arith in
    at_drop_more (λ (ds : List Class). features_from k (map class_of ds)) cs k c l
    ∙ ap (λ (d : Class). features_from k (map class_of (d ∷ drop (k + 1) cs))) (sym at)
    ∙ ap (λ n. map (declared_in k) (map feature_of c.features.items) ++ features_from n (map class_of (drop (k + 1) cs))) next
