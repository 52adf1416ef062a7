-- The ancestors of a class are those that are reached from it over parents.
use Rattle.std.proofs.Common.{◌≡◌, ℕ, true, List, [], ◌∷◌, length}
use Rattle.sc_tree.specs.Plain.{System}
use Rattle.sc_class.specs.Tables.Conformance.{is_ancestor}
use Rattle.sc_class.specs.Tables.Heirs.{IsReached, is_itself, over_parent, AncestorsReached}
use Rattle.sc_class.proofs.Ancestry.{Way, arrived, climbs, way_from, simple, all_below, is_reached, few}

of_way : {s : System} {j k : ℕ} {xs : List ℕ} → Way s j k xs → IsReached s j k
of_way arrived = is_itself
of_way (climbs e w) = over_parent e (of_way w)

way_of : {s : System} {j k : ℕ} → IsReached s j k → (xs : List ℕ) × Way s j k xs
way_of {j = j} is_itself = (j ∷ [], arrived)
way_of (over_parent {k = k} e r) = let (xs, w) = way_of r in (k ∷ xs, climbs e w)

pub ancestors_reached : AncestorsReached
ancestors_reached s k j l = (there, back)
  where
    there : is_ancestor s k j ≡ true → IsReached s j k
    there e = of_way (way_from (length s.classes) s k j e).1

    back : IsReached s j k → is_ancestor s k j ≡ true
    back r =
        let (xs, w) = way_of r in
        let (ys, v, d) = simple w in
        is_reached v (length s.classes) (few (length s.classes) ys d (all_below v l))
