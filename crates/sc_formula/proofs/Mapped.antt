-- Facts about each element of a mapped list.
use Rattle.std.proofs.Common.{◌↔◌, List, All, map, arith, subst}
use Rattle.std.proofs.lemmas.List.{get_or-map, length-map}
use Rattle.std.proofs.lemmas.List.Elements.{All-map}

-- what holds of each element of the mapped list holds of what each element is mapped to
pub All-unmapped : {X : Type 0} (P : X → Type 0) {Y : Type 0} (f : Y → X) (ys : List Y) → All P (map f ys) → All (λ y. P (f y)) ys
All-unmapped P f ys each = λ k d below.
    subst P (get_or-map f ys k d (f d) below) (each k (f d) (omega (arith, length-map ys f)))

-- a fact that stands for one stands for the other
pub iff_All-map : {X Q : Type 0} (P : X → Type 0) {Y : Type 0} (f : Y → X) (ys : List Y) → (Q ↔ All (λ y. P (f y)) ys) → Q ↔ All P (map f ys)
iff_All-map P f ys both = ((λ q. All-map P f ys (both.0 q)), (λ each. both.1 (All-unmapped P f ys each)))
