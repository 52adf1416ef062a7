-- Values that are equal are the same.
use Rattle.std.proofs.Common.{rules, ◌≡◌, ◌∙◌, List, Bool, true, sym, ap}
use Rattle.arrayvec.specs.ArrayVec.{ArrayVec}
use lib.Pointwise.{pointwise, pointwise_decides}
use Rattle.sc_region.specs.declared.value.Value.{Value}
use Rattle.sc_region.specs.declared.value.Value.TheVariants.{Integer, Boolean, Void, Attached}
use Rattle.sc_region.specs.contracts.value.ValuePartialEq.TheImpl.{eq-value}

abbrev Decides : Value → Value → Type 0
Decides x y = (eq-value.it x y ≡ true → x ≡ y) × (x ≡ y → eq-value.it x y ≡ true)

decides : (x y : Value) → Decides x y
decides (Integer i) (Integer j) = search rules
decides (Integer i) (Boolean c) = search rules
decides (Integer i) Void = search rules
decides (Integer i) (Attached r) = search rules
decides (Boolean b) (Integer j) = search rules
decides (Boolean b) (Boolean c) = search rules
decides (Boolean b) Void = search rules
decides (Boolean b) (Attached r) = search rules
decides Void (Integer j) = search rules
decides Void (Boolean c) = search rules
decides Void Void = search rules
decides Void (Attached r) = search rules
decides (Attached r) (Integer j) = search rules
decides (Attached r) (Boolean c) = search rules
decides (Attached r) Void = search rules
decides (Attached r) (Attached s) = search rules

pub same_lists : (b : Bool) (vs us : List Value) → b ≡ pointwise eq-value.it vs us → (b ≡ true → vs ≡ us) × (vs ≡ us → b ≡ true)
same_lists b vs us is =
    let both = pointwise_decides {E = eq-value.it} decides vs us in (λ e. both.0 (sym is ∙ e), λ e. is ∙ both.1 e)

-- values that are told to be equal, or not, are those of two arrays
pub same_values : (r : Bool) (a b : ArrayVec Value) (xs ys : List Value) → xs ≡ a.items → ys ≡ b.items → r ≡ pointwise eq-value.it xs ys →
    (r ≡ true → a ≡ b) × (a ≡ b → r ≡ true)
same_values r a b xs ys of its is =
    let both = pointwise_decides {E = eq-value.it} decides xs ys in (
      λ e. ap (λ (vs : List Value). record { items = vs }) (sym of ∙ both.0 (sym is ∙ e) ∙ its),
      λ e. is ∙ both.1 (of ∙ ap (λ (v : ArrayVec Value). v.items) e ∙ sym its),
    )
