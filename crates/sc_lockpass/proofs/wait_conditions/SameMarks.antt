-- Marks that are equal are the same.
use Rattle.std.proofs.Common.{rules, ◌≡◌, ◌∙◌, List, Bool, true, sym}
use lib.Pointwise.{pointwise, pointwise_decides}
use Rattle.sc_lockpass.specs.declared.wait_conditions.mark.Marked.{Marked}
use Rattle.sc_lockpass.specs.contracts.wait_conditions.mark.MarkedPartialEq.TheImpl.{eq-value}

abbrev Decides : Marked → Marked → Type 0
Decides x y = (eq-value.it x y ≡ true → x ≡ y) × (x ≡ y → eq-value.it x y ≡ true)

decides : (x y : Marked) → Decides x y
decides x y = search rules

-- two lists of marked handlers, told to be equal or not, are those of two marks
pub same_marks : (b : Bool) (xs ys ms ns : List Marked) → xs ≡ ms → ys ≡ ns → b ≡ pointwise eq-value.it xs ys → (b ≡ true → ms ≡ ns) × (ms ≡ ns → b ≡ true)
same_marks b xs ys ms ns of its is =
    let both = pointwise_decides {E = eq-value.it} decides xs ys in (
      λ e. sym of ∙ both.0 (sym is ∙ e) ∙ its,
      λ e. is ∙ both.1 (of ∙ e ∙ sym its),
    )
