-- What entities hold at first.
use Rattle.std.proofs.Common.{◌≡◌, ℤ, pos, zero, Bool, true, false, Ok, Err, refl, ap, cond, ◌∙◌}
use Rattle.std.proofs.Math.IntN.{+ℤ_idl}
use Rattle.sc_class.specs.declared.identity.ClassId.{ClassId}
use Rattle.sc_class.specs.declared.identity.ClassId.TheVariants as class
use Rattle.sc_formula.specs.Arithmetic.{is_integer, in_range, sum_of}
use Rattle.sc_formula.specs.declared.arithmetic.ArithmeticFault.TheVariants.{Overflow}
use Rattle.sc_formula.specs.Connective.{truth_table}
use Rattle.sc_formula.specs.declared.connective.Connective.TheVariants as connective
use Rattle.sc_model.specs.Values.{default_of}
use Rattle.sc_model.specs.ObjectTests.{is_attached}
use Rattle.sc_model.specs.Laws.{DefaultsAreNeutral}

sum_left : (z : ℤ) → is_integer z ≡ true → sum_of (pos zero) z ≡ Ok z
sum_left z e = ap in_range (+ℤ_idl z) ∙ ap (λ b. cond b (Ok z) (Err Overflow)) e

or_left : (c : Bool) → truth_table connective.Or false c ≡ c
or_left c = refl

unattached : (k : ClassId) → (k ≡ class.Integer → ⊥) → (k ≡ class.Boolean → ⊥) → is_attached (default_of k) ≡ false
unattached class.Integer i b = absurd (i refl)
unattached class.Boolean i b = absurd (b refl)
unattached class.Any i b = refl
unattached class.None i b = refl
unattached (class.Declared k) i b = refl

pub defaults_neutral : DefaultsAreNeutral
defaults_neutral = record {
  integer = (pos zero, refl, sum_left);
  boolean = (false, refl, or_left);
  reference = unattached;
}
