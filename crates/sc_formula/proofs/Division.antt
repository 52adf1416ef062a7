-- Quotient and remainder of integers.
use Rattle.std.proofs.Common.{◌≡◌, zero, suc, ◌<◌, ℤ, pos, negsuc, ◌≤ℤ◌, Bool, true, false, if◌then◌else◌, Result, Ok, Err, refl, arith, subst}
use Rattle.std.specs.Prelude.{unsigned_abs, int_div, int_rem}
use Rattle.std.specs.Ordering.{int_eq}
use Rattle.std.proofs.lemmas.Int.{ints, quot-rem, rem_below}
use Rattle.sc_formula.specs.declared.arithmetic.ArithmeticFault.TheVariants.{Overflow, DivideByZero}
use Rattle.sc_formula.specs.Arithmetic.{in_range, is_integer, quotient_of, remainder_of, Divides}

-- an integer that isn't 0 has a magnitude above 0
pub magnitude_pos : (d : ℤ) → int_eq d (pos 0) ≡ false → 0 < unsigned_abs d
magnitude_pos (pos zero) h = grind arith
magnitude_pos (pos (suc n)) h = omega arith
magnitude_pos (negsuc n) h = omega arith

-- the remainder isn't negative where the dividend isn't
pub rem-not_below : (a d : ℤ) → pos 0 ≤ℤ a → pos 0 ≤ℤ int_rem a d
rem-not_below (pos a) d h = omega (arith, ints)
rem-not_below (negsuc a) d h = absurd (omega (arith, ints))

-- nor positive where the dividend isn't
pub rem-not_above : (a d : ℤ) → a ≤ℤ pos 0 → int_rem a d ≤ℤ pos 0
rem-not_above (pos zero) d h = omega (arith, ints)
rem-not_above (pos (suc a)) d h = absurd (omega (arith, ints))
rem-not_above (negsuc a) d h = omega (arith, ints)

pub divided : (a d : ℤ) → 0 < unsigned_abs d → Divides a d (int_div a d) (int_rem a d)
divided a d h = record {
  whole = quot-rem a d;
  smaller = rem_below a d h;
  not_below = rem-not_below a d;
  not_above = rem-not_above a d;
}

-- what an outcome says of the two choices that it was made of
pub not_refused : {T E : Type 0} (b : Bool) (e : E) (r : Result T E) (v : T) → (if b then Err e else r) ≡ Ok v → (b ≡ false) × (r ≡ Ok v)
not_refused true e r v h = grind arith
not_refused false e r v h = (refl, h)

pub not_out_of_range : {T E : Type 0} (b : Bool) (e : E) (x v : T) → (if b then Ok x else Err e) ≡ Ok v → x ≡ v
not_out_of_range true e x v h = grind arith
not_out_of_range false e x v h = grind arith

pub outcomes_divide : (a d q r : ℤ) → quotient_of a d ≡ Ok q → remainder_of a d ≡ Ok r → Divides a d q r
outcomes_divide a d q r h k =
    let quotient = not_refused (int_eq d (pos 0)) DivideByZero (in_range (int_div a d)) q h in
    let remainder = not_refused (int_eq d (pos 0)) DivideByZero (in_range (int_rem a d)) r k in
    let q-is = not_out_of_range (is_integer (int_div a d)) Overflow (int_div a d) q quotient.1 in
    let r-is = not_out_of_range (is_integer (int_rem a d)) Overflow (int_rem a d) r remainder.1 in
    subst (λ x. Divides a d x r) q-is (subst (λ x. Divides a d (int_div a d) x) r-is (divided a d (magnitude_pos d quotient.0)))
