-- Objects by number, after a change and after one more.
use Rattle.std.proofs.Common.{◌≡◌, ◌≢◌, ℕ, zero, suc, ◌+◌, ◌-◌, List, [], ◌∷◌, ◌++◌, length, Option, Some, None, false, refl, sym, ap, ◌∙◌, arith}
use Rattle.std.proofs.lemmas.Bool.Decides.{nat_tests}
use Rattle.std.specs.Prelude.{◌==◌, slice_get, slice_set, if◌then◌else◌}
use Rattle.sc_region.specs.declared.value.Value.{Value}
use Rattle.sc_region.specs.Objects.{PlainObject, object_numbered, with_slot, with_object, with_attribute}

pub get_set_other : {A : Type 0} (xs : List A) (i j : ℕ) (v : A) → i ≢ j → slice_get (slice_set xs i v) j ≡ slice_get xs j
get_set_other [] i j v ne = refl
get_set_other (x ∷ xs) zero zero v ne = absurd (ne refl)
get_set_other (x ∷ xs) zero (suc j) v ne = refl
get_set_other (x ∷ xs) (suc i) zero v ne = refl
get_set_other (x ∷ xs) (suc i) (suc j) v ne = get_set_other xs i j v (λ e. ne (ap suc e))

get_push : {A : Type 0} (xs : List A) (v : A) (j : ℕ) → j ≢ length xs → slice_get (xs ++ v ∷ []) j ≡ slice_get xs j
get_push [] v zero ne = absurd (ne refl)
get_push [] v (suc j) ne = refl
get_push (x ∷ xs) v zero ne = refl
get_push (x ∷ xs) v (suc j) ne = get_push xs v j (λ e. ne (ap suc e))

-- numbers begin at 1, places at 0
pub numbered_suc : (n : ℕ) (os : List PlainObject) → object_numbered (suc n) os ≡ slice_get os n
numbered_suc n os =
    let f : (suc n == 0) ≡ false = grind (arith, nat_tests) in
    let e : suc n - 1 ≡ n = omega arith in
    ap (λ b. if b then None else slice_get os (suc n - 1)) f ∙ ap (slice_get os) e

pub with_suc : (n slot : ℕ) (v : Value) (os : List PlainObject) → with_attribute (suc n) slot v os ≡ with_object n slot v os (slice_get os n)
with_suc n slot v os =
    let e : suc n - 1 ≡ n = omega arith in
    ap (with_object (suc n - 1) slot v os) (numbered_suc n os) ∙ ap (λ m. with_object m slot v os (slice_get os n)) e

with_other : (os : List PlainObject) (i j slot : ℕ) (v : Value) (o : Option PlainObject) → i ≢ j → slice_get (with_object i slot v os o) j ≡ slice_get os j
with_other os i j slot v None ne = refl
with_other os i j slot v (Some o) ne = get_set_other os i j (with_slot slot v o) ne

-- another object stays as it is
pub numbered_other : (os : List PlainObject) (i j slot : ℕ) (v : Value) → i ≢ j → object_numbered j (with_attribute i slot v os) ≡ object_numbered j os
numbered_other os i zero slot v ne = refl
numbered_other os zero (suc j) slot v ne = refl
numbered_other os (suc i) (suc j) slot v ne =
    ap (object_numbered (suc j)) (with_suc i slot v os) ∙ numbered_suc j (with_object i slot v os (slice_get os i))
    ∙ with_other os i j slot v (slice_get os i) (λ e. ne (ap suc e)) ∙ sym (numbered_suc j os)

-- one more object
pub numbered_push : (os : List PlainObject) (o : PlainObject) (j : ℕ) → j ≢ length os + 1 → object_numbered j (os ++ o ∷ []) ≡ object_numbered j os
numbered_push os o zero ne = refl
numbered_push os o (suc j) ne = numbered_suc j (os ++ o ∷ []) ∙ get_push os o j (λ e. ne (omega arith)) ∙ sym (numbered_suc j os)
