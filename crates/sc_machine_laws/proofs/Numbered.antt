-- Objects by number, after a change and after one more.
use Rattle.std.proofs.Common.{◌≡◌, ◌≢◌, ℕ, zero, suc, ◌+◌, ◌-◌, List, [], ◌∷◌, ◌++◌, length, Option, Some, None, false, refl, sym, ap, ◌∙◌, arith}
use Rattle.std.proofs.lemmas.Bool.Decides.{nat_tests}
use Rattle.std.specs.Prelude.{◌==◌, slice_get, slice_set, if◌then◌else◌}
use Rattle.sc_model.specs.Environments.{Binding}
use Rattle.sc_model.specs.Objects.{Object, object_numbered, with_object, with_attributes}

get_set_other : {A : Type 0} (xs : List A) (i j : ℕ) (v : A) → i ≢ j → slice_get (slice_set xs i v) j ≡ slice_get xs j
get_set_other [] i j v ne = refl
get_set_other (x ∷ xs) zero zero v ne = absurd (ne refl)
get_set_other (x ∷ xs) zero (suc j) v ne = refl
get_set_other (x ∷ xs) (suc i) zero v ne = refl
get_set_other (x ∷ xs) (suc i) (suc j) v ne = get_set_other xs i j v (λ e. ne (ap suc e))

get_push : {A : Type 0} (xs : List A) (v : A) (j : ℕ) → j ≢ length xs → slice_get (xs ++ v ∷ []) j ≡ slice_get xs j
get_push [] v zero ne = absurd (ne refl)
get_push [] v (suc j) ne = refl
get_push (x ∷ xs) v zero ne = refl
get_push (x ∷ xs) v (suc j) ne = get_push xs v j (λ e. ne (ap suc e))

-- numbers begin at 1, places at 0
pub numbered_suc : (n : ℕ) (os : List Object) → object_numbered (suc n) os ≡ slice_get os n
numbered_suc n os =
    let f : (suc n == 0) ≡ false = grind (arith, nat_tests) in
    let e : suc n - 1 ≡ n = omega arith in
    ap (λ b. if b then None else slice_get os (suc n - 1)) f ∙ ap (slice_get os) e

with_suc : (n : ℕ) (bs : List Binding) (os : List Object) → with_attributes (suc n) bs os ≡ with_object n bs os (slice_get os n)
with_suc n bs os =
    let e : suc n - 1 ≡ n = omega arith in
    ap (with_object (suc n - 1) bs os) (numbered_suc n os) ∙ ap (λ m. with_object m bs os (slice_get os n)) e

with_other : (os : List Object) (i j : ℕ) (bs : List Binding) (o : Option Object) → i ≢ j → slice_get (with_object i bs os o) j ≡ slice_get os j
with_other os i j bs None ne = refl
with_other os i j bs (Some o) ne = get_set_other os i j (record o { attributes = bs }) ne

none_numbered : (bs : List Binding) (os : List Object) → with_attributes zero bs os ≡ os
none_numbered bs os = refl

-- another object stays as it is
pub numbered_other : (os : List Object) (i j : ℕ) (bs : List Binding) → i ≢ j → object_numbered j (with_attributes i bs os) ≡ object_numbered j os
numbered_other os i zero bs ne = refl
numbered_other os zero (suc j) bs ne = ap (object_numbered (suc j)) (none_numbered bs os)
numbered_other os (suc i) (suc j) bs ne =
    ap (object_numbered (suc j)) (with_suc i bs os) ∙ numbered_suc j (with_object i bs os (slice_get os i))
    ∙ with_other os i j bs (slice_get os i) (λ e. ne (ap suc e)) ∙ sym (numbered_suc j os)

-- one more object
pub numbered_push : (os : List Object) (o : Object) (j : ℕ) → j ≢ length os + 1 → object_numbered j (os ++ o ∷ []) ≡ object_numbered j os
numbered_push os o zero ne = refl
numbered_push os o (suc j) ne = numbered_suc j (os ++ o ∷ []) ∙ get_push os o j (λ e. ne (omega arith)) ∙ sym (numbered_suc j os)

get_last : (os : List Object) (o : Object) → slice_get (os ++ o ∷ []) (length os) ≡ Some o
get_last [] o = refl
get_last (x ∷ os) o = get_last os o

-- that one itself
pub numbered_last : (os : List Object) (o : Object) → object_numbered (length os + 1) (os ++ o ∷ []) ≡ Some o
numbered_last os o =
    let e : length os + 1 ≡ suc (length os) = omega arith in
    ap (λ n. object_numbered n (os ++ o ∷ [])) e ∙ numbered_suc (length os) (os ++ o ∷ []) ∙ get_last os o

-- of no objects none has a number
pub none_there : (j : ℕ) → object_numbered j [] ≡ None
none_there zero = refl
none_there (suc j) = numbered_suc j []
