-- Lists and truth values.
use Rattle.std.specs.Option.{option_and_then}
use Rattle.std.specs.Prelude.{Contains, length, slice_get, slice_set}
use Rattle.std.proofs.Common.{◌&&◌, ◌+◌, ◌++◌, Bool, List, None, Option, Some, [], ap, arith, false, refl, subst, suc, true, zero, ℕ, ◌∙◌, ◌∷◌, ◌≡◌}
use Rattle.sc_machine_laws.specs.states.Points.{Each}

pub both : (a b : Bool) → (a && b) ≡ true → (a ≡ true) × (b ≡ true)
both true true e = (refl, refl)
both true false e = cc
both false b e = cc

pub no_both : (b : Bool) → b ≡ true → b ≡ false → ⊥
no_both true e f = cc
no_both false e f = cc

-- What is false isn't true. (Where more is known `cc` reads all of it first, which may take seconds.)
pub not_true : false ≡ true → ⊥
not_true e = cc

pub same_some : {A : Type 0} {x y : A} → Some x ≡ Some y → x ≡ y
same_some e = cc

pub none_in : {A : Type 0} (x : A) → Contains [] x → ⊥
none_in x (i, l, e) = absurd (omega (arith, l))

-- ---- each of a list

pub each_in : {A : Type 0} (P : A → Type 0) (xs : List A) (x : A) → Each P xs → Contains xs x → P x
each_in P [] x e i = absurd (none_in x i)
each_in P (y ∷ xs) x e (zero, l, i) = subst P i e.0
each_in P (y ∷ xs) x e (suc k, l, i) = each_in P xs x e.1 (k, omega (arith, l), i)

pub each_more : {A : Type 0} (P Q : A → Type 0) → ((x : A) → P x → Q x) → (xs : List A) → Each P xs → Each Q xs
each_more P Q f [] e = tt
each_more P Q f (x ∷ xs) e = (f x e.0, each_more P Q f xs e.1)

pub each_append : {A : Type 0} (P : A → Type 0) (xs ys : List A) → Each P xs → Each P ys → Each P (xs ++ ys)
each_append P [] ys e f = f
each_append P (x ∷ xs) ys e f = (e.0, each_append P xs ys e.1 f)

pub each_before : {A : Type 0} (P : A → Type 0) (xs ys : List A) → Each P (xs ++ ys) → Each P xs
each_before P [] ys e = tt
each_before P (x ∷ xs) ys e = (e.0, each_before P xs ys e.1)

pub each_behind : {A : Type 0} (P : A → Type 0) (xs ys : List A) → Each P (xs ++ ys) → Each P ys
each_behind P [] ys e = e
each_behind P (x ∷ xs) ys e = each_behind P xs ys e.1

pub each_at : {A : Type 0} (P : A → Type 0) (xs : List A) (i : ℕ) (x : A) → Each P xs → slice_get xs i ≡ Some x → P x
each_at P [] i x e f = cc
each_at P (y ∷ xs) zero x e f = let q : y ≡ x = cc in subst P q e.0
each_at P (y ∷ xs) (suc i) x e f = each_at P xs i x e.1 f

pub each_set : {A : Type 0} (P : A → Type 0) (xs : List A) (i : ℕ) (x : A) → Each P xs → P x → Each P (slice_set xs i x)
each_set P [] i x e f = tt
each_set P (y ∷ xs) zero x e f = (f, e.1)
each_set P (y ∷ xs) (suc i) x e f = (e.0, each_set P xs i x e.1 f)

-- ---- places

pub some_append : {A : Type 0} (xs ys : List A) (i : ℕ) (x : A) → slice_get xs i ≡ Some x → slice_get (xs ++ ys) i ≡ Some x
some_append [] ys i x e = cc
some_append (z ∷ xs) ys zero x e = e
some_append (z ∷ xs) ys (suc i) x e = some_append xs ys i x e

pub found_append : {A : Type 0} (f : A → Option ℕ) (xs ys : List A) (i k : ℕ) → option_and_then f (slice_get xs i) ≡ Some k → option_and_then f (slice_get (xs ++ ys) i) ≡ Some k
found_append {A} f xs ys i k = by (slice_get xs i) refl
  where
    by : (o : Option A) → slice_get xs i ≡ o → option_and_then f o ≡ Some k → option_and_then f (slice_get (xs ++ ys) i) ≡ Some k
    by None e g = cc
    by (Some x) e g = ap (option_and_then f) (some_append xs ys i x e) ∙ g

pub last_is : {A : Type 0} (xs : List A) (x : A) → slice_get (xs ++ x ∷ []) (length xs) ≡ Some x
last_is [] x = refl
last_is (y ∷ xs) x = last_is xs x

-- what lies at a place is there before, or after
pub behind_append : {A : Type 0} (xs ys : List A) (j : ℕ) (x : A) → slice_get ys j ≡ Some x → slice_get (xs ++ ys) (length xs + j) ≡ Some x
behind_append [] ys j x e = let q : 0 + j ≡ j = omega arith in ap (slice_get ys) q ∙ e
behind_append (z ∷ xs) ys j x e = let q : suc (length xs) + j ≡ suc (length xs + j) = omega arith in ap (slice_get (z ∷ (xs ++ ys))) q ∙ behind_append xs ys j x e

pub set_there : {A : Type 0} (xs : List A) (i : ℕ) (x y : A) → slice_get xs i ≡ Some x → slice_get (slice_set xs i y) i ≡ Some y
set_there [] i x y e = cc
set_there (z ∷ xs) zero x y e = refl
set_there (z ∷ xs) (suc i) x y e = set_there xs i x y e
