-- Lists that grow at their end keep what was at each number.
use Rattle.std.proofs.Common.{◌≡◌, ℕ, zero, suc, Bool, true, false, List, [], ◌∷◌, ◌++◌, length, Option, Some, None, refl, ap, sym, ◌∙◌}
use Rattle.std.specs.Prelude.{slice_get, map, if◌then◌else◌}
use Rattle.std.proofs.lemmas.List.{map-append}
use Rattle.std.specs.Option.{option_map}
use Rattle.std.proofs.lemmas.Option.{slice_get-map}
use Rattle.sc_lower.specs.Growing.{Extends}

pub extends_itself : {A : Type 0} (xs : List A) → Extends xs xs
extends_itself xs = record { kept = λ n x e. e }

pub extends_further : {A : Type 0} (xs ys zs : List A) → Extends xs ys → Extends ys zs → Extends xs zs
extends_further xs ys zs e f = record { kept = λ n x g. f.kept n x (e.kept n x g) }

kept_before : {A : Type 0} (xs ys : List A) (n : ℕ) (x : A) → slice_get xs n ≡ Some x → slice_get (xs ++ ys) n ≡ Some x
kept_before [] ys n x e = cc
kept_before (y ∷ xs) ys zero x e = e
kept_before (y ∷ xs) ys (suc n) x e = kept_before xs ys n x e

pub extends_more : {A : Type 0} (xs ys : List A) → Extends xs (xs ++ ys)
extends_more xs ys = record { kept = kept_before xs ys }

pub last_stands : {A : Type 0} (xs : List A) (x : A) → slice_get (xs ++ x ∷ []) (length xs) ≡ Some x
last_stands [] x = refl
last_stands (y ∷ xs) x = last_stands xs x

-- An item is added where it isn't there yet.
pub extends_added : {A B : Type 0} (f : A → B) (b : Bool) (xs ys : List A) (x : A) → ys ≡ (if b then xs else xs ++ x ∷ []) → Extends (map f xs) (map f ys)
extends_added f true xs ys x e = rw e (extends_itself (map f xs))
extends_added f false xs ys x e = rw (e, map-append f xs (x ∷ [])) (extends_more (map f xs) (map f (x ∷ [])))

-- the same of lists of what the items are
pub extends_mapped : {A B : Type 0} (f : A → B) (xs ys : List A) → Extends xs ys → Extends (map f xs) (map f ys)
extends_mapped {A = A} {B = B} f xs ys e = record { kept = λ n y. stands n y }
  where
    by : (n : ℕ) (y : B) (o : Option A) → slice_get xs n ≡ o → option_map f o ≡ Some y → slice_get (map f ys) n ≡ Some y
    by n y None i h = cc
    by n y (Some x) i h = slice_get-map f ys n ∙ ap (option_map f) (e.kept n x i) ∙ h

    stands : (n : ℕ) (y : B) → slice_get (map f xs) n ≡ Some y → slice_get (map f ys) n ≡ Some y
    stands n y g = by n y (slice_get xs n) refl (sym (slice_get-map f xs n) ∙ g)

pub ruleset growing = (extends_itself, extends_mapped)
