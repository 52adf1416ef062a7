-- What holds of each item of a list, as a loop goes over the list in memory.
use Rattle.std.proofs.Common.{◌≡◌, ◌<◌, ◌≤◌, ◌+◌, ℕ, zero, suc, List, [], ◌∷◌, ◌++◌, Some, length, get_or, map, refl, ap, sym, subst, ◌∙◌, arith, below_more}
use Rattle.std.specs.Prelude.{Contains, slice_get}
use Rattle.std.specs.Option.{option_map}
use Rattle.std.proofs.lemmas.Option.{slice_get-map, slice_get_read, slice_get_within, get_or_from_slice_get}
use Rattle.std.proofs.lemmas.List.{length-map}

pub some_is : {A : Type 0} (x y : A) → Some x ≡ Some y → x ≡ y
some_is x y e = cc

-- the item that a loop has read, in the plain tree
pub item_in : {A B : Type 0} (f : A → B) (xs : List A) (n : ℕ) (x : A) → n < length xs → x ≡ get_or xs n x → slice_get (map f xs) n ≡ Some (f x)
item_in f xs n x l e = slice_get-map f xs n ∙ ap (option_map f) (slice_get_read xs (length xs) n x refl l e)

pub items_more : {A B : Type 0} (f : A → B) (xs : List A) (P : ℕ → B → Type 0) (n : ℕ) (x : A) → n < length xs → x ≡ get_or xs n x →
    ((k : ℕ) → k < n → (b : B) → slice_get (map f xs) k ≡ Some b → P k b) → P n (f x) → (k : ℕ) → k < n + 1 → (b : B) → slice_get (map f xs) k ≡ Some b → P k b
items_more {A} {B} f xs P n x l e below here =
    below_more (λ k. (b : B) → slice_get (map f xs) k ≡ Some b → P k b) n below (λ b g. subst (P n) (some_is (f x) b (sym (item_in f xs n x l e) ∙ g)) here)

pub items_all : {A B : Type 0} (f : A → B) (xs : List A) (P : ℕ → B → Type 0) (n : ℕ) → length xs ≤ n →
    ((k : ℕ) → k < n → (b : B) → slice_get (map f xs) k ≡ Some b → P k b) → (k : ℕ) (b : B) → slice_get (map f xs) k ≡ Some b → P k b
items_all f xs P n l below k b g = let m = slice_get_within (map f xs) k b g in below k (omega (arith, m, length-map xs f)) b g

pub contains_at : {A : Type 0} (xs : List A) (i : ℕ) (x : A) → slice_get xs i ≡ Some x → Contains xs x
contains_at xs i x e = (i, slice_get_within xs i x e, get_or_from_slice_get xs i x x e)

pub contained_at : {A : Type 0} (xs : List A) (x : A) → Contains xs x → (i : ℕ) × (slice_get xs i ≡ Some x)
contained_at xs x (i, l, e) = (i, slice_get_read xs (length xs) i x refl l (sym e))

-- ---- a list with one more item

pub read_append : {A : Type 0} (xs : List A) (x : A) (k : ℕ) → k < length xs → slice_get (xs ++ x ∷ []) k ≡ slice_get xs k
read_append [] x k l = absurd (omega arith)
read_append (y ∷ xs) x zero l = refl
read_append (y ∷ xs) x (suc k) l = read_append xs x k (less l)
  where
    less : suc k < suc (length xs) → k < length xs
    less l = omega arith

pub read_last : {A : Type 0} (xs : List A) (x : A) → slice_get (xs ++ x ∷ []) (length xs) ≡ Some x
read_last [] x = refl
read_last (y ∷ xs) x = read_last xs x
