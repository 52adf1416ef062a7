-- Elements of lists of which something holds.
use Rattle.std.proofs.Common.{◌≡◌, ◌<◌, ◌≤◌, ◌+◌, ℕ, zero, suc, List, [], ◌∷◌, ◌++◌, length, take, drop, get_or, map, refl, ap, sym, subst, ◌∙◌, arith, ◌⊎◌, inl, inr}
use Rattle.std.specs.Prelude.{Any, Option, Some, None, slice_get}
use Rattle.std.specs.Borrow.{Bor}
use Rattle.std.specs.Option.{option_map, option_copied}
use Rattle.std.specs.Slice.{IsGetResult}
use Rattle.std.proofs.lemmas.Option.{slice_get-map, slice_get_past, slice_get_read}
use Rattle.std.proofs.lemmas.List.{drop_more, take_more, map_more, map-append}
use Rattle.std.proofs.lemmas.Grind.{common_steps}

pub any_none : {A : Type 0} {P : A → Type 0} → Any P [] → ⊥
any_none (k, x, l, e, p) = absurd (omega arith)

pub any_first : {A : Type 0} {P : A → Type 0} (x : A) (xs : List A) → P x → Any P (x ∷ xs)
any_first x xs p = (0, x, omega arith, refl, p)

pub any_later : {A : Type 0} {P : A → Type 0} (y : A) (xs : List A) → Any P xs → Any P (y ∷ xs)
any_later y xs (k, x, l, e, p) = (suc k, x, more l, e, p)
  where
    more : k < length xs → suc k < suc (length xs)
    more l = omega arith

pub any_split : {A : Type 0} {P : A → Type 0} (x : A) (xs : List A) → Any P (x ∷ xs) → P x ⊎ Any P xs
any_split {A} {P} x xs (zero, y, l, e, p) = inl (subst P (sym e) p)
any_split x xs (suc k, y, l, e, p) = inr (k, y, less l, e, p)
  where
    less : suc k < suc (length xs) → k < length xs
    less l = omega arith

pub any_more : {A : Type 0} {P Q : A → Type 0} (xs : List A) → ((x : A) → P x → Q x) → Any P xs → Any Q xs
any_more xs f (k, x, l, e, p) = (k, x, l, e, f x p)

pub any_left : {A : Type 0} {P : A → Type 0} (xs ys : List A) → Any P xs → Any P (xs ++ ys)
any_left [] ys a = absurd (any_none a)
any_left {A} {P} (x ∷ xs) ys a = by (any_split x xs a) (any_left xs ys)
  where
    by : P x ⊎ Any P xs → (Any P xs → Any P (xs ++ ys)) → Any P ((x ∷ xs) ++ ys)
    by (inl p) f = any_first x (xs ++ ys) p
    by (inr b) f = any_later x (xs ++ ys) (f b)

pub any_right : {A : Type 0} {P : A → Type 0} (xs ys : List A) → Any P ys → Any P (xs ++ ys)
any_right [] ys a = a
any_right (x ∷ xs) ys a = any_later x (xs ++ ys) (any_right xs ys a)

pub any_parts : {A : Type 0} {P : A → Type 0} (xs ys : List A) → Any P (xs ++ ys) → Any P xs ⊎ Any P ys
any_parts [] ys a = inr a
any_parts {A} {P} (x ∷ xs) ys a = by (any_split x (xs ++ ys) a) (any_parts xs ys)
  where
    further : Any P xs ⊎ Any P ys → Any P (x ∷ xs) ⊎ Any P ys
    further (inl b) = inl (any_later x xs b)
    further (inr b) = inr b

    by : P x ⊎ Any P (xs ++ ys) → (Any P (xs ++ ys) → Any P xs ⊎ Any P ys) → Any P (x ∷ xs) ⊎ Any P ys
    by (inl p) f = inl (any_first x xs p)
    by (inr b) f = further (f b)

pub any_only : {A : Type 0} {P : A → Type 0} (x : A) → Any P (x ∷ []) → P x
any_only {A} {P} x a = by (any_split x [] a)
  where
    by : P x ⊎ Any P [] → P x
    by (inl p) = p
    by (inr b) = absurd (any_none b)

-- ---- what is left of a list, and what has been seen of it

pub drop_end : {A : Type 0} (xs : List A) (k : ℕ) → length xs ≤ k → drop k xs ≡ []
drop_end xs k l = grind (arith, common_steps)

pub take_end : {A : Type 0} (xs : List A) (k : ℕ) → length xs ≤ k → take k xs ≡ xs
take_end xs k l = grind (arith, common_steps)

-- at the element x of xs, whose index is k
pub at : {A : Type 0} (xs : List A) (k : ℕ) (x : A) → k < length xs → x ≡ get_or xs k x → drop k xs ≡ x ∷ drop (k + 1) xs
at xs k x l g = drop_more xs k x l ∙ ap (λ y. y ∷ drop (k + 1) xs) (sym g)

pub seen : {A : Type 0} (xs : List A) (k : ℕ) (x : A) → k < length xs → x ≡ get_or xs k x → take (k + 1) xs ≡ take k xs ++ x ∷ []
seen xs k x l g = take_more xs k x l ∙ ap (λ y. take k xs ++ y ∷ []) (sym g)

pub map_seen : {A B : Type 0} (f : A → B) (xs : List A) (k : ℕ) (x : A) → k < length xs → x ≡ get_or xs k x → map f (take (k + 1) xs) ≡ map f (take k xs) ++ f x ∷ []
map_seen f xs k x l g = ap (map f) (seen xs k x l g) ∙ map-append f (take k xs) (x ∷ [])

-- ---- what is read of a list in memory

-- in the plain tree
pub read_at : {A B : Type 0} (f : A → B) (xs : List A) (i : ℕ) (o : Option (Bor A)) (x : Bor A) → option_copied o ≡ slice_get xs i → o ≡ Some x → slice_get (map f xs) i ≡ Some (f x.now)
read_at f xs i o x e g = slice_get-map f xs i ∙ ap (option_map f) (sym e ∙ ap option_copied g)

pub got : {A : Type 0} (xs : List A) (i : ℕ) (o : Option (Bor A)) → IsGetResult xs i i o → option_copied o ≡ slice_get xs i
got xs i None g = sym (slice_get_past xs i g.3)
got xs i (Some x) g = sym (slice_get_read xs (length xs) i x.now refl g.3.0 g.1)

-- a list that is made of the first elements of another, with the next of them
pub one_more : {A B C : Type 0} (g : B → C) (f : A → B) (xs : List A) (i : ℕ) (x : A) (old new : List C) (y : C) → i < length xs → x ≡ get_or xs i x →
    old ≡ map g (map f (take i xs)) → y ≡ g (f x) → new ≡ old ++ y ∷ [] → new ≡ map g (map f (take (i + 1) xs))
one_more g f xs i x old new y l p was q e =
    e ∙ ap (λ zs. zs ++ y ∷ []) was ∙ ap (λ y. map g (map f (take i xs)) ++ y ∷ []) (q ∙ ap (λ x. g (f x)) p)
    ∙ sym (ap (map g) (map_more f xs i x l) ∙ map-append g (map f (take i xs)) (f (get_or xs i x) ∷ []))
