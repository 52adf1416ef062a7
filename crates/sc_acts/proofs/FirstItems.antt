-- The first 16 of what a list gives.
use Rattle.std.proofs.Common.{◌≡◌, ℕ, zero, suc, ◌+◌, ◌<◌, ◌≤◌, List, [], ◌∷◌, ◌++◌, Option, length, get_or, refl, sym, ap, ◌∙◌, arith}
use Rattle.std.proofs.lemmas.List.{take_more}
use Rattle.std.proofs.lemmas.List.Elements.{filter_map-append}
use Rattle.std.specs.Prelude.{take}
use Rattle.std.specs.List.{cons_option, filter_map}

take_first : (n : ℕ) (xs ys : List ℕ) → length xs ≡ n → take n (xs ++ ys) ≡ xs
take_first zero [] ys e = refl
take_first zero (x ∷ xs) ys e = absurd (omega (arith, e))
take_first (suc n) [] ys e = absurd (omega (arith, e))
take_first (suc n) (x ∷ xs) ys e = ap (λ zs. x ∷ zs) (take_first n xs ys (omega (arith, e)))

take_enough : (n : ℕ) (xs : List ℕ) → length xs ≤ n → take n xs ≡ xs
take_enough zero [] l = refl
take_enough zero (x ∷ xs) l = absurd (omega (arith, l))
take_enough (suc n) [] l = refl
take_enough (suc n) (x ∷ xs) l = ap (λ zs. x ∷ zs) (take_enough n xs (omega (arith, l)))

append_none : (xs : List ℕ) → xs ++ [] ≡ xs
append_none [] = refl
append_none (x ∷ xs) = ap (λ zs. x ∷ zs) (append_none xs)

append_length : (xs : List ℕ) (y : ℕ) → length (xs ++ y ∷ []) ≡ length xs + 1
append_length [] y = refl
append_length (x ∷ xs) y = let m = append_length xs y in omega (arith, m)

take_twice : (n : ℕ) (xs ys : List ℕ) → take n (take n xs ++ ys) ≡ take n (xs ++ ys)
take_twice zero xs ys = refl
take_twice (suc n) [] ys = refl
take_twice (suc n) (x ∷ xs) ys = ap (λ zs. x ∷ zs) (take_twice n xs ys)

-- no more come to as many
pub take_full : (xs ys : List ℕ) → length xs ≡ 16 → xs ≡ take 16 (xs ++ ys)
take_full xs ys e = sym (take_first 16 xs ys e)

pub take_none : (xs : List ℕ) → length xs ≤ 16 → xs ≡ take 16 (xs ++ [])
take_none xs l = sym (ap (take 16) (append_none xs) ∙ take_enough 16 xs l)

pub take_one : (xs zs : List ℕ) (y : ℕ) → zs ≡ xs ++ y ∷ [] → length xs < 16 → zs ≡ take 16 (xs ++ y ∷ [])
take_one xs zs y e l = let m = append_length xs y in e ∙ sym (take_enough 16 (xs ++ y ∷ []) (omega (arith, l, m)))

-- what the next of them gives comes
pub given_more : (f : ℕ → Option ℕ) (ks : List ℕ) (i d : ℕ) (found : Option ℕ) → i < length ks → found ≡ f (get_or ks i d) →
    take 16 (take 16 (filter_map f (take i ks)) ++ cons_option found []) ≡ take 16 (filter_map f (take (i + 1) ks))
given_more f ks i d found l e =
    take_twice 16 (filter_map f (take i ks)) (cons_option found [])
    ∙ ap (λ o. take 16 (filter_map f (take i ks) ++ cons_option o [])) e
    ∙ ap (take 16) (sym (filter_map-append f (take i ks) (get_or ks i d ∷ [])))
    ∙ ap (λ js. take 16 (filter_map f js)) (sym (take_more ks i d l))
