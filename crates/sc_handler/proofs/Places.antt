-- What lies at a place of a list that has grown at its end.
use Rattle.std.proofs.Common.{◌≡◌, ◌+◌, ◌-◌, ◌++◌, ◌∙◌, ℕ, List, [], ◌∷◌, Some, refl, sym, ap, length, take, drop, slice_get, arith, append_assoc, length-append, length-drop}
use Rattle.std.proofs.lemmas.List.{take_at, take_all, drop_at}
use lib.Seq.{take-add, take-length}

pub whole_is : {A : Type 0} (xs : List A) → take (length xs) xs ≡ xs
whole_is xs = take-length xs

-- one more was added

pub begins_with : {A : Type 0} (xs : List A) (x : A) → take (length xs) (xs ++ x ∷ []) ≡ xs
begins_with xs x = take_at xs (x ∷ []) (length xs) refl

last_is : {A : Type 0} (xs : List A) (x : A) → slice_get (xs ++ x ∷ []) (length xs) ≡ Some x
last_is [] x = refl
last_is (y ∷ xs) x = last_is xs x

pub last_at : {A : Type 0} (xs : List A) (x : A) (n : ℕ) → n ≡ length xs → slice_get (xs ++ x ∷ []) n ≡ Some x
last_at xs x n e = ap (slice_get (xs ++ x ∷ [])) e ∙ last_is xs x

-- two lists were added

pub begins_with_it : {A : Type 0} (xs us ys : List A) → take (length xs) ((xs ++ us) ++ ys) ≡ xs
begins_with_it xs us ys = ap (take (length xs)) (append_assoc xs us ys) ∙ take_at xs (us ++ ys) (length xs) refl

pub both_lie_behind : {A : Type 0} (xs us ys : List A) (n : ℕ) → n ≡ length xs →
    take (length us + length ys) (drop n ((xs ++ us) ++ ys)) ≡ us ++ ys
both_lie_behind xs us ys n e =
    let m = length us + length ys in
    let long = length-append us ys in
    ap (λ zs. take m (drop n zs)) (append_assoc xs us ys)
    ∙ ap (take m) (drop_at xs (us ++ ys) n (sym e))
    ∙ take_all m (us ++ ys) (omega (arith, long))

-- two lists lie there, one behind the other
pub both_lie_there : {A : Type 0} (xs us ys : List A) (place : ℕ) →
    take (length us) (take (length xs - place) (drop place xs)) ≡ us →
    take (length ys) (drop (length us) (take (length xs - place) (drop place xs))) ≡ ys →
    take (length us + length ys) (drop place xs) ≡ us ++ ys
both_lie_there xs us ys place e f =
    let rest = take (length xs - place) (drop place xs) in
    let long = length-drop place xs in
    ap (take (length us + length ys)) (sym (take_all (length xs - place) (drop place xs) (omega (arith, long))))
    ∙ take-add (length us) (length ys) rest
    ∙ ap (λ zs. zs ++ take (length ys) (drop (length us) rest)) e
    ∙ ap (λ zs. us ++ zs) f
