-- Equations of lists, options and truth values that give a part, or that can't be.
use Rattle.std.proofs.Common.{◌≡◌, true, false, List, [], ◌∷◌, Some, None}

pub first_of : {A : Type 0} {x y : A} {xs ys : List A} → x ∷ xs ≡ y ∷ ys → x ≡ y
first_of e = cc

pub rest_of : {A : Type 0} {x y : A} {xs ys : List A} → x ∷ xs ≡ y ∷ ys → xs ≡ ys
rest_of e = cc

pub nothing_is_list : {A B : Type 0} {x : A} {xs : List A} → [] ≡ x ∷ xs → B
nothing_is_list e = cc

pub false_is_true : {B : Type 0} → false ≡ true → B
false_is_true e = cc

pub some_is_none : {A B : Type 0} {x : A} → Some x ≡ None → B
some_is_none e = cc
