-- What is made of the numbers up to one, and of the next.
use Rattle.std.proofs.Common.{◌≡◌, ◌+◌, ℕ, List, [], ◌∷◌, ◌++◌, map, length, sym, ap, ◌∙◌, zero-add}
use Rattle.std.specs.List.{range_with_len}
use Rattle.std.proofs.lemmas.List.{length-map}
use Rattle.std.proofs.lemmas.List.FromFn.{map-range_with_len_more}

pub range_more : {X : Type 0} (f : ℕ → X) (n : ℕ) → map f (range_with_len 0 (n + 1)) ≡ map f (range_with_len 0 n) ++ f n ∷ []
range_more f n = map-range_with_len_more f 0 n n (zero-add n)

pub as_many : {A B : Type 0} (f : A → B) (xs : List A) (ys : List B) → map f xs ≡ ys → length ys ≡ length xs
as_many f xs ys e = ap length (sym e) ∙ length-map xs f

pub ruleset ranges = (range_more, as_many)
