-- What is found at the end of a loop over a list, where what is found so far and that of those that are left is that of all.
use Rattle.std.proofs.Common.{◌≡◌, ◌≤◌, ℕ, List, [], ◌++◌, length, drop, max, sym, ap, ◌∙◌, append-nil}
use Rattle.std.proofs.lemmas.List.{at_drop_all}
use Rattle.sc_routines.proofs.Largest.{max_zero}

pub all_found : {X A : Type 0} (F : List X → List A) (xs : List X) (i : ℕ) (found total : List A) → length xs ≤ i → F [] ≡ [] → found ++ F (drop i xs) ≡ total → found ≡ total
all_found {A = A} F xs i found total l e et = sym (append-nil found) ∙ ap (λ (rest : List A). found ++ rest) (sym (at_drop_all F xs i l ∙ e)) ∙ et

pub all_needed : {X : Type 0} (F : List X → ℕ) (xs : List X) (i d total : ℕ) → length xs ≤ i → F [] ≡ 0 → max d (F (drop i xs)) ≡ total → d ≡ total
all_needed F xs i d total l e et = sym (max_zero d) ∙ ap (max d) (sym (at_drop_all F xs i l ∙ e)) ∙ et
