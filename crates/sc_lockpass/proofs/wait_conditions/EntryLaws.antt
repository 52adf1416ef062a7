-- The laws of what an entry needs.
use Rattle.std.proofs.Common.{◌≡◌, ℕ, ◌==◌, ◌&&◌, ◌||◌, Bool, true, false, not, List, [], ◌∷◌, Option, Some, None, refl, sym, ap, ◌∙◌, inl, inr}
use Rattle.std.proofs.lemmas.Bool.{cases_Bool, eqb-true, eqb-false, ne_eqb, and_right}
use Rattle.std.specs.List.{list_any, filter_map, AllByRecursion, IsDistinct}
use Rattle.sc_lockpass.specs.Rights.{Rights, held, is_among}
use Rattle.sc_lockpass.proofs.LawProofs.{reserver_holds}
use Rattle.sc_lockpass.specs.wait_conditions.Entries.{each_once, unheld, needed}
use Rattle.sc_lockpass.specs.wait_conditions.Laws.{is_on, NeedsUnheld, NeedsOnce, EntryHolds}
use Rattle.sc_lockpass.proofs.wait_conditions.Needed.{others, is_among-others}

-- ---- which handlers are listed

is_among-each_once : (k : ℕ) (xs : List ℕ) → is_among k (each_once xs) ≡ is_among k xs
is_among-each_once k [] = refl
is_among-each_once k (x ∷ xs) = elim (cases_Bool (x == k)) [
  | inl e ↦ rw e refl
  | inr other ↦ rw (other, is_among-others x k (each_once xs) other) (is_among-each_once k xs)
]

is_among-unheld : (r : Rights) (h k : ℕ) (values : List (Option ℕ)) →
    is_among k (filter_map (unheld r h) values) ≡ (list_any (is_on k) values && not (held r h k))
is_among-unheld r h k [] = refl
is_among-unheld r h k (None ∷ vs) = is_among-unheld r h k vs
is_among-unheld r h k (Some j ∷ vs) = elim (cases_Bool (held r h j)) [
  | inl kept ↦ elim (cases_Bool (j == k)) [
    | inl e ↦
        let same : held r h k ≡ true = ap (held r h) (sym (eqb-true j k e)) ∙ kept in
        rw (kept, e) (is_among-unheld r h k vs ∙ rw same (and_right (list_any (is_on k) vs) false refl))
    | inr other ↦ rw (kept, other) (is_among-unheld r h k vs)
  ]
  | inr missing ↦ elim (cases_Bool (j == k)) [
    | inl e ↦
        let same : held r h k ≡ false = ap (held r h) (sym (eqb-true j k e)) ∙ missing in
        rw (missing, e, same) refl
    | inr other ↦ rw (missing, other) (is_among-unheld r h k vs)
  ]
]

pub needs_unheld : NeedsUnheld
needs_unheld r h k values = is_among-each_once k (filter_map (unheld r h) values) ∙ is_among-unheld r h k values

-- ---- each once

others-apart : (x : ℕ) (ys : List ℕ) → AllByRecursion (λ y. (x == y) ≡ false) (others x ys)
others-apart x [] = tt
others-apart x (y ∷ ys) = elim (cases_Bool (y == x)) [
  | inl e ↦ rw e (others-apart x ys)
  | inr other ↦ rw other (ne_eqb x y (λ f. eqb-false y x other (sym f)), others-apart x ys)
]

others-all : (P : ℕ → Type 0) (x : ℕ) (ys : List ℕ) → AllByRecursion P ys → AllByRecursion P (others x ys)
others-all P x [] all = tt
others-all P x (y ∷ ys) all = elim (cases_Bool (y == x)) [
  | inl e ↦ rw e (others-all P x ys all.1)
  | inr other ↦ rw other (all.0, others-all P x ys all.1)
]

others-distinct : (x : ℕ) (ys : List ℕ) → IsDistinct (λ j k. j == k) ys → IsDistinct (λ j k. j == k) (others x ys)
unfolding IsDistinct
others-distinct x [] d = tt
others-distinct x (y ∷ ys) d = elim (cases_Bool (y == x)) [
  | inl e ↦ rw e (others-distinct x ys d.1)
  | inr other ↦ rw other (others-all (λ z. (y == z) ≡ false) x ys d.0, others-distinct x ys d.1)
]

each_once-distinct : (xs : List ℕ) → IsDistinct (λ j k. j == k) (each_once xs)
unfolding IsDistinct
each_once-distinct [] = tt
each_once-distinct (x ∷ xs) = (others-apart x (each_once xs), others-distinct x (each_once xs) (each_once-distinct xs))

pub needs_once : NeedsOnce
needs_once r h values = each_once-distinct (filter_map (unheld r h) values)

-- ---- what is reserved is held

not-or : (b : Bool) → (not b || b) ≡ true
not-or true = refl
not-or false = refl

pub entry_holds : EntryHolds
entry_holds r h k values there =
    reserver_holds r h k (needed r h values) ∙ rw (needs_unheld r h k values) (rw there (not-or (held r h k)))
