-- What an entry needs, value by value.
use Rattle.std.proofs.Common.{◌≡◌, ℕ, ◌+◌, ◌<◌, ◌≤◌, ◌==◌, ◌||◌, true, false, not, List, [], ◌∷◌, ◌++◌, Option, Some, None, length, take, filter, get_or, arith, length-append, append-nil, refl, sym, ap, ◌∙◌, inl, inr, if◌then◌else◌}
use Rattle.std.proofs.lemmas.Bool.{cases_Bool, eqb-true, eqb-false, eq-eqb, ne_eqb}
use Rattle.std.proofs.lemmas.List.{take_more}
use Rattle.std.proofs.lemmas.List.Elements.{filter_map-append}
use Rattle.std.specs.List.{filter_map, cons_option, list_any}
use Rattle.sc_lockpass.specs.Rights.{Rights, is_among}
use Rattle.sc_lockpass.specs.wait_conditions.Entries.{each_once, unheld, needed, with_new}
use Rattle.sc_lockpass.specs.declared.wait_conditions.mark.Marked.{Marked}
use Rattle.sc_lockpass.specs.wait_conditions.Reservations.{has_risen, mark_allows}

-- all but one number
abbrev pub others : ℕ → List ℕ → List ℕ
others x = filter (λ j. not (j == x))

-- ---- one more number at the end

others-append : (x k : ℕ) (xs : List ℕ) → others x (xs ++ k ∷ []) ≡ others x xs ++ others x (k ∷ [])
others-append x k [] = refl
others-append x k (y ∷ ys) = elim (cases_Bool (y == x)) [
  | inl e ↦ rw e (others-append x k ys)
  | inr other ↦ rw other (ap (λ zs. y ∷ zs) (others-append x k ys))
]

-- another number is among the others where it is among all
pub is_among-others : (x k : ℕ) (xs : List ℕ) → (x == k) ≡ false → is_among k (others x xs) ≡ is_among k xs
is_among-others x k [] apart = refl
is_among-others x k (y ∷ ys) apart = elim (cases_Bool (y == x)) [
  | inl e ↦ rw e (is_among-others x k ys apart ∙ sym (rw (eqb-true y x e) (rw apart refl)))
  | inr other ↦ rw other (ap (λ b. (y == k) || b) (is_among-others x k ys apart))
]

-- one that is there isn't put there again
each_once-append : (k : ℕ) (xs : List ℕ) → each_once (xs ++ k ∷ []) ≡ with_new (each_once xs) (Some k)
each_once-append k [] = refl
each_once-append k (x ∷ xs) = elim (cases_Bool (x == k)) [
  | inl e ↦
      rw e (ap (λ zs. x ∷ zs) (ap (others x) (each_once-append k xs) ∙ others-with_known x k (each_once xs) e))
  | inr other ↦
      rw (other, is_among-others x k (each_once xs) other)
      (ap (λ zs. x ∷ zs) (ap (others x) (each_once-append k xs)) ∙ others-with_new x k (each_once xs) other)
]
  where
    others-with_known : (x k : ℕ) (xs : List ℕ) → (x == k) ≡ true → others x (with_new xs (Some k)) ≡ others x xs
    others-with_known x k xs e = elim (cases_Bool (is_among k xs)) [
      | inl there ↦ rw there refl
      | inr new ↦ rw new (others-append x k xs ∙ rw (eq-eqb k x (sym (eqb-true x k e))) (append-nil (others x xs)))
    ]

    others-with_new : (x k : ℕ) (xs : List ℕ) → (x == k) ≡ false →
        (x ∷ others x (with_new xs (Some k))) ≡ (if is_among k xs then x ∷ others x xs else x ∷ others x xs ++ k ∷ [])
    others-with_new x k xs e = elim (cases_Bool (is_among k xs)) [
      | inl there ↦ rw there refl
      | inr new ↦ rw new (ap (λ zs. x ∷ zs) (others-append x k xs ∙ rw (ne_eqb k x (λ f. eqb-false x k e (sym f))) refl))
    ]

each_once-appended : (xs : List ℕ) (o : Option ℕ) → each_once (xs ++ cons_option o []) ≡ with_new (each_once xs) o
each_once-appended xs None = ap each_once (append-nil xs)
each_once-appended xs (Some k) = each_once-append k xs

-- one more value
pub needed-take : (r : Rights) (h i : ℕ) (values : List (Option ℕ)) (d : Option ℕ) → i < length values →
    needed r h (take (i + 1) values) ≡ with_new (needed r h (take i values)) (unheld r h (get_or values i d))
needed-take r h i values d within =
    ap (λ vs. needed r h vs) (take_more values i d within)
    ∙ ap each_once (filter_map-append (unheld r h) (take i values) (get_or values i d ∷ []))
    ∙ each_once-appended (filter_map (unheld r h) (take i values)) (unheld r h (get_or values i d))

-- it is at most one handler more
pub length-with_new : (ks : List ℕ) (o : Option ℕ) → length (with_new ks o) ≤ length ks + 1
length-with_new ks None = omega arith
length-with_new ks (Some k) = elim (cases_Bool (is_among k ks)) [
  | inl e ↦ rw e (omega arith)
  | inr e ↦ rw e (omega (arith, length-append ks (k ∷ [])))
]

-- ---- a mark

pub mark_allows-marked : (sessions : ℕ → ℕ) (ms : List Marked) → (length ms == 0) ≡ false → mark_allows sessions ms ≡ list_any (has_risen sessions) ms
mark_allows-marked sessions [] e = cc
mark_allows-marked sessions (m ∷ ms) e = refl
