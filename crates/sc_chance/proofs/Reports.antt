-- The reports that runs ended with.
use Rattle.std.proofs.Common.{◌≡◌, ◌++◌, ◌+◌, ◌⊎◌, inl, inr, ℕ, zero, suc, List, [], ◌∷◌, Option, Some, None, IfSome, length, slice_get, refl, sym, subst, ap, ◌∙◌}
use Rattle.std.proofs.lemmas.List.{length_push}
use Rattle.sc_chance.specs.Outcomes.{Adds, AreEach, AreOfRuns, IsOneOf}

-- what stands in the longer list stood before, or is the last one
get_either : {X : Type 0} (xs : List X) (x : X) (i : ℕ) (k : X) → slice_get (xs ++ x ∷ []) i ≡ Some k → (slice_get xs i ≡ Some k) ⊎ (k ≡ x)
get_either [] x zero k e = inr cc
get_either [] x (suc i) k e = cc
get_either (y ∷ xs) x zero k e = inl e
get_either (y ∷ xs) x (suc i) k e = get_either xs x i k e

get_before : {X : Type 0} (xs : List X) (x : X) (i : ℕ) (k : X) → slice_get xs i ≡ Some k → slice_get (xs ++ x ∷ []) i ≡ Some k
get_before [] x i k e = cc
get_before (y ∷ xs) x zero k e = e
get_before (y ∷ xs) x (suc i) k e = get_before xs x i k e

get_last : {X : Type 0} (xs : List X) (x : X) → slice_get (xs ++ x ∷ []) (length xs) ≡ Some x
get_last [] x = refl
get_last (y ∷ xs) x = get_last xs x

also_one : (reports : List (List ℕ)) (last report : List ℕ) → IsOneOf reports report → IsOneOf (reports ++ last ∷ []) report
also_one reports last report (number, e) = (number, get_before reports last number report e)

-- one more, of the same kind
each_of_more : (P : List ℕ → Type 0) (reports : List (List ℕ)) (last : List ℕ) → AreEach P reports → P last → AreEach P (reports ++ last ∷ [])
each_of_more P reports last all one number report e = elim (get_either reports last number report e) [
  | inl was ↦ all number report was
  | inr is ↦ subst P (sym is) one
]

-- ---- runs

pub none_played : (P : List ℕ → Type 0) (reports : List (List ℕ)) → reports ≡ [] → AreOfRuns P 0 reports
none_played P reports same = subst (λ (rs : List (List ℕ)). AreOfRuns P 0 rs) (sym same)
    (record { played = []; count = refl; reported = λ number report e. cc; listed = λ number report e. cc; known = λ number report e. cc })

more_listed : (reports played : List (List ℕ)) (last : List ℕ) → AreEach (IsOneOf played) reports → AreEach (IsOneOf (played ++ last ∷ [])) reports
more_listed reports played last all number report e = also_one played last report (all number report e)

-- a run whose report is known
again : (P : List ℕ → Type 0) (times : ℕ) (reports : List (List ℕ)) (report : List ℕ) → AreOfRuns P times reports → P report →
    IsOneOf reports report → AreOfRuns P (times + 1) reports
again P times reports report w one known = record {
  played = w.played ++ report ∷ [];
  count = length_push w.played report ∙ ap (λ (n : ℕ). n + 1) w.count;
  reported = each_of_more P w.played report w.reported one;
  listed = each_of_more (IsOneOf reports) w.played report w.listed known;
  known = more_listed reports w.played report w.known;
}

-- a run whose report is new
anew : (P : List ℕ → Type 0) (times : ℕ) (reports : List (List ℕ)) (report : List ℕ) → AreOfRuns P times reports → P report →
    AreOfRuns P (times + 1) (reports ++ report ∷ [])
anew P times reports report w one = record {
  played = w.played ++ report ∷ [];
  count = length_push w.played report ∙ ap (λ (n : ℕ). n + 1) w.count;
  reported = each_of_more P w.played report w.reported one;
  listed =
      each_of_more (IsOneOf (reports ++ report ∷ [])) w.played report (more_listed w.played reports report w.listed)
      (length reports, get_last reports report);
  known =
      each_of_more (IsOneOf (w.played ++ report ∷ [])) reports report (more_listed reports w.played report w.known)
      (length w.played, get_last w.played report);
}

pub one_more_played : (P : List ℕ → Type 0) (times : ℕ) (report : List ℕ) (before after : List (List ℕ)) → Adds report before after →
    AreOfRuns P times before → P report → AreOfRuns P (times + 1) after
one_more_played P times report before after (inl (same, known)) w one =
    subst (λ (rs : List (List ℕ)). AreOfRuns P (times + 1) rs) (sym same) (again P times before report w one known)
one_more_played P times report before after (inr same) w one =
    subst (λ (rs : List (List ℕ)). AreOfRuns P (times + 1) rs) (sym same) (anew P times before report w one)

-- the first one, if there is one
pub first_of : (P : List ℕ → Type 0) (times : ℕ) (reports : List (List ℕ)) → AreOfRuns P times reports → IfSome (slice_get reports 0) P
first_of P times reports w = by (slice_get reports 0) (λ report e. kind report (w.known 0 report e))
  where
    kind : (report : List ℕ) → IsOneOf w.played report → P report
    kind report (number, e) = w.reported number report e

    by : (o : Option (List ℕ)) → ((report : List ℕ) → o ≡ Some report → P report) → IfSome o P
    by None all = tt
    by (Some report) all = all report refl
