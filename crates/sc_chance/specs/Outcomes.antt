-- The reports that runs end with.
use Rattle.std.specs.Prelude.{ℕ, ◌≡◌, ◌⊎◌, List, [], ◌∷◌, ◌++◌, Some, length, map, slice_get}
use Rattle.sc_interning.specs.Tables.{values_of}
use Rattle.sc_chance.specs.declared.outcomes.Outcomes as coded

abbrev pub reports_of : coded.Outcomes → List (List ℕ)
reports_of outcomes = map (λ report. report.items) (values_of outcomes.reports)

-- The report is one of these.
abbrev pub IsOneOf : List (List ℕ) → List ℕ → Type 0
IsOneOf reports report = (number : ℕ) × (slice_get reports number ≡ Some report)

-- Each of the reports is of this kind.
abbrev pub AreEach : (List ℕ → Type 0) → List (List ℕ) → Type 0
AreEach IsReport reports = (number : ℕ) (report : List ℕ) → slice_get reports number ≡ Some report → IsReport report

-- The second list has the reports of the first one, and this one: it is one of them, or stands after them.
abbrev pub Adds : List ℕ → List (List ℕ) → List (List ℕ) → Type 0
Adds report before after = ((after ≡ before) × IsOneOf before report) ⊎ (after ≡ before ++ report ∷ [])

-- There were so many runs, each with a report of this kind, and these are the reports that they ended with.
pub record AreOfRuns (IsReport : List ℕ → Type 0) (times : ℕ) (reports : List (List ℕ)) : Type 0 where
  pub played : List (List ℕ)
  pub count : length played ≡ times
  pub reported : AreEach IsReport played
  pub listed : AreEach (IsOneOf reports) played
  pub known : AreEach (IsOneOf played) reports
