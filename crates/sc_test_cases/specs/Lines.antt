-- The lines that tell the results of tests.
use Rattle.std.specs.Prelude.{ℕ, ◌==◌, Bool, true, false, if◌then◌else◌, List, ◌++◌, codes, count_by, decimal, flat_map, map, string_bytes}
use Rattle.std.specs.Char.{to_ascii_uppercase}
use Rattle.sc_class.specs.ClassNames.{Root}
use Rattle.sc_test_cases.specs.declared.outcome.Outcome.{Outcome}
use Rattle.sc_test_cases.specs.declared.outcome.Outcome.TheVariants as outcome
use Rattle.sc_test_cases.specs.declared.outcome.TestResult.{TestResult}
use Rattle.sc_test_cases.specs.declared.outcome.Verdict.{Verdict}
use Rattle.sc_test_cases.specs.declared.outcome.Verdict.TheVariants as verdict

-- what a test is called: the name of its class in upper case, a dot, and the name of its procedure
abbrev pub name_of : Root → List ℕ
name_of root = map to_ascii_uppercase root.class ++ (codes "." ++ root.procedure)

-- the line of a test of this name
abbrev pub result_line : List ℕ → Outcome → List ℕ
result_line name outcome.Passes = codes "passes " ++ (name ++ codes "\n")
result_line name outcome.AlwaysPasses = codes "passes " ++ (name ++ codes " in every order (proved)\n")
result_line name (outcome.FailsAfter turns) =
    codes "fails " ++ (name ++ (codes " after " ++ (decimal turns ++ codes " turns\n")))
result_line name outcome.GoesOn = codes "fails " ++ (name ++ codes " in an order that goes on for ever\n")
result_line name outcome.Undecided = codes "undecided " ++ (name ++ codes "\n")

abbrev pub line_of : TestResult → List ℕ
line_of r = result_line (string_bytes r.name) r.outcome

-- ---- the summary

abbrev pub has_verdict : Verdict → Outcome → Bool
has_verdict verdict.Passed outcome.Passes = true
has_verdict verdict.Passed outcome.AlwaysPasses = true
has_verdict verdict.Passed (outcome.FailsAfter turns) = false
has_verdict verdict.Passed outcome.GoesOn = false
has_verdict verdict.Passed outcome.Undecided = false
has_verdict verdict.Failed outcome.Passes = false
has_verdict verdict.Failed outcome.AlwaysPasses = false
has_verdict verdict.Failed (outcome.FailsAfter turns) = true
has_verdict verdict.Failed outcome.GoesOn = true
has_verdict verdict.Failed outcome.Undecided = false
has_verdict verdict.Undecided outcome.Passes = false
has_verdict verdict.Undecided outcome.AlwaysPasses = false
has_verdict verdict.Undecided (outcome.FailsAfter turns) = false
has_verdict verdict.Undecided outcome.GoesOn = false
has_verdict verdict.Undecided outcome.Undecided = true

-- how many tests have this verdict
abbrev pub count_of : Verdict → List TestResult → ℕ
count_of v results = count_by (λ (r : TestResult). has_verdict v r.outcome) results

-- how many tests are undecided, if some are, and the end of the line
abbrev pub undecided_part : ℕ → List ℕ
undecided_part count = if count == 0 then codes "\n" else codes ", " ++ (decimal count ++ codes " undecided\n")

-- how many tests pass, how many fail, and how many are undecided
abbrev pub summary_line : ℕ → ℕ → ℕ → List ℕ
summary_line passed failed undecided =
    decimal passed ++ (codes " passed, " ++ (decimal failed ++ (codes " failed" ++ undecided_part undecided)))

abbrev pub summary_of : List TestResult → List ℕ
summary_of results =
    summary_line (count_of verdict.Passed results) (count_of verdict.Failed results) (count_of verdict.Undecided results)

-- a line for each test, and the summary
abbrev pub result_lines : List TestResult → List ℕ
result_lines results = flat_map line_of results ++ summary_of results
