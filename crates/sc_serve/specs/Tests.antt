-- What the program answers to `test`.
use Rattle.std.specs.Prelude.{ℕ, ◌≡◌, ◌==◌, ◌++◌, ◌⊎◌, Bool, true, false, if◌then◌else◌, List, [], ◌∷◌, Option, Some, None, codes, string_bytes}
use Rattle.std.specs.Borrow.{Bor}
use Rattle.std.specs.declared.alloc.Global.{Global}
use Rattle.std.specs.declared.vec.Vec.{Vec}
use Rattle.std.specs.Option.{option_map}
use Rattle.sc_lockpass.specs.declared.version.Version.TheVariants.{Two}
use Rattle.sc_audit.specs.declared.line.RecordLine.{RecordLine}
use Rattle.sc_class.specs.ClassNames.{Root}
use Rattle.sc_code.specs.declared.program.Image.{Image}
use Rattle.sc_frontend.specs.Texts.{IsLoaded}
use Rattle.sc_frontend.specs.declared.rejection.Rejection.{Rejection}
use Rattle.sc_model.specs.declared.status.Status.{Status}
use Rattle.sc_request.specs.Cores.{center_of}
use Rattle.sc_request.specs.Logs.{Center}
use Rattle.sc_world.specs.Reports as report
use Rattle.sc_plant.specs.declared.bounds.Bounds.{Bounds}
use Rattle.sc_plant.specs.declared.left.Left.{Left}
use Rattle.sc_plant.specs.Bounded.{IsBoundedRun}
use Rattle.sc_plant.specs.Left.{world_of}
use Rattle.sc_driver.specs.Execution.{IsThreadRun}
use Rattle.sc_search.specs.declared.aims.Aim.TheVariants.{Any}
use Rattle.sc_search.specs.declared.limits.Limits.{Limits}
use Rattle.sc_search.specs.declared.verdict.Finding.{Finding}
use Rattle.sc_search.specs.declared.verdict.Finding.TheVariants as finding
use Rattle.sc_search.specs.declared.verdict.Length.{Length}
use Rattle.sc_search.specs.declared.verdict.Length.TheVariants as span
use Rattle.sc_search.specs.declared.verdict.Verdict.{Verdict}
use Rattle.sc_search.specs.Found.{IsFirst, IsFound}
use Rattle.sc_search.specs.Limits.{SaysWhy}
use Rattle.sc_search.specs.Verdicts.{IsShown}
use Rattle.sc_test_cases.specs.Lines.{count_of, name_of, result_lines}
use Rattle.sc_test_cases.specs.Passing.{passes}
use Rattle.sc_test_cases.specs.Tests.{AreTestsOf, IsRefusedFor}
use Rattle.sc_test_cases.specs.declared.outcome.Outcome.{Outcome}
use Rattle.sc_test_cases.specs.declared.outcome.Outcome.TheVariants as outcome
use Rattle.sc_test_cases.specs.declared.outcome.TestResult.{TestResult}
use Rattle.sc_test_cases.specs.declared.outcome.Verdict.TheVariants as counted
use Rattle.sc_arguments.specs.declared.arguments.format.Format.{Format}
use Rattle.sc_arguments.specs.declared.arguments.format.Format.TheVariants as format
use Rattle.sc_arguments.specs.declared.arguments.testing.TestFormat.{TestFormat}
use Rattle.sc_arguments.specs.declared.arguments.testing.TestFormat.TheVariants as tests
use Rattle.sc_arguments.specs.declared.arguments.testing.TestOptions.{TestOptions}
use Rattle.sc_serve.specs.Answer.{IsRefusalOf, IsSourceOf, TellsTooLong}
use Rattle.sc_serve.specs.Search.{lacks_memory, limits_by, told_turns}
use Rattle.sc_serve.specs.declared.serve.Answer.{Answer}
use Rattle.sc_serve.specs.declared.serve.Exit.{Exit}
use Rattle.sc_serve.specs.declared.serve.Exit.TheVariants.{Done, Failed, Undecided}
use Rattle.sc_serve.specs.declared.testing.Tested.{Tested}
use Rattle.sc_serve.specs.declared.testing.Tested.TheVariants as made
use Rattle.sc_source.specs.Source.{File, joined}

-- text is written as lines, each other format in place of them
abbrev pub shape_of : TestFormat → Format
shape_of tests.Text = format.Text
shape_of tests.Json = format.Json
shape_of tests.Tap = format.Json
shape_of tests.Junit = format.Json

-- ---- one test

-- how a test came out whose run left this, with this record
abbrev pub outcome_of_run : Center → List RecordLine → Outcome
outcome_of_run c lines = if passes c then outcome.Passes else outcome.FailsAfter (told_turns lines)

-- the record of that run, if it fails
abbrev pub order_of_run : Center → List RecordLine → Option (List RecordLine)
order_of_run c lines = if passes c then None else Some lines

-- how a test came out of which every order was played, and none was found that fails: it passes if each order ends
abbrev pub outcome_of_whole : Length → Outcome
outcome_of_whole (span.AtMost turns) = outcome.AlwaysPasses
outcome_of_whole span.Endless = outcome.GoesOn
outcome_of_whole span.Unknown = outcome.Undecided

-- how a test came out in which no failing order was found: only if every order was played there is none
abbrev pub outcome_of_nothing : Bool → Length → Outcome
outcome_of_nothing true long = outcome_of_whole long
outcome_of_nothing false long = outcome.Undecided

-- how a test came out whose search has this verdict
abbrev pub outcome_of_search : Bool → Length → Finding → Outcome
outcome_of_search is_whole long finding.Nothing = outcome_of_nothing is_whole long
outcome_of_search is_whole long (finding.Stuck order) = outcome.FailsAfter (told_turns order.lines.items)
outcome_of_search is_whole long (finding.Fails order) = outcome.FailsAfter (told_turns order.lines.items)
outcome_of_search is_whole long (finding.Refused order) = outcome.FailsAfter (told_turns order.lines.items)
outcome_of_search is_whole long finding.Undecided = outcome.Undecided

-- the order that was found, if one was
abbrev pub order_of_search : Finding → Option (List RecordLine)
order_of_search finding.Nothing = None
order_of_search (finding.Stuck order) = Some order.lines.items
order_of_search (finding.Fails order) = Some order.lines.items
order_of_search (finding.Refused order) = Some order.lines.items
order_of_search finding.Undecided = None

-- the lines of an order, as they are in memory
abbrev pub lines_in : Option (Vec RecordLine Global) → Option (List RecordLine)
lines_in order = option_map (λ (lines : Vec RecordLine Global). lines.items) order

-- a run ends after this number of turns in any case, whatever it prints
abbrev pub bounds_by : ℕ → Bounds
bounds_by turns = record { turns = turns; output = None }

-- The outcome is that of what a run of the program leaves, and the order is the record of that run, if it fails.
pub record IsOutcomeOfRun (program : Image) (turns : ℕ) (how : Outcome) (order : Option (List RecordLine)) : Type 0 where
  pub limit : ℕ
  pub left : Left
  pub hows : List Status
  pub bounded : IsBoundedRun program (bounds_by turns) limit left
  pub is_run : ∥ IsThreadRun program limit left.lines.items (report.report (world_of left)) hows ∥₁
  pub judged : how ≡ outcome_of_run (center_of left.core) left.lines.items
  pub kept : order ≡ order_of_run (center_of left.core) left.lines.items

-- The outcome is that of the verdict on all orders of the program's turns, within these limits. The search
-- had memory enough. The order is the one that was found.
pub record IsOutcomeOfSearch (program : Image) (limits : Limits) (how : Outcome) (order : Option (List RecordLine)) : Type 0 where
  pub verdict : Verdict
  pub found : IsFound program Two verdict.finding
  pub first : IsFirst program Two Any verdict.finding
  pub whole : IsShown program Two Any verdict
  pub why : SaysWhy program Two Any limits verdict.is_whole verdict.finding verdict.why
  pub had_memory : lacks_memory verdict.why ≡ false
  pub judged : how ≡ outcome_of_search verdict.is_whole verdict.length verdict.finding
  pub kept : order ≡ order_of_search verdict.finding

-- The outcome is that of a run, or if every order is to be played that of a search.
abbrev pub IsOutcomeOf : Bool → Image → TestOptions → Outcome → Option (List RecordLine) → Type 0
IsOutcomeOf false program options how order = IsOutcomeOfRun program options.turns how order
IsOutcomeOf true program options how order =
    IsOutcomeOfSearch program (limits_by options.states options.memory) how order

abbrev pub HasOutcome : Image → TestOptions → Outcome → Type 0
HasOutcome program options how =
    (order : Option (List RecordLine)) × IsOutcomeOf options.is_searched program options how order

-- The result is that of the program of the text, run from this root, and has its name.
pub record IsResultOf (text : List ℕ) (options : TestOptions) (root : Root) (result : TestResult) : Type 0 where
  pub program : Image
  pub loaded : IsLoaded text root program
  pub played : HasOutcome program options result.outcome
  pub named : string_bytes result.name ≡ name_of root

-- the name of the file in a folder that the record of a test is written to
abbrev pub record_of : List ℕ → List ℕ → List ℕ
record_of folder test = folder ++ (codes "/" ++ (test ++ codes ".record"))

-- that name, if a folder is named
abbrev pub record_in : Option (Bor (List ℕ)) → List ℕ → Option (List ℕ)
record_in folder test = option_map (λ (f : Bor (List ℕ)). record_of f.now test) folder

-- ---- all tests

-- The results are those of the tests, one by one.
abbrev pub AreResultsOf : List ℕ → TestOptions → List Root → List TestResult → Type 0
AreResultsOf text options [] [] = Unit {0}
AreResultsOf text options [] (r ∷ rs) = ⊥
AreResultsOf text options (t ∷ ts) [] = ⊥
AreResultsOf text options (t ∷ ts) (r ∷ rs) = IsResultOf text options t r × AreResultsOf text options ts rs

-- the program's exit: a test fails, or else one is undecided, or else all that there are pass
abbrev pub exit_of_tests : List TestResult → Exit
exit_of_tests results =
    if count_of counted.Failed results == 0
    then (if count_of counted.Undecided results == 0 then Done else Undecided) else Failed

-- The tests of the text, among which those of one class may be chosen, are run from these roots.
abbrev pub AreListed : List ℕ → TestOptions → List Root → Type 0
AreListed text options roots = AreTestsOf text (option_map (λ n. n.now) options.class) roots

-- The output is the lines of these results, with the exit that goes with them.
pub record TellsResults (results : List TestResult) (output : List ℕ) (exit : Exit) : Type 0 where
  pub told : output ≡ result_lines results
  pub status : exit ≡ exit_of_tests results

-- The answer to `test` on this text: the lines of the results of all its tests, and the exit that goes with them.
pub record IsTestedFrom (options : TestOptions) (text output : List ℕ) (exit : Exit) : Type 0 where
  pub roots : List Root
  pub listed : AreListed text options roots
  pub results : List TestResult
  pub tested : AreResultsOf text options roots results
  pub told : TellsResults results output exit

-- The text isn't tested. The answer is the refusal for the rejection `why`, which is true of the text.
pub record IsNotTested (source : List File) (output : List ℕ) (exit : Exit) : Type 0 where
  pub why : Rejection
  pub true_of : IsRefusedFor (joined source) why
  pub refused : IsRefusalOf source why output exit

-- The answer to `test` on the source text of these files: its tests are played, or the text is refused.
abbrev pub IsTestOfSource : TestOptions → List File → List ℕ → Exit → Type 0
IsTestOfSource options source output exit =
    IsTestedFrom options (joined source) output exit ⊎ IsNotTested source output exit

-- The answer to `test` on files of these names, which hold `held`: an answer on their source text, or the refusal of
-- a source text that is too long.
abbrev pub IsTestOn : TestOptions → List (List ℕ) → List (Option (List ℕ)) → List ℕ → Exit → Type 0
IsTestOn options names held output exit =
    ((source : List File) × IsSourceOf names held source × IsTestOfSource options source output exit)
    ⊎ TellsTooLong held output exit

-- ---- the parts of an answer

-- The answer has no record, and no object if it is text.
pub record IsTestShaped (options : TestOptions) (answer : Answer) : Type 0 where
  pub unrecorded : answer.record ≡ None
  pub object : shape_of options.format ≡ format.Text → answer.object ≡ None

-- What is made of a test: its result, or the answer that the text is refused.
abbrev pub IsTested : TestOptions → List File → Root → Tested → Type 0
IsTested options source root (made.Played result) = IsResultOf (joined source) options root result
IsTested options source root (made.Refused answer) =
    IsNotTested source answer.text.items answer.exit × (answer.record ≡ None) × (answer.object ≡ None)
