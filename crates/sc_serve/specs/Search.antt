-- What the program answers to a search.
use Rattle.std.specs.Prelude.{ℕ, ◌≡◌, ◌-◌, ◌*◌, ◌^◌, ◌⊎◌, Bool, true, false, List, [], ◌++◌, Option, Some, None, codes, decimal, if◌then◌else◌, length, min}
use Rattle.std.specs.Option.{option_map}
use Rattle.sc_lockpass.specs.declared.version.Version.TheVariants.{Two}
use Rattle.sc_audit.specs.declared.line.RecordLine.{RecordLine}
use Rattle.sc_audit.specs.Records.{turns_of}
use Rattle.sc_class.specs.View.{root_of}
use Rattle.sc_class.specs.ClassNames.{Root}
use Rattle.sc_code.specs.declared.program.Image.{Image}
use Rattle.sc_frontend.specs.Texts.{IsLoaded, IsNotRunFor}
use Rattle.sc_frontend.specs.declared.rejection.Rejection.{Rejection}
use Rattle.sc_search.specs.declared.aims.Aim.{Aim}
use Rattle.sc_search.specs.declared.aims.Aim.TheVariants as aim
use Rattle.sc_search.specs.declared.limits.Limits.{Limits}
use Rattle.sc_search.specs.declared.verdict.Finding.{Finding}
use Rattle.sc_search.specs.declared.verdict.Finding.TheVariants as finding
use Rattle.sc_search.specs.declared.verdict.GivenUp.{GivenUp}
use Rattle.sc_search.specs.declared.verdict.Length.{Length}
use Rattle.sc_search.specs.declared.verdict.Length.TheVariants as span
use Rattle.sc_search.specs.declared.verdict.Order.{Order}
use Rattle.sc_search.specs.declared.verdict.Reason.{Reason}
use Rattle.sc_search.specs.declared.verdict.Reason.TheVariants as reason
use Rattle.sc_search.specs.declared.verdict.Verdict.{Verdict}
use Rattle.sc_search.specs.Ends.{AreEnds}
use Rattle.sc_search.specs.Found.{IsFirst, IsFound}
use Rattle.sc_search.specs.Limits.{SaysWhy, StaysWithin}
use Rattle.sc_search.specs.Verdicts.{IsShown}
use Rattle.sc_arguments.specs.declared.arguments.searching.SearchOptions.{SearchOptions}
use Rattle.sc_arguments.specs.declared.arguments.searching.Sought.{Sought}
use Rattle.sc_arguments.specs.declared.arguments.searching.Sought.TheVariants as sought
use Rattle.sc_serve.specs.Answer.{IsRefusalOf, IsSourceOf, TellsTooLong, asked_of, kept_of}
use Rattle.sc_serve.specs.declared.serve.Exit.{Exit}
use Rattle.sc_serve.specs.declared.serve.Exit.TheVariants.{Done, Failed, Undecided, Unfinished}
use Rattle.sc_serve.specs.declared.serve.Recording.{Recording}
use Rattle.sc_source.specs.Source.{File, joined}

abbrev pub aim_of : Sought → Aim
aim_of sought.Stuck = aim.Stuck
aim_of sought.Fails = aim.Fails
aim_of sought.Refused = aim.Refused
aim_of sought.Any = aim.Any

-- the program's exit if nothing was found: only if every order was played there is nothing
abbrev pub exit_for_nothing : Bool → Exit
exit_for_nothing true = Done
exit_for_nothing false = Undecided

-- the program's exit for this finding
abbrev pub exit_for : Bool → Finding → Exit
exit_for is_whole finding.Nothing = exit_for_nothing is_whole
exit_for is_whole (finding.Stuck order) = Unfinished
exit_for is_whole (finding.Fails order) = Failed
exit_for is_whole (finding.Refused order) = Failed
exit_for is_whole finding.Undecided = Undecided

-- the limits of a search that may keep so many states, which may take so many MB
abbrev pub limits_by : ℕ → ℕ → Limits
limits_by states megabytes = record { states = states; bytes = 1000000 * megabytes }

-- ---- the lines of a verdict

-- The line that says that no order does what was looked for.
abbrev pub none_line : Sought → List ℕ
none_line sought.Fails = codes "none fails (proved)\n"
none_line sought.Stuck = codes "none stuck (proved)\n"
none_line sought.Refused = codes "none refused (proved)\n"
none_line sought.Any = codes "none stuck, none fails, none refused (proved)\n"

-- the number of turns of these lines, or the largest number of 64 bits if that is smaller
abbrev pub told_turns : List RecordLine → ℕ
told_turns lines = min (turns_of lines) (2 ^ 64 - 1)

-- the line that says what an order leads to, and after how many turns
abbrev pub found_line : List ℕ → Order → List ℕ
found_line what order = what ++ (codes " after " ++ (decimal (told_turns order.lines.items) ++ codes " turns\n"))

-- the line for the finding `Nothing`: if every order was played, it says that there is none
abbrev pub nothing_line : Sought → Bool → List ℕ
nothing_line what true = none_line what
nothing_line what false = codes "none found\n"

abbrev pub finding_line : Sought → Bool → Finding → List ℕ
finding_line what is_whole finding.Nothing = nothing_line what is_whole
finding_line what is_whole (finding.Stuck order) = found_line (codes "stuck") order
finding_line what is_whole (finding.Fails order) = found_line (codes "fails") order
finding_line what is_whole (finding.Refused order) = found_line (codes "refused") order
finding_line what is_whole finding.Undecided = codes "undecided\n"

-- the line that says whether orders end; nothing if that isn't known
abbrev pub length_line : Length → List ℕ
length_line (span.AtMost turns) = codes "orders end after " ++ (decimal turns ++ codes " turns at most\n")
length_line span.Endless = codes "some order goes on for ever\n"
length_line span.Unknown = []

-- how many outcomes were met, if the finding is `Nothing`
abbrev pub outcomes_line : Finding → ℕ → List ℕ
outcomes_line finding.Nothing count = codes "outcomes " ++ (decimal count ++ codes "\n")
outcomes_line (finding.Stuck order) count = []
outcomes_line (finding.Fails order) count = []
outcomes_line (finding.Refused order) count = []
outcomes_line finding.Undecided count = []

-- how many states were kept
abbrev pub states_line : ℕ → List ℕ
states_line count = codes "states " ++ (decimal count ++ codes "\n")

abbrev pub is_memory : Reason → Bool
is_memory reason.States = false
is_memory reason.Turns = false
is_memory reason.Bytes = false
is_memory reason.Memory = true
is_memory reason.Worlds = false

-- whether a search gave up since memory ran out
abbrev pub lacks_memory : Option GivenUp → Bool
lacks_memory None = false
lacks_memory (Some why) = is_memory why.reason

-- the line that says so
abbrev pub memory_line : Option GivenUp → List ℕ
memory_line why = if lacks_memory why then codes "out of memory\n" else []

abbrev pub verdict_lines : Sought → Verdict → List ℕ
verdict_lines what verdict =
    finding_line what verdict.is_whole verdict.finding
    ++ (length_line verdict.length
    ++ (outcomes_line verdict.finding (length verdict.ends.items)
    ++ (states_line verdict.states ++ memory_line verdict.why)))

-- The output is the lines of the verdict, and after them the outcomes if they are to be listed.
abbrev pub IsTold : Sought → Bool → Verdict → List ℕ → Type 0
IsTold what false verdict output = output ≡ verdict_lines what verdict
IsTold what true verdict output = (outcomes : List ℕ) × (output ≡ verdict_lines what verdict ++ outcomes)

-- ---- the answer

-- the record that is to be written: the order that was found, if there is one and a file is named for the record
abbrev pub found_for : Option (List ℕ) → Finding → Option (List ℕ × List RecordLine)
found_for name (finding.Stuck order) = asked_of name order.lines.items
found_for name (finding.Fails order) = asked_of name order.lines.items
found_for name (finding.Refused order) = asked_of name order.lines.items
found_for name finding.Nothing = None
found_for name finding.Undecided = None

-- The answer to a search of the program: a verdict on its orders of turns, and the exit for it. An order that was
-- found leads to what the verdict says, and no beginning of it does. If every order was played, nothing was found and
-- there is nothing to find, and what was kept took no more memory than it may. If nothing was found and some orders
-- weren't played, or if the search is undecided, one of five things is true. There is a list of as many states as may be kept: turns lead to each, and none of them is what
-- was looked for. Or there is a list of orders, each of which can be played from the opening on, with 2,000 turns
-- together for each state that may be kept. Or what was kept took more memory than it may. Or an order leads to two worlds. Or the answer says that memory ran out. The
-- states of the list need not differ, and the orders need not either. Each outcome is that of an order that ends. The
-- order that was found is to be written as a record if a file is named for it.
pub record IsSearchOf (program : Image) (options : SearchOptions) (output : List ℕ) (exit : Exit)
    (recording : Option Recording) : Type 0 where
  pub verdict : Verdict
  pub found : IsFound program Two verdict.finding
  pub first : IsFirst program Two (aim_of options.sought) verdict.finding
  pub ends : AreEnds program Two verdict.ends.items
  pub whole : IsShown program Two (aim_of options.sought) verdict
  pub why :
      let limits = limits_by options.states options.memory in
      SaysWhy program Two (aim_of options.sought) limits verdict.is_whole verdict.finding verdict.why
  pub memory : StaysWithin (limits_by options.states options.memory) verdict
  pub told : IsTold options.sought options.lists_outcomes verdict output
  pub status : exit ≡ exit_for verdict.is_whole verdict.finding
  pub kept : kept_of recording ≡ found_for (option_map (λ n. n.now) options.record) verdict.finding

-- The answer to a search of the program of this text.
pub record IsSearchFrom (options : SearchOptions) (text output : List ℕ) (exit : Exit) (recording : Option Recording)
    : Type 0 where
  pub program : Image
  pub loaded : IsLoaded text (root_of options.root) program
  pub searched : IsSearchOf program options output exit recording

-- The text isn't searched. The answer is the refusal for the rejection `why`, which is true of the text, and no
-- record is to be written.
pub record IsNotSearched (root : Root) (source : List File) (output : List ℕ) (exit : Exit)
    (recording : Option Recording) : Type 0 where
  pub why : Rejection
  pub true_of : IsNotRunFor (joined source) root why
  pub refused : IsRefusalOf source why output exit
  pub unkept : recording ≡ None

-- The answer to a search on the source text of these files: its program is searched, or the text is refused.
abbrev pub IsSearchOfSource : SearchOptions → List File → List ℕ → Exit → Option Recording → Type 0
IsSearchOfSource options source output exit recording =
    IsSearchFrom options (joined source) output exit recording
    ⊎ IsNotSearched (root_of options.root) source output exit recording

-- The answer to a search of files of these names, which hold `held`: an answer on their source text, or the refusal
-- of a source text that is too long.
abbrev pub IsSearchOn :
    SearchOptions → List (List ℕ) → List (Option (List ℕ)) → List ℕ → Exit → Option Recording → Type 0
IsSearchOn options names held output exit recording =
    ((source : List File) × IsSourceOf names held source × IsSearchOfSource options source output exit recording)
    ⊎ (TellsTooLong held output exit × (recording ≡ None))
