-- What the program answers to runs by chance.
use Rattle.std.specs.Prelude.{ℕ, ◌≡◌, ◌⊎◌, List, ◌++◌, Option, None, codes, decimal, length}
use Rattle.std.specs.Option.{option_map}
use Rattle.sc_arguments.specs.declared.arguments.chance.ChanceOptions.{ChanceOptions}
use Rattle.sc_arguments.specs.declared.arguments.chance.Until.{Until}
use Rattle.sc_arguments.specs.declared.arguments.chance.Until.TheVariants as until
use Rattle.sc_chance.specs.Found.{IsFoundRun, IsReported}
use Rattle.sc_chance.specs.Outcomes.{AreOfRuns}
use Rattle.sc_chance.specs.declared.judging.Sought.{Sought}
use Rattle.sc_chance.specs.declared.judging.Sought.TheVariants as sought
use Rattle.sc_chance.specs.declared.playing.ChanceRun.{ChanceRun}
use Rattle.sc_class.specs.ClassNames.{Root}
use Rattle.sc_class.specs.View.{root_of}
use Rattle.sc_code.specs.declared.program.Image.{Image}
use Rattle.sc_frontend.specs.Texts.{IsLoaded, IsNotRunFor}
use Rattle.sc_frontend.specs.declared.rejection.Rejection.{Rejection}
use Rattle.sc_serve.specs.Answer.{IsRefusalOf, IsSourceOf, TellsTooLong, asked_of, exit_of, kept_of}
use Rattle.sc_serve.specs.declared.serve.Exit.{Exit}
use Rattle.sc_serve.specs.declared.serve.Exit.TheVariants.{Done}
use Rattle.sc_serve.specs.declared.serve.Recording.{Recording}
use Rattle.sc_source.specs.Source.{File, joined}

abbrev pub sought_of : Until → Sought
sought_of until.Fails = sought.Fails
sought_of until.Stuck = sought.Stuck
sought_of until.Refused = sought.Refused
sought_of until.Differs = sought.Differs
sought_of until.First = sought.Any
sought_of until.Never = sought.Nothing

-- ---- the answer

-- the line that says by which seed a run was played
abbrev pub seed_line : ℕ → List ℕ
seed_line seed = codes "seed " ++ (decimal seed ++ codes "\n")

-- the line that says how many different reports there are
abbrev pub reports_line : ℕ → List ℕ
reports_line count = codes "reports " ++ (decimal count ++ codes "\n")

-- The answer tells of this run: the output is a seed and the report, the exit is that for the statuses of the
-- handlers, and the record is to be written if a file is named for it.
pub record TellsRun (options : ChanceOptions) (run : ChanceRun) (output : List ℕ) (exit : Exit)
    (recording : Option Recording) : Type 0 where
  pub seed : ℕ
  pub told : output ≡ seed_line seed ++ run.report.items
  pub status : exit ≡ exit_of run.statuses.items
  pub kept : kept_of recording ≡ asked_of (option_map (λ n. n.now) options.record) run.lines.items

-- The output is the number of these reports, and then what lists them.
abbrev pub TellsReports : List (List ℕ) → List ℕ → Type 0
TellsReports reports output = (listed : List ℕ) × (output ≡ reports_line (length reports) ++ listed)

-- The answer is that there is no run, but these reports: the exit is `Done`, and no record is to be written.
pub record TellsNoRun (reports : List (List ℕ)) (output : List ℕ) (exit : Exit) (recording : Option Recording)
    : Type 0 where
  pub told : TellsReports reports output
  pub status : exit ≡ Done
  pub unkept : recording ≡ None

-- The answer to runs of the program by chance. A run that was found is one of the program: the turns of its record's
-- lines, each of a handler that has something to do, lead from the opening to a world with this report and these
-- statuses; and it shows what is looked for. Or all runs that were asked for were played, and the reports are theirs.
abbrev pub IsChanceOf : Image → ChanceOptions → List ℕ → Exit → Option Recording → Type 0
IsChanceOf program options output exit recording =
    ((run : ChanceRun) × IsFoundRun program options.turns (sought_of options.until) run
    × TellsRun options run output exit recording)
    ⊎ ((reports : List (List ℕ)) × AreOfRuns (IsReported program options.turns) options.times reports
    × TellsNoRun reports output exit recording)

-- The answer to runs by chance of the program of this text.
pub record IsChanceFrom (options : ChanceOptions) (text output : List ℕ) (exit : Exit) (recording : Option Recording)
    : Type 0 where
  pub program : Image
  pub loaded : IsLoaded text (root_of options.root) program
  pub played : IsChanceOf program options output exit recording

-- The text isn't run. The answer is the refusal for the rejection `why`, which is true of the text, and no record is
-- to be written.
pub record IsNoChance (root : Root) (source : List File) (output : List ℕ) (exit : Exit)
    (recording : Option Recording) : Type 0 where
  pub why : Rejection
  pub true_of : IsNotRunFor (joined source) root why
  pub refused : IsRefusalOf source why output exit
  pub unkept : recording ≡ None

-- The answer to runs by chance on the source text of these files: its program is run, or the text is refused.
abbrev pub IsChanceOfSource : ChanceOptions → List File → List ℕ → Exit → Option Recording → Type 0
IsChanceOfSource options source output exit recording =
    IsChanceFrom options (joined source) output exit recording
    ⊎ IsNoChance (root_of options.root) source output exit recording

-- The answer to runs by chance of files of these names, which hold `held`: an answer on their source text, or the
-- refusal of a source text that is too long.
abbrev pub IsChanceOn :
    ChanceOptions → List (List ℕ) → List (Option (List ℕ)) → List ℕ → Exit → Option Recording → Type 0
IsChanceOn options names held output exit recording =
    ((source : List File) × IsSourceOf names held source × IsChanceOfSource options source output exit recording)
    ⊎ (TellsTooLong held output exit × (recording ≡ None))
