-- What the program's arguments ask for.
use Rattle.std.specs.Prelude.{ℕ, ◌≡◌, ◌≤◌, ◌==◌, ◌||◌, Bool, true, false, List, [], ◌∷◌, Option, Some, None, codes, if◌then◌else◌, map, slice_get, string_bytes}
use Rattle.std.specs.Borrow.{Bor}
use Rattle.std.specs.Option.{option_map}
use Rattle.std.specs.Str.{bytes_eq}
use Rattle.sc_class.specs.declared.root.Root.{Root}
use Rattle.sc_arguments.specs.RootOption.{NamesRoot}
use Rattle.sc_arguments.specs.Words.{Writes, WritesUpTo, given_in, has_option, value_of, value_or}
use Rattle.sc_arguments.specs.declared.arguments.CheckOptions.{CheckOptions}
use Rattle.sc_arguments.specs.declared.arguments.Command.TheVariants as command
use Rattle.sc_arguments.specs.declared.arguments.Invocation.{Invocation}
use Rattle.sc_arguments.specs.declared.arguments.Invocation.TheVariants as invocation
use Rattle.sc_arguments.specs.declared.arguments.ReplayOptions.{ReplayOptions}
use Rattle.sc_arguments.specs.declared.arguments.RunOptions.{RunOptions}
use Rattle.sc_arguments.specs.declared.arguments.chance.ChanceOptions.{ChanceOptions}
use Rattle.sc_arguments.specs.declared.arguments.chance.Until.{Until}
use Rattle.sc_arguments.specs.declared.arguments.chance.Until.TheVariants as until
use Rattle.sc_arguments.specs.declared.arguments.drawing.Drawings.{Drawings}
use Rattle.sc_arguments.specs.declared.arguments.format.Format.{Format}
use Rattle.sc_arguments.specs.declared.arguments.format.Format.TheVariants.{Json, Text}
use Rattle.sc_arguments.specs.declared.arguments.searching.SearchOptions.{SearchOptions}
use Rattle.sc_arguments.specs.declared.arguments.searching.Sought.{Sought}
use Rattle.sc_arguments.specs.declared.arguments.searching.Sought.TheVariants.{Any, Fails, Refused, Stuck}
use Rattle.sc_arguments.specs.declared.arguments.testing.TestFormat.{TestFormat}
use Rattle.sc_arguments.specs.declared.arguments.testing.TestFormat.TheVariants as tests
use Rattle.sc_arguments.specs.declared.arguments.testing.TestOptions.{TestOptions}

-- ---- what options say

-- the format that the word names: JSON for `json`, or else text
abbrev pub format_named : List ℕ → Format
format_named word = if bytes_eq word (codes "json") then Json else Text

-- what a search looks for, by the value of `--for`: `stuck`, `fails`, `refused`, or else any of them
abbrev pub sought_named : List ℕ → Sought
sought_named word =
    if bytes_eq word (codes "stuck") then Stuck
    else if bytes_eq word (codes "fails") then Fails
    else if bytes_eq word (codes "refused") then Refused else Any

-- The root is the one that `--root` names, or else `APPLICATION.make`.
abbrev pub IsRootIn : List (List ℕ) → Root → Type 0
IsRootIn words root =
    NamesRoot (value_or (codes "--root") (codes "APPLICATION.make") words)
    (string_bytes root.class) (string_bytes root.procedure)

-- the format that `--format` names, or else text
abbrev pub format_in : List (List ℕ) → Format
format_in words = format_named (value_or (codes "--format") (codes "text") words)

-- the format of the answer to `test` that the word names: that of `json`, `tap` or `junit`, or else text
abbrev pub test_format_named : List ℕ → TestFormat
test_format_named word =
    if bytes_eq word (codes "json") then tests.Json
    else if bytes_eq word (codes "tap") then tests.Tap
    else if bytes_eq word (codes "junit") then tests.Junit else tests.Text

-- `limit` is the number that the value of the option writes, up to 10 ^ 12, or none if the option isn't used.
abbrev pub IsLimitBy : Option (List ℕ) → Option ℕ → Type 0
IsLimitBy None limit = limit ≡ None
IsLimitBy (Some text) limit = (n : ℕ) × (limit ≡ Some n) × Writes text n × (n ≤ 1000000000000)

-- what ends runs by chance, by the value of `--until`: `fails`, `stuck`, `refused`, or else a report that differs
abbrev pub until_named : List ℕ → Until
until_named word =
    if bytes_eq word (codes "fails") then until.Fails
    else if bytes_eq word (codes "stuck") then until.Stuck
    else if bytes_eq word (codes "refused") then until.Refused else until.Differs

-- It is what `--until` names; without it the first run ends them, or nothing if `--times` says how many there are.
abbrev pub until_by : Option (List ℕ) → Bool → Until
until_by (Some word) has_times = until_named word
until_by None true = until.Never
until_by None false = until.First

-- ---- the options of each command

-- the files that a run is drawn to
pub record AreDrawings (words : List (List ℕ)) (drawings : Drawings) : Type 0 where
  pub trace_events : option_map (λ name. name.now) drawings.trace_events ≡ value_of (codes "--trace-events") words
  pub timeline : option_map (λ name. name.now) drawings.timeline ≡ value_of (codes "--timeline") words

pub record AreCheckOptions (words : List (List ℕ)) (options : CheckOptions) : Type 0 where
  pub root : IsRootIn words options.root
  pub format : options.format ≡ format_in words

pub record AreRunOptions (words : List (List ℕ)) (options : RunOptions) : Type 0 where
  pub root : IsRootIn words options.root
  pub format : options.format ≡ format_in words
  pub workers : WritesUpTo 8 (value_or (codes "--workers") (codes "1") words) options.workers
  pub turns : WritesUpTo 10000000 (value_or (codes "--turns") (codes "1000000") words) options.turns
  pub output_limit : IsLimitBy (value_of (codes "--output-limit") words) options.output_limit
  pub record_name : option_map (λ name. name.now) options.record ≡ value_of (codes "--record") words
  pub is_audited : options.is_audited ≡ has_option (codes "--audit") words
  pub has_stats : options.has_stats ≡ has_option (codes "--stats") words
  pub drawings : AreDrawings words options.drawings

pub record AreChanceOptions (words : List (List ℕ)) (options : ChanceOptions) : Type 0 where
  pub root : IsRootIn words options.root
  pub format : options.format ≡ format_in words
  pub seed : IsLimitBy (value_of (codes "--seed") words) (Some options.seed)
  pub times : WritesUpTo 1000000000 (value_or (codes "--times") (codes "1") words) options.times
  pub ends : options.until ≡ until_by (value_of (codes "--until") words) (has_option (codes "--times") words)
  pub turns : WritesUpTo 10000000 (value_or (codes "--turns") (codes "1000000") words) options.turns
  pub record_name : option_map (λ name. name.now) options.record ≡ value_of (codes "--record") words

pub record AreReplayOptions (words : List (List ℕ)) (options : ReplayOptions) : Type 0 where
  pub root : IsRootIn words options.root
  pub format : options.format ≡ format_in words
  pub has_stats : options.has_stats ≡ has_option (codes "--stats") words
  pub drawings : AreDrawings words options.drawings

pub record AreSearchOptions (words : List (List ℕ)) (options : SearchOptions) : Type 0 where
  pub root : IsRootIn words options.root
  pub format : options.format ≡ format_in words
  pub sought : options.sought ≡ sought_named (value_or (codes "--for") (codes "any") words)
  pub states : WritesUpTo 10000000 (value_or (codes "--states") (codes "100000") words) options.states
  pub memory : WritesUpTo 1000000 (value_or (codes "--memory") (codes "1000") words) options.memory
  pub record_name : option_map (λ name. name.now) options.record ≡ value_of (codes "--record") words
  pub lists_outcomes : options.lists_outcomes ≡ has_option (codes "--outcomes") words
  pub drawings : AreDrawings words options.drawings

pub record AreTestOptions (words : List (List ℕ)) (options : TestOptions) : Type 0 where
  pub class : option_map (λ name. name.now) options.class ≡ value_of (codes "--root-class") words
  pub format : options.format ≡ test_format_named (value_or (codes "--format") (codes "text") words)
  pub workers : WritesUpTo 8 (value_or (codes "--workers") (codes "1") words) options.workers
  pub turns : WritesUpTo 10000000 (value_or (codes "--turns") (codes "1000000") words) options.turns
  pub is_searched : options.is_searched ≡ has_option (codes "--search") words
  pub states : WritesUpTo 10000000 (value_or (codes "--states") (codes "100000") words) options.states
  pub memory : WritesUpTo 1000000 (value_or (codes "--memory") (codes "1000") words) options.memory
  pub folder : option_map (λ name. name.now) options.folder ≡ value_of (codes "--record") words

-- ---- what a command asks for

abbrev pub texts_of : List (Bor (List ℕ)) → List (List ℕ)
texts_of names = map (λ name. name.now) names

-- `names` are the files that the words give.
abbrev pub AreGivenIn : List (List ℕ) → List (Bor (List ℕ)) → Type 0
AreGivenIn words names = texts_of names ≡ given_in false words

-- The command of this name asks for this with these words after it: files and options; a record, files and options;
-- or the page of a code or a name, if one is given; or to answer an editor.
abbrev pub IsAskedOf : List ℕ → List (List ℕ) → Invocation → Type 0
IsAskedOf name words (invocation.OnFiles (command.Check options) names) =
    (name ≡ codes "check") × AreGivenIn words names.items × AreCheckOptions words options
    × (has_option (codes "--all") words ≡ false)
IsAskedOf name words (invocation.CheckAll options names) =
    (name ≡ codes "check") × AreGivenIn words names.items × AreCheckOptions words options
    × (has_option (codes "--all") words ≡ true)
IsAskedOf name words (invocation.OnFiles command.Print names) = (name ≡ codes "print") × AreGivenIn words names.items
IsAskedOf name words (invocation.OnFiles command.Format names) =
    (name ≡ codes "format") × AreGivenIn words names.items × (has_option (codes "--write") words ≡ false)
    × (has_option (codes "--check") words ≡ false)
IsAskedOf name words (invocation.Layout is_written names) =
    (name ≡ codes "format") × AreGivenIn words names.items × (is_written ≡ has_option (codes "--write") words)
IsAskedOf name words (invocation.Run options names) =
    (name ≡ codes "run") × AreGivenIn words names.items × AreRunOptions words options
    × (value_of (codes "--seed") words ≡ None)
IsAskedOf name words (invocation.Chance options names) =
    (name ≡ codes "run") × AreGivenIn words names.items × AreChanceOptions words options
IsAskedOf name words (invocation.Replay options names) =
    (name ≡ codes "replay") × (options.record.now ∷ texts_of names.items ≡ given_in false words)
    × AreReplayOptions words options
IsAskedOf name words (invocation.Search options names) =
    (name ≡ codes "search") × AreGivenIn words names.items × AreSearchOptions words options
IsAskedOf name words (invocation.Test options names) =
    (name ≡ codes "test") × AreGivenIn words names.items × AreTestOptions words options
IsAskedOf name words (invocation.Explain word) =
    (name ≡ codes "explain") × (option_map (λ w. w.now) word ≡ slice_get (given_in false words) 0)
IsAskedOf name words invocation.LanguageServer = name ≡ codes "lsp"

-- ---- help

-- the word begins with `-h` or `-V`, the short options for help and for the version
abbrev pub begins_help : List ℕ → Bool
begins_help [] = false
begins_help (c ∷ []) = false
begins_help (c ∷ d ∷ cs) = if c == 45 then d == 104 || d == 86 else false

-- the word, in the place of a command's name, asks for help or for the version
abbrev pub is_help : List ℕ → Bool
is_help word =
    begins_help word
    || (bytes_eq word (codes "help") || (bytes_eq word (codes "--help") || bytes_eq word (codes "--version")))

-- The arguments ask for help or for the version in place of a command, or for help by an option after a command.
abbrev pub asks_for_help : List (List ℕ) → Bool
asks_for_help [] = false
asks_for_help (program ∷ []) = false
asks_for_help (program ∷ name ∷ words) =
    is_help name || (has_option (codes "--help") words || has_option (codes "-h") words)

abbrev pub AskForHelp : List (List ℕ) → Type 0
AskForHelp arguments = asks_for_help arguments ≡ true

-- ---- all arguments

-- The arguments ask for `what`, and not for help. The first is the program's name, the second the command's name.
abbrev pub IsAskedFor : List (List ℕ) → Invocation → Type 0
IsAskedFor [] what = ⊥
IsAskedFor (program ∷ []) what = ⊥
IsAskedFor (program ∷ name ∷ words) what =
    (asks_for_help (program ∷ name ∷ words) ≡ false) × IsAskedOf name words what
