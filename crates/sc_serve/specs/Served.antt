-- One call of the program: the answer to its arguments, what it writes, and its status.
use Rattle.std.specs.Prelude.{ℕ, ◌≡◌, ◌⊎◌, List, Option, Some, None, map}
use Rattle.std.specs.Borrow.{Bor}
use Rattle.std.specs.declared.alloc.Global.{Global}
use Rattle.std.specs.declared.vec.Vec.{Vec}
use Rattle.std.specs.Io.KnownBytes.{Appends, Keeps}
use Rattle.std.specs.Option.{option_map}
use Rattle.sc_arguments.specs.Asked.{AskForHelp, IsAskedFor}
use Rattle.sc_arguments.specs.declared.arguments.Command.{Command}
use Rattle.sc_arguments.specs.declared.arguments.Command.TheVariants as command
use Rattle.sc_arguments.specs.declared.arguments.Invocation.{Invocation}
use Rattle.sc_arguments.specs.declared.arguments.Invocation.TheVariants as invocation
use Rattle.sc_arguments.specs.declared.arguments.format.Format.{Format}
use Rattle.sc_arguments.specs.declared.arguments.format.Format.TheVariants.{Text}
use Rattle.sc_audit.specs.Writing.{WritesBeginning}
use Rattle.sc_class.specs.View.{root_of}
use Rattle.sc_explain_text.specs.Page.{IsPageOf}
use Rattle.sc_serve.specs.AllFaults.{IsAllOn}
use Rattle.sc_serve.specs.Answer.{IsAnswerOn, IsReplayOn, IsRunOn}
use Rattle.sc_serve.specs.Chance.{IsChanceOn}
use Rattle.sc_serve.specs.Search.{IsSearchOn}
use Rattle.sc_serve.specs.Tests.{IsTestOn, shape_of}
use Rattle.sc_serve.specs.declared.serve.Answer.{Answer}
use Rattle.sc_serve.specs.declared.serve.Exit.{Exit}
use Rattle.sc_serve.specs.declared.serve.Exit.TheVariants.{Broken, Done, Failed, Refused, Undecided, Unfinished, Usage}

-- ---- what is asked for

abbrev pub format_of : Command → Format
format_of (command.Check options) = options.format
format_of command.Print = Text
format_of command.Format = Text

-- the format that is asked for
abbrev pub format_asked : Invocation → Format
format_asked (invocation.OnFiles what names) = format_of what
format_asked (invocation.CheckAll options names) = options.format
format_asked (invocation.Run options names) = options.format
format_asked (invocation.Chance options names) = options.format
format_asked (invocation.Replay options names) = options.format
format_asked (invocation.Search options names) = options.format
format_asked (invocation.Test options names) = shape_of options.format
format_asked (invocation.Layout is_written names) = Text
format_asked (invocation.Explain word) = Text
format_asked invocation.LanguageServer = Text

-- what each of the files of these names holds, if it is known
abbrev pub held_by : (List ℕ → Option (List ℕ)) → List (Bor (List ℕ)) → List (Option (List ℕ))
held_by bytes_of names = map (λ name. bytes_of name.now) names

-- the names as texts
abbrev pub named : List (Bor (List ℕ)) → List (List ℕ)
named names = map (λ name. name.now) names

-- If text is asked for, the answer has no object.
abbrev pub IsAs : Format → Answer → Type 0
IsAs format answer = format ≡ Text → answer.object ≡ None

-- The answer has the exit `Done`, no record and no object. Its text is the page of the code or name, if one is
-- given.
abbrev pub IsExplained : Option (List ℕ) → Answer → Type 0
IsExplained None answer = (answer.exit ≡ Done) × (answer.record ≡ None) × (answer.object ≡ None)
IsExplained (Some word) answer =
    IsPageOf answer.text.items word × (answer.exit ≡ Done) × (answer.record ≡ None) × (answer.object ≡ None)

-- The answer to what is asked for, if `bytes_of` gives what is known of the bytes of files.
abbrev pub Answers : (List ℕ → Option (List ℕ)) → Invocation → Answer → Type 0
Answers bytes_of (invocation.OnFiles what names) answer =
    IsAnswerOn what (named names.items) (held_by bytes_of names.items) answer.text.items answer.exit
    × (answer.record ≡ None) × IsAs (format_of what) answer
Answers bytes_of (invocation.CheckAll options names) answer =
    IsAllOn options (named names.items) (held_by bytes_of names.items) answer.text.items answer.exit
    × (answer.record ≡ None) × IsAs options.format answer
Answers bytes_of (invocation.Run options names) answer =
    IsRunOn options (named names.items) (held_by bytes_of names.items) answer.text.items answer.exit answer.record
    × IsAs options.format answer
Answers bytes_of (invocation.Chance options names) answer =
    IsChanceOn options (named names.items) (held_by bytes_of names.items) answer.text.items answer.exit answer.record
    × IsAs options.format answer
Answers bytes_of (invocation.Replay options names) answer =
    IsReplayOn (root_of options.root) (bytes_of options.record.now) (named names.items) (held_by bytes_of names.items)
    answer.text.items answer.exit × (answer.record ≡ None) × IsAs options.format answer
Answers bytes_of (invocation.Search options names) answer =
    IsSearchOn options (named names.items) (held_by bytes_of names.items) answer.text.items answer.exit answer.record
    × IsAs options.format answer
Answers bytes_of (invocation.Test options names) answer =
    IsTestOn options (named names.items) (held_by bytes_of names.items) answer.text.items answer.exit
    × (answer.record ≡ None) × IsAs (shape_of options.format) answer
Answers bytes_of (invocation.Layout is_written names) answer = (answer.record ≡ None) × (answer.object ≡ None)
Answers bytes_of (invocation.Explain word) answer = IsExplained (option_map (λ w. w.now) word) answer
Answers bytes_of invocation.LanguageServer answer = ⊥

-- `formatted` has the text, the exit and the record of `answer`, and if the format is text its object too.
pub record IsFormatted (format : Format) (answer formatted : Answer) : Type 0 where
  pub text : formatted.text ≡ answer.text
  pub exit : formatted.exit ≡ answer.exit
  pub kept : formatted.record ≡ answer.record
  pub object : format ≡ Text → formatted.object ≡ answer.object

-- The answer to arguments that ask for help or for the version: it has no record and no object.
pub record IsHelp (arguments : List (List ℕ)) (answer : Answer) : Type 0 where
  pub asked : AskForHelp arguments
  pub exit : answer.exit ≡ Done
  pub kept : answer.record ≡ None
  pub object : answer.object ≡ None

-- The answer to the arguments: to what they ask for, or help.
abbrev pub IsResponse : List (List ℕ) → (List ℕ → Option (List ℕ)) → Answer → Type 0
IsResponse arguments bytes_of answer =
    ((what : Invocation) × IsAskedFor arguments what × Answers bytes_of what answer) ⊎ IsHelp arguments answer

-- ---- what the program writes, and its status

-- what is written to standard output: the object, or the text if there is no object
abbrev pub written_as : Option (Vec ℕ Global) → List ℕ → List ℕ
written_as None text = text
written_as (Some object) text = object.items

abbrev pub written_of : Answer → List ℕ
written_of answer = written_as answer.object answer.text.items

-- the status of the program for this exit
abbrev pub number_of : Exit → ℕ
number_of Done = 0
number_of Refused = 1
number_of Usage = 2
number_of Failed = 3
number_of Unfinished = 4
number_of Broken = 5
number_of Undecided = 6

-- The status says that the program gave up: an argument, a file or the output is at fault; or memory ran out, a
-- thread was refused, or what the threads did doesn't agree.
abbrev pub IsGivenUp : ℕ → Type 0
IsGivenUp status = (status ≡ number_of Usage) ⊎ (status ≡ number_of Broken)

-- All of the answer is written after what was written before, and the program ends with the answer's status; or the
-- program gives up, and has written a beginning of the answer at most.
abbrev pub IsDelivered : Answer → Option (List ℕ) → Option (List ℕ) → ℕ → Type 0
IsDelivered answer old new status =
    (Appends old new (written_of answer) × (status ≡ number_of answer.exit))
    ⊎ (WritesBeginning old new (written_of answer) × IsGivenUp status)

-- An answer to the arguments is delivered; or there is no answer, nothing is written, and the program gives up; or they ask
-- that an editor is answered, of which nothing more is said here.
abbrev pub IsServed : List (List ℕ) → (List ℕ → Option (List ℕ)) → Option (List ℕ) → Option (List ℕ) → ℕ → Type 0
IsServed arguments bytes_of old new status =
    ((answer : Answer) × IsResponse arguments bytes_of answer × IsDelivered answer old new status)
    ⊎ ((Keeps old new × IsGivenUp status) ⊎ IsAskedFor arguments invocation.LanguageServer)
