-- What is answered to what is asked for, and what leaves the program.
use Rattle.std.proofs.Common.{ℕ, ◌≡◌, ◌∙◌, inl, inr, List, [], Option, Some, None, Result, Ok, Err, IfOk, append-nil, refl, subst, sym}
use Rattle.std.specs.Prelude.{OnErr}
use Rattle.std.specs.Option.{option_map}
use Rattle.std.specs.Borrow.{Bor}
use Rattle.std.specs.declared.alloc.Global.{Global}
use Rattle.std.specs.declared.vec.Vec.{Vec}
use Rattle.std.specs.Io.KnownBytes.{Appends, Keeps}
use Rattle.std.proofs.KnownBytes.{Appends-kept, Appends-nil}
use Rattle.sc_audit.specs.Writing.{WritesBeginning}
use Rattle.sc_arguments.specs.Asked.{AskForHelp, IsAskedFor}
use Rattle.sc_arguments.specs.declared.arguments.CheckOptions.{CheckOptions}
use Rattle.sc_arguments.specs.declared.arguments.Command.{Command}
use Rattle.sc_arguments.specs.declared.arguments.Invocation.{Invocation}
use Rattle.sc_arguments.specs.declared.arguments.Invocation.TheVariants as invocation
use Rattle.sc_arguments.specs.declared.arguments.ReplayOptions.{ReplayOptions}
use Rattle.sc_arguments.specs.declared.arguments.RunOptions.{RunOptions}
use Rattle.sc_arguments.specs.declared.arguments.chance.ChanceOptions.{ChanceOptions}
use Rattle.sc_arguments.specs.declared.arguments.format.Format.{Format}
use Rattle.sc_arguments.specs.declared.arguments.format.Format.TheVariants.{Text}
use Rattle.sc_arguments.specs.declared.arguments.searching.SearchOptions.{SearchOptions}
use Rattle.sc_arguments.specs.declared.arguments.testing.TestOptions.{TestOptions}
use Rattle.sc_class.specs.View.{root_of}
use Rattle.sc_serve.specs.AllFaults.{IsAllOn}
use Rattle.sc_serve.specs.Answer.{IsAnswerOn, IsReplayOn, IsRunOn}
use Rattle.sc_serve.specs.Chance.{IsChanceOn}
use Rattle.sc_serve.specs.Search.{IsSearchOn}
use Rattle.sc_serve.specs.Tests.{IsTestOn, IsTestShaped}
use Rattle.sc_serve.specs.Served.{Answers, IsDelivered, IsExplained, IsFormatted, IsGivenUp, IsHelp, IsResponse, IsServed, format_asked, held_by, named}
use Rattle.sc_serve.specs.declared.serve.Answer.{Answer}
use Rattle.sc_serve.specs.declared.serve.Exit.TheVariants.{Done}
use Rattle.sc_serve.specs.declared.serve.Fault.{Fault}

-- ---- what is answered to what is asked for

pub files_answered : (bytes_of : List ℕ → Option (List ℕ)) (what : Command) (names : Vec (Bor (List ℕ)) Global) (r : Result Answer Fault) →
    IfOk r (λ answer. IsAnswerOn what (named names.items) (held_by bytes_of names.items) answer.text.items answer.exit) →
    IfOk r (λ answer. (answer.record ≡ None) × (answer.object ≡ None)) → IfOk r (Answers bytes_of (invocation.OnFiles what names))
files_answered bytes_of what names (Ok answer) is plain = (is, plain.0, λ text. plain.1)
files_answered bytes_of what names (Err fault) is plain = tt

pub all_answered : (bytes_of : List ℕ → Option (List ℕ)) (options : CheckOptions) (names : Vec (Bor (List ℕ)) Global) (r : Result Answer Fault) →
    IfOk r (λ answer. IsAllOn options (named names.items) (held_by bytes_of names.items) answer.text.items answer.exit) →
    IfOk r (λ answer. answer.record ≡ None) → (options.format ≡ Text → IfOk r (λ answer. answer.object ≡ None)) →
    IfOk r (Answers bytes_of (invocation.CheckAll options names))
all_answered bytes_of options names (Ok answer) is kept plain = (is, kept, plain)
all_answered bytes_of options names (Err fault) is kept plain = tt

pub run_answered : (bytes_of : List ℕ → Option (List ℕ)) (options : RunOptions) (names : Vec (Bor (List ℕ)) Global) (r : Result Answer Fault) →
    IfOk r (λ answer. IsRunOn options (named names.items) (held_by bytes_of names.items) answer.text.items answer.exit answer.record) →
    IfOk r (λ answer. answer.object ≡ None) → IfOk r (Answers bytes_of (invocation.Run options names))
run_answered bytes_of options names (Ok answer) is plain = (is, λ text. plain)
run_answered bytes_of options names (Err fault) is plain = tt

pub chance_answered : (bytes_of : List ℕ → Option (List ℕ)) (options : ChanceOptions) (names : Vec (Bor (List ℕ)) Global) (r : Result Answer Fault) →
    IfOk r (λ answer. IsChanceOn options (named names.items) (held_by bytes_of names.items) answer.text.items answer.exit answer.record) →
    (options.format ≡ Text → IfOk r (λ answer. answer.object ≡ None)) → IfOk r (Answers bytes_of (invocation.Chance options names))
chance_answered bytes_of options names (Ok answer) is plain = (is, plain)
chance_answered bytes_of options names (Err fault) is plain = tt

pub replay_answered : (bytes_of : List ℕ → Option (List ℕ)) (options : ReplayOptions) (names : Vec (Bor (List ℕ)) Global) (r : Result Answer Fault) →
    IfOk r (λ answer. IsReplayOn (root_of options.root) (bytes_of options.record.now) (named names.items) (held_by bytes_of names.items)
    answer.text.items answer.exit) →
    IfOk r (λ answer. (answer.record ≡ None) × (answer.object ≡ None)) → IfOk r (Answers bytes_of (invocation.Replay options names))
replay_answered bytes_of options names (Ok answer) is plain = (is, plain.0, λ text. plain.1)
replay_answered bytes_of options names (Err fault) is plain = tt

pub search_answered : (bytes_of : List ℕ → Option (List ℕ)) (options : SearchOptions) (names : Vec (Bor (List ℕ)) Global) (r : Result Answer Fault) →
    IfOk r (λ answer. IsSearchOn options (named names.items) (held_by bytes_of names.items) answer.text.items answer.exit answer.record) →
    (options.format ≡ Text → IfOk r (λ answer. answer.object ≡ None)) → IfOk r (Answers bytes_of (invocation.Search options names))
search_answered bytes_of options names (Ok answer) is plain = (is, plain)
search_answered bytes_of options names (Err fault) is plain = tt

pub tests_answered : (bytes_of : List ℕ → Option (List ℕ)) (options : TestOptions) (names : Vec (Bor (List ℕ)) Global) (r : Result Answer Fault) →
    IfOk r (λ answer. IsTestOn options (named names.items) (held_by bytes_of names.items) answer.text.items answer.exit) →
    IfOk r (IsTestShaped options) → IfOk r (Answers bytes_of (invocation.Test options names))
tests_answered bytes_of options names (Ok answer) is shaped = (is, shaped.unrecorded, shaped.object)
tests_answered bytes_of options names (Err fault) is shaped = tt

-- ---- an object in place of lines

-- what is said of one answer is said of another that has the same
moved : {A B C : Type 0} (P : A → B → C → Type 0) (a a2 : A) (b b2 : B) (c c2 : C) → a2 ≡ a → b2 ≡ b → c2 ≡ c → P a b c → P a2 b2 c2
moved P a a2 b b2 c c2 ea eb ec is = rw (ea, eb, ec) is

-- what is explained is told as lines
explained : (word : Option (List ℕ)) (answer told : Answer) → IsExplained word answer → IsFormatted Text answer told → IsExplained word told
explained None answer told is same = (same.exit ∙ is.0, same.kept ∙ is.1, same.object refl ∙ is.2)
explained (Some word) answer told is same = (rw same.text is.0, same.exit ∙ is.1, same.kept ∙ is.2, same.object refl ∙ is.3)

-- what is answered is answered with an object too, where that is asked for
pub formatted : (bytes_of : List ℕ → Option (List ℕ)) (what : Invocation) (format : Format) (answer : Answer) (r : Result Answer Fault) →
    format ≡ format_asked what → Answers bytes_of what answer → IfOk r (IsFormatted format answer) → IfOk r (Answers bytes_of what)
formatted bytes_of what format answer (Err fault) e is same = tt
formatted bytes_of (invocation.OnFiles what names) format answer (Ok told) e is same =
    (rw (same.text, same.exit) is.0, same.kept ∙ is.1, λ text. same.object (e ∙ text) ∙ is.2 text)
formatted bytes_of (invocation.CheckAll options names) format answer (Ok told) e is same =
    (rw (same.text, same.exit) is.0, same.kept ∙ is.1, λ text. same.object (e ∙ text) ∙ is.2 text)
formatted bytes_of (invocation.Run options names) format answer (Ok told) e is same = (
  moved (λ text exit kept. IsRunOn options (named names.items) (held_by bytes_of names.items) text.items exit kept) answer.text told.text answer.exit
      told.exit answer.record told.record same.text same.exit same.kept is.0,
  λ text. same.object (e ∙ text) ∙ is.1 text,
)
formatted bytes_of (invocation.Chance options names) format answer (Ok told) e is same = (
  moved (λ text exit kept. IsChanceOn options (named names.items) (held_by bytes_of names.items) text.items exit kept) answer.text told.text
      answer.exit told.exit answer.record told.record same.text same.exit same.kept is.0,
  λ text. same.object (e ∙ text) ∙ is.1 text,
)
formatted bytes_of (invocation.Replay options names) format answer (Ok told) e is same =
    (rw (same.text, same.exit) is.0, same.kept ∙ is.1, λ text. same.object (e ∙ text) ∙ is.2 text)
formatted bytes_of (invocation.Search options names) format answer (Ok told) e is same = (
  moved (λ text exit kept. IsSearchOn options (named names.items) (held_by bytes_of names.items) text.items exit kept) answer.text told.text
      answer.exit told.exit answer.record told.record same.text same.exit same.kept is.0,
  λ text. same.object (e ∙ text) ∙ is.1 text,
)
formatted bytes_of (invocation.Test options names) format answer (Ok told) e is same =
    (rw (same.text, same.exit) is.0, same.kept ∙ is.1, λ text. same.object (e ∙ text) ∙ is.2 text)
formatted bytes_of (invocation.Layout is_written names) format answer (Ok told) e is same =
    (same.kept ∙ is.0, same.object e ∙ is.1)
formatted bytes_of (invocation.Explain word) format answer (Ok told) e is same =
    explained (option_map (λ w. w.now) word) answer told is (subst (λ f. IsFormatted f answer told) e same)
formatted bytes_of invocation.LanguageServer format answer (Ok told) e is same = elim is [ ]

-- ---- what is answered to arguments

pub response : (arguments : List (List ℕ)) (bytes_of : List ℕ → Option (List ℕ)) (what : Invocation) (r : Result Answer Fault) →
    IsAskedFor arguments what → IfOk r (Answers bytes_of what) → IfOk r (IsResponse arguments bytes_of)
response arguments bytes_of what (Ok answer) asked is = inl (what, asked, is)
response arguments bytes_of what (Err fault) asked is = tt

pub help : (arguments : List (List ℕ)) (answer : Answer) → AskForHelp arguments → answer.exit ≡ Done → answer.record ≡ None → answer.object ≡ None →
    IsHelp arguments answer
help arguments answer asked exit kept object = record { asked = asked; exit = exit; kept = kept; object = object }

pub helped : (arguments : List (List ℕ)) (bytes_of : List ℕ → Option (List ℕ)) (r : Result Answer Fault) → IfOk r (IsHelp arguments) →
    IfOk r (IsResponse arguments bytes_of)
helped arguments bytes_of (Ok answer) is = inr is
helped arguments bytes_of (Err fault) is = tt

-- ---- what leaves the program

-- all is a beginning of all
pub all_begins : (old new : Option (List ℕ)) (bytes : List ℕ) → Appends old new bytes → WritesBeginning old new bytes
all_begins old new bytes all = ([], record { written = bytes; parts = sym (append-nil bytes); appended = all })

-- and so is nothing
pub none_begins : (old : Option (List ℕ)) (bytes : List ℕ) → WritesBeginning old old bytes
none_begins old bytes = (bytes, record { written = []; parts = refl; appended = Appends-nil old })

-- what is written stays where nothing is written after it
pub begins_kept : (old mid new : Option (List ℕ)) (bytes : List ℕ) → WritesBeginning old mid bytes → Keeps mid new → WritesBeginning old new bytes
begins_kept old mid new bytes so-far kept = (
  so-far.0,
  record {
    written = so-far.1.written;
    parts = so-far.1.parts;
    appended = Appends-kept old mid new so-far.1.written so-far.1.appended kept;
  },
)

-- what was written is all that was to be, but it may be held back
pub flushed : {T E : Type 0} (old mid new : Option (List ℕ)) (bytes : List ℕ) (r : Result T E) → Appends old mid bytes → Keeps mid new →
    OnErr r (WritesBeginning old new bytes)
flushed old mid new bytes (Ok done) all kept = tt
flushed old mid new bytes (Err error) all kept = begins_kept old mid new bytes (all_begins old mid bytes all) kept

pub kept_same : (old : Option (List ℕ)) → Keeps old old
kept_same None = tt
kept_same (Some bytes) = refl

pub served : (arguments : List (List ℕ)) (bytes_of : List ℕ → Option (List ℕ)) (answer : Answer) (old new : Option (List ℕ)) (status : ℕ) →
    IsResponse arguments bytes_of answer → IsDelivered answer old new status → IsServed arguments bytes_of old new status
served arguments bytes_of answer old new status is told = inl (answer, is, told)

pub given_up_on : (arguments : List (List ℕ)) (bytes_of : List ℕ → Option (List ℕ)) (old : Option (List ℕ)) (status : ℕ) → IsGivenUp status →
    IsServed arguments bytes_of old old status
given_up_on arguments bytes_of old status is = inr (inl (kept_same old, is))

-- the arguments ask that an editor is answered
pub edited : (arguments : List (List ℕ)) (bytes_of : List ℕ → Option (List ℕ)) (old new : Option (List ℕ)) (status : ℕ) →
    IsAskedFor arguments invocation.LanguageServer → IsServed arguments bytes_of old new status
edited arguments bytes_of old new status is = inr (inr is)
