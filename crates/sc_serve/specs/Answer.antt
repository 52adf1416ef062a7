-- What the program answers for a source text.
use Rattle.std.specs.Prelude.{ℕ, ◌≡◌, ◌<◌, ◌⊎◌, Bool, true, false, if◌then◌else◌, List, [], ◌∷◌, ◌++◌, Option, Some, None, IfSome, codes, decimal, get_or, length}
use Rattle.std.specs.List.{list_any}
use Rattle.std.specs.Option.{option_map}
use Rattle.std.specs.IoError.{error_kind}
use Rattle.sc_text.specs.Spelling.{max_source_bytes}
use Rattle.sc_text.specs.declared.fault.LexFault.TheVariants as lexing
use Rattle.sc_lockpass.specs.declared.version.Version.{Version}
use Rattle.sc_audit.specs.declared.line.RecordLine.{RecordLine}
use Rattle.sc_audit.specs.declared.beginning.ReadFault.{ReadFault}
use Rattle.sc_audit.specs.declared.beginning.ReadFault.TheVariants as reading
use Rattle.sc_audit.specs.Records.{IsRecord, IsRecordText, text_of}
use Rattle.sc_code.specs.declared.program.Image.{Image}
use Rattle.sc_model.specs.declared.status.Status.{Status}
use Rattle.sc_model.specs.declared.status.Status.TheVariants as status
use Rattle.sc_serve.specs.declared.serve.Recording.{Recording}
use Rattle.sc_serve.specs.declared.serve.Exit.{Exit}
use Rattle.sc_serve.specs.declared.serve.Exit.TheVariants.{Broken, Done, Failed, Refused, Unfinished}
use Rattle.sc_serve.specs.declared.serve.Fault.{Fault}
use Rattle.sc_serve.specs.declared.serve.Fault.TheVariants as fault
use Rattle.sc_arguments.specs.declared.arguments.Command.{Command}
use Rattle.sc_arguments.specs.declared.arguments.Command.TheVariants as command
use Rattle.sc_arguments.specs.declared.arguments.RunOptions.{RunOptions}
use Rattle.sc_frontend.specs.Texts.{IsAccepted, IsLoaded, IsNotRunFor, IsPrinted, IsRefusedFor, IsSpelled, IsUnreadable}
use Rattle.sc_format.specs.Elements.{HaveSame}
use Rattle.sc_format.specs.Formatted.{IsLaidOut}
use Rattle.sc_tree.specs.Plain.{System}
use Rattle.sc_driver.specs.Execution.{IsReplay, IsRunOf, IsThreadRun}
use Rattle.sc_plant.specs.declared.left.Left.{Left}
use Rattle.sc_plant.specs.declared.bounds.Bounds.{Bounds}
use Rattle.sc_plant.specs.Bounded.{IsBoundedRun}
use Rattle.sc_driver.specs.declared.auditing.AuditFault.{AuditFault}
use Rattle.sc_driver.specs.declared.auditing.AuditFault.TheVariants as auditing
use Rattle.sc_driver.specs.Audits.{IsAudited, TellsWhy}
use Rattle.sc_class.specs.ClassNames.{Root}
use Rattle.sc_class.specs.View.{root_of}
use Rattle.sc_frontend.specs.Refusals.{refused_by}
use Rattle.sc_frontend.specs.declared.rejection.Rejection.{Rejection}
use Rattle.sc_frontend.specs.declared.rejection.Rejection.TheVariants as rejection
use Rattle.sc_serve.specs.Refusal.{refused_line, too_long_line}
use Rattle.sc_source.specs.Source.{File, joined, line_feed, names_of}
use Rattle.sc_source.specs.Joining.{AreJoined, AreTold, FailsForGood, IsForGood, IsJoinFault, no_memory, source_text}
use Rattle.sc_source.specs.declared.reading.FileFault.{FileFault}
use Rattle.sc_source.specs.declared.reading.FileFault.TheVariants as of_file
use Rattle.sc_source.specs.declared.source.JoinFault.{JoinFault}

abbrev pub has_failed : Status → Bool
has_failed (status.Failed why) = true
has_failed status.Busy = false
has_failed status.Waiting = false
has_failed status.Free = false

-- the handler is waiting or busy
abbrev pub is_unfinished : Status → Bool
is_unfinished (status.Failed why) = false
is_unfinished status.Busy = true
is_unfinished status.Waiting = true
is_unfinished status.Free = false

-- the program's exit if the handlers have these statuses
abbrev pub exit_of : List Status → Exit
exit_of hows = if list_any has_failed hows then Failed else if list_any is_unfinished hows then Unfinished else Done

-- The text spells a system, and the output is the text in its layout: it has the same tokens and comments, and its
-- layout is itself.
pub record IsInLayout (text output : List ℕ) : Type 0 where
  pub tree : System
  pub spelled : IsSpelled text tree
  pub laid : IsLaidOut text output
  pub same : HaveSame text output
  pub settled : IsLaidOut output output

-- The text isn't refused, and the output is `ok`, for `print` the canonical text, or for `format` the text in its
-- layout.
abbrev pub IsAnswerTo : Command → List ℕ → List ℕ → Exit → Type 0
IsAnswerTo (command.Check options) text output exit =
    IsAccepted text (root_of options.root) × (output ≡ codes "ok\n") × (exit ≡ Done)
IsAnswerTo command.Print text output exit = IsPrinted text output × (exit ≡ Done)
IsAnswerTo command.Format text output exit = IsInLayout text output × (exit ≡ Done)

-- The rejection `why`, for which the command is refused on this text, is true of the text.
abbrev pub IsRejectedFor : Command → List ℕ → Rejection → Type 0
IsRejectedFor (command.Check options) text why = IsRefusedFor text (root_of options.root) why
IsRejectedFor command.Print text why = IsUnreadable text why
IsRejectedFor command.Format text why = IsUnreadable text why

-- the line that reports the rejection, with its place in the files, if it is a refusal
abbrev pub line_of : List File → Rejection → Option (List ℕ)
line_of source rejection.CodeTooLong = Some too_long_line
line_of source why = option_map (refused_line source) (refused_by why)

-- The answer is a refusal: the line that reports the rejection, and the exit `Refused`.
pub record IsRefusalOf (source : List File) (why : Rejection) (output : List ℕ) (exit : Exit) : Type 0 where
  pub line : line_of source why ≡ Some output
  pub status : exit ≡ Refused

-- The answer to a command on the source text of these files: what was asked for, or the refusal of the text.
abbrev pub IsAnswerOf : Command → List File → List ℕ → Exit → Type 0
IsAnswerOf command source output exit =
    IsAnswerTo command (joined source) output exit
    ⊎ ((why : Rejection) × IsRejectedFor command (joined source) why × IsRefusalOf source why output exit)

abbrev pub too_long : Rejection
too_long = rejection.Text lexing.SourceTooLong

-- `source` has the files of these names. If `held` says what each of the files holds, they are sound and these are
-- their texts.
pub record IsSourceOf (names : List (List ℕ)) (held : List (Option (List ℕ))) (source : List File) : Type 0 where
  pub named : names_of source ≡ names
  pub texts : (files : List (List ℕ)) → AreTold held files → AreJoined files source

-- The answer is that the source text of the files is too long, which is true if `held` says what each of them holds.
pub record TellsTooLong (held : List (Option (List ℕ))) (output : List ℕ) (exit : Exit) : Type 0 where
  pub long : (files : List (List ℕ)) → AreTold held files → max_source_bytes < length (source_text files)
  pub refused : IsRefusalOf [] too_long output exit

-- The answer to a command on files of these names, which hold `held`: an answer on their source text, or the refusal
-- of a source text that is too long.
abbrev pub IsAnswerOn : Command → List (List ℕ) → List (Option (List ℕ)) → List ℕ → Exit → Type 0
IsAnswerOn command names held output exit =
    ((source : List File) × IsSourceOf names held source × IsAnswerOf command source output exit)
    ⊎ TellsTooLong held output exit

-- ---- no answer

-- A reader failed for good.
abbrev pub IsReaderFailure : FileFault → Type 0
IsReaderFailure (of_file.Unreadable error) = IsForGood (error_kind error)
IsReaderFailure (of_file.NotUtf8 offset) = ⊥
IsReaderFailure of_file.TooLong = ⊥
IsReaderFailure of_file.OutOfMemory = ⊥

abbrev pub out_of_memory : Fault
out_of_memory = fault.OutOfMemory

-- A file can't be read: its reader failed, or it isn't UTF-8.
abbrev pub IsOfFile : FileFault → Type 0
IsOfFile (of_file.Unreadable error) = Unit {0}
IsOfFile (of_file.NotUtf8 offset) = Unit {0}
IsOfFile of_file.TooLong = ⊥
IsOfFile of_file.OutOfMemory = ⊥

-- The fault reports the name of the file that is at fault, and what is wrong with it; or memory ran out, perhaps
-- when the answer was to be that the files are too long.
abbrev pub IsUnread : List (List ℕ) → JoinFault → Fault → Type 0
IsUnread names why (fault.CannotRead name reading) =
    (reading ≡ why.fault) × IsOfFile reading × (name.now ≡ get_or names why.file [])
IsUnread names why fault.OutOfMemory = (why.fault ≡ no_memory) ⊎ (why.fault ≡ of_file.TooLong)
IsUnread names why (fault.Usage usage) = ⊥
IsUnread names why (fault.NoCode word) = ⊥
IsUnread names why fault.CannotWrite = ⊥
IsUnread names why (fault.CannotRecord name error remains) = ⊥
IsUnread names why (fault.NoRecord name) = ⊥
IsUnread names why (fault.NoDrawing name) = ⊥
IsUnread names why fault.NoThread = ⊥
IsUnread names why fault.LogsDiffer = ⊥
IsUnread names why fault.NotText = ⊥

-- The file `name`, one of the files of these names, can't be read, and `reading` is what is wrong with it. If its
-- reader failed, it failed for good. If `held` says what each of the files holds, `reading` is true of the file.
pub record IsFileAtFault (names : List (List ℕ)) (held : List (Option (List ℕ))) (name : List ℕ) (reading : FileFault)
    : Type 0 where
  pub why : JoinFault
  pub there : why.file < length names
  pub named : name ≡ get_or names why.file []
  pub same : reading ≡ why.fault
  pub kind : IsOfFile reading
  pub for_good : FailsForGood reading
  pub true_of_it : (files : List (List ℕ)) → AreTold held files → IsJoinFault files why

-- Why there is no answer on files of these names, which hold `held`: one of them can't be read, or memory ran out.
abbrev pub IsUnansweredOn : List (List ℕ) → List (Option (List ℕ)) → Fault → Type 0
IsUnansweredOn names held (fault.CannotRead name reading) = IsFileAtFault names held name.now reading
IsUnansweredOn names held fault.OutOfMemory = Unit {0}
IsUnansweredOn names held (fault.Usage usage) = ⊥
IsUnansweredOn names held (fault.NoCode word) = ⊥
IsUnansweredOn names held fault.CannotWrite = ⊥
IsUnansweredOn names held (fault.CannotRecord name error remains) = ⊥
IsUnansweredOn names held (fault.NoRecord name) = ⊥
IsUnansweredOn names held (fault.NoDrawing name) = ⊥
IsUnansweredOn names held fault.NoThread = ⊥
IsUnansweredOn names held fault.LogsDiffer = ⊥
IsUnansweredOn names held fault.NotText = ⊥

-- ---- run

-- the name of the file and the lines of the record that is to be written, if there is one
abbrev pub kept_of : Option Recording → Option (List ℕ × List RecordLine)
kept_of recording = option_map (λ (r : Recording). (r.name.now, r.lines.items)) recording

-- the name of the file that was asked for, if there is one, and the lines of the record
abbrev pub asked_of : Option (List ℕ) → List RecordLine → Option (List ℕ × List RecordLine)
asked_of name lines = option_map (λ n. (n, lines)) name

-- the line that reports what an audit found at fault
abbrev pub audit_line : AuditFault → List ℕ
audit_line (auditing.BadRecord line) = codes "audit A1 BadRecord " ++ (decimal line ++ (line_feed ∷ []))
audit_line (auditing.Differs handler) = codes "audit A2 Differs " ++ (decimal handler ++ (line_feed ∷ []))
audit_line auditing.OutOfMemory = []

-- The output is the report and the audit of what the run left: `audit yes`; or what is at fault, which is true, and
-- then the exit is `Broken`.
abbrev pub IsAuditedAs : Image → Left → List ℕ → List Status → List ℕ → Exit → Type 0
IsAuditedAs program left report hows output exit =
    (IsAudited program left × (output ≡ report ++ codes "audit yes\n") × (exit ≡ exit_of hows))
    ⊎ ((fault : AuditFault) × TellsWhy program left fault × (output ≡ report ++ audit_line fault) × (exit ≡ Broken))

-- The output on what a run left: the report alone, with the exit for the statuses of the handlers; or the report and
-- an audit, if one is asked for.
abbrev pub IsJudged : Image → Bool → Left → List ℕ → List Status → List ℕ → Exit → Type 0
IsJudged program false left report hows output exit = (output ≡ report) × (exit ≡ exit_of hows)
IsJudged program true left report hows output exit = IsAuditedAs program left report hows output exit

-- the bounds at which a run ends in any case
abbrev pub bounds_of : RunOptions → Bounds
bounds_of options = record { turns = options.turns; output = options.output_limit }

-- The output on what is left by a run that ends after at most `turns` turns, and whose record has these lines.
-- `turns` is the number that is asked for; or less, if the handlers have printed more than the output limit that is
-- asked for.
abbrev pub IsTold : Image → Bounds → ℕ → Bool → List RecordLine → List ℕ → List Status → List ℕ → Exit → Type 0
IsTold program bounds turns is_audited lines report hows output exit =
    (left : Left) × IsBoundedRun program bounds turns left × (left.lines.items ≡ lines)
    × IsJudged program is_audited left report hows output exit

-- The answer to a run of the program: the report, the audit if one is asked for, the exit that goes with them, and
-- the lines of the record if a file is named for it.
pub record IsRanOf (program : Image) (options : RunOptions) (output : List ℕ) (exit : Exit)
    (recording : Option Recording) : Type 0 where
  pub turns : ℕ
  pub lines : List RecordLine
  pub hows : List Status
  pub report : List ℕ
  pub is_run : ∥ IsThreadRun program turns lines report hows ∥₁
  pub told : IsTold program (bounds_of options) turns options.is_audited lines report hows output exit
  pub kept : kept_of recording ≡ asked_of (option_map (λ n. n.now) options.record) lines

-- The answer to a run of the program of this text, with the parts that `IsRanOf` has.
pub record IsRanFrom (options : RunOptions) (text output : List ℕ) (exit : Exit) (recording : Option Recording)
    : Type 0 where
  pub turns : ℕ
  pub lines : List RecordLine
  pub hows : List Status
  pub report : List ℕ
  pub is_run : IsRunOf text (root_of options.root) turns lines report hows
  pub told : IsTold is_run.program (bounds_of options) turns options.is_audited lines report hows output exit
  pub kept : kept_of recording ≡ asked_of (option_map (λ n. n.now) options.record) lines

-- The text isn't run. The answer is the refusal for the rejection `why`, which is true of the text, and no record is
-- to be written.
pub record IsNotRan (options : RunOptions) (source : List File) (output : List ℕ) (exit : Exit)
    (recording : Option Recording) : Type 0 where
  pub why : Rejection
  pub true_of : IsNotRunFor (joined source) (root_of options.root) why
  pub refused : IsRefusalOf source why output exit
  pub unkept : recording ≡ None

-- The answer to a run on the source text of these files: its program is run, or the text is refused.
abbrev pub IsRunOfSource : RunOptions → List File → List ℕ → Exit → Option Recording → Type 0
IsRunOfSource options source output exit recording =
    IsRanFrom options (joined source) output exit recording ⊎ IsNotRan options source output exit recording

-- The answer to a run of files of these names, which hold `held`: an answer on their source text, or the refusal of
-- a source text that is too long.
abbrev pub IsRunOn : RunOptions → List (List ℕ) → List (Option (List ℕ)) → List ℕ → Exit → Option Recording → Type 0
IsRunOn options names held output exit recording =
    ((source : List File) × IsSourceOf names held source × IsRunOfSource options source output exit recording)
    ⊎ (TellsTooLong held output exit × (recording ≡ None))

-- Why a program isn't run: memory or a thread is refused, or the threads' logs differ.
abbrev pub IsUnrun : Fault → Type 0
IsUnrun fault.OutOfMemory = Unit {0}
IsUnrun fault.NoThread = Unit {0}
IsUnrun fault.LogsDiffer = Unit {0}
IsUnrun (fault.CannotRead name reading) = ⊥
IsUnrun (fault.Usage usage) = ⊥
IsUnrun (fault.NoCode word) = ⊥
IsUnrun fault.CannotWrite = ⊥
IsUnrun (fault.CannotRecord name error remains) = ⊥
IsUnrun (fault.NoRecord name) = ⊥
IsUnrun (fault.NoDrawing name) = ⊥
IsUnrun fault.NotText = ⊥

-- Why files of these names, which hold `held`, aren't run.
abbrev pub IsUnrunOn : List (List ℕ) → List (Option (List ℕ)) → Fault → Type 0
IsUnrunOn names held f = IsUnansweredOn names held f ⊎ IsUnrun f

-- ---- replay

abbrev pub bad_record : List ℕ
bad_record = codes "refused A1 BadRecord" ++ (line_feed ∷ [])

-- A record can't be read since the file holds none.
abbrev pub IsBadRecord : ReadFault → Type 0
IsBadRecord (reading.BadRecord line) = Unit {0}
IsBadRecord (reading.Unreadable error) = ⊥
IsBadRecord reading.OutOfMemory = ⊥

-- The answer is that a file holds no record.
pub record TellsBadRecord (output : List ℕ) (exit : Exit) : Type 0 where
  pub line : output ≡ bad_record
  pub status : exit ≡ Refused

-- The answer is that the file holds no record. If `held` says what it holds, that is true.
abbrev pub IsNoRecord : Option (List ℕ) → List ℕ → Exit → Type 0
IsNoRecord held output exit = IfSome held (λ bytes. ¬ IsRecordText bytes) × TellsBadRecord output exit

-- The lines of a record are played with the program. The output is the report of the replay, and the exit is that
-- for the statuses of the handlers.
abbrev pub IsReplayed : Image → Version → List RecordLine → List ℕ → Exit → Type 0
IsReplayed program version lines output exit =
    (hows : List Status) × IsReplay program version lines output hows × (exit ≡ exit_of hows)

-- A record is played with the program. If `held` says what the file holds, that is the text of this record. The
-- output is the report of the replay, and the exit is that for the statuses of the handlers.
pub record IsPlayed (program : Image) (held : Option (List ℕ)) (output : List ℕ) (exit : Exit) : Type 0 where
  pub version : Version
  pub lines : List RecordLine
  pub limits : IsRecord version lines
  pub read : IfSome held (λ bytes. bytes ≡ text_of version lines)
  pub hows : List Status
  pub replay : IsReplay program version lines output hows
  pub status : exit ≡ exit_of hows

-- The answer to a replay, with the program, of the record in a file that holds `held`: that the file holds no
-- record, or the report of the replay.
abbrev pub IsReplayTo : Image → Option (List ℕ) → List ℕ → Exit → Type 0
IsReplayTo program held output exit = IsNoRecord held output exit ⊎ IsPlayed program held output exit

-- The answer to a replay on the source text of these files, with this root: what `IsReplayTo` says of the program of
-- the text and the file of the record, or the refusal of the text.
abbrev pub IsReplayOf : Root → Option (List ℕ) → List File → List ℕ → Exit → Type 0
IsReplayOf root held source output exit =
    ((program : Image) × IsLoaded (joined source) root program × IsReplayTo program held output exit)
    ⊎ ((why : Rejection) × IsNotRunFor (joined source) root why × IsRefusalOf source why output exit)

-- The answer to a replay on files of these names, which hold `held`, of the record in a file that holds `recorded`:
-- an answer on their source text, or the refusal of a source text that is too long.
abbrev pub IsReplayOn : Root → Option (List ℕ) → List (List ℕ) → List (Option (List ℕ)) → List ℕ → Exit → Type 0
IsReplayOn root recorded names held output exit =
    ((source : List File) × IsSourceOf names held source × IsReplayOf root recorded source output exit)
    ⊎ TellsTooLong held output exit

-- The fault reports why no record in the file of this name is played: its reader failed with this error; or memory
-- ran out, perhaps when the answer was to be that the file holds no record.
abbrev pub IsRecordUnread : List ℕ → ReadFault → Fault → Type 0
IsRecordUnread name why (fault.CannotRead named (of_file.Unreadable error)) =
    (named.now ≡ name) × (why ≡ reading.Unreadable error)
IsRecordUnread name why fault.OutOfMemory = (why ≡ reading.OutOfMemory) ⊎ IsBadRecord why
IsRecordUnread name why (fault.CannotRead named (of_file.NotUtf8 offset)) = ⊥
IsRecordUnread name why (fault.CannotRead named of_file.TooLong) = ⊥
IsRecordUnread name why (fault.CannotRead named of_file.OutOfMemory) = ⊥
IsRecordUnread name why (fault.Usage usage) = ⊥
IsRecordUnread name why (fault.NoCode word) = ⊥
IsRecordUnread name why fault.CannotWrite = ⊥
IsRecordUnread name why (fault.CannotRecord named error remains) = ⊥
IsRecordUnread name why (fault.NoRecord named) = ⊥
IsRecordUnread name why (fault.NoDrawing named) = ⊥
IsRecordUnread name why fault.NoThread = ⊥
IsRecordUnread name why fault.LogsDiffer = ⊥
IsRecordUnread name why fault.NotText = ⊥

-- Why the record in the file of this name isn't played: the file can't be read, or memory ran out.
abbrev pub IsUnplayedRecord : List ℕ → Fault → Type 0
IsUnplayedRecord name (fault.CannotRead named reading) = (named.now ≡ name) × IsReaderFailure reading
IsUnplayedRecord name fault.OutOfMemory = Unit {0}
IsUnplayedRecord name (fault.Usage usage) = ⊥
IsUnplayedRecord name (fault.NoCode word) = ⊥
IsUnplayedRecord name fault.CannotWrite = ⊥
IsUnplayedRecord name (fault.CannotRecord named error remains) = ⊥
IsUnplayedRecord name (fault.NoRecord named) = ⊥
IsUnplayedRecord name (fault.NoDrawing named) = ⊥
IsUnplayedRecord name fault.NoThread = ⊥
IsUnplayedRecord name fault.LogsDiffer = ⊥
IsUnplayedRecord name fault.NotText = ⊥

-- Why no record in the file of the name `record_name` is played: that file can't be read, memory ran out, or there
-- is no answer on the files of `names`.
abbrev pub IsUnplayed : List ℕ → List (List ℕ) → List (Option (List ℕ)) → Fault → Type 0
IsUnplayed record_name names held f = IsUnansweredOn names held f ⊎ IsUnplayedRecord record_name f
