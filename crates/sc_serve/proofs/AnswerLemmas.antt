-- Lines that tell refusals, and why there is no answer.
use Rattle.std.proofs.Common.{◌≡◌, ◌∙◌, ◌<◌, ◌⊎◌, inl, inr, ℕ, List, [], Option, Some, None, Result, Ok, Err, IfOk, length, ap, sym, subst}
use Rattle.std.specs.Option.{option_map}
use Rattle.std.specs.Prelude.{IfErr, IfSome, OnOk}
use Rattle.sc_audit.specs.declared.beginning.ReadFault.{ReadFault}
use Rattle.sc_audit.specs.declared.beginning.ReadFault.TheVariants as reading
use Rattle.sc_audit.specs.Reading.{IsReadFault}
use Rattle.sc_audit.specs.Records.{IsRecord, IsRecordText, text_of}
use Rattle.sc_audit.specs.declared.line.RecordLine.{RecordLine}
use Rattle.sc_lockpass.specs.declared.version.Version.{Version}
use Rattle.sc_serve.specs.declared.serve.Exit.{Exit}
use Rattle.sc_class.specs.ClassNames.{Root}
use Rattle.sc_code.specs.declared.program.Image.{Image}
use Rattle.sc_frontend.specs.Texts.{IsLoaded, IsNotRunFor}
use Rattle.sc_serve.specs.declared.serve.Answer.{Answer}
use Rattle.sc_serve.specs.declared.serve.Fault.{Fault}
use Rattle.sc_serve.specs.declared.serve.Fault.TheVariants as fault
use Rattle.sc_frontend.specs.Refusals.{refused_by}
use Rattle.sc_frontend.specs.declared.refused.Refused.{Refused}
use Rattle.sc_frontend.specs.declared.rejection.Rejection.{Rejection}
use Rattle.sc_frontend.specs.declared.rejection.Rejection.TheVariants as rejection
use Rattle.sc_arguments.specs.declared.arguments.Command.{Command}
use Rattle.sc_arguments.specs.declared.arguments.RunOptions.{RunOptions}
use Rattle.sc_class.specs.View.{root_of}
use Rattle.sc_serve.specs.Answer.{IsAnswerOn, IsAnswerTo, IsBadRecord, IsOfFile, IsRanOf, IsRecordUnread, IsRefusalOf, IsRejectedFor, IsReplayOf, IsReplayOn, IsReplayTo, IsReplayed, IsRunOfSource, IsRunOn, IsSourceOf, IsUnansweredOn, IsUnplayed, IsUnplayedRecord, IsUnread, IsUnrun, IsUnrunOn, TellsBadRecord, TellsTooLong, line_of, out_of_memory, too_long}
use Rattle.sc_serve.specs.Refusal.{refused_line}
use Rattle.sc_source.proofs.JoiningLemmas.{long-source}
use Rattle.sc_source.specs.Source.{File, joined}
use Rattle.sc_source.specs.Joining.{AreTold, FailsForGood, IsJoinFault, no_memory}
use Rattle.sc_source.specs.declared.reading.FileFault.{FileFault}
use Rattle.sc_source.specs.declared.reading.FileFault.TheVariants as of_file
use Rattle.sc_source.specs.declared.source.JoinFault.{JoinFault}

-- the line of a rejection that has a code
pub line-told : (source : List File) (why : Rejection) (r : Refused) → refused_by why ≡ Some r → line_of source why ≡ Some (refused_line source r)
line-told source (rejection.Text f) r e = ap (option_map (refused_line source)) e
line-told source (rejection.Grammar f) r e = ap (option_map (refused_line source)) e
line-told source (rejection.Classes f) r e = ap (option_map (refused_line source)) e
line-told source (rejection.Rules f) r e = ap (option_map (refused_line source)) e
line-told source rejection.CodeTooLong r e = cc
line-told source rejection.OutOfMemory r e = cc

-- that memory ran out is why there is no answer
pub unanswered : (names : List (List ℕ)) (held : List (Option (List ℕ))) (f : Fault) → f ≡ out_of_memory → IsUnansweredOn names held f
unanswered names held f e = subst (IsUnansweredOn names held) (sym e) tt

-- a file at fault isn't want of memory
of-file : {P : Type 0} (why : FileFault) → IsOfFile why → (why ≡ no_memory) ⊎ P → P
of-file why is (inl e) = absurd (subst IsOfFile e is)
of-file why is (inr p) = p

-- the file that can't be read is told
pub unread : (names : List (List ℕ)) (held : List (Option (List ℕ))) (why : JoinFault) (f : Fault) →
    (why.fault ≡ no_memory) ⊎ (why.file < length names) → FailsForGood why.fault →
    ((files : List (List ℕ)) → AreTold held files → (why.fault ≡ no_memory) ⊎ IsJoinFault files why) →
    IsUnread names why f → IsUnansweredOn names held f
unread names held why fault.OutOfMemory w good a u = tt
unread names held why (fault.Usage usage) w good a u = u
unread names held why (fault.NoCode word) w good a u = u
unread names held why (fault.CannotRead name reading) w good a u =
    let is : IsOfFile why.fault = subst IsOfFile u.0 u.1 in
    record {
      why = why;
      there = of-file why.fault is w;
      named = u.2;
      same = u.0;
      kind = u.1;
      for_good = subst FailsForGood (sym u.0) good;
      true_of_it = λ files told. of-file why.fault is (a files told);
    }
unread names held why fault.CannotWrite w good a u = u
unread names held why (fault.CannotRecord name error remains) w good a u = u
unread names held why (fault.NoRecord name) w good a u = u
unread names held why (fault.NoDrawing name) w good a u = u
unread names held why fault.NoThread w good a u = u
unread names held why fault.LogsDiffer w good a u = u
unread names held why fault.NotText w good a u = u

-- files that are too long aren't want of memory
too-long-is-told : of_file.TooLong ≡ no_memory → ⊥
too-long-is-told e = cc

of-long : {P : Type 0} (why : FileFault) → why ≡ of_file.TooLong → (why ≡ no_memory) ⊎ P → P
of-long why long (inl e) = absurd (too-long-is-told (sym long ∙ e))
of-long why long (inr p) = p

-- files whose text is too long are told so
pub told_long : (held : List (Option (List ℕ))) (why : JoinFault) (r : Result Answer Fault) →
    ((files : List (List ℕ)) → AreTold held files → (why.fault ≡ no_memory) ⊎ IsJoinFault files why) →
    OnOk r (why.fault ≡ of_file.TooLong) → IfOk r (λ answer. IsRefusalOf [] too_long answer.text.items answer.exit) →
    IfOk r (λ answer. TellsTooLong held answer.text.items answer.exit)
told_long held why (Ok answer) a long refused =
    record { long = λ files told. long-source files why (of-long why.fault long (a files told)) long; refused = refused }
told_long held why (Err fault) a long refused = tt

-- and that is what is answered
pub long_on_files : (command : Command) (names : List (List ℕ)) (held : List (Option (List ℕ))) (r : Result Answer Fault) →
    IfOk r (λ answer. TellsTooLong held answer.text.items answer.exit) →
    IfOk r (λ answer. IsAnswerOn command names held answer.text.items answer.exit)
long_on_files command names held (Ok answer) told = inr told
long_on_files command names held (Err fault) told = tt

-- what is answered to the files' source text is answered on the files
pub answered : (command : Command) (names : List (List ℕ)) (held : List (Option (List ℕ))) (source : List File) (answer : Answer) →
    IsSourceOf names held source → IsAnswerTo command (joined source) answer.text.items answer.exit →
    IsAnswerOn command names held answer.text.items answer.exit
answered command names held source answer of_them told = inl (source, of_them, inl told)

-- and so is what is at fault in it
pub rejected : (command : Command) (names : List (List ℕ)) (held : List (Option (List ℕ))) (source : List File) (why : Rejection)
    (r : Result Answer Fault) → IsSourceOf names held source → IsRejectedFor command (joined source) why →
    IfOk r (λ answer. IsRefusalOf source why answer.text.items answer.exit) →
    IfOk r (λ answer. IsAnswerOn command names held answer.text.items answer.exit)
rejected command names held source why (Ok answer) of_them is told = inl (source, of_them, inr (why, is, told))
rejected command names held source why (Err fault) of_them is told = tt

-- what is told to be no record is none
pub no_record : (held now : Option (List ℕ)) (f : ReadFault) → IsReadFault held now f → IsBadRecord f → IfSome held (λ bytes. ¬ IsRecordText bytes)
no_record None now (reading.BadRecord line) is bad = tt
no_record (Some bytes) now (reading.BadRecord line) is bad = is.no_record
no_record held now (reading.Unreadable error) is bad = absurd bad
no_record held now reading.OutOfMemory is bad = absurd bad

-- why a record isn't read is why it isn't played
pub unplayed_record : (name : List ℕ) (held now : Option (List ℕ)) (why : ReadFault) (f : Fault) → IsReadFault held now why →
    IsRecordUnread name why f → IsUnplayedRecord name f
unplayed_record name held now why (fault.CannotRead named (of_file.Unreadable error)) is u =
    let P : ReadFault → Type 0 = λ w. IsReadFault held now w in
    (u.0, (subst P u.1 is).0)
unplayed_record name held now why (fault.CannotRead named (of_file.NotUtf8 offset)) is u = absurd u
unplayed_record name held now why (fault.CannotRead named of_file.TooLong) is u = absurd u
unplayed_record name held now why (fault.CannotRead named of_file.OutOfMemory) is u = absurd u
unplayed_record name held now why fault.OutOfMemory is u = tt
unplayed_record name held now why (fault.Usage usage) is u = u
unplayed_record name held now why (fault.NoCode word) is u = u
unplayed_record name held now why fault.CannotWrite is u = u
unplayed_record name held now why (fault.CannotRecord named error remains) is u = u
unplayed_record name held now why (fault.NoRecord named) is u = u
unplayed_record name held now why (fault.NoDrawing named) is u = u
unplayed_record name held now why fault.NoThread is u = u
unplayed_record name held now why fault.LogsDiffer is u = u
unplayed_record name held now why fault.NotText is u = u

-- that memory ran out is why, too
pub unplayed : (name : List ℕ) (f : Fault) → f ≡ out_of_memory → IsUnplayedRecord name f
unplayed name f e = subst (IsUnplayedRecord name) (sym e) tt

-- a record that was read and is played
pub played : (program : Image) (held : Option (List ℕ)) (version : Version) (lines : List RecordLine) (output : List ℕ) (exit : Exit) →
    IsRecord version lines → IfSome held (λ bytes. bytes ≡ text_of version lines) → IsReplayed program version lines output exit →
    IsReplayTo program held output exit
played program held version lines output exit limits read told =
    inr (record { version = version; lines = lines; limits = limits; read = read; hows = told.0; replay = told.1; status = told.2 })

-- what is answered with the program of a source text is answered on the text
pub replayed : (root : Root) (recorded : Option (List ℕ)) (source : List File) (program : Image) (r : Result Answer Fault) →
    IsLoaded (joined source) root program → IfOk r (λ answer. IsReplayTo program recorded answer.text.items answer.exit) →
    IfOk r (λ answer. IsReplayOf root recorded source answer.text.items answer.exit)
replayed root recorded source program (Ok answer) loaded told = inl (program, loaded, told)
replayed root recorded source program (Err fault) loaded told = tt

-- and so is what keeps it from being run
pub not_replayed : (root : Root) (recorded : Option (List ℕ)) (source : List File) (why : Rejection) (r : Result Answer Fault) →
    IsNotRunFor (joined source) root why → IfOk r (λ answer. IsRefusalOf source why answer.text.items answer.exit) →
    IfOk r (λ answer. IsReplayOf root recorded source answer.text.items answer.exit)
not_replayed root recorded source why (Ok answer) is told = inr (why, is, told)
not_replayed root recorded source why (Err fault) is told = tt

-- what is answered on the files' source text is answered on the files
pub replayed_on_files : (root : Root) (recorded : Option (List ℕ)) (names : List (List ℕ)) (held : List (Option (List ℕ))) (source : List File)
    (r : Result Answer Fault) → IsSourceOf names held source → IfOk r (λ answer. IsReplayOf root recorded source answer.text.items answer.exit) →
    IfOk r (λ answer. IsReplayOn root recorded names held answer.text.items answer.exit)
replayed_on_files root recorded names held source (Ok answer) of_them told = inl (source, of_them, told)
replayed_on_files root recorded names held source (Err fault) of_them told = tt

-- files whose text is too long
pub too_long_to_replay : (root : Root) (recorded : Option (List ℕ)) (names : List (List ℕ)) (held : List (Option (List ℕ))) (r : Result Answer Fault) →
    IfOk r (λ answer. TellsTooLong held answer.text.items answer.exit) →
    IfOk r (λ answer. IsReplayOn root recorded names held answer.text.items answer.exit)
too_long_to_replay root recorded names held (Ok answer) told = inr told
too_long_to_replay root recorded names held (Err fault) told = tt

-- ---- run

-- what is answered to a run of the program of a source text is answered on the text
pub ran : (options : RunOptions) (source : List File) (program : Image) (r : Result Answer Fault) →
    IsLoaded (joined source) (root_of options.root) program →
    IfOk r (λ answer. IsRanOf program options answer.text.items answer.exit answer.record) →
    IfOk r (λ answer. IsRunOfSource options source answer.text.items answer.exit answer.record)
ran options source program (Ok answer) loaded of_it =
    inl (record {
      turns = of_it.turns;
      lines = of_it.lines;
      hows = of_it.hows;
      report = of_it.report;
      is_run = record { program = program; loaded = loaded; is_run = of_it.is_run };
      told = of_it.told;
      kept = of_it.kept;
    })
ran options source program (Err fault) loaded of_it = tt

-- and so is what keeps it from being run
pub not_ran : (options : RunOptions) (source : List File) (why : Rejection) (r : Result Answer Fault) →
    IsNotRunFor (joined source) (root_of options.root) why → IfOk r (λ answer. IsRefusalOf source why answer.text.items answer.exit) →
    IfOk r (λ answer. answer.record ≡ None) →
    IfOk r (λ answer. IsRunOfSource options source answer.text.items answer.exit answer.record)
not_ran options source why (Ok answer) is refused unkept = inr (record { why = why; true_of = is; refused = refused; unkept = unkept })
not_ran options source why (Err fault) is refused unkept = tt

-- what is answered on the files' source text is answered on the files
pub ran_on_files : (options : RunOptions) (names : List (List ℕ)) (held : List (Option (List ℕ))) (source : List File) (r : Result Answer Fault) →
    IsSourceOf names held source → IfOk r (λ answer. IsRunOfSource options source answer.text.items answer.exit answer.record) →
    IfOk r (λ answer. IsRunOn options names held answer.text.items answer.exit answer.record)
ran_on_files options names held source (Ok answer) of_them told = inl (source, of_them, told)
ran_on_files options names held source (Err fault) of_them told = tt

-- files whose text is too long
pub too_long_to_run : (options : RunOptions) (names : List (List ℕ)) (held : List (Option (List ℕ))) (r : Result Answer Fault) →
    IfOk r (λ answer. TellsTooLong held answer.text.items answer.exit) → IfOk r (λ answer. answer.record ≡ None) →
    IfOk r (λ answer. IsRunOn options names held answer.text.items answer.exit answer.record)
too_long_to_run options names held (Ok answer) told unkept = inr (told, unkept)
too_long_to_run options names held (Err fault) told unkept = tt

-- that a program isn't run is why the files aren't
pub not_run : (names : List (List ℕ)) (held : List (Option (List ℕ))) (r : Result Answer Fault) → IfErr r IsUnrun → IfErr r (IsUnrunOn names held)
not_run names held (Ok answer) is = tt
not_run names held (Err fault) is = inr is

-- and that memory ran out is why a program isn't
pub not_run_for_memory : (r : Result Answer Fault) → IfErr r (λ fault. fault ≡ out_of_memory) → IfErr r IsUnrun
not_run_for_memory (Ok answer) is = tt
not_run_for_memory (Err fault) e = subst IsUnrun (sym e) tt

pub not_read : (names : List (List ℕ)) (held : List (Option (List ℕ))) (why : JoinFault) (r : Result Answer Fault) →
    (why.fault ≡ no_memory) ⊎ (why.file < length names) → FailsForGood why.fault →
    ((files : List (List ℕ)) → AreTold held files → (why.fault ≡ no_memory) ⊎ IsJoinFault files why) →
    IfErr r (IsUnread names why) → IfErr r (IsUnrunOn names held)
not_read names held why (Ok answer) which good a is = tt
not_read names held why (Err fault) which good a is = inl (unread names held why fault which good a is)

-- the same where only files or memory keep from an answer
pub not_read_on : (names : List (List ℕ)) (held : List (Option (List ℕ))) (why : JoinFault) (r : Result Answer Fault) →
    (why.fault ≡ no_memory) ⊎ (why.file < length names) → FailsForGood why.fault →
    ((files : List (List ℕ)) → AreTold held files → (why.fault ≡ no_memory) ⊎ IsJoinFault files why) →
    IfErr r (IsUnread names why) → IfErr r (IsUnansweredOn names held)
not_read_on names held why (Ok answer) which good a is = tt
not_read_on names held why (Err fault) which good a is = unread names held why fault which good a is

pub not_answered_on : (names : List (List ℕ)) (held : List (Option (List ℕ))) (r : Result Answer Fault) →
    IfErr r (λ fault. fault ≡ out_of_memory) → IfErr r (IsUnansweredOn names held)
not_answered_on names held (Ok answer) is = tt
not_answered_on names held (Err fault) is = unanswered names held fault is

-- ---- why no record is played

pub not_played_unread : (record_name : List ℕ) (names : List (List ℕ)) (held : List (Option (List ℕ))) (why : JoinFault) (r : Result Answer Fault) →
    (why.fault ≡ no_memory) ⊎ (why.file < length names) → FailsForGood why.fault →
    ((files : List (List ℕ)) → AreTold held files → (why.fault ≡ no_memory) ⊎ IsJoinFault files why) →
    IfErr r (IsUnread names why) → IfErr r (IsUnplayed record_name names held)
not_played_unread record_name names held why (Ok answer) which good a is = tt
not_played_unread record_name names held why (Err fault) which good a is = inl (unread names held why fault which good a is)

pub not_played : (record_name : List ℕ) (names : List (List ℕ)) (held : List (Option (List ℕ))) (r : Result Answer Fault) →
    IfErr r (IsUnplayedRecord record_name) → IfErr r (IsUnplayed record_name names held)
not_played record_name names held (Ok answer) is = tt
not_played record_name names held (Err fault) is = inr is

pub not_played_for_memory : (record_name : List ℕ) (r : Result Answer Fault) → IfErr r (λ fault. fault ≡ out_of_memory) →
    IfErr r (IsUnplayedRecord record_name)
not_played_for_memory record_name (Ok answer) is = tt
not_played_for_memory record_name (Err fault) is = unplayed record_name fault is

-- what is told of a file that holds no record is what is answered
pub told_no_record : (program : Image) (held now : Option (List ℕ)) (why : ReadFault) (r : Result Answer Fault) → IsReadFault held now why →
    OnOk r (IsBadRecord why) → IfOk r (λ answer. TellsBadRecord answer.text.items answer.exit) →
    IfOk r (λ answer. IsReplayTo program held answer.text.items answer.exit)
told_no_record program held now why (Ok answer) is bad refused = inl (no_record held now why is bad, refused)
told_no_record program held now why (Err fault) is bad refused = tt

pub told_unread : (name : List ℕ) (held now : Option (List ℕ)) (why : ReadFault) (r : Result Answer Fault) → IsReadFault held now why →
    IfErr r (IsRecordUnread name why) → IfErr r (IsUnplayedRecord name)
told_unread name held now why (Ok answer) is u = tt
told_unread name held now why (Err fault) is u = unplayed_record name held now why fault is u
