-- What is answered to runs by chance.
use Rattle.std.proofs.Common.{◌≡◌, inl, inr, ℕ, List, Option, None, Result, Ok, Err, IfOk}
use Rattle.sc_arguments.specs.declared.arguments.chance.ChanceOptions.{ChanceOptions}
use Rattle.sc_chance.specs.Found.{IsFoundRun, IsReported}
use Rattle.sc_chance.specs.Outcomes.{AreOfRuns}
use Rattle.sc_chance.specs.declared.playing.ChanceRun.{ChanceRun}
use Rattle.sc_class.specs.View.{root_of}
use Rattle.sc_code.specs.declared.program.Image.{Image}
use Rattle.sc_frontend.specs.Texts.{IsLoaded, IsNotRunFor}
use Rattle.sc_frontend.specs.declared.rejection.Rejection.{Rejection}
use Rattle.sc_serve.specs.Answer.{IsRefusalOf, IsSourceOf, TellsTooLong}
use Rattle.sc_serve.specs.Chance.{IsChanceOf, IsChanceOfSource, IsChanceOn, TellsNoRun, TellsRun, sought_of}
use Rattle.sc_serve.specs.declared.serve.Answer.{Answer}
use Rattle.sc_serve.specs.declared.serve.Fault.{Fault}
use Rattle.sc_source.specs.Source.{File, joined}

-- what is answered to runs by chance of the program of a source text is answered on the text
pub played : (options : ChanceOptions) (source : List File) (program : Image) (r : Result Answer Fault) →
    IsLoaded (joined source) (root_of options.root) program →
    IfOk r (λ answer. IsChanceOf program options answer.text.items answer.exit answer.record) →
    IfOk r (λ answer. IsChanceOfSource options source answer.text.items answer.exit answer.record)
played options source program (Ok answer) loaded of_it = inl (record { program = program; loaded = loaded; played = of_it })
played options source program (Err fault) loaded of_it = tt

-- and so is what keeps it from being run
pub not_played : (options : ChanceOptions) (source : List File) (why : Rejection) (r : Result Answer Fault) →
    IsNotRunFor (joined source) (root_of options.root) why → IfOk r (λ answer. IsRefusalOf source why answer.text.items answer.exit) →
    IfOk r (λ answer. answer.record ≡ None) →
    IfOk r (λ answer. IsChanceOfSource options source answer.text.items answer.exit answer.record)
not_played options source why (Ok answer) is refused unkept = inr (record { why = why; true_of = is; refused = refused; unkept = unkept })
not_played options source why (Err fault) is refused unkept = tt

-- what is answered on the files' source text is answered on the files
pub played_on_files : (options : ChanceOptions) (names : List (List ℕ)) (held : List (Option (List ℕ))) (source : List File)
    (r : Result Answer Fault) → IsSourceOf names held source →
    IfOk r (λ answer. IsChanceOfSource options source answer.text.items answer.exit answer.record) →
    IfOk r (λ answer. IsChanceOn options names held answer.text.items answer.exit answer.record)
played_on_files options names held source (Ok answer) of_them told = inl (source, of_them, told)
played_on_files options names held source (Err fault) of_them told = tt

-- files whose text is too long
pub too_long_to_play : (options : ChanceOptions) (names : List (List ℕ)) (held : List (Option (List ℕ))) (r : Result Answer Fault) →
    IfOk r (λ answer. TellsTooLong held answer.text.items answer.exit) → IfOk r (λ answer. answer.record ≡ None) →
    IfOk r (λ answer. IsChanceOn options names held answer.text.items answer.exit answer.record)
too_long_to_play options names held (Ok answer) told unkept = inr (told, unkept)
too_long_to_play options names held (Err fault) told unkept = tt

-- ---- of one program

-- a run that was found is told
pub run_told : (program : Image) (options : ChanceOptions) (run : ChanceRun) (r : Result Answer Fault) →
    IsFoundRun program options.turns (sought_of options.until) run → IfOk r (λ answer. TellsRun options run answer.text.items answer.exit answer.record) →
    IfOk r (λ answer. IsChanceOf program options answer.text.items answer.exit answer.record)
run_told program options run (Ok answer) found told = inl (run, found, told)
run_told program options run (Err fault) found told = tt

-- or reports are
pub reports_told : (program : Image) (options : ChanceOptions) (reports : List (List ℕ)) (r : Result Answer Fault) →
    AreOfRuns (IsReported program options.turns) options.times reports →
    IfOk r (λ answer. TellsNoRun reports answer.text.items answer.exit answer.record) →
    IfOk r (λ answer. IsChanceOf program options answer.text.items answer.exit answer.record)
reports_told program options reports (Ok answer) of_runs told = inr (reports, of_runs, told)
reports_told program options reports (Err fault) of_runs told = tt
