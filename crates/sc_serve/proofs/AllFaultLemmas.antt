-- What is answered to `check --all`.
use Rattle.std.proofs.Common.{◌≡◌, ℕ, inl, inr, List, Option, Result, Ok, Err, IfOk}
use Rattle.sc_arguments.specs.declared.arguments.CheckOptions.{CheckOptions}
use Rattle.sc_class.specs.ClassNames.{Root}
use Rattle.sc_class.specs.View.{root_of}
use Rattle.sc_frontend.specs.Texts.{IsExamined, IsUnreadable}
use Rattle.sc_frontend.specs.declared.refused.Refused.{Refused}
use Rattle.sc_frontend.specs.declared.rejection.Rejection.{Rejection}
use Rattle.sc_source.specs.Source.{File, joined}
use Rattle.sc_serve.specs.AllFaults.{IsAllOf, IsAllOn, list_exit, list_text}
use Rattle.sc_serve.specs.Answer.{IsRefusalOf, IsSourceOf}
use Rattle.sc_serve.specs.declared.serve.Answer.{Answer}
use Rattle.sc_serve.specs.declared.serve.Fault.{Fault}

-- what is answered on the files' source text is answered on the files
pub all_on_files : (options : CheckOptions) (names : List (List ℕ)) (held : List (Option (List ℕ))) (source : List File) (r : Result Answer Fault) →
    IsSourceOf names held source → IfOk r (λ answer. IsAllOf source (root_of options.root) answer.text.items answer.exit) →
    IfOk r (λ answer. IsAllOn options names held answer.text.items answer.exit)
all_on_files options names held source (Ok answer) of_them told = inl (source, of_them, told)
all_on_files options names held source (Err fault) of_them told = tt

-- what is refused of a system is listed
pub listed : (source : List File) (root : Root) (refused : List Refused) (r : Result Answer Fault) → IsExamined (joined source) root refused →
    IfOk r (λ answer. (answer.text.items ≡ list_text source refused) × (answer.exit ≡ list_exit refused)) →
    IfOk r (λ answer. IsAllOf source root answer.text.items answer.exit)
listed source root refused (Ok answer) examined told =
    inl (record { refused = refused; listed = examined; text = told.0; status = told.1 })
listed source root refused (Err fault) examined told = tt

-- or it is said why a text spells none
pub unreadable : (source : List File) (root : Root) (why : Rejection) (r : Result Answer Fault) → IsUnreadable (joined source) why →
    IfOk r (λ answer. IsRefusalOf source why answer.text.items answer.exit) → IfOk r (λ answer. IsAllOf source root answer.text.items answer.exit)
unreadable source root why (Ok answer) is told = inr (why, is, told)
unreadable source root why (Err fault) is told = tt
