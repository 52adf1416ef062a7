-- What is answered to searches.
use Rattle.std.proofs.Common.{◌≡◌, inl, inr, ℕ, List, Option, None, Result, Ok, Err, IfOk}
use Rattle.sc_arguments.specs.declared.arguments.searching.SearchOptions.{SearchOptions}
use Rattle.sc_class.specs.View.{root_of}
use Rattle.sc_code.specs.declared.program.Image.{Image}
use Rattle.sc_frontend.specs.Texts.{IsLoaded, IsNotRunFor}
use Rattle.sc_frontend.specs.declared.rejection.Rejection.{Rejection}
use Rattle.sc_serve.specs.Answer.{IsRefusalOf, IsSourceOf, TellsTooLong}
use Rattle.sc_serve.specs.Search.{IsSearchOf, IsSearchOfSource, IsSearchOn}
use Rattle.sc_serve.specs.declared.serve.Answer.{Answer}
use Rattle.sc_serve.specs.declared.serve.Fault.{Fault}
use Rattle.sc_source.specs.Source.{File, joined}

-- what is answered to a search of the program of a source text is answered on the text
pub searched : (options : SearchOptions) (source : List File) (program : Image) (r : Result Answer Fault) →
    IsLoaded (joined source) (root_of options.root) program →
    IfOk r (λ answer. IsSearchOf program options answer.text.items answer.exit answer.record) →
    IfOk r (λ answer. IsSearchOfSource options source answer.text.items answer.exit answer.record)
searched options source program (Ok answer) loaded of_it = inl (record { program = program; loaded = loaded; searched = of_it })
searched options source program (Err fault) loaded of_it = tt

-- and so is what keeps it from being searched
pub not_searched : (options : SearchOptions) (source : List File) (why : Rejection) (r : Result Answer Fault) →
    IsNotRunFor (joined source) (root_of options.root) why → IfOk r (λ answer. IsRefusalOf source why answer.text.items answer.exit) →
    IfOk r (λ answer. answer.record ≡ None) →
    IfOk r (λ answer. IsSearchOfSource options source answer.text.items answer.exit answer.record)
not_searched options source why (Ok answer) is refused unkept = inr (record { why = why; true_of = is; refused = refused; unkept = unkept })
not_searched options source why (Err fault) is refused unkept = tt

-- what is answered on the files' source text is answered on the files
pub searched_on_files : (options : SearchOptions) (names : List (List ℕ)) (held : List (Option (List ℕ))) (source : List File)
    (r : Result Answer Fault) → IsSourceOf names held source →
    IfOk r (λ answer. IsSearchOfSource options source answer.text.items answer.exit answer.record) →
    IfOk r (λ answer. IsSearchOn options names held answer.text.items answer.exit answer.record)
searched_on_files options names held source (Ok answer) of_them told = inl (source, of_them, told)
searched_on_files options names held source (Err fault) of_them told = tt

-- files whose text is too long
pub too_long_to_search : (options : SearchOptions) (names : List (List ℕ)) (held : List (Option (List ℕ))) (r : Result Answer Fault) →
    IfOk r (λ answer. TellsTooLong held answer.text.items answer.exit) → IfOk r (λ answer. answer.record ≡ None) →
    IfOk r (λ answer. IsSearchOn options names held answer.text.items answer.exit answer.record)
too_long_to_search options names held (Ok answer) told unkept = inr (told, unkept)
too_long_to_search options names held (Err fault) told unkept = tt
