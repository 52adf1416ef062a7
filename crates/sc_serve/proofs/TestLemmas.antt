-- What is answered to `test`.
use Rattle.std.proofs.Common.{◌≡◌, ◌∙◌, inl, inr, ℕ, ◌+◌, ◌<◌, List, [], ◌∷◌, ◌++◌, Option, Some, None, Result, Ok, Err, IfOk, OnOk, length, map, take, get_or, ◌≤◌, string_bytes, ap, subst, sym}
use Rattle.std.specs.Borrow.{Bor}
use Rattle.std.proofs.lemmas.List.{map-append, take_all, take_more}
use Rattle.sc_arguments.specs.declared.arguments.testing.TestOptions.{TestOptions}
use Rattle.sc_class.specs.ClassNames.{Root}
use Rattle.sc_class.specs.View.{root_of}
use Rattle.sc_class.specs.declared.root.Root as code
use Rattle.sc_code.specs.declared.program.Image.{Image}
use Rattle.sc_frontend.specs.Texts.{IsLoaded, IsNotRunFor}
use Rattle.sc_frontend.specs.declared.rejection.Rejection.{Rejection}
use Rattle.sc_source.specs.Source.{File, joined}
use Rattle.sc_test_cases.specs.Lines.{name_of}
use Rattle.sc_test_cases.specs.Tests.{IsRefusedFor}
use Rattle.sc_test_cases.specs.declared.outcome.TestResult.{TestResult}
use Rattle.sc_serve.specs.Answer.{IsRefusalOf, IsSourceOf, TellsTooLong}
use Rattle.sc_serve.specs.Replaced.{MayBeWritten}
use Rattle.sc_serve.specs.Served.{IsFormatted}
use Rattle.sc_serve.specs.Tests.{AreListed, AreResultsOf, HasOutcome, IsNotTested, IsResultOf, IsTestOfSource, IsTestOn, IsTestShaped, IsTested, TellsResults, record_in, record_of, shape_of}
use Rattle.sc_serve.specs.declared.serve.Answer.{Answer}
use Rattle.sc_serve.specs.declared.serve.Fault.{Fault}

-- ---- one result after the other

results_more : (text : List ℕ) (options : TestOptions) (ts : List Root) (rs : List TestResult) (t : Root) (r : TestResult) →
    AreResultsOf text options ts rs → IsResultOf text options t r → AreResultsOf text options (ts ++ t ∷ []) (rs ++ r ∷ [])
results_more text options [] [] t r so-far is = (is, tt)
results_more text options [] (s ∷ rs) t r so-far is = absurd so-far
results_more text options (u ∷ ts) [] t r so-far is = absurd so-far
results_more text options (u ∷ ts) (s ∷ rs) t r so-far is = (so-far.0, results_more text options ts rs t r so-far.1 is)

roots_more : (roots : List code.Root) (i : ℕ) (d : code.Root) → i < length roots →
    map root_of (take (i + 1) roots) ≡ map root_of (take i roots) ++ root_of (get_or roots i d) ∷ []
roots_more roots i d there = ap (map root_of) (take_more roots i d there) ∙ map-append root_of (take i roots) (get_or roots i d ∷ [])

-- the next test has its result
pub next_result : (text : List ℕ) (options : TestOptions) (roots : List code.Root) (i : ℕ) (root d : code.Root) (rs now : List TestResult) (r : TestResult) →
    i < length roots → root ≡ get_or roots i d → AreResultsOf text options (map root_of (take i roots)) rs → IsResultOf text options (root_of root) r →
    now ≡ rs ++ r ∷ [] → AreResultsOf text options (map root_of (take (i + 1) roots)) now
next_result text options roots i root d rs now r there is so-far played grown =
    let P : Root → Type 0 = λ t. AreResultsOf text options (map root_of (take i roots) ++ t ∷ []) (rs ++ r ∷ []) in
    let added : P (root_of (get_or roots i d)) = subst P (ap root_of is) (results_more text options (map root_of (take i roots)) rs (root_of root) r so-far played) in
    rw (grown, roots_more roots i d there) added

-- all tests have
pub all_results : (text : List ℕ) (options : TestOptions) (roots : List code.Root) (i : ℕ) (rs : List TestResult) → length roots ≤ i →
    AreResultsOf text options (map root_of (take i roots)) rs → AreResultsOf text options (map root_of roots) rs
all_results text options roots i rs all so-far =
    subst (λ (ts : List code.Root). AreResultsOf text options (map root_of ts) rs) (take_all i roots all) so-far

-- ---- one test

pub played : (options : TestOptions) (source : List File) (root : Root) (program : Image) (r : TestResult) → IsLoaded (joined source) root program →
    HasOutcome program options r.outcome → string_bytes r.name ≡ name_of root → IsResultOf (joined source) options root r
played options source root program r loaded is named = record { program = program; loaded = loaded; played = is; named = named }

-- the record of a test goes to a file of this name
pub may_write : (replaced_by : List ℕ → Option (List ℕ)) (name : Option (Bor (List ℕ))) (folder : Bor (List ℕ)) (test path : List ℕ) (r : Result Unit Fault) →
    name ≡ Some folder → path ≡ record_of folder.now test → OnOk r (MayBeWritten replaced_by (Some path)) →
    OnOk r (MayBeWritten replaced_by (record_in name test))
may_write replaced_by name folder test path r is same may =
    let P : Option (Bor (List ℕ)) → Type 0 = λ n. OnOk r (MayBeWritten replaced_by (record_in n test)) in
    subst P (sym is) (subst (λ (p : List ℕ). OnOk r (MayBeWritten replaced_by (Some p))) same may)

pub not_tested : (source : List File) (root : Root) (why : Rejection) (answer : Answer) → IsNotRunFor (joined source) root why →
    IsRefusalOf source why answer.text.items answer.exit → IsNotTested source answer.text.items answer.exit
not_tested source root why answer is refused = record { why = why; true_of = (root, is); refused = refused }

-- ---- the answer

pub told_results : (options : TestOptions) (source : List File) (roots : List Root) (results : List TestResult) (r : Result Answer Fault) →
    AreListed (joined source) options roots → AreResultsOf (joined source) options roots results →
    IfOk r (λ answer. TellsResults results answer.text.items answer.exit) →
    IfOk r (λ answer. IsTestOfSource options source answer.text.items answer.exit)
told_results options source roots results (Ok answer) listed tested told =
    inl (record { roots = roots; listed = listed; results = results; tested = tested; told = told })
told_results options source roots results (Err fault) listed tested told = tt

-- a text whose tests aren't known
pub unlisted : (options : TestOptions) (source : List File) (why : Rejection) (r : Result Answer Fault) → IsRefusedFor (joined source) why →
    IfOk r (λ answer. IsRefusalOf source why answer.text.items answer.exit) →
    IfOk r (λ answer. IsTestOfSource options source answer.text.items answer.exit)
unlisted options source why (Ok answer) is refused = inr (record { why = why; true_of = is; refused = refused })
unlisted options source why (Err fault) is refused = tt

-- a refusal is a line
pub plain_shaped : (options : TestOptions) (r : Result Answer Fault) → IfOk r (λ answer. answer.record ≡ None) → IfOk r (λ answer. answer.object ≡ None) →
    IfOk r (IsTestShaped options)
plain_shaped options (Ok answer) unkept object = record { unrecorded = unkept; object = λ text. object }
plain_shaped options (Err fault) unkept object = tt

-- what is answered on the files' source text is answered on the files
pub tested_on_files : (options : TestOptions) (names : List (List ℕ)) (held : List (Option (List ℕ))) (source : List File) (r : Result Answer Fault) →
    IsSourceOf names held source → IfOk r (λ answer. IsTestOfSource options source answer.text.items answer.exit) →
    IfOk r (λ answer. IsTestOn options names held answer.text.items answer.exit)
tested_on_files options names held source (Ok answer) of_them told = inl (source, of_them, told)
tested_on_files options names held source (Err fault) of_them told = tt

-- files whose text is too long
pub too_long_to_test : (options : TestOptions) (names : List (List ℕ)) (held : List (Option (List ℕ))) (r : Result Answer Fault) →
    IfOk r (λ answer. TellsTooLong held answer.text.items answer.exit) → IfOk r (λ answer. IsTestOn options names held answer.text.items answer.exit)
too_long_to_test options names held (Ok answer) told = inr told
too_long_to_test options names held (Err fault) told = tt

-- in another format the answer stays
pub same_test : (options : TestOptions) (names : List (List ℕ)) (held : List (Option (List ℕ))) (answer : Answer) (r : Result Answer Fault) →
    IsTestOn options names held answer.text.items answer.exit → IfOk r (IsFormatted (shape_of options.format) answer) →
    IfOk r (λ told. IsTestOn options names held told.text.items told.exit)
same_test options names held answer (Ok told) is same = rw (same.text, same.exit) is
same_test options names held answer (Err fault) is same = tt

pub same_shape : (options : TestOptions) (answer : Answer) (r : Result Answer Fault) → IsTestShaped options answer →
    IfOk r (IsFormatted (shape_of options.format) answer) → IfOk r (IsTestShaped options)
same_shape options answer (Ok told) is same =
    record { unrecorded = same.kept ∙ is.unrecorded; object = λ text. same.object text ∙ is.object text }
same_shape options answer (Err fault) is same = tt
