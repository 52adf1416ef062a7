-- A handler's part of a report.
use Rattle.std.proofs.Common.{◌≡◌, ◌∙◌, ◌<◌, ◌≤◌, ◌+◌, ◌∷◌, [], ℕ, List, None, Some, slice_get, get_or, drop, length, ap, refl, arith}
use Rattle.std.proofs.lemmas.List.{drop-drop, get_or-drop, length-drop}
use Rattle.std.proofs.lemmas.Option.{slice_get_past, slice_get_read}
use Rattle.sc_model.specs.declared.status.Status.{Status}
use Rattle.sc_request.specs.Logs.{status_in}
use Rattle.sc_world.specs.Reports.{handler_report, output_in, report_of}
use Rattle.sc_world.specs.Worlds.{PlainWorld}

-- the report of a handler with this status, which refused so many requests and printed this
pub printed : (h : ℕ) (w : PlainWorld) (s : Status) (r : ℕ) (o : List ℕ) → s ≡ status_in h w.center → r ≡ (w.center.state.handlers h).refused →
    o ≡ output_in (slice_get w.regions h) → handler_report h s r o ≡ report_of h w
printed h w s r o status refused output =
    ap (λ (t : Status). handler_report h t r o) status
    ∙ ap (λ (n : ℕ). handler_report h (status_in h w.center) n o) refused
    ∙ ap (λ (t : List ℕ). handler_report h (status_in h w.center) (w.center.state.handlers h).refused t) output

-- ---- the regions of the handlers that are still to come

-- what is left of a list after its first `h` elements begins with the one of that number
pub rest_first : {X : Type 0} (h : ℕ) (xs rest : List X) (x : X) → x ∷ rest ≡ drop h xs → slice_get xs h ≡ Some x
rest_first h xs rest x left =
    let there : h < length xs = omega (arith, ap length left, length-drop h xs) in
    let same : h + 0 ≡ h = omega arith in
    slice_get_read xs (length xs) h x refl there
    (ap (λ (l : List _). get_or l 0 x) left ∙ get_or-drop h xs 0 x ∙ ap (λ (n : ℕ). get_or xs n x) same)

-- and without it, it is what is left after one more
pub rest_more : {X : Type 0} (h : ℕ) (xs rest : List X) (x : X) → x ∷ rest ≡ drop h xs → rest ≡ drop (h + 1) xs
rest_more h xs rest x left = ap (drop 1) left ∙ drop-drop 1 h xs

-- if nothing is left, there is no element of that number
pub rest_past : {X : Type 0} (h : ℕ) (xs : List X) → [] ≡ drop h xs → slice_get xs h ≡ None
rest_past h xs left =
    let past : length xs ≤ h = omega (arith, ap length left, length-drop h xs) in
    slice_get_past xs h past

-- and nothing is left after one more
pub rest_done : {X : Type 0} (h : ℕ) (xs : List X) → [] ≡ drop h xs → [] ≡ drop (h + 1) xs
rest_done h xs left = ap (drop 1) left ∙ drop-drop 1 h xs
