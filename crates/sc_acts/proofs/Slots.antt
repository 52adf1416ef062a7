-- Values that go into slots one by one, and their handlers.
use Rattle.std.proofs.Common.{◌≡◌, ℕ, suc, ◌+◌, ◌<◌, List, [], ◌∷◌, ◌++◌, Some, length, take, get_or, sym, ap, ◌∙◌, arith}
use Rattle.std.proofs.lemmas.List.{take_more, length-take-le}
use Rattle.std.proofs.lemmas.List.Elements.{filter_map-append}
use Rattle.std.specs.Prelude.{slice_set}
use Rattle.std.specs.List.{cons_option}
use Rattle.sc_region.specs.declared.value.Value.{Value}
use Rattle.sc_acts.specs.Entering.{handler_of}
use Rattle.sc_acts.specs.Blocks.{handlers_of, written}

written_behind : (k n : ℕ) (us slots : List Value) (v : Value) → k + length us ≡ n → written k (us ++ v ∷ []) slots ≡ slice_set (written k us slots) n v
written_behind k n [] slots v e = let same : k ≡ n = omega (arith, e) in ap (λ j. slice_set slots j v) same
written_behind k n (u ∷ us) slots v e = written_behind (suc k) n us (slice_set slots k u) v (omega (arith, e))

-- the next value goes into its slot
pub written_more : (k i : ℕ) (us slots : List Value) (d : Value) → i < length us →
    slice_set (written k (take i us) slots) (k + i) (get_or us i d) ≡ written k (take (i + 1) us) slots
written_more k i us slots d l =
    let few = length-take-le i us (omega (arith, l)) in
    sym (ap (λ vs. written k vs slots) (take_more us i d l) ∙ written_behind k (k + i) (take i us) slots (get_or us i d) (ap (λ n. k + n) few))

-- the handler of the next value comes, if it has one
pub handlers_more : (us : List Value) (i : ℕ) (d : Value) → i < length us →
    handlers_of (take i us) ++ cons_option (handler_of (Some (get_or us i d))) [] ≡ handlers_of (take (i + 1) us)
handlers_more us i d l =
    sym (ap handlers_of (take_more us i d l) ∙ filter_map-append (λ v. handler_of (Some v)) (take i us) (get_or us i d ∷ []))
