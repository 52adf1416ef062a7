-- Handlers of two cores that are the same.
use Rattle.std.proofs.Common.{◌≡◌, ◌∙◌, ℕ, ◌≤◌, ◌<◌, Bool, true, List, Some, length, get_or, sym, ap}
use Rattle.std.proofs.lemmas.List.{get_or_past}
use Rattle.std.proofs.lemmas.Grind.{get_or_default_zero}
use Rattle.std.proofs.lemmas.Option.{slice_get_past}
use Rattle.std.specs.Prelude.{slice_get, slice_index}
use Rattle.sc_handler.specs.declared.handler.Handler as coded
use Rattle.sc_handler.specs.Handlers.{Handler, new_handler}
use Rattle.sc_handler.specs.InMemory.{handler_of}
use Rattle.sc_request.specs.Tables.{handler_in, handler_at}
use Rattle.sc_request.proofs.ChangedTables.{handler_is}

-- past all places nothing is kept
pub nothing_kept : (xs : List coded.Handler) (sessions : List ℕ) (h : ℕ) → length xs ≤ h → length sessions ≤ h → handler_at xs sessions h ≡ new_handler
nothing_kept xs sessions h past past_counts =
    λ i. record (handler_in (slice_get_past xs h past i)) { sessions = get_or_past sessions h 0 past_counts i }

-- the count that two cores have of a handler
pub same_count : (ss ts : List ℕ) (h m n : ℕ) → h < length ss → h < length ts → m ≡ get_or ss h m → n ≡ get_or ts h n → m ≡ n → slice_index ss h ≡ slice_index ts h
same_count ss ts h m n within its_within is its e =
    sym (is ∙ get_or_default_zero ss h m within) ∙ e ∙ its ∙ get_or_default_zero ts h n its_within

-- handlers of as many sessions that are told to be the same, or not
pub same_kept : (xs ys : List coded.Handler) (ss ts : List ℕ) (h : ℕ) (x y : coded.Handler) (b : Bool) → slice_get xs h ≡ Some x → slice_get ys h ≡ Some y →
    slice_index ss h ≡ slice_index ts h → (b ≡ true → handler_of x ≡ handler_of y) × (handler_of x ≡ handler_of y → b ≡ true) →
    (b ≡ true → handler_at xs ss h ≡ handler_at ys ts h) × (handler_at xs ss h ≡ handler_at ys ts h → b ≡ true)
same_kept xs ys ss ts h x y b there its_there count both = (
  λ e. handler_is xs ss h x there ∙ (λ i. record (both.0 e i) { sessions = count i }) ∙ sym (handler_is ys ts h y its_there),
  λ w. both.1 (ap (λ (z : Handler). record z { sessions = 0 }) (sym (handler_is xs ss h x there) ∙ w ∙ handler_is ys ts h y its_there)),
)
