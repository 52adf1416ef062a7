use Rattle.std.proofs.Common.{◌≡◌, ◌<◌, ◌≤◌, ℕ, None, vec_len}
use Rattle.std.specs.Prelude.{slice_get}
use Rattle.sc_handler.specs.Handlers.{new_handler}
use Rattle.sc_request.specs.Tables.{handler_in, out_at}
use Rattle.sc_request.proofs.loading.renew_from.Given as goal

abbrev pub invariant-loop-place : goal.invariant-loop-place
invariant-loop-place l = record {
  len : vec_len l.places ≡ vec_len l.initial.places;
  far : l.first ≤ l.place;
  before : (k : ℕ) → k < l.first → slice_get l.places.items k ≡ slice_get l.initial.places.items k;
  new : (k : ℕ) → l.first ≤ k → k < l.place → (handler_in (slice_get l.places.items k) ≡ new_handler) × (out_at l.places.items k ≡ None);
  rest : (k : ℕ) → l.place ≤ k → slice_get l.places.items k ≡ slice_get l.initial.places.items k;
}
