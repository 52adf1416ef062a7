-- What is kept of handlers, and of who holds them.
use Rattle.std.specs.Prelude.{◌≡◌, ◌≤◌, ℕ, List, Option, Some, None, slice_get, slice_index}
use Rattle.sc_lockpass.specs.Rights.{Rights}
use Rattle.sc_handler.specs.declared.handler.Handler as coded
use Rattle.sc_handler.specs.Handlers.{Handler, new_handler}
use Rattle.sc_handler.specs.Canonical.{canon_handler}
use Rattle.sc_request.specs.Tables.{handler_at, handler_in}
use Rattle.sc_request.specs.declared.kept_core.Holders.{Holders}

abbrev pub nobody : Holders
nobody = record { queue = None; top = None }

abbrev pub holders_in : Option Holders → Holders
holders_in None = nobody
holders_in (Some x) = x

-- who holds which handler, where these hold the first ones, and nobody holds the others
abbrev pub rights_in : List Holders → Rights
rights_in xs = record { queue = λ k. (holders_in (slice_get xs k)).queue; top = λ k. (holders_in (slice_get xs k)).top }

-- what is read of the handler of the number, by the tables of handlers and of the sessions that have ended
abbrev pub read_at : List coded.Handler → List ℕ → ℕ → Handler
read_at xs sessions k = canon_handler (slice_index sessions) (handler_in (slice_get xs k))

-- from this place on all handlers are new
abbrev pub AreNewFrom : ℕ → List coded.Handler → List ℕ → Type 0
AreNewFrom place xs sessions = (k : ℕ) → place ≤ k → handler_at xs sessions k ≡ new_handler
