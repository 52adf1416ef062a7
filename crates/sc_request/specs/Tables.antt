-- How the state of the core lies in memory.
use Rattle.std.specs.Prelude.{◌≡◌, ℕ, ◌+◌, Bool, List, [], ◌∷◌, Option, Some, None, is_some, slice_get, slice_index, if◌then◌else◌}
use Rattle.std.specs.Option.{option_and_then}
use Rattle.sc_lockpass.specs.Tables.{Table, rights_of}
use Rattle.sc_region.specs.declared.job.Job.{Job}
use Rattle.sc_handler.specs.declared.handler.Handler as coded
use Rattle.sc_handler.specs.Handlers.{Handler, State, new_handler}
use Rattle.sc_handler.specs.InMemory.{handler_of}
use Rattle.sc_request.specs.Logs.{Center}

abbrev pub handler_in : Option coded.Handler → Handler
handler_in None = new_handler
handler_in (Some x) = handler_of x

-- the handler of the number, by the tables of handlers and of the sessions that have ended
abbrev pub handler_at : List coded.Handler → List ℕ → ℕ → Handler
handler_at xs sessions k = record (handler_in (slice_get xs k)) { sessions = slice_index sessions k }

abbrev pub state_of : ℕ → List coded.Handler → List ℕ → Table → State
state_of count xs sessions rights =
    record { count = count; handlers = handler_at xs sessions; rights = rights_of rights }

-- Each count of a handler that is one of these has grown by one, and each other one is as it was.
abbrev pub CountsUp : (ℕ → Bool) → List ℕ → List ℕ → Type 0
CountsUp is_one ns ms =
    (k : ℕ) → slice_index ms k ≡ (if is_one k then slice_index ns k + 1 else slice_index ns k)

-- the job that the handler of the number is out with
abbrev pub out_at : List coded.Handler → ℕ → Option Job
out_at xs k = option_and_then (λ (x : coded.Handler). x.out) (slice_get xs k)

-- how many of these are out
abbrev pub out_total : List coded.Handler → ℕ
out_total [] = 0
out_total (x ∷ xs) = if is_some x.out then out_total xs + 1 else out_total xs

abbrev pub center : ℕ → List coded.Handler → List ℕ → Table → ℕ → Center
center count xs sessions rights last =
    record { state = state_of count xs sessions rights; out = out_at xs; last = last }
