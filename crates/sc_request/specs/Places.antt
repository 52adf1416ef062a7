-- What the tables that settlements change represent.
use Rattle.std.specs.Prelude.{◌≡◌, ℕ, List, Option, Some, None, slice_get, slice_set}
use Rattle.std.specs.List.{list_any}
use Rattle.sc_lockpass.specs.Rights.{is_handler, release_all}
use Rattle.sc_region.specs.declared.job.Job.{Job}
use Rattle.sc_handler.specs.Handlers.{Posted, HandlerStage, Idle, Runs, HasMade, Reserves, Awaits, State}
use Rattle.sc_handler.specs.declared.handler.Handler as kept
use Rattle.sc_handler.specs.Changes.{is_waited_by, session_ended, told}
use Rattle.sc_handler.specs.Picking.{job_at}
use Rattle.sc_request.specs.Tables.{center, state_of, out_at}
use Rattle.sc_request.specs.declared.state.State as coded
use Rattle.sc_request.specs.Logs.{Center}

abbrev pub plain : coded.State → State
plain s = state_of s.count s.handlers.items s.sessions.items s.rights

-- the job that each handler is out with
abbrev pub outs_of : coded.State → ℕ → Option Job
outs_of s = out_at s.handlers.items

-- the center, where this handler was picked last
abbrev pub center_at : ℕ → coded.State → Center
center_at last s = center s.count s.handlers.items s.sessions.items s.rights last

-- The handlers stand in the second tables as in the first, but that this one, if it is there, is out with what it has
-- to do.
abbrev pub IsSetOut : ℕ → coded.State → coded.State → Type 0
IsSetOut h s t = (x : kept.Handler) → slice_get s.handlers.items h ≡ Some x →
    t.handlers.items ≡ slice_set s.handlers.items h
    (record x { out = job_at h ((plain s).handlers h).stage ((plain s).handlers h) (plain s) })

-- ---- parts of settlements

-- the handler that one waits for
abbrev pub awaited : HandlerStage → Option ℕ
awaited Idle = None
awaited Runs = None
awaited (HasMade k) = None
awaited (Reserves ks mark) = None
awaited (Awaits k is_creation) = Some k

-- the handler releases every right that it holds
abbrev pub lets_go : ℕ → State → State
lets_go h s =
    record s {
      handlers = λ k. session_ended (is_handler h (s.rights.queue k)) (s.handlers k);
      rights = release_all h s.rights;
    }

-- those that wait for the answer to one of these hear that their supplier has failed
abbrev pub tells : List Posted → State → State
tells ps s = record s { handlers = λ k. told (list_any (is_waited_by k) ps) (s.handlers k) }
