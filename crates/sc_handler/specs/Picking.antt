-- Whether a handler has something to do, and what: the core's half of what a turn begins with.
use Rattle.std.specs.Prelude.{ℕ, Bool, true, false, List, [], ◌∷◌, Option, Some, None, is_some, map, nat_lt, if◌then◌else◌}
use Rattle.sc_lockpass.specs.Rights.{Rights}
use Rattle.sc_lockpass.specs.wait_conditions.Entries.{needed}
use Rattle.sc_lockpass.specs.wait_conditions.Reservations.{reserve_fails, may_reserve}
use Rattle.sc_lockpass.specs.declared.wait_conditions.mark.Marked.{Marked}
use Rattle.sc_model.specs.declared.cause.Cause.{Cause}
use Rattle.sc_model.specs.declared.status.Status.{Status}
use Rattle.sc_model.specs.declared.status.Status.TheVariants as status
use Rattle.sc_region.specs.declared.job.Job.{Job}
use Rattle.sc_region.specs.declared.job.Job.TheVariants as job
use Rattle.sc_handler.specs.Handlers.{Posted, Answer, Replied, SupplierFailed, Refused, HandlerStage, Idle, Runs, HasMade, Reserves, Awaits, Handler, State, standing_in}

-- ---- jobs

-- of these handlers, those that the handler doesn't hold, each once
abbrev pub needs : ℕ → List ℕ → Rights → List ℕ
needs h ks r = needed r h (map Some ks)

-- a reserve step fails if one of these is lost, and else comes once all may be reserved
abbrev pub job_reserving : Bool → Bool → List ℕ → Option Job
job_reserving true may ks = Some job.Failed
job_reserving false true ks = Some (job.Granted (record { items = ks }))
job_reserving false false ks = None

abbrev pub job_for_entry : List ℕ → List Marked → State → Option Job
job_for_entry ks mark s =
    job_reserving (reserve_fails (standing_in s) s.rights ks) (may_reserve (standing_in s) s.rights ks mark) ks

-- the next of its queue
abbrev pub job_idle : List Posted → Option Job
job_idle [] = None
job_idle (p ∷ ps) = Some (job.Take p.request)

-- an answer; the one to a creation with lock passing names the handler that was made
abbrev pub job_answered : ℕ → Bool → Answer → Job
job_answered k true (Replied v) = job.Made k
job_answered k false (Replied v) = job.Reply v
job_answered k is_creation SupplierFailed = job.Failed
job_answered k is_creation Refused = job.Refused

-- a callback comes before an answer
abbrev pub job_awaiting : ℕ → Bool → Option Posted → Option Answer → Option Job
job_awaiting k is_creation (Some p) a = Some (job.Take p.request)
job_awaiting k is_creation None (Some a) = Some (job_answered k is_creation a)
job_awaiting k is_creation None None = None

abbrev pub job_at : ℕ → HandlerStage → Handler → State → Option Job
job_at h Idle x s = job_idle x.queue
job_at h Runs x s = Some job.Go
job_at h (HasMade k) x s = Some (job.Made k)
job_at h (Reserves ks mark) x s = job_for_entry (needs h ks s.rights) mark s
job_at h (Awaits k is_creation) x s = job_awaiting k is_creation x.callback x.answer

-- a handler that has failed does nothing
abbrev pub job_with : ℕ → Option Cause → Handler → State → Option Job
job_with h (Some why) x s = None
job_with h None x s = job_at h x.stage x s

-- What the handler has to do, if it has something.
abbrev pub job_of : ℕ → State → Option Job
job_of h s = if nat_lt h s.count then job_with h (s.handlers h).failure (s.handlers h) s else None

-- ---- how a handler stands

abbrev pub status_idle : HandlerStage → Status
status_idle Idle = status.Free
status_idle Runs = status.Waiting
status_idle (HasMade k) = status.Waiting
status_idle (Reserves ks mark) = status.Waiting
status_idle (Awaits k is_creation) = status.Waiting

abbrev pub status_with : Option Cause → Bool → HandlerStage → Status
status_with (Some why) is_busy stage = status.Failed why
status_with None true stage = status.Busy
status_with None false stage = status_idle stage

abbrev pub status_of : ℕ → State → Status
status_of h s = status_with (s.handlers h).failure (is_some (job_of h s)) (s.handlers h).stage
