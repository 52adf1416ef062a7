-- What the core keeps of each handler: its stage, what it serves, and its queue.
use Rattle.std.specs.Prelude.{ℕ, List, [], ◌∷◌, Option, None, is_some, Bool, true, false, ◌==◌, if◌then◌else◌}
use Rattle.sc_lockpass.specs.Rights.{Rights}
use Rattle.sc_lockpass.specs.Passing.{Passed}
use Rattle.sc_lockpass.specs.wait_conditions.Reservations.{Standing}
use Rattle.sc_lockpass.specs.declared.wait_conditions.mark.Marked.{Marked}
use Rattle.sc_model.specs.declared.cause.Cause.{Cause}
use Rattle.sc_region.specs.declared.value.Value.{Value}
use Rattle.sc_region.specs.declared.job.Request.{Request}

-- a request in a handler's queue or callback, with the rights that were passed with it
pub record Posted : Type 0 where
  pub request : Request
  pub passed : Option Passed

abbrev pub posted : Request → Option Passed → Posted
posted r p = record { request = r; passed = p }

-- an answer that has come
pub data Answer : Type 0 where
  Replied : (value : Option Value) → Answer
  SupplierFailed : Answer
  Refused : Answer

-- What the next turn of a handler goes on from: it has no frames; or its next step is always enabled, perhaps with a
-- handler that was made for it; or it reserves those of these that it doesn't hold, after a wait with a mark; or it
-- waits for a supplier's answer, perhaps to a creation.
pub data HandlerStage : Type 0 where
  Idle : HandlerStage
  Runs : HandlerStage
  HasMade : (made : ℕ) → HandlerStage
  Reserves : (handlers : List ℕ) (mark : List Marked) → HandlerStage
  Awaits : (supplier : ℕ) (is_creation : Bool) → HandlerStage

-- a request that frames of a handler serve, and how it stood when that was taken
pub record Service : Type 0 where
  pub posted : Posted
  pub over : HandlerStage

abbrev pub service : Posted → HandlerStage → Service
service p stage = record { posted = p; over = stage }

pub record Handler : Type 0 where
  pub stage : HandlerStage
  pub services : List Service  -- the one taken last first
  pub entry : List ℕ  -- what its last reserve step was for
  pub queue : List Posted  -- the next first
  pub callback : Option Posted
  pub answer : Option Answer
  pub failure : Option Cause
  pub sessions : ℕ  -- how many of its sessions have ended
  pub refused : ℕ  -- how many requests it refused for which nobody waited

abbrev pub new_handler : Handler
new_handler = record {
  stage = Idle;
  services = [];
  entry = [];
  queue = [];
  callback = None;
  answer = None;
  failure = None;
  sessions = 0;
  refused = 0;
}

-- the handlers, numbered below `count`, and who holds whom
pub record State : Type 0 where
  pub count : ℕ
  pub handlers : ℕ → Handler
  pub rights : Rights

-- the state with this handler at the number
abbrev pub put : ℕ → Handler → State → State
put h x s = record s { handlers = λ k. if k == h then x else s.handlers k }

abbrev pub with_stage : ℕ → HandlerStage → State → State
with_stage h stage s = put h (record (s.handlers h) { stage = stage }) s

-- ---- what a reservation looks at

-- its next step is a reserve step
abbrev pub is_reserving : HandlerStage → Bool
is_reserving Idle = false
is_reserving Runs = false
is_reserving (HasMade k) = false
is_reserving (Reserves ks mark) = true
is_reserving (Awaits k is_creation) = false

abbrev pub has_frames : HandlerStage → Bool
has_frames Idle = false
has_frames Runs = true
has_frames (HasMade k) = true
has_frames (Reserves ks mark) = true
has_frames (Awaits k is_creation) = true

abbrev pub has_requests : List Posted → Bool
has_requests [] = false
has_requests (p ∷ ps) = true

abbrev pub standing_of : Handler → Standing
standing_of x =
    record {
      has_frames = has_frames x.stage;
      has_failed = is_some x.failure;
      has_requests = has_requests x.queue;
      sessions = x.sessions;
    }

abbrev pub standing_in : State → ℕ → Standing
standing_in s k = standing_of (s.handlers k)
