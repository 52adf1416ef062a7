-- What keeps a handler from its next step.
use Rattle.std.specs.Prelude.{ℕ, Bool, false, not, List, [], Option, option_map, slice_get}
use Rattle.sc_lockpass.specs.Rights.{Rights}
use Rattle.sc_lockpass.specs.wait_conditions.Reservations.{mark_allows}
use Rattle.sc_region.specs.declared.job.Request.{Request}
use Rattle.sc_handler.specs.Handlers.{Posted, HandlerStage, Idle, Runs, HasMade, Reserves, Awaits}
use Rattle.sc_handler.specs.Picking.{needs}

-- of the handlers that its next step reserves, those that it doesn't hold
abbrev pub needed_at : ℕ → Rights → HandlerStage → List ℕ
needed_at h r Idle = []
needed_at h r Runs = []
needed_at h r (HasMade k) = []
needed_at h r (Reserves ks mark) = needs h ks r
needed_at h r (Awaits k is_creation) = []

-- its next step is a reserve step that was put off by a false wait condition, and no session of a handler has ended
-- since that might have made it true
abbrev pub is_put_off : (ℕ → ℕ) → HandlerStage → Bool
is_put_off sessions Idle = false
is_put_off sessions Runs = false
is_put_off sessions (HasMade k) = false
is_put_off sessions (Reserves ks mark) = not (mark_allows sessions mark)
is_put_off sessions (Awaits k is_creation) = false

-- the request at a place of the queue, from 0, which is taken next
abbrev pub request_at : List Posted → ℕ → Option Request
request_at ps n = option_map (λ (p : Posted). p.request) (slice_get ps n)
