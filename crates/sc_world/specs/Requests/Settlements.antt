-- What settlements leave of the requests that the core says a handler serves.
use Rattle.std.specs.Prelude.{◌≡◌, ℕ, false, Some, None, length, nat_lt, if◌then◌else◌}
use Rattle.sc_region.specs.declared.job.Job.{Job}
use Rattle.sc_region.specs.declared.job.Want.{Want}
use Rattle.sc_handler.specs.Handlers.{Handler, State, new_handler}
use Rattle.sc_request.specs.Logs.{Center, pick_for, picked, settles}
use Rattle.sc_request.specs.Settling.{settled}
use Rattle.sc_world.specs.Requests.Serving.{HasFrames, HasServices}
use Rattle.sc_world.specs.Requests.Turns.{is_failure, left_after, served_under}

-- the handler of the number, a new one if there is none yet
abbrev pub known : ℕ → State → Handler
known h s = if nat_lt h s.count then s.handlers h else new_handler

-- The second one has failed; or the first one hasn't, both serve as many requests, and the second one has frames for
-- them if the first one has.
abbrev pub KeepsServices : Handler → Handler → Type 0
KeepsServices x y =
    y.failure ≡ None →
    (x.failure ≡ None) × (length y.services ≡ length x.services)
    × (HasFrames x.stage x.services → HasFrames y.stage y.services)

-- A handler was picked with a job. After the settlement of its turns it serves one request more if it took one, and
-- one less if one is done, unless it fails; and it fails if a failure is wanted.
abbrev pub SettlementsServe : Type 0
SettlementsServe =
    (most h turns : ℕ) (j : Job) (w : Want) (c : Center) → pick_for h c ≡ Some j →
    HasFrames (c.state.handlers h).stage (c.state.handlers h).services →
    (known h (settles most h j turns w (picked h j c)).state).failure ≡ None →
    HasServices (left_after w (served_under j (length (c.state.handlers h).services)))
    (known h (settles most h j turns w (picked h j c)).state)
    × (is_failure w ≡ false)

-- All other handlers serve what they did.
abbrev pub OthersServe : Type 0
OthersServe =
    (most h turns k : ℕ) (j : Job) (w : Want) (s : State) →
    (k ≡ h → ⊥) → KeepsServices (known k s) (known k (settled most h j turns w s))
