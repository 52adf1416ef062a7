-- The core's half of a state of the machine: the stage and the queue of each handler, without objects, frames and
-- outputs.
use Rattle.std.specs.Prelude.{◌≡◌, ◌⊎◌, ℕ, List, [], ◌∷◌, map}
use Rattle.std.specs.Option.{option_map}
use Rattle.sc_model.specs.Environments.{separate_formals}
use Rattle.sc_model.specs.Handlers as machine
use Rattle.sc_model.specs.Entries.{opened_in}
use Rattle.sc_handler.specs.Handlers.{Posted, posted, Answer, Replied, SupplierFailed, Refused, HandlerStage, Idle, Runs, HasMade, Reserves, Awaits, Service, Handler, State}
use Rattle.sc_request.specs.Asked.{Numbering, value_of, request_of, handlers_of}

abbrev pub posted_of : Numbering → machine.Request → Posted
posted_of n r = posted (request_of n r) r.passed

abbrev pub answer_of : machine.Answer → Answer
answer_of (machine.Reply v) = Replied (option_map value_of v)
answer_of machine.Failed = SupplierFailed
answer_of machine.Refused = Refused

-- ---- frames

-- The frame stands so. That a handler was made for it the core tells it as it goes on.
abbrev pub IsStage : machine.Stage → machine.Frame → HandlerStage → Type 0
IsStage machine.Runs f stage = (stage ≡ Runs) ⊎ ((k : ℕ) × (stage ≡ HasMade k))
IsStage machine.Reserves f stage = stage ≡ Reserves (handlers_of (separate_formals f.environment)) f.mark
IsStage machine.ReservesBlock f stage = stage ≡ Reserves (handlers_of (opened_in f.environment f.tasks)) []
IsStage (machine.InCall gives) f stage = stage ≡ Runs
IsStage (machine.Awaits k gives is_creation) f stage = stage ≡ Awaits k is_creation

abbrev pub IsTop : List machine.Frame → HandlerStage → Type 0
IsTop [] stage = stage ≡ Idle
IsTop (f ∷ below) stage = IsStage f.stage f stage

-- the request that a frame serves was taken over the frames below it
abbrev pub IsService : (List Service → Type 0) → List machine.Frame → Posted → List Service → Type 0
IsService Below below p [] = ⊥
IsService Below below p (v ∷ vs) = (v.posted ≡ p) × IsTop below v.over × Below vs

abbrev pub IsOrigin : Numbering → machine.Origin → (List Service → Type 0) → List machine.Frame → List Service → Type 0
IsOrigin n (machine.Called c) Below below vs = Below vs
IsOrigin n (machine.Requested r) Below below vs = IsService Below below (posted_of n r) vs

-- the requests that these frames serve
abbrev pub AreServices : Numbering → List machine.Frame → List Service → Type 0
AreServices n [] vs = vs ≡ []
AreServices n (f ∷ below) vs = IsOrigin n f.origin (AreServices n below) below vs

-- ---- handlers

-- The core has this of the handler.
pub record IsHandlerOf (n : Numbering) (x : machine.Handler) (y : Handler) : Type 0 where
  pub stage : IsTop x.stack y.stage
  pub services : AreServices n x.stack y.services
  pub queue : y.queue ≡ map (posted_of n) x.queue
  pub callback : y.callback ≡ option_map (posted_of n) x.callback
  pub answer : y.answer ≡ option_map answer_of x.answer
  pub failure : y.failure ≡ x.failure
  pub sessions : y.sessions ≡ x.sessions
  pub refused : y.refused ≡ x.refused

-- The core's half of the machine's state is this one.
pub record IsHalfOf (n : Numbering) (w : machine.World) (s : State) : Type 0 where
  pub count : s.count ≡ w.count
  pub rights : s.rights ≡ w.rights
  pub handlers : (k : ℕ) → IsHandlerOf n (w.handlers k) (s.handlers k)
