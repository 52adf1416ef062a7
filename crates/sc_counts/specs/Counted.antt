-- What a state names: handlers that there are, and counts that were reached.
use Rattle.std.specs.Prelude.{◌≡◌, ◌≤◌, ◌<◌, ℕ, List, Some, None}
use Rattle.std.specs.List.{All}
use Rattle.sc_lockpass.specs.Rights.{Rights}
use Rattle.sc_lockpass.specs.Passing.{Passed}
use Rattle.sc_lockpass.specs.declared.wait_conditions.mark.Marked.{Marked}
use Rattle.sc_handler.specs.Handlers.{Posted, HandlerStage, Idle, Runs, HasMade, Reserves, Awaits, Service, Handler, State}
use Rattle.sc_handler.specs.Changes.{to_list}
use Rattle.sc_handler.specs.Canonical.{sessions_in}

-- ---- marks

-- It is of a handler below the number, and of a count that was reached.
pub record IsReached (sessions : ℕ → ℕ) (count : ℕ) (m : Marked) : Type 0 where
  pub below : m.handler < count
  pub reached : m.sessions ≤ sessions m.handler

abbrev pub AreReached : (ℕ → ℕ) → ℕ → List Marked → Type 0
AreReached sessions count mark = All (IsReached sessions count) mark

abbrev pub AreBelow : ℕ → List ℕ → Type 0
AreBelow count ks = All (λ k. k < count) ks

-- What is to be reserved is below the number, and so is what is marked, of counts that were reached.
abbrev pub IsStageCounted : (ℕ → ℕ) → ℕ → HandlerStage → Type 0
IsStageCounted sessions count Idle = Unit {0}
IsStageCounted sessions count Runs = Unit {0}
IsStageCounted sessions count (HasMade k) = Unit {0}
IsStageCounted sessions count (Reserves ks mark) = AreBelow count ks × AreReached sessions count mark
IsStageCounted sessions count (Awaits k is_creation) = Unit {0}

-- ---- rights

-- No handler may post to any from this number on.
abbrev pub IsFreeFrom : ℕ → Rights → Type 0
IsFreeFrom count r = (k : ℕ) → count ≤ k → r.queue k ≡ None

-- No right to post to any from this number on was passed with the request.
abbrev pub PassesBelow : ℕ → Posted → Type 0
PassesBelow count p = (q : Passed) → p.passed ≡ Some q → (k : ℕ) → count ≤ k → q.queue k ≡ None

-- ---- states

pub record IsServiceCounted (sessions : ℕ → ℕ) (count : ℕ) (v : Service) : Type 0 where
  pub passes : PassesBelow count v.posted
  pub over : IsStageCounted sessions count v.over

pub record IsHandlerCounted (sessions : ℕ → ℕ) (count : ℕ) (x : Handler) : Type 0 where
  pub stage : IsStageCounted sessions count x.stage
  pub services : All (IsServiceCounted sessions count) x.services
  pub entry : AreBelow count x.entry
  pub queue : All (PassesBelow count) x.queue
  pub callback : All (PassesBelow count) (to_list x.callback)

-- Each mark is of handlers that there are, and of counts that were reached. Nothing else that is reserved, or to be
-- reserved, is of a handler that there isn't.
pub record IsCounted (s : State) : Type 0 where
  pub rights : IsFreeFrom s.count s.rights
  pub handlers : (k : ℕ) → IsHandlerCounted (sessions_in s) s.count (s.handlers k)
