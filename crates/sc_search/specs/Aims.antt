-- What is looked for, by the handlers' statuses and the requests that they have refused.
use Rattle.std.specs.Prelude.{◌≡◌, ◌⊎◌, ◌<◌, ℕ, Bool, true, false, List}
use Rattle.std.specs.List.{list_any}
use Rattle.sc_handler.specs.Handlers.{State}
use Rattle.sc_model.specs.declared.status.Status.{Status}
use Rattle.sc_model.specs.declared.status.Status.TheVariants.{Failed, Busy, Waiting, Free}
use Rattle.sc_world.specs.Reports.{statuses}
use Rattle.sc_world.specs.Worlds.{PlainWorld}
use Rattle.sc_search.specs.declared.aims.Aim.{Aim}
use Rattle.sc_search.specs.declared.aims.Aim.TheVariants as aim
use Rattle.sc_search.specs.declared.judging.Kind.{Kind}
use Rattle.sc_search.specs.declared.judging.Kind.TheVariants as kind

-- the status is of this kind
abbrev pub is_of : Kind → Status → Bool
is_of kind.HasFailed (Failed why) = true
is_of kind.HasFailed Busy = false
is_of kind.HasFailed Waiting = false
is_of kind.HasFailed Free = false
is_of kind.IsBusy (Failed why) = false
is_of kind.IsBusy Busy = true
is_of kind.IsBusy Waiting = false
is_of kind.IsBusy Free = false
is_of kind.IsWaiting (Failed why) = false
is_of kind.IsWaiting Busy = false
is_of kind.IsWaiting Waiting = true
is_of kind.IsWaiting Free = false

-- one of the statuses is of this kind
abbrev pub some_is : Kind → List Status → Bool
some_is k statuses = list_any (is_of k) statuses

-- None of the handlers has anything to do, and one waits: it waits for good.
pub record AreStuck (statuses : List Status) : Type 0 where
  pub idle : some_is kind.IsBusy statuses ≡ false
  pub waits : some_is kind.IsWaiting statuses ≡ true

-- One of them has failed.
abbrev pub HasFailed : List Status → Type 0
HasFailed statuses = some_is kind.HasFailed statuses ≡ true

-- One of the first `count` handlers has refused a request for which no handler waited, if `refused` says how many each
-- has refused.
pub record SomeRefuses (count : ℕ) (refused : ℕ → ℕ) : Type 0 where
  pub handler : ℕ
  pub there : handler < count
  pub some : 0 < refused handler

-- One of the handlers has refused such a request.
abbrev pub HasRefused : State → Type 0
HasRefused s = SomeRefuses s.count (λ h. (s.handlers h).refused)

-- Statuses and the state of the core show what is looked for: statuses by themselves show that handlers are stuck only
-- if none has a turn.
abbrev pub IsMetBy : Aim → List Status → State → Type 0
IsMetBy aim.Stuck statuses s = AreStuck statuses
IsMetBy aim.Fails statuses s = HasFailed statuses
IsMetBy aim.Refused statuses s = HasRefused s
IsMetBy aim.Any statuses s = AreStuck statuses ⊎ HasFailed statuses ⊎ HasRefused s

-- The world shows what is looked for.
abbrev pub IsMet : Aim → PlainWorld → Type 0
IsMet a w = IsMetBy a (statuses w) w.center.state

-- ---- which of them is reported: a failure if there is one, else a refusal, else that handlers are stuck

-- A failure is reported.
abbrev pub tells_failure : Aim → List Status → Bool
tells_failure aim.Stuck statuses = false
tells_failure aim.Fails statuses = some_is kind.HasFailed statuses
tells_failure aim.Refused statuses = false
tells_failure aim.Any statuses = some_is kind.HasFailed statuses

-- A refusal is reported if no failure is.
abbrev pub TellsRefusal : Aim → State → Type 0
TellsRefusal aim.Stuck s = ⊥
TellsRefusal aim.Fails s = ⊥
TellsRefusal aim.Refused s = HasRefused s
TellsRefusal aim.Any s = HasRefused s
