-- What holds of every state of a core: what it names is a place of the tables, and what it counts is bounded by the
-- settlements.
use Rattle.std.specs.Prelude.{ℕ, ◌≡◌, ◌≤◌, Bool, true, false, List, Option, Some, None, length, nat_lt}
use Rattle.std.specs.List.{All, list_all}
use Rattle.sc_lockpass.specs.Rights.{Rights}
use Rattle.sc_lockpass.specs.Passing.{Passed}
use Rattle.sc_handler.specs.Handlers.{Posted, HandlerStage, Idle, Runs, HasMade, Reserves, Awaits, Service, Handler, State}
use Rattle.sc_handler.specs.Changes.{to_list}

-- ---- rights

-- nobody holds what has no place
pub record IsHeldBelow (r : Rights) : Type 0 where
  pub queue : (k : ℕ) → 512 ≤ k → r.queue k ≡ None
  pub top : (k : ℕ) → 512 ≤ k → r.top k ≡ None

-- no right over what has no place is listed
pub record IsListedBelow (p : Passed) : Type 0 where
  pub queue : (k : ℕ) → 512 ≤ k → p.queue k ≡ None
  pub top : (k : ℕ) → 512 ≤ k → p.top k ≡ None

abbrev pub PassesBelow : Option Passed → Type 0
PassesBelow o = (p : Passed) → o ≡ Some p → IsListedBelow p

-- ---- requests

abbrev pub placed_poster : Option ℕ → Bool
placed_poster None = true
placed_poster (Some p) = nat_lt p 512

pub record IsPlaced (p : Posted) : Type 0 where
  pub poster : placed_poster p.request.poster ≡ true
  pub passed : PassesBelow p.passed

abbrev pub ArePlaced : List Posted → Type 0
ArePlaced ps = All IsPlaced ps

-- ---- handlers

-- the handler that it waits for has a place
abbrev pub awaits_placed : HandlerStage → Bool
awaits_placed Idle = true
awaits_placed Runs = true
awaits_placed (HasMade k) = true
awaits_placed (Reserves ks mark) = true
awaits_placed (Awaits k is_creation) = nat_lt k 512

-- one that takes a request has no frames, or waits
abbrev pub may_take_over : HandlerStage → Bool
may_take_over Idle = true
may_take_over Runs = false
may_take_over (HasMade k) = false
may_take_over (Reserves ks mark) = false
may_take_over (Awaits k is_creation) = nat_lt k 512

pub record IsServed (v : Service) : Type 0 where
  pub placed : IsPlaced v.posted
  pub over : may_take_over v.over ≡ true

abbrev pub AreServed : List Service → Type 0
AreServed vs = All IsServed vs

-- Where so many settlements were made, by which not more than `counts` sessions of a handler have ended.
pub record IsSoundHandler (counts settlements count : ℕ) (x : Handler) : Type 0 where
  pub stage : awaits_placed x.stage ≡ true
  pub queue : ArePlaced x.queue
  pub callback : ArePlaced (to_list x.callback)
  pub services : AreServed x.services
  pub entry : list_all (λ k. nat_lt k count) x.entry ≡ true
  pub sessions : x.sessions ≤ counts
  pub refused : x.refused ≤ counts
  pub serves : length x.services ≤ settlements

-- Nobody holds what has no place, and every handler is so.
pub record IsSound (counts settlements : ℕ) (s : State) : Type 0 where
  pub within : s.count ≤ 512
  pub rights : IsHeldBelow s.rights
  pub handlers : (k : ℕ) → IsSoundHandler counts settlements s.count (s.handlers k)
