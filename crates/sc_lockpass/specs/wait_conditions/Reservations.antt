-- When an entry may reserve what it needs, and when a session of a handler ends.
use Rattle.std.specs.Prelude.{◌&&◌, ◌||◌, ◌∷◌, ℕ, Bool, true, false, not, List, [], Option, nat_lt, map}
use Rattle.std.specs.List.{list_any, list_all}
use Rattle.std.specs.Option.{is_none}
use Rattle.sc_lockpass.specs.Rights.{Rights}
use Rattle.sc_lockpass.specs.declared.wait_conditions.mark.Marked.{Marked}
use Rattle.sc_lockpass.specs.declared.wait_conditions.session.Release.{Release}
use Rattle.sc_lockpass.specs.declared.wait_conditions.session.Release.TheVariants.{Exit, Leave, Refusal, Failure, Creation, FalseWaitCondition}

-- what is looked at of a handler before it is reserved
pub record Standing : Type 0 where
  pub has_frames : Bool  -- its stack isn't empty
  pub has_failed : Bool
  pub has_requests : Bool  -- its queue isn't empty
  pub sessions : ℕ  -- how many sessions of it have ended

-- an empty stack, and not failed
abbrev pub is_idle : Standing → Bool
is_idle s = not s.has_frames && not s.has_failed

-- A handler may be reserved if it is idle, has an empty queue and is free.
abbrev pub may_be_reserved : Standing → Option ℕ → Bool
may_be_reserved s holder = is_idle s && not s.has_requests && is_none holder

-- It can never be reserved again: it has failed, and no handler holds it.
abbrev pub is_lost : Standing → Option ℕ → Bool
is_lost s holder = s.has_failed && is_none holder

-- More sessions of the handler have ended than were counted.
abbrev pub has_risen : (ℕ → ℕ) → Marked → Bool
has_risen sessions m = nat_lt m.sessions (sessions m.handler)

-- An entry without a mark may be tried, one with a mark only after one of its counts has risen.
abbrev pub mark_allows : (ℕ → ℕ) → List Marked → Bool
mark_allows sessions [] = true
mark_allows sessions (m ∷ ms) = list_any (has_risen sessions) (m ∷ ms)

-- The mark of an entry whose wait condition was false: each handler that it newly reserved, with its count of sessions.
abbrev pub mark_of : (ℕ → ℕ) → List ℕ → List Marked
mark_of sessions ks = map (λ k. record { handler = k; sessions = sessions k }) ks

-- All that an entry needs may be reserved together.
abbrev pub may_reserve : (ℕ → Standing) → Rights → List ℕ → List Marked → Bool
may_reserve standing r ks mark =
    list_all (λ k. may_be_reserved (standing k) (r.queue k)) ks && mark_allows (λ k. (standing k).sessions) mark

-- The reserve step fails: one that it needs is lost.
abbrev pub reserve_fails : (ℕ → Standing) → Rights → List ℕ → Bool
reserve_fails standing r ks = list_any (λ k. is_lost (standing k) (r.queue k)) ks

-- The reserve step may be taken.
abbrev pub reserve_is_enabled : (ℕ → Standing) → Rights → List ℕ → List Marked → Bool
reserve_is_enabled standing r ks mark = reserve_fails standing r ks || may_reserve standing r ks mark

-- Every release ends a session of each handler that it releases, but that of a false wait condition.
abbrev pub ends_session : Release → Bool
ends_session Exit = true
ends_session Leave = true
ends_session Refusal = true
ends_session Failure = true
ends_session Creation = true
ends_session FalseWaitCondition = false
