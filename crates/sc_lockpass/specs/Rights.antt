-- Rights: which handler holds which, and what reserving and releasing change.
use Rattle.std.specs.Prelude.{◌==◌, ◌||◌, ℕ, Bool, false, List, Option, Some, None, if◌then◌else◌}
use Rattle.std.specs.List.{list_any}

-- For each handler which handler may post to it, and which may push on its waiting stack, if any.
pub record Rights : Type 0 where
  pub queue : ℕ → Option ℕ
  pub top : ℕ → Option ℕ

-- no handler holds a right
abbrev pub unreserved : Rights
unreserved = record { queue = λ k. None; top = λ k. None }

-- the holder is this handler
abbrev pub is_handler : ℕ → Option ℕ → Bool
is_handler h None = false
is_handler h (Some k) = k == h

-- A handler holds itself, and each handler that it may post to or on whose waiting stack it may push.
abbrev pub held : Rights → ℕ → ℕ → Bool
held r h k = k == h || is_handler h (r.queue k) || is_handler h (r.top k)

abbrev pub is_among : ℕ → List ℕ → Bool
is_among k ks = list_any (λ j. j == k) ks

-- The handler may post to all of these.
abbrev pub reserve : ℕ → List ℕ → Rights → Rights
reserve h ks r = record { queue = λ k. if is_among k ks then Some h else r.queue k; top = r.top }

-- No handler may post to any of these.
abbrev pub release : List ℕ → Rights → Rights
release ks r = record { queue = λ k. if is_among k ks then None else r.queue k; top = r.top }

-- a right that was the handler's is free
abbrev pub lost_by : ℕ → Option ℕ → Option ℕ
lost_by h holder = if is_handler h holder then None else holder

-- Every right that the handler holds is free, also one that was passed to it.
abbrev pub release_all : ℕ → Rights → Rights
release_all h r = record { queue = λ k. lost_by h (r.queue k); top = λ k. lost_by h (r.top k) }

-- These two hold the rights over the handler.
abbrev pub with_holders : ℕ → Option ℕ → Option ℕ → Rights → Rights
with_holders h queue top r =
    record { queue = λ k. if k == h then queue else r.queue k; top = λ k. if k == h then top else r.top k }
