-- What a request lists of a right when it passes the right agrees with the right's trail, so exactly this returns
-- when the request ends.
use Rattle.std.specs.Prelude.{ℕ, suc, ◌≡◌, ◌⊎◌, List, [], ◌∷◌, Option, Some, None, true, false}
use Rattle.sc_lockpass.specs.Passing.{Passed}
use Rattle.sc_machine_laws.specs.states.World.{Grant, Request, World, holder, requests_of}
use Rattle.sc_machine_laws.specs.states.Consistent.{IsOne, IsStuckFrom}

-- The trail has a grant by the request `n`.
abbrev pub IsGranted : ℕ → List Grant → Type 0
IsGranted n [] = ⊥
IsGranted n (e ∷ t) = (e.number ≡ n) ⊎ IsGranted n t

-- In the trail, `before` is the holder after a grant by the request `n`, or None if no grant is after it.
abbrev pub ReturnsTo : ℕ → Option ℕ → List Grant → Type 0
ReturnsTo n before [] = ⊥
ReturnsTo n before (e ∷ t) = ((e.number ≡ n) × (holder t ≡ before)) ⊎ ReturnsTo n before t

-- A right that is listed was granted by the request, and returns to the holder before. A right that isn't listed
-- wasn't granted by it.
abbrev pub IsListed : ℕ → Option (Option ℕ) → List Grant → Type 0
IsListed n None t = IsGranted n t → ⊥
IsListed n (Some before) t = ReturnsTo n before t

-- What the request at `k` lists of each right is correct, unless `k` is stuck in a later wait of its own and so
-- won't end the request.
pub record AreListed (w : World) (k : ℕ) (r : Request) (p : Passed) : Type 0 where
  pub queues : (j : ℕ) → IsListed r.number (p.queue j) (w.queue j) ⊎ IsStuckFrom w k (suc r.number)
  pub tops : (j : ℕ) → IsListed r.number (p.top j) (w.top j) ⊎ IsStuckFrom w k (suc r.number)
  pub somebodys : (j : ℕ) → p.queue j ≡ Some None → ⊥

pub record IsReturnable (w : World) : Type 0 where
  pub listed : (k : ℕ) (r : Request) (p : Passed) → IsOne r (requests_of (w.handlers k)) → r.passed ≡ Some p
      → AreListed w k r p
  -- a request that isn't waited for has passed nothing
  pub waited : (k : ℕ) (r : Request) → IsOne r (requests_of (w.handlers k)) → r.waited ≡ false → r.passed ≡ None
  -- a failed handler has no request
  pub failures : (k : ℕ) (r : Request) → IsOne r (requests_of (w.handlers k)) → (w.handlers k).failed ≡ true → ⊥
