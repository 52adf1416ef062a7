-- If a handler waits for one that hasn't failed, its request is there, unless it learns of a failure.
use Rattle.std.specs.Prelude.{ℕ, ◌≡◌, ◌⊎◌, true, false}
use Rattle.sc_machine_laws.specs.states.World.{Wait, Request, World, requests_of}
use Rattle.sc_machine_laws.specs.states.Steps.{IsTold}
use Rattle.sc_machine_laws.specs.states.Consistent.{IsOpen, IsOne}

-- The request that `p` waits for is at its target.
pub record Serves (w : World) (p : ℕ) (v : Wait) : Type 0 where
  pub request : Request
  pub stands : IsOne request (requests_of (w.handlers v.target))
  pub number : request.number ≡ v.number
  pub poster : request.poster ≡ p
  pub waited : request.waited ≡ true

abbrev pub IsServed : World → Type 0
IsServed w = (p : ℕ) (v : Wait) → IsOpen v (w.handlers p) → (w.handlers v.target).failed ≡ false
    → IsTold (w.handlers p) ⊎ Serves w p v
