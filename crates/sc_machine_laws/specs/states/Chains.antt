-- The chain of a request that is waited for.
use Rattle.std.specs.Prelude.{ℕ, ◌≡◌}
use Rattle.sc_machine_laws.specs.states.World.{Wait, World}
use Rattle.sc_machine_laws.specs.states.Consistent.{StackWaits}

-- `p` waits for an answer of `k`, or has one that it hasn't taken.
abbrev pub WaitsOn : World → ℕ → ℕ → Type 0
WaitsOn w p k = (v : Wait) × StackWaits v (w.handlers p).stack × (v.target ≡ k)

-- the chain of `p`: `p` itself, and each handler that one of the chain waits for
pub data InChain (w : World) (p : ℕ) : ℕ → Type 0 where
  Here : InChain w p p
  Next : {x y : ℕ} → InChain w p x → WaitsOn w x y → InChain w p y
