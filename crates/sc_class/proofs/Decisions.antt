-- A test tells whether a fact holds.
use Rattle.std.proofs.Common.{◌↔◌, IsTrue, true, false, refl}

pub holds : {P : Type 0} → P → (IsTrue true ↔ P)
holds p = (λ e. p, λ q. refl)

pub holds_not : {P : Type 0} → (P → ⊥) → (IsTrue false ↔ P)
holds_not none = (λ e. cc, λ p. absurd (none p))
