-- Faults of one class of a system.
use Rattle.std.specs.Prelude.{◌≡◌, ℕ, Some, slice_get}
use Rattle.sc_text.specs.declared.token.Span.{Span}
use Rattle.sc_tree.specs.Plain.{System, Class}

-- the class at some number has the fault at this place
abbrev pub FaultAt : System → (ℕ → Class → Span → Type 0) → Span → Type 0
FaultAt s P p = (k : ℕ) × (c : Class) × (slice_get s.classes k ≡ Some c) × P k c p
