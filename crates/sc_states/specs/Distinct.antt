-- Lists without repetitions.
use Rattle.std.specs.Prelude.{◌≡◌, ℕ, List, Some, slice_get}

-- No two of them are equal.
abbrev pub AreDistinct : {X : Type 0} → List X → Type 0
AreDistinct xs = (i j : ℕ) (x : _) → slice_get xs i ≡ Some x → slice_get xs j ≡ Some x → i ≡ j
