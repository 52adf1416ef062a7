-- Lists that grow at their end.
use Rattle.std.specs.Prelude.{◌≡◌, ℕ, List, Some, slice_get}

-- What stands in the first list stands in the second at the same number.
pub record Extends {A : Type 0} (xs ys : List A) : Type 0 where
  pub kept : (n : ℕ) (x : A) → slice_get xs n ≡ Some x → slice_get ys n ≡ Some x
