-- Numbers of what is kept.
use Rattle.std.specs.Prelude.{◌≡◌, ◌+◌, ◌/◌, ◌++◌, ℕ, List, Some, length, slice_get, slice_range}

-- What stands in the first list stands in the second, at its place.
abbrev pub Stays : {X : Type 0} → List X → List X → Type 0
Stays xs ys = (i : ℕ) (x : _) → slice_get xs i ≡ Some x → slice_get ys i ≡ Some x

-- They are this number of numbers, and the value of each is what stands at its place.
pub record AreNumbers {X : Type 0} (values : List X) (at : ℕ → X) (count : ℕ) (numbers : List ℕ) : Type 0 where
  pub count_is : length numbers ≡ count
  pub each : (h n : ℕ) → slice_get numbers h ≡ Some n → slice_get values n ≡ Some (at h)

-- Such numbers come after these.
pub record AddsNumbers {X : Type 0} (values : List X) (at : ℕ → X) (count : ℕ) (before after : List ℕ) : Type 0 where
  pub numbers : List ℕ
  pub all : after ≡ before ++ numbers
  pub are : AreNumbers values at count numbers

-- A tuple has the number of handlers, then the number of each region, and as many numbers of what the core keeps.
abbrev pub half : List ℕ → ℕ
half tuple = length tuple / 2

abbrev pub region_numbers : List ℕ → List ℕ
region_numbers tuple = slice_range tuple 1 (1 + half tuple)

abbrev pub part_numbers : List ℕ → List ℕ
part_numbers tuple = slice_range tuple (1 + half tuple) (length tuple)
