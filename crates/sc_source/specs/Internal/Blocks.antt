-- How the bytes of a file are read, a block at a time.
use Rattle.std.specs.Prelude.{ℕ, ◌≡◌, ◌≤◌, List, ◌++◌, Option, length}
use Rattle.std.specs.Io.KnownBytes.{Consumes}

-- A reader has given at most so many bytes, which were added to others.
abbrev pub TakesMore : ℕ → Option (List ℕ) → Option (List ℕ) → List ℕ → List ℕ → Type 0
TakesMore most old new before after =
    (taken : List ℕ) × ((length taken ≤ most) × ((after ≡ before ++ taken) × Consumes old new taken))
