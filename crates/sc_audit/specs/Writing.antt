-- What a writer was given of a record's text.
use Rattle.std.specs.Prelude.{ℕ, ◌≡◌, List, ◌++◌, Option}
use Rattle.std.specs.Io.KnownBytes.{Appends}

-- These bytes were written but for the last ones, and nothing else was.
pub record Writes (old new : Option (List ℕ)) (bytes unwritten : List ℕ) : Type 0 where
  pub written : List ℕ
  pub parts : bytes ≡ written ++ unwritten
  pub appended : Appends old new written

-- A beginning of these bytes was written, and nothing else.
abbrev pub WritesBeginning : Option (List ℕ) → Option (List ℕ) → List ℕ → Type 0
WritesBeginning old new bytes = (unwritten : List ℕ) × Writes old new bytes unwritten
