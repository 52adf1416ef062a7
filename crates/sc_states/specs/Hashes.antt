-- Hashes of tuples.
use Rattle.std.specs.Prelude.{◌+◌, ◌*◌, ◌%◌, ℕ, List}
use Rattle.std.specs.List.{fold}

-- the hash of a tuple that goes on by this number
abbrev pub mixed : ℕ → ℕ → ℕ
mixed hash number = ((hash * 16777619) % 4294967296 + number) % 4294967296

abbrev pub hash_of : List ℕ → ℕ
hash_of tuple = fold mixed 2166136261 tuple
