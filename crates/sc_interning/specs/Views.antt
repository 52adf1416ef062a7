-- What an index in memory stands for.
use Rattle.std.specs.Prelude.{ℕ, List}
use Rattle.sc_interning.specs.declared.index.Index as coded
use Rattle.sc_interning.specs.Chains.{hashes_in}

-- the hash of each number
abbrev pub hashes_of : coded.Index → List ℕ
hashes_of index = hashes_in index.links.items
