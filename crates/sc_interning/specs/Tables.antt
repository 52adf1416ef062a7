-- What a table in memory stands for.
use Rattle.std.specs.Prelude.{ℕ, List}
use Rattle.sc_interning.specs.declared.table.Table as coded
use Rattle.sc_interning.specs.Views.{hashes_of}

-- the values by number
abbrev pub values_of : {V : Type 0} → coded.Table V → List V
values_of table = table.values.items

-- their hashes
abbrev pub hashes_in_table : {V : Type 0} → coded.Table V → List ℕ
hashes_in_table table = hashes_of table.index
