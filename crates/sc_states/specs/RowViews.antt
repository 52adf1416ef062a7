-- What rows in memory stand for.
use Rattle.std.specs.Prelude.{◌≤◌, ◌<◌, ◌+◌, ℕ, List, length, min, vec_capacity}
use Rattle.sc_states.specs.declared.rows.Rows as coded
use Rattle.sc_states.specs.Cuts.{cut}

-- the lists by number
abbrev pub rows_of : {T : Type 0} → coded.Rows T → List (List T)
rows_of rows = cut 0 rows.ends.items rows.flat.items

-- how many values all lists have, as far as a number of 32 bits can say it
abbrev pub total_of : {T : Type 0} → coded.Rows T → ℕ
total_of rows = min (length rows.flat.items) 4294967295

-- There is room for one more row, of this number of values.
pub record HasRoom {T : Type 0} (rows : coded.Rows T) (count : ℕ) : Type 0 where
  pub ends : length rows.ends.items + 1 ≤ vec_capacity rows.ends
  pub flat : length rows.flat.items + count ≤ vec_capacity rows.flat
  pub few : length rows.flat.items + count < 4294967296
