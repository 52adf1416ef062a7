-- What the states in memory stand for.
use Rattle.std.specs.Prelude.{ℕ, List}
use Rattle.sc_states.specs.declared.states.States as coded
use Rattle.sc_states.specs.RowViews.{rows_of, total_of}
use Rattle.sc_states.specs.Orders.{orders_in}

-- the tuple of each state
abbrev pub tuples_of : coded.States → List (List ℕ)
tuples_of s = rows_of s.tuples

-- the turns that led to each state, from the opening on
abbrev pub orders_of : coded.States → List (List ℕ)
orders_of s = orders_in s.parents.items (rows_of s.steps)

-- how many numbers the tuples have, and how many turns lead to states from those before them
abbrev pub numbers_of : coded.States → ℕ
numbers_of s = total_of s.tuples

abbrev pub steps_of : coded.States → ℕ
steps_of s = total_of s.steps
