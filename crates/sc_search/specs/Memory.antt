-- The memory that what is kept of states takes.
use Rattle.std.specs.Prelude.{◌+◌, ◌*◌, ℕ, length, min}
use Rattle.sc_states.specs.Views.{numbers_of, steps_of}
use Rattle.sc_search.specs.declared.progress.Progress.{Progress}
use Rattle.sc_search.specs.Limits.{bytes_a_state}
use Rattle.sc_search.specs.Views.{states_of}

-- The bytes that what is kept takes: so many for each state, each number of a tuple, each turn between states and each
-- edge, and what the regions and parts hold, as far as a number of 64 bits can say it.
abbrev pub bytes_of : Progress → ℕ
bytes_of x =
    min (bytes_a_state * length (states_of x) + 10 * numbers_of x.store.states + 4 * steps_of x.store.states
    + 24 * length x.edges.items + x.held) 18446744073709551615
