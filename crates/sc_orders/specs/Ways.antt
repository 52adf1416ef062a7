-- How long edges lead on.
use Rattle.std.specs.Prelude.{◌≡◌, ◌≤◌, ◌+◌, ℕ, List, Some, slice_get}
use Rattle.sc_orders.specs.declared.edges.Edge.{Edge}
use Rattle.sc_orders.specs.declared.length.Length.{Length}
use Rattle.sc_orders.specs.declared.length.Length.TheVariants.{AtMost, Endless, Unknown}

-- This number of edges lead from a state to `to`. They are this number of turns.
pub data IsWay (edges : List Edge) (to : ℕ) : ℕ → ℕ → ℕ → Type 0 where
  Stay : IsWay edges to to 0 0
  Go : (place : ℕ) (edge : Edge) (count turns : ℕ) → slice_get edges place ≡ Some edge →
      IsWay edges to edge.to count turns → IsWay edges to edge.from (1 + count) (edge.turns + turns)

-- Wherever edges lead from the first state, these turns before and theirs are no more than `most`. There are no more edges
-- than turns.
abbrev pub AreAtMost : ℕ → List Edge → ℕ → Type 0
AreAtMost first edges most = (to count turns : ℕ) → IsWay edges to 0 count turns → (first + turns ≤ most) × (count ≤ turns)

-- At least this number of edges lead on from the first state.
pub record LeadsFor (edges : List Edge) (least : ℕ) : Type 0 where
  pub to : ℕ
  pub count : ℕ
  pub turns : ℕ
  pub many : least ≤ count
  pub way : IsWay edges to 0 count turns

-- What is said of how long edges lead on from the first state, to which this number of turns led.
abbrev pub SaysLength : ℕ → List Edge → Length → Type 0
SaysLength first edges (AtMost most) = AreAtMost first edges most
SaysLength first edges Endless = (least : ℕ) → LeadsFor edges least
SaysLength first edges Unknown = Unit {0}
