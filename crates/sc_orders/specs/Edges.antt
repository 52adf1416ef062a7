-- From where edges lead.
use Rattle.std.specs.Prelude.{◌≡◌, ◌≤◌, ◌<◌, ◌+◌, ℕ, Bool, true, false, List, [], ◌∷◌, Some, get_or, length, slice_get}
use Rattle.sc_orders.specs.declared.edges.Edge.{Edge}

-- The state is one of those that are marked, or an edge leads from it to a state of which this holds.
pub data Leads (edges : List Edge) (marked : List Bool) : ℕ → Type 0 where
  Here : (state : ℕ) → get_or marked state false ≡ true → Leads edges marked state
  Along : (place : ℕ) (edge : Edge) → slice_get edges place ≡ Some edge → Leads edges marked edge.to →
      Leads edges marked edge.from

-- The edges lead from and to states of the numbers below this one.
abbrev pub AreWithin : List Edge → ℕ → Type 0
AreWithin edges count = (place : ℕ) (edge : Edge) → slice_get edges place ≡ Some edge →
    (edge.from < count) × (edge.to < count)

-- Edges lead from each state that is marked now to one that was marked first.
abbrev pub AllLead : List Edge → List Bool → List Bool → Type 0
AllLead edges first now = (state : ℕ) → get_or now state false ≡ true → Leads edges first state

-- None of the last edges, this number of them, leads to a marked state from one that isn't.
abbrev pub IsSwept : List Edge → List Bool → ℕ → Type 0
IsSwept edges now done = (place : ℕ) (edge : Edge) → slice_get edges place ≡ Some edge →
    length edges ≤ place + done → get_or now edge.to false ≡ true → get_or now edge.from false ≡ true

-- how many aren't marked
abbrev pub unmarked : List Bool → ℕ
unmarked [] = 0
unmarked (true ∷ bs) = unmarked bs
unmarked (false ∷ bs) = unmarked bs + 1

-- An edge leads from the first state to the second.
pub record HasEdge (edges : List Edge) (from to : ℕ) : Type 0 where
  pub place : ℕ
  pub edge : Edge
  pub at : slice_get edges place ≡ Some edge
  pub from_is : edge.from ≡ from
  pub to_is : edge.to ≡ to
