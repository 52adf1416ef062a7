-- What is tested of states and the edges between them.
use Rattle.std.specs.Prelude.{◌≡◌, ◌<◌, ℕ, Bool, true, false, List, Some, get_or, length, slice_get}
use Rattle.sc_orders.specs.declared.edges.Edge.{Edge}

-- An edge leads to the state from an earlier one.
pub record IsMet (edges : List Edge) (state : ℕ) : Type 0 where
  pub place : ℕ
  pub edge : Edge
  pub at : slice_get edges place ≡ Some edge
  pub to_is : edge.to ≡ state
  pub earlier : edge.from < state

-- An edge leads to the state from one that is left.
pub record IsFollowed (edges : List Edge) (left : List ℕ) (state : ℕ) : Type 0 where
  pub place : ℕ
  pub edge : Edge
  pub at : slice_get edges place ≡ Some edge
  pub to_is : edge.to ≡ state
  pub from_left : 0 < get_or left edge.from 0

-- It is so of each state that is marked.
abbrev pub AreMet : List Edge → List Bool → Type 0
AreMet edges marks = (state : ℕ) → get_or marks state false ≡ true → IsMet edges state

abbrev pub AreFollowed : List Edge → List ℕ → List Bool → Type 0
AreFollowed edges left marks = (state : ℕ) → get_or marks state false ≡ true → IsFollowed edges left state

-- Some state is left, and each one that is left is marked as followed. Each but the first is marked as met.
pub record AllGoOn (left : List ℕ) (followed met : List Bool) : Type 0 where
  pub state : ℕ
  pub is_left : 0 < get_or left state 0
  pub followed_all : (s : ℕ) → 0 < get_or left s 0 → get_or followed s false ≡ true
  pub met_all : (s : ℕ) → 0 < s → s < length left → get_or met s false ≡ true
