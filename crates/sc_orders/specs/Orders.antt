-- Orders of turns, whatever worlds and turns are: `Turn h x y` says that the turn of the handler h leads from the world
-- x to the world y.
use Rattle.std.specs.Prelude.{◌≡◌, ◌⊎◌, ℕ, Bool, true, false, List, [], ◌∷◌, Some, get_or, slice_get}
use Rattle.sc_orders.specs.declared.edges.Edge.{Edge}
use Rattle.sc_orders.specs.Edges.{HasEdge}

-- Turns of these handlers, one after the other, lead from the first world to the second.
abbrev pub Leads : {W : Type 0} → (ℕ → W → W → Type 0) → List ℕ → W → W → Type 0
Leads Turn [] x y = y ≡ x
Leads {W} Turn (h ∷ hs) x y = (z : W) × Turn h x z × Leads Turn hs z y

-- Some order leads from the world to one in which the handler has a turn.
pub record MayMove {W : Type 0} (Turn : ℕ → W → W → Type 0) (has_turn : ℕ → W → Bool) (h : ℕ)
    (w : W) : Type 0 where
  pub handlers : List ℕ
  pub world : W
  pub leads : Leads Turn handlers w world
  pub turn : has_turn h world ≡ true

-- Whatever handlers have their turns, one after the other, they lead to a world in which the handler has none.
abbrev pub NeverMoves : {W : Type 0} → (ℕ → W → W → Type 0) → (ℕ → W → Bool) → ℕ → W → Type 0
NeverMoves {W} Turn has_turn h w =
    (handlers : List ℕ) → (v : W) × Leads Turn handlers w v × (has_turn h v ≡ false)

-- The handler waits, and no order gives it a turn any more, whatever others do.
pub record WaitsForGood {W : Type 0} (Turn : ℕ → W → W → Type 0) (has_turn waits : ℕ → W → Bool) (h : ℕ)
    (w : W) : Type 0 where
  pub waits_now : waits h w ≡ true
  pub never : NeverMoves Turn has_turn h w

-- ---- states by number

-- The turn of the handler leads from a world in a state to one in the same, or in a state to which an edge leads.
pub record Follows {W : Type 0} (Turn : ℕ → W → W → Type 0) (IsIn : ℕ → W → Type 0) (edges : List Edge)
    (i h : ℕ) (w : W) : Type 0 where
  pub world : W
  pub number : ℕ
  pub turn : Turn h w world
  pub is_in : IsIn number world
  pub edge : (number ≡ i) ⊎ HasEdge edges i number

-- Some turn leads from the world to one in the state.
pub record LeadsOn {W : Type 0} (Turn : ℕ → W → W → Type 0) (IsIn : ℕ → W → Type 0) (to : ℕ)
    (w : W) : Type 0 where
  pub handler : ℕ
  pub world : W
  pub turn : Turn handler w world
  pub is_in : IsIn to world

-- The edges are turns, and each turn from one of the states goes along one of them, or stays in the state.
pub record AreEdges {W : Type 0} (Turn : ℕ → W → W → Type 0) (IsIn : ℕ → W → Type 0)
    (edges : List Edge) : Type 0 where
  pub each : (place : ℕ) (edge : Edge) → slice_get edges place ≡ Some edge → (w : W) → IsIn edge.from w →
      LeadsOn Turn IsIn edge.to w
  pub all : (i : ℕ) (w : W) → IsIn i w → (h : ℕ) → Follows Turn IsIn edges i h w

-- These are the states in which the handler has a turn.
abbrev pub AreBusy : {W : Type 0} → (IsIn : ℕ → W → Type 0) → (ℕ → W → Bool) → ℕ → List Bool → Type 0
AreBusy {W} IsIn has_turn h busy = (i : ℕ) (w : W) → IsIn i w → get_or busy i false ≡ has_turn h w

-- If edges lead on from the state of a world to one in which the handler has a turn, the handler may move. If none do,
-- it never moves.
pub record EdgesTell {W : Type 0} (Turn : ℕ → W → W → Type 0) (has_turn : ℕ → W → Bool) (h : ℕ) (w : W)
    (LeadOn : Type 0) : Type 0 where
  pub may : LeadOn → MayMove Turn has_turn h w
  pub never : (LeadOn → ⊥) → NeverMoves Turn has_turn h w
