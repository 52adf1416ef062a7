-- How a search goes on.
use Rattle.std.specs.Prelude.{◌≡◌, ◌⊎◌, ◌≤◌, ◌<◌, ◌+◌, ◌^◌, ◌++◌, ◌∷◌, [], ℕ, List, Option, Some, None, is_some, length, min, slice_get, true}
use Rattle.sc_lockpass.specs.declared.version.Version.{Version}
use Rattle.sc_code.specs.declared.program.Image.{Image}
use Rattle.sc_world.specs.Kept.{PlainKept, kept}
use Rattle.sc_orders.specs.declared.edges.Edge.{Edge}
use Rattle.sc_orders.specs.Edges.{HasEdge}
use Rattle.sc_request.specs.Logs.{pick_for}
use Rattle.sc_world.specs.Turning.{Runs}
use Rattle.sc_world.specs.Worlds.{PlainWorld, opened}
use Rattle.sc_search.specs.declared.aims.Aim.{Aim}
use Rattle.sc_search.specs.Aims.{IsMet}
use Rattle.sc_search.specs.Closed.{IsAmong, IsTried, IsUnmet}
use Rattle.sc_search.specs.Joined.{GoesOnUpTo, IsJoinedTurn}
use Rattle.sc_search.specs.Views.{Met}
use Rattle.sc_search.specs.Waiting.{IsPlayed}

-- An edge from the state of the first number to that of the second is added, unless there is no first. It has this number
-- of turns, or the largest that fits.
abbrev pub AddsEdge : Option ℕ → ℕ → ℕ → List Edge → List Edge → Type 0
AddsEdge None to turns es fs = fs ≡ es
AddsEdge (Some from) to turns es fs =
    (e : Edge) × (e.from ≡ from) × (e.to ≡ to) × (fs ≡ es ++ e ∷ []) × (e.turns ≡ min turns 4294967295)

-- The state of the world was met, or is met now, and an edge of this number of turns leads to it. It doesn't show what is
-- looked for.
pub record Keeps (a : Aim) (w : PlainWorld) (from : Option ℕ) (turns : ℕ) (x y : Met) : Type 0 where
  pub among : IsAmong y.states (kept w)
  pub grows : (y.states ≡ x.states) ⊎ (y.states ≡ x.states ++ kept w ∷ [])
  pub edge : AddsEdge from among.number turns x.edges y.edges
  pub unmet : IsMet a w → ⊥

-- None of the states shows what is looked for.
abbrev pub AreUnmet : Image → Version → Aim → List PlainKept → Type 0
AreUnmet p v a ks = (i : ℕ) (k : PlainKept) → slice_get ks i ≡ Some k → IsUnmet p v a k

-- The opening of the program is in one of the states, and none of them shows what is looked for.
pub record Opens (p : Image) (v : Version) (a : Aim) (ks : List PlainKept) : Type 0 where
  pub opens : IsAmong ks (kept (opened p v))
  pub unmet : AreUnmet p v a ks

-- So it is, and there is no edge yet.
pub record OpensAlone (p : Image) (v : Version) (a : Aim) (x : Met) : Type 0 where
  pub opens : Opens p v a x.states
  pub alone : x.edges ≡ []

-- These turns lead to the world from the opening of the program, and it is in the state of this number.
pub record Stands (p : Image) (v : Version) (ks : List PlainKept) (number : ℕ) (path : List ℕ)
    (w : PlainWorld) : Type 0 where
  pub runs : Runs path (opened p v) w
  pub stands : slice_get ks number ≡ Some (kept w)

-- These turns lead to a world in the state of this number.
abbrev pub IsLedTo : Image → Version → List PlainKept → ℕ → List ℕ → Type 0
IsLedTo p v ks number path = (w : PlainWorld) × Stands p v ks number path w

-- Turns that may follow at once, at most this number of them, lead from the first world to the second. They are those by
-- which the second list is longer.
pub record GoesOnBy (most : ℕ) (first second : List ℕ) (x y : PlainWorld) : Type 0 where
  pub goes : GoesOnUpTo most x y
  pub all : second ≡ first ++ goes.handlers

-- The edge is the turn of a handler with a job, joined with others, from a world in a state to one in another, or in the
-- same.
pub record IsEdge (p : Image) (v : Version) (joined : ℕ) (ks : List PlainKept) (e : Edge) : Type 0 where
  pub handler : ℕ
  pub before : PlainWorld
  pub after : PlainWorld
  pub played : IsPlayed p v before
  pub has_job : is_some (pick_for handler before.center) ≡ true
  pub turn : IsJoinedTurn joined handler before after
  pub from : slice_get ks e.from ≡ Some (kept before)
  pub to : slice_get ks e.to ≡ Some (kept after)

abbrev pub AreTurns : Image → Version → ℕ → Met → Type 0
AreTurns p v joined x = (place : ℕ) (e : Edge) → slice_get x.edges place ≡ Some e → IsEdge p v joined x.states e

-- States are met after these, and none of them shows what is looked for. Edges are added, each a turn.
pub record Extends (p : Image) (v : Version) (a : Aim) (joined : ℕ) (x y : Met) : Type 0 where
  pub stay : (i : ℕ) (k : PlainKept) → slice_get x.states i ≡ Some k → slice_get y.states i ≡ Some k
  pub unmet : AreUnmet p v a x.states → AreUnmet p v a y.states
  pub edges_stay : (place : ℕ) (e : Edge) → slice_get x.edges place ≡ Some e → slice_get y.edges place ≡ Some e
  pub turns : AreTurns p v joined x → AreTurns p v joined y

-- An edge leads from the first state to the second. It counts at least this number of turns, or the most that an edge can.
pub record IsCountedEdge (edges : List Edge) (from to turns : ℕ) : Type 0 where
  pub has : HasEdge edges from to
  pub counts : (turns ≤ has.edge.turns) ⊎ (has.edge.turns ≡ 4294967295)

-- The turn of the handler is tried in the state of this number, and leads along an edge that counts it and those it is
-- joined with. Without a job it has no edge, and stays in the state.
pub record IsTriedAlong (p : Image) (v : Version) (joined : ℕ) (x : Met) (number : ℕ) (k : PlainKept) (h : ℕ) : Type 0 where
  pub tried : IsTried p v joined x.states k h
  pub edge : ((tried.among.number ≡ number) × (pick_for h tried.before.center ≡ None))
      ⊎ IsCountedEdge x.edges number tried.among.number (1 + length tried.turn.on.handlers)

abbrev pub IsTriedAt : Image → Version → ℕ → Met → Met → ℕ → ℕ → Type 0
IsTriedAt p v joined x y number h =
    (k : PlainKept) → slice_get x.states number ≡ Some k → IsTriedAlong p v joined y number k h

-- It is tried, and on the way there.
pub record Tries (p : Image) (v : Version) (a : Aim) (joined : ℕ) (x y : Met) (number h : ℕ) : Type 0 where
  pub extends : Extends p v a joined x y
  pub tried : IsTriedAt p v joined x y number h

-- The turns of all handlers are tried in the state of this number.
pub record TriesAll (p : Image) (v : Version) (a : Aim) (joined : ℕ) (x y : Met) (number : ℕ) : Type 0 where
  pub extends : Extends p v a joined x y
  pub tried : (h : ℕ) → IsTriedAt p v joined x y number h

-- ---- when all turns of all states are tried

-- Each turn of each state is tried along an edge, each edge is a turn, and there are no more states than numbers.
pub record IsExplored (p : Image) (v : Version) (joined : ℕ) (x : Met) : Type 0 where
  pub along : (i : ℕ) (k : PlainKept) → slice_get x.states i ≡ Some k → (h : ℕ) → IsTriedAlong p v joined x i k h
  pub turns : AreTurns p v joined x
  pub few : length x.states < 2 ^ 32
