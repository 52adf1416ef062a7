-- States that no turn leaves.
use Rattle.std.specs.Prelude.{◌≡◌, ℕ, List, Some, slice_get}
use Rattle.sc_lockpass.specs.declared.version.Version.{Version}
use Rattle.sc_code.specs.declared.program.Image.{Image}
use Rattle.sc_world.specs.Kept.{PlainKept, kept}
use Rattle.sc_world.specs.Turning.{Runs}
use Rattle.sc_world.specs.Worlds.{PlainWorld, opened}
use Rattle.sc_search.specs.declared.aims.Aim.{Aim}
use Rattle.sc_search.specs.declared.replay.Subject.{Subject}
use Rattle.sc_search.specs.Aims.{IsMet}
use Rattle.sc_search.specs.Joined.{IsJoinedTurn}

-- Turns of some handlers lead to the world from the opening of the program, and what is kept of it is this state.
pub record IsIn (p : Image) (v : Version) (k : PlainKept) (w : PlainWorld) : Type 0 where
  pub handlers : List ℕ
  pub runs : Runs handlers (opened p v) w
  pub kept : kept w ≡ k

-- The state is one of these.
pub record IsAmong (ks : List PlainKept) (k : PlainKept) : Type 0 where
  pub number : ℕ
  pub stands : slice_get ks number ≡ Some k

-- A turn of the handler leads from a world in the state to one in a state among these, joined with others that
-- may follow at once, at most this number of them. Without a job it leads to the same world.
pub record IsTried (p : Image) (v : Version) (joined : ℕ) (ks : List PlainKept) (k : PlainKept) (h : ℕ) : Type 0 where
  pub before : PlainWorld
  pub after : PlainWorld
  pub stands_in : IsIn p v k before
  pub turn : IsJoinedTurn joined h before after
  pub among : IsAmong ks (kept after)

-- A world is in the state, and doesn't show what is looked for.
pub record IsUnmet (p : Image) (v : Version) (a : Aim) (k : PlainKept) : Type 0 where
  pub world : PlainWorld
  pub stands_in : IsIn p v k world
  pub unmet : IsMet a world → ⊥

-- The opening of the program is in one of the states. None of them shows what is looked for, and each turn of each
-- handler, joined with a bounded number of others, leads from each of them to one of them.
pub record IsClosed (p : Image) (v : Version) (a : Aim) (ks : List PlainKept) : Type 0 where
  pub joined : ℕ
  pub opens : IsAmong ks (kept (opened p v))
  pub unmet : (i : ℕ) (k : PlainKept) → slice_get ks i ≡ Some k → IsUnmet p v a k
  pub tried : (i : ℕ) (k : PlainKept) → slice_get ks i ≡ Some k → (h : ℕ) → IsTried p v joined ks k h

-- These are the states of what is searched.
abbrev pub IsClosedFor : Subject → List PlainKept → Type 0
IsClosedFor s ks = IsClosed s.program.now.image s.version s.aim ks
