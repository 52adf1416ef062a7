-- How long orders of joined turns are.
use Rattle.std.specs.Prelude.{◌≡◌, ◌≤◌, ◌<◌, ◌+◌, ◌++◌, ◌∷◌, [], ℕ, List, None, if◌then◌else◌, is_some, length, nat_lt, true}
use Rattle.sc_lockpass.specs.declared.version.Version.{Version}
use Rattle.sc_code.specs.declared.program.Image.{Image}
use Rattle.sc_orders.specs.declared.length.Length as coded
use Rattle.sc_orders.specs.declared.length.Length.TheVariants as edges
use Rattle.sc_request.specs.Logs.{pick_for}
use Rattle.sc_world.specs.Kept.{kept}
use Rattle.sc_world.specs.Worlds.{PlainWorld, opened}
use Rattle.sc_search.specs.declared.verdict.Length.{Length}
use Rattle.sc_search.specs.declared.verdict.Length.TheVariants.{AtMost, Endless, Unknown}
use Rattle.sc_search.specs.Joined.{IsJoinedTurn}
use Rattle.sc_search.specs.Waiting.{IsPlayed}

-- The handler has a job in the first world. Its turn, joined with others that follow at once, leads to the second world,
-- from a world that was played anew and is kept alike with the first. They are this number of turns.
pub record IsStep (p : Image) (v : Version) (joined h turns : ℕ) (x y : PlainWorld) : Type 0 where
  pub has_job : is_some (pick_for h x.center) ≡ true
  pub before : PlainWorld
  pub played : IsPlayed p v before
  pub alike : kept before ≡ kept x
  pub turn : IsJoinedTurn joined h before y
  pub count : turns ≡ 1 + length turn.on.handlers

-- Such steps of these handlers, one after the other, lead from the first world to the second. They are this number of turns.
pub data Steps (p : Image) (v : Version) (joined : ℕ) (y : PlainWorld) : List ℕ → ℕ → PlainWorld → Type 0 where
  Stay : Steps p v joined y [] 0 y
  Go : (h : ℕ) (hs : List ℕ) (m n : ℕ) (x z : PlainWorld) → IsStep p v joined h m x z → Steps p v joined y hs n z →
      Steps p v joined y (h ∷ hs) (m + n) x

-- Steps of some of these handlers, from the first one on, lead from the world to one in which the next of them has no job.
-- They are at most this number of turns.
pub record Ends (p : Image) (v : Version) (joined most : ℕ) (handlers : List ℕ) (w : PlainWorld) : Type 0 where
  pub before : List ℕ
  pub next : ℕ
  pub rest : List ℕ
  pub all : handlers ≡ before ++ next ∷ rest
  pub turns : ℕ
  pub few : turns ≤ most
  pub world : PlainWorld
  pub steps : Steps p v joined world before turns w
  pub none : pick_for next world.center ≡ None

-- Steps lead on from the opening for at least this number of turns.
pub record GoOn (p : Image) (v : Version) (joined least : ℕ) : Type 0 where
  pub handlers : List ℕ
  pub turns : ℕ
  pub many : least ≤ turns
  pub world : PlainWorld
  pub steps : Steps p v joined world handlers turns (opened p v)

-- What is said of how long orders of such steps are. Whatever handlers step from the opening on, one after the other, at
-- most this number of turns are made before one of them finds no job. Or for each number there are steps of as many turns.
abbrev pub IsLength : Image → Version → ℕ → Length → Type 0
IsLength p v joined (AtMost most) =
    (handlers : List ℕ) → most < length handlers → Ends p v joined most handlers (opened p v)
IsLength p v joined Endless = (least : ℕ) → GoOn p v joined least
IsLength p v joined Unknown = Unit {0}

-- What is reported if edges lead on so. The largest number may be that of an edge that doesn't count all its turns.
abbrev pub length_from : coded.Length → Length
length_from (edges.AtMost most) = if nat_lt most 4294967295 then AtMost most else Unknown
length_from edges.Endless = Endless
length_from edges.Unknown = Unknown
