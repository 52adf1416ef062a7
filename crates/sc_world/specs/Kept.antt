-- What is kept of a world as it is read, to be compared with others.
use Rattle.std.specs.Prelude.{◌≡◌, ◌≤◌, ℕ, List, Some, None, length, slice_get}
use Rattle.sc_lockpass.specs.declared.version.Version.{Version}
use Rattle.sc_lockpass.specs.Versions.{most_handlers}
use Rattle.sc_code.specs.declared.program.Image.{Image}
use Rattle.sc_handler.specs.Handlers.{State}
use Rattle.sc_handler.specs.Canonical.{canon}
use Rattle.sc_counts.specs.Counted.{IsCounted}
use Rattle.sc_request.specs.Kept as core
use Rattle.sc_request.specs.Logs.{pick_for}
use Rattle.sc_play.specs.Contents.{Contents, contents_at}
use Rattle.sc_play.specs.Regions.{PlainRegion}
use Rattle.sc_world.specs.declared.kept_world.KeptWorld as coded
use Rattle.sc_world.specs.Reports.{report, statuses}
use Rattle.sc_world.specs.Turning.{Attempt, Attempts, IsTurn, Runs}
use Rattle.sc_world.specs.Worlds.{PlainWorld, max_handlers, opened}

-- The state of the core as it is read, without counts of sessions, and what the region of each handler holds. Which
-- handlers are out, and which was picked last, is no part of it.
pub record PlainKept : Type 0 where
  pub state : State
  pub regions : ℕ → Contents

abbrev pub kept : PlainWorld → PlainKept
kept w = record { state = canon w.center.state; regions = contents_at w.regions }

abbrev pub kept_of : coded.KeptWorld → PlainKept
kept_of w = record { state = core.kept_of w.core; regions = contents_at w.regions.items }

-- ---- laws

-- A world in which no handler is out. There are no more handlers than there may be, and a region for each that there
-- may be in any version, all of them of the program. The core names only handlers that there are, and counts of
-- sessions that were reached.
pub record IsOf (p : Image) (limit : ℕ) (w : PlainWorld) : Type 0 where
  pub most : w.most ≡ limit
  pub few : w.center.state.count ≤ limit
  pub nobody_out : (h : ℕ) → w.center.out h ≡ None
  pub places : length w.regions ≡ max_handlers
  pub programs : (h : ℕ) (x : PlainRegion) → slice_get w.regions h ≡ Some x → x.store.program ≡ p
  pub counted : IsCounted w.center.state

-- Worlds of one program are kept alike.
pub record AreKeptAlike (p : Image) (limit : ℕ) (w v : PlainWorld) : Type 0 where
  pub of : IsOf p limit w
  pub its : IsOf p limit v
  pub same : kept w ≡ kept v

-- In worlds that are kept alike the handlers have the same jobs, the statuses are the same, and so are the reports.
pub record AreReadAlike (w v : PlainWorld) : Type 0 where
  pub jobs : (h : ℕ) → pick_for h w.center ≡ pick_for h v.center
  pub statuses : statuses w ≡ statuses v
  pub report : report w ≡ report v

abbrev pub KeptAlikeReadAlike : Type 0
KeptAlikeReadAlike = (p : Image) (most : ℕ) (w v : PlainWorld) → AreKeptAlike p most w v → AreReadAlike w v

-- The turn of a handler leads from the world to one that is kept so.
pub record TurnsTo (h : ℕ) (w : PlainWorld) (k : PlainKept) : Type 0 where
  pub after : PlainWorld
  pub turn : IsTurn h w after
  pub kept : kept after ≡ k

-- From worlds that are kept alike the turns of a handler lead to worlds that are kept alike.
abbrev pub KeptAlikeTurnAlike : Type 0
KeptAlikeTurnAlike = (p : Image) (most : ℕ) (w v : PlainWorld) → AreKeptAlike p most w v →
    (h : ℕ) (x : PlainWorld) → IsTurn h w x → TurnsTo h v (kept x)

-- A world is so at the opening of the program,
abbrev pub OpeningsAreOf : Type 0
OpeningsAreOf = (p : Image) (version : Version) → IsOf p (most_handlers version) (opened p version)

-- and stays so where handlers have their turns.
abbrev pub RunsStayOf : Type 0
RunsStayOf = (p : Image) (most : ℕ) (handlers : List ℕ) (w v : PlainWorld) → IsOf p most w →
    Runs handlers w v → IsOf p most v

-- It does so too where memory is refused to some of these turns.
abbrev pub AttemptsStayOf : Type 0
AttemptsStayOf = (p : Image) (most : ℕ) (attempts : List Attempt) (w v : PlainWorld) → IsOf p most w →
    Attempts attempts w v → IsOf p most v
