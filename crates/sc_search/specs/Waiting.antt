-- Handlers that wait for good.
use Rattle.std.specs.Prelude.{◌≡◌, ◌⊎◌, ◌<◌, ℕ, Bool, true, false, List, Some, get_or, length, map, slice_get}
use Rattle.sc_lockpass.specs.declared.version.Version.{Version}
use Rattle.sc_model.specs.declared.status.Status.{Status}
use Rattle.sc_model.specs.declared.status.Status.TheVariants.{Free}
use Rattle.sc_code.specs.declared.program.Image.{Image}
use Rattle.sc_orders.specs.declared.edges.Edge.{Edge}
use Rattle.sc_orders.specs.Edges.{Leads}
use Rattle.sc_orders.specs.Orders as orders
use Rattle.sc_world.specs.Kept.{PlainKept, kept}
use Rattle.sc_world.specs.Reports.{statuses}
use Rattle.sc_world.specs.Turning.{IsTurn, Runs}
use Rattle.sc_world.specs.Worlds.{PlainWorld, opened}
use Rattle.sc_search.specs.declared.aims.Aim.{Aim}
use Rattle.sc_search.specs.declared.aims.Aim.TheVariants as aim
use Rattle.sc_search.specs.declared.judging.Kind.{Kind}
use Rattle.sc_search.specs.declared.judging.Kind.TheVariants as kind
use Rattle.sc_search.specs.Aims.{HasFailed, HasRefused, is_of}

-- Turns of some handlers lead to the world, from the opening of the program.
abbrev pub IsPlayed : Image → Version → PlainWorld → Type 0
IsPlayed p v w = (handlers : List ℕ) × Runs handlers (opened p v) w

-- The turn of the handler leads to the second world, from a world that was played anew and is kept alike with the
-- first. Without a job it leads to the same world.
pub record IsAnewTurn (p : Image) (v : Version) (h : ℕ) (x y : PlainWorld) : Type 0 where
  pub before : PlainWorld
  pub played : IsPlayed p v before
  pub alike : kept before ≡ kept x
  pub turn : IsTurn h before y

-- there is such a handler, and its status is of this kind
abbrev pub has_status : Kind → ℕ → PlainWorld → Bool
has_status k h w = is_of k (get_or (statuses w) h Free)

-- Some order of turns, each in a world that is played anew, leads on to a world in which the handler has a turn.
abbrev pub MayMove : Image → Version → ℕ → PlainWorld → Type 0
MayMove p v h w = orders.MayMove (IsAnewTurn p v) (has_status kind.IsBusy) h w

-- The handler waits, and whatever handlers have their turns, they lead on to a world in which it has none.
abbrev pub WaitsForGood : Image → Version → ℕ → PlainWorld → Type 0
WaitsForGood p v h w = orders.WaitsForGood (IsAnewTurn p v) (has_status kind.IsBusy) (has_status kind.IsWaiting) h w

-- Some handler waits for good.
abbrev pub SomeWaits : Image → Version → PlainWorld → Type 0
SomeWaits p v w = (h : ℕ) × WaitsForGood p v h w

-- what ends a search in this world
abbrev pub IsSought : Image → Version → Aim → PlainWorld → Type 0
IsSought p v aim.Stuck w = SomeWaits p v w
IsSought p v aim.Fails w = HasFailed (statuses w)
IsSought p v aim.Refused w = HasRefused w.center.state
IsSought p v aim.Any w = SomeWaits p v w ⊎ HasFailed (statuses w) ⊎ HasRefused w.center.state

-- ---- no handler waits for good

abbrev pub seeks_stuck : Aim → Bool
seeks_stuck aim.Stuck = true
seeks_stuck aim.Fails = false
seeks_stuck aim.Refused = false
seeks_stuck aim.Any = true

-- A world is in the state, and each handler that waits in it may move.
pub record IsMoving (p : Image) (v : Version) (k : PlainKept) : Type 0 where
  pub world : PlainWorld
  pub played : IsPlayed p v world
  pub kept_is : kept world ≡ k
  pub moves : (h : ℕ) → has_status kind.IsWaiting h world ≡ true → MayMove p v h world

-- So it is in each of the states, if stuck handlers are looked for.
abbrev pub AreMoving : Image → Version → Aim → List PlainKept → Type 0
AreMoving p v a ks = seeks_stuck a ≡ true → (i : ℕ) (k : PlainKept) → slice_get ks i ≡ Some k → IsMoving p v k

-- ---- the statuses of states

-- for each state whether the status of the handler is of this kind in it
abbrev pub column : Kind → ℕ → List (List Status) → List Bool
column k h rows = map (λ (r : List Status). is_of k (get_or r h Free)) rows

-- The handler waits in the state, and no edges lead from there to a state in which it has a turn.
pub record IsLeft (edges : List Edge) (rows : List (List Status)) (h number : ℕ) : Type 0 where
  pub waits : get_or (column kind.IsWaiting h rows) number false ≡ true
  pub left : Leads edges (column kind.IsBusy h rows) number → ⊥

-- If it waits in the state, edges lead from there to one in which it has a turn.
abbrev pub IsLed : List Edge → List (List Status) → ℕ → ℕ → Type 0
IsLed edges rows h number =
    get_or (column kind.IsWaiting h rows) number false ≡ true → Leads edges (column kind.IsBusy h rows) number

-- In each world that was played and is in the state of this number, some handler waits for good.
pub record HasStuck (p : Image) (v : Version) (ks : List PlainKept) (number : ℕ) : Type 0 where
  pub there : number < length ks
  pub waits : (w : PlainWorld) → IsPlayed p v w → slice_get ks number ≡ Some (kept w) → SomeWaits p v w
