-- What is known of the states that are kept, and of the world that is played in.
use Rattle.std.specs.Prelude.{◌≡◌, ◌<◌, ◌++◌, ℕ, List, [], Option, Some, None, get_or, length, slice_get}
use Rattle.sc_interning.specs.Tables.{values_of}
use Rattle.sc_lockpass.specs.declared.version.Version.{Version}
use Rattle.sc_code.specs.declared.program.Image.{Image}
use Rattle.sc_play.specs.Regions.{PlainRegion}
use Rattle.sc_world.specs.Free.{IsLinked}
use Rattle.sc_world.specs.Kept.{IsOf, PlainKept, kept}
use Rattle.sc_world.specs.Turning.{Runs}
use Rattle.sc_world.specs.Worlds.{PlainWorld, opened}
use Rattle.sc_search.specs.declared.store.Store.{Store}
use Rattle.sc_search.specs.Numbering.{Stays}
use Rattle.sc_search.specs.Tuples.{IsNumbered, state_by}
use Rattle.sc_search.specs.Views.{contents_in, parts_in, tuples_in}

-- The regions are of the program, and each state is a tuple of numbers of what is kept.
pub record IsStored (p : Image) (s : Store) : Type 0 where
  pub programs : (i : ℕ) (x : PlainRegion) → slice_get (values_of s.regions) i ≡ Some x → x.store.program ≡ p
  pub numbered : (i : ℕ) (tuple : List ℕ) → slice_get (tuples_in s) i ≡ Some tuple →
      IsNumbered tuple (length (values_of s.regions)) (length (values_of s.parts))

-- Regions and parts are added. What was there keeps its number, and the states stay.
pub record Grows (p : Image) (x y : Store) : Type 0 where
  pub states : y.states ≡ x.states
  pub statuses : y.statuses ≡ x.statuses
  pub contents : Stays (contents_in x) (contents_in y)
  pub parts : Stays (parts_in x) (parts_in y)
  pub stored : IsStored p x → IsStored p y

-- The tuple stands for what is kept of the world.
pub record IsTupleOf (s : Store) (tuple : List ℕ) (w : PlainWorld) : Type 0 where
  pub numbered : IsNumbered tuple (length (values_of s.regions)) (length (values_of s.parts))
  pub kept_is : state_by (contents_in s) (parts_in s) tuple ≡ kept w

-- ---- the world that is played in

-- A world of the program in the state of this number was reached.
pub record IsBacked (p : Image) (most : ℕ) (ks : List PlainKept) (number : ℕ) : Type 0 where
  pub world : PlainWorld
  pub its : IsOf p most world
  pub linked : IsLinked world
  pub stands : slice_get ks number ≡ Some (kept world)

-- These turns lead from the opening of the program to a world that is kept as this one is.
pub record IsAlikeAfter (p : Image) (v : Version) (order : List ℕ) (w : PlainWorld) : Type 0 where
  pub world : PlainWorld
  pub runs : Runs order (opened p v) world
  pub alike : kept world ≡ kept w

-- the turns to a state, if there is one, and those from there
abbrev pub order_after : List (List ℕ) → Option ℕ → List ℕ → List ℕ
order_after orders None turns = turns
order_after orders (Some number) turns = get_or orders number [] ++ turns

-- The state that turns lead from is there. If there is none, none is kept yet.
abbrev pub IsFrom : List PlainKept → Option ℕ → Type 0
IsFrom ks None = ks ≡ []
IsFrom ks (Some number) = number < length ks
