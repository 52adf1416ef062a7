-- Turns of handlers, if the world is played anew before each turn.
use Rattle.std.specs.Prelude.{◌≡◌, ℕ, List, [], ◌∷◌}
use Rattle.sc_lockpass.specs.Versions.{most_handlers}
use Rattle.sc_lockpass.specs.declared.version.Version.{Version}
use Rattle.sc_model.specs.Runs.{opening, run}
use Rattle.sc_code.specs.declared.program.Image.{Image}
use Rattle.sc_code.specs.Programs.{IsProgramOf}
use Rattle.sc_code.specs.RequestRoom.{FitsRequests}
use Rattle.sc_tree.specs.Plain.{System}
use Rattle.sc_model.specs.Handlers as machine
use Rattle.sc_machine_laws.specs.states.Values.{WhereAccepted}
use Rattle.sc_world.specs.Kept.{AreKeptAlike, kept}
use Rattle.sc_world.specs.Turning.{IsTurn, Runs}
use Rattle.sc_world.specs.Worlds.{PlainWorld, opened}
use Rattle.sc_refines_world.specs.Standing.{StandsFor}

-- Turns of some handlers lead from the opening of the program to the world.
abbrev pub IsPlayed : Image → Version → PlainWorld → Type 0
IsPlayed p v w = (hs : List ℕ) × Runs hs (opened p v) w

-- The handlers make their turns one after the other, each in a world that was played anew. What is kept of that world is
-- the same as of the world after the turn before. So it is of the last world `y`, which is played anew too.
abbrev pub RunsAnew : Image → Version → List ℕ → PlainWorld → PlainWorld → Type 0
RunsAnew p v [] x y = IsPlayed p v y × (kept y ≡ kept x)
RunsAnew p v (h ∷ hs) x y =
    (u z : PlainWorld) × IsPlayed p v u × (kept u ≡ kept x) × IsTurn h u z × RunsAnew p v hs z y

-- What is kept of the world is the same as of one that represents the machine's state.
pub record IsKeptAs (s : System) (p : Image) (limit : ℕ) (w : machine.World) (y : PlainWorld) : Type 0 where
  pub world : PlainWorld
  pub stands : StandsFor s p w world
  pub alike : AreKeptAlike p limit world y

-- These turns lead a program's world to one of which the same is kept as of one that represents the machine's state
-- after the same turns.
abbrev pub AnewRunsAsMachine : Type 0
AnewRunsAsMachine = WhereAccepted λ s root.
    (p : Image) (v : Version) (hs : List ℕ) (y : PlainWorld) → IsProgramOf s root p → FitsRequests p →
    RunsAnew p v hs (opened p v) y →
    IsKeptAs s p (most_handlers v) (run (most_handlers v) s hs (opening s root)) y
