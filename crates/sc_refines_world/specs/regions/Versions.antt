-- Whatever turns are made, the routines that run are what names mean in classes.
use Rattle.std.specs.Prelude.{ℕ, List, [], ◌∷◌}
use Rattle.sc_tree.specs.Plain.{System}
use Rattle.sc_model.specs.Handlers.{Frame}
use Rattle.sc_refines_world.specs.regions.RegionTurns.{Half, Task, taken_turn, turn}
use Rattle.sc_refines_world.specs.regions.Waiting.{IsVersion}

-- The routine of each frame is what a name means in a class.
abbrev pub AreVersions : System → List Frame → Type 0
AreVersions s [] = Unit {0}
AreVersions s (f ∷ below) = IsVersion s f.routine × AreVersions s below

-- That is still so after a turn.
abbrev pub TurnsKeepVersions : Type 0
TurnsKeepVersions = (s : System) (h : ℕ) (x : Half) → AreVersions s x.stack → AreVersions s (turn s h x).stack

-- It is still so after the first turn under a job.
abbrev pub JobsKeepVersions : Type 0
JobsKeepVersions = (s : System) (h : ℕ) (j : Task) (x : Half) → AreVersions s x.stack →
    AreVersions s (taken_turn s h j x).stack
