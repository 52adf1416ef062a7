-- What is claimed of any world in memory of a text's program, whatever was refused memory before.
use Rattle.std.specs.Prelude.{◌≡◌, ℕ, List, Some, slice_get}
use Rattle.sc_tree.specs.Plain.{System}
use Rattle.sc_class.specs.ClassNames.{Root}
use Rattle.sc_model.specs.Handlers.{World}
use Rattle.sc_model.specs.Runs.{IsReached}
use Rattle.sc_code.specs.declared.program.Image.{Image}
use Rattle.sc_play.specs.Regions.{PlainRegion}
use Rattle.sc_world.specs.Worlds.{PlainWorld}
use Rattle.sc_refines_world.specs.Refining.{HasHeadline}
use Rattle.sc_refines_world.specs.Standing.{StandsNear}
use Rattle.sc_frontend.specs.Texts.{IsLoaded, IsRead, IsSound}

-- The text spells a system that is sound. The world is near a state that the machine on this system reaches, and of
-- that state the headline holds.
pub record StandsNearReached (text : List ℕ) (root : Root) (program : Image) (world : PlainWorld) : Type 0 where
  pub system : System
  pub read : IsRead text system
  pub sound : IsSound system root
  pub state : World
  pub reached : IsReached world.most system root state
  pub near : StandsNear system program state world
  pub headline : HasHeadline world.most system state

-- The first handler's region runs the program, as all do.
abbrev pub RunsProgram : Image → PlainWorld → Type 0
RunsProgram p w = (r : PlainRegion) → slice_get w.regions 0 ≡ Some r → r.store.program ≡ p

-- The world has the headline if it runs the program of a text that is accepted.
abbrev pub HasHeadlineAnyhow : PlainWorld → Type 0
HasHeadlineAnyhow w =
    (text : List ℕ) (root : Root) (program : Image) → IsLoaded text root program → RunsProgram program w →
    ∥ StandsNearReached text root program w ∥₁
