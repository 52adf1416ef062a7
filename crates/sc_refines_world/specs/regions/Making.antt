-- How a creator's store changes when the creator learns the number of its new handler.
use Rattle.std.specs.Prelude.{◌≡◌, ℕ, true, false, Some}
use Rattle.sc_tree.specs.Plain.{System}
use Rattle.sc_region.specs.declared.frame.Stage.TheVariants as stage
use Rattle.sc_region.specs.Stores.{PlainStore}
use Rattle.sc_refines_world.specs.regions.RegionHalves.{IsRegionOf}
use Rattle.sc_refines_world.specs.regions.RegionTurns.{Half, Made, taken_turn, told_frames, with_stack}
use Rattle.sc_region.specs.Calls.{on_top}
use Rattle.sc_play.specs.Answering.{runs, told, top_stage}

-- the half after its topmost frame has learned the number of the handler that it made
abbrev pub told_half : ℕ → Half → Half
told_half k x = with_stack (told_frames k x.stack) x

-- The creator learns the number in memory as in the half.
abbrev pub CreatorsAreTold : Type 0
CreatorsAreTold = (k : ℕ) (y : PlainStore) (s : System) (x : Half) → IsRegionOf s x y →
    IsRegionOf s (told_half k x) (told k y)

-- With lock passing the number is the answer: a creator that waits goes on. A creation gives no value.
abbrev pub MadeAreAnswers : Type 0
MadeAreAnswers = (h j k : ℕ) (y : PlainStore) (s : System) (x : Half) → IsRegionOf s (told_half k x) y →
    top_stage y ≡ Some (stage.Awaits j false true) →
    IsRegionOf s (taken_turn s h (Made k) x) (on_top runs y)
