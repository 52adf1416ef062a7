-- A job that begins does to a store what its definition does to the half that the store stands for.
use Rattle.std.specs.Prelude.{◌≡◌, ◌<◌, ℕ, Bool, true, List, [], ◌∷◌, Option, is_some, length}
use Rattle.std.specs.Option.{option_map}
use Rattle.sc_tree.specs.Plain.{System}
use Rattle.sc_model.specs.declared.cause.Cause.TheVariants as cause
use Rattle.sc_region.specs.declared.frame.Stage.TheVariants as stage
use Rattle.sc_region.specs.declared.value.Value.{Value}
use Rattle.sc_region.specs.Frames.{PlainFrame}
use Rattle.sc_region.specs.Stores.{PlainStore, failed}
use Rattle.sc_refines_world.specs.regions.RegionHalves.{IsRegionOf}
use Rattle.sc_refines_world.specs.regions.RegionSteps.{IsProgramFor}
use Rattle.sc_refines_world.specs.regions.RegionTurns.{Half, Task, Granted, Replied, SupplierFailed, WasRefused, taken_turn}
use Rattle.sc_interp.specs.Values.{value_of}
use Rattle.sc_play.specs.Answering.{granted, replied}

-- Whatever half `y` stands for, `z` stands for that half after the first turn under the job.
abbrev pub BeginsAs : Task → PlainStore → PlainStore → Type 0
BeginsAs job y z = (s : System) (h : ℕ) (x : Half) → IsProgramFor s y.program → IsRegionOf s x y →
    IsRegionOf s (taken_turn s h job x) z

-- If the supplier failed, or what was waited for was refused, the handler fails, as defined.
abbrev pub BadAnswersAreTaken : Type 0
BadAnswersAreTaken = (y : PlainStore) →
    BeginsAs SupplierFailed y (failed cause.SupplierFailed y) × BeginsAs WasRefused y (failed cause.Precondition y)

-- The job that grants the handlers of a reserve step does what its definition says.
abbrev pub GrantsAreTaken : Type 0
GrantsAreTaken = (ks : List ℕ) (y : PlainStore) → BeginsAs (Granted ks) y (granted ks y)

-- If the topmost routine waits for a value, `v` is one, and the routine has room for it.
abbrev pub TakesAnswer : Option Value → List PlainFrame → Type 0
TakesAnswer v [] = Unit {0}
TakesAnswer v (g ∷ gs) =
    (k : ℕ) (is_creation : Bool) → g.activation.stage ≡ stage.Awaits k true is_creation →
    (is_some v ≡ true) × (length g.activation.operands.values < g.activation.operands.depth)

-- The job that brings an answer does what its definition says.
abbrev pub AnswersAreTaken : Type 0
AnswersAreTaken = (v : Option Value) (y : PlainStore) → TakesAnswer v y.frames →
    BeginsAs (Replied (option_map value_of v)) y (replied v y)
