-- A routine that is to be given a value has room for it.
use Rattle.std.specs.Prelude.{◌≡◌, ◌<◌, ℕ, Bool, true, false, List, [], ◌∷◌, Option, is_some, length}
use Rattle.sc_region.specs.declared.frame.Stage.{Stage}
use Rattle.sc_region.specs.declared.frame.Stage.TheVariants as stage
use Rattle.sc_region.specs.declared.value.Value.{Value}
use Rattle.sc_region.specs.Frames.{PlainActivation, PlainFrame}
use Rattle.sc_region.specs.Stores.{PlainStore}
use Rattle.sc_acts.specs.declared.act.Act.{Act}
use Rattle.sc_acts.specs.declared.act.Act.TheVariants as act
use Rattle.sc_interp.specs.declared.hops.Hop.TheVariants as hop
use Rattle.sc_interp.specs.Playing.{Remains}
use Rattle.sc_interp.specs.Told.{IsTold}
use Rattle.sc_acts.specs.Acting.{acted}
use Rattle.sc_refines_world.specs.regions.Acting.{AreWhole, Comes, TopRuns, is_called}
use Rattle.sc_refines_world.specs.regions.Jobs.{TakesAnswer}
use Rattle.sc_refines_world.specs.regions.Told.{Turns}

-- A routine in this stage is to be given a value.
abbrev pub takes_value : Stage → Bool
takes_value (stage.InCall gives) = gives
takes_value (stage.Awaits k gives is_creation) = gives
takes_value stage.Runs = false
takes_value stage.Reserves = false
takes_value stage.ReservesBlock = false

-- If the routine is to be given a value, its operands have room for it.
abbrev pub HasRoom : PlainActivation → Type 0
HasRoom a = takes_value a.stage ≡ true → length a.operands.values < a.operands.depth

-- Each of the frames has room for the value that it is to be given.
abbrev pub HaveRoom : List PlainFrame → Type 0
HaveRoom [] = Unit {0}
HaveRoom (f ∷ below) = HasRoom f.activation × HaveRoom below

-- If each frame has room and the topmost routine is ready for a visible operation, each has room after it.
abbrev pub RoomIsKept : Type 0
RoomIsKept = (h : ℕ) (a : Act) (y z : PlainStore) → TopRuns y → Remains y z → IsTold (hop.Comes a) z →
    HaveRoom y.frames → HaveRoom (acted h a z).frames

-- If the caller takes a value, `v` is one. The caller is the first of the frames.
abbrev pub GetsAs : Option Value → List PlainFrame → Type 0
GetsAs v [] = Unit {0}
GetsAs v (g ∷ gs) = g.activation.stage ≡ stage.InCall true → is_some v ≡ true

-- If the topmost routine was called and its caller takes a value, it has a Result.
abbrev pub HasResult : List PlainFrame → Type 0
HasResult [] = Unit {0}
HasResult (f ∷ below) = is_called f.activation.origin ≡ true → GetsAs f.activation.result below

-- If each frame has room for the value that it is to be given, the end of a routine does what its definition says.
abbrev pub RoutinesEndWithRoom : Type 0
RoutinesEndWithRoom = (h : ℕ) (y z : PlainStore) → Comes (hop.Comes act.Exit) y z → AreWhole z → HaveRoom z.frames →
    HasResult z.frames → Turns h act.Exit y z

-- If the topmost routine waits for an answer with a value, `v` is one.
abbrev pub GetsAnswer : Option Value → List PlainFrame → Type 0
GetsAnswer v [] = Unit {0}
GetsAnswer v (g ∷ gs) = (k : ℕ) (is_creation : Bool) → g.activation.stage ≡ stage.Awaits k true is_creation →
    is_some v ≡ true

-- If each frame has room, the topmost routine has room for the answer that it waits for.
abbrev pub AnswersHaveRoom : Type 0
AnswersHaveRoom = (v : Option Value) (y : PlainStore) → HaveRoom y.frames → GetsAnswer v y.frames →
    TakesAnswer v y.frames
