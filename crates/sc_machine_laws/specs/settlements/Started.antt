-- Frames that reserve, and the frames below them on their handler's stack.
use Rattle.std.specs.Prelude.{◌≡◌, ℕ, Bool, true, false, List, [], ◌∷◌}
use Rattle.sc_tree.specs.Plain.{System}
use Rattle.sc_class.specs.ClassNames.{Root}
use Rattle.sc_model.specs.Handlers as machine
use Rattle.sc_model.specs.Runs.{IsReached}
use Rattle.sc_machine_laws.specs.states.Values.{WhereAccepted}
use Rattle.sc_machine_laws.specs.settlements.Entries.{HasStarted}

-- the frame's next step is a reserve step
abbrev pub reserves_next : machine.Stage → Bool
reserves_next machine.Reserves = true
reserves_next machine.ReservesBlock = true
reserves_next machine.Runs = false
reserves_next (machine.InCall gives) = false
reserves_next (machine.Awaits k gives is_creation) = false

-- No clause of the preconditions of these frames is left.
abbrev pub AllStarted : List machine.Frame → Type 0
AllStarted [] = Unit {0}
AllStarted (f ∷ below) = HasStarted f.tasks × AllStarted below

-- The routines below a frame that reserves have started, so none of them called it for a clause of a precondition.
abbrev pub ReservesOnStarted : machine.World → Type 0
ReservesOnStarted w = (h : ℕ) (f : machine.Frame) (below : List machine.Frame) → (w.handlers h).stack ≡ f ∷ below →
    reserves_next f.stage ≡ true → AllStarted below

-- This holds in each state that is reached.
abbrev pub EachOnStarted : ℕ → System → Root → Type 0
EachOnStarted most s root = (w : machine.World) → IsReached most s root w → ReservesOnStarted w

-- This holds of each accepted system, with any number of handlers.
abbrev pub ReserversOnStarted : Type 0
ReserversOnStarted = WhereAccepted λ s root. (most : ℕ) → EachOnStarted most s root
