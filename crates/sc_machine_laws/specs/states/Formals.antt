-- The handlers that a routine holds while it runs: those of its formals, and of the names of its open blocks.
use Rattle.std.specs.Prelude.{ℕ, ◌≡◌, Bool, true, false, List, ◌∷◌, take, Some, None, Contains}
use Rattle.sc_lockpass.specs.Rights.{held}
use Rattle.sc_model.specs.Values.{Value, handler_of}
use Rattle.sc_model.specs.Environments.{Binding, separate_formals, block_values}
use Rattle.sc_model.specs.Tasks.{Task, Do, Leave}
use Rattle.sc_model.specs.Handlers.{Stage, Runs, Reserves, ReservesBlock, InCall, Awaits, Frame, World}

-- The frame is past its reserve step, and doesn't wait for an answer.
abbrev pub goes_on : Stage → Bool
goes_on Runs = true
goes_on Reserves = false
goes_on ReservesBlock = true
goes_on (InCall gives) = true
goes_on (Awaits k gives is_creation) = false

-- A handler whose topmost frame goes on holds the handlers of that frame's attached separate formals.
abbrev pub FormalsAreHeld : World → Type 0
FormalsAreHeld w =
    (h k : ℕ) (f : Frame) (below : List Frame) (v : Value) → (w.handlers h).failure ≡ None →
    (w.handlers h).stack ≡ f ∷ below
    → goes_on f.stage ≡ true → Contains (separate_formals f.environment) v → handler_of v ≡ Some k →
    held w.rights h k ≡ true

-- the bindings of the frame, without the names of a block that is about to reserve: the body of that block comes
-- next, and its end forgets these names
abbrev pub before_reserve : Stage → List Task → List Binding → List Binding
before_reserve ReservesBlock (Do body ∷ Leave depth ∷ ts) bs = take depth bs
before_reserve stage ts bs = bs

-- the values of the names of all open blocks that are past their reserve step
abbrev pub open_names : Frame → List Value
open_names f = block_values (before_reserve f.stage f.tasks f.environment)

-- A handler whose topmost frame goes on holds the handlers of the names of that frame's open blocks.
abbrev pub NamesAreHeld : World → Type 0
NamesAreHeld w =
    (h k : ℕ) (f : Frame) (below : List Frame) (v : Value) → (w.handlers h).failure ≡ None →
    (w.handlers h).stack ≡ f ∷ below
    → goes_on f.stage ≡ true → Contains (open_names f) v → handler_of v ≡ Some k → held w.rights h k ≡ true
