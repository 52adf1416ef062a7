-- Laws of silent operations, and of visible ones.
use Rattle.std.specs.Prelude.{◌≡◌, ◌<◌, ◌-◌, ℕ, List, length}
use Rattle.sc_tree.specs.Plain.{System}
use Rattle.sc_model.specs.Values.{Reference}
use Rattle.sc_code.specs.Machine.{Act, Code, State, Goes, Does, does, hop}
use Rattle.sc_model.specs.Objects.{Object}
use Rattle.sc_region.specs.Frames.{PlainActivation}
use Rattle.sc_interp.specs.Standing.{state_of, without}
use Rattle.sc_region.specs.Calls.{past}

-- A silent operation goes forward: less of the code lies after its place than before.
abbrev pub SilentOperationsFall : Type 0
SilentOperationsFall = (s : System) (c : Code) (me : Reference) (f g : State) → hop s c me f ≡ Goes g →
    length c.operations - g.place < length c.operations - f.place

-- After a visible operation that takes `n` operands, the routine has the state of flat code, if the next place fits
-- into 64 bits.
abbrev pub VisibleOperationsPass : Type 0
VisibleOperationsPass = (act : Act) (n : ℕ) (objects : List Object) (a : PlainActivation) →
    a.place < 18446744073709551615 →
    does act (without n (state_of objects a)) ≡ Does act (state_of objects (past n a))
