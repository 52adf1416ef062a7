-- Class invariants in each state of the machine that is reached.
use Rattle.std.specs.Prelude.{ℕ}
use Rattle.sc_model.specs.Handlers.{World}
use Rattle.sc_model.specs.Runs.{IsReached}
use Rattle.sc_model.specs.Settled.{FreeObjectsMeet, SettledObjectsMeet}
use Rattle.sc_model.specs.Turns.{turn}
use Rattle.sc_machine_laws.specs.states.Values.{WhereAccepted}

-- Each settled object meets its class invariant (ECMA-367, 8.9.16).
abbrev pub SettledMeetWhereReached : Type 0
SettledMeetWhereReached = WhereAccepted λ s root. (most : ℕ) (w : World) → IsReached most s root w →
    SettledObjectsMeet s w

-- Each settled object meets its class invariant after the turn of any handler.
abbrev pub SettledMeetAfterTurns : Type 0
SettledMeetAfterTurns = WhereAccepted λ s root. (most h : ℕ) (w : World) → IsReached most s root w →
    SettledObjectsMeet s (turn most s h w)

-- Each object of a free handler meets its class invariant.
abbrev pub FreeMeetWhereReached : Type 0
FreeMeetWhereReached = WhereAccepted λ s root. (most : ℕ) (w : World) → IsReached most s root w → FreeObjectsMeet s w
