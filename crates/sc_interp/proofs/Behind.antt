-- Where a routine stands behind a visible operation.
use Rattle.std.proofs.Common.{◌≡◌, ℕ, ◌+◌, ◌<◌, ◌≤◌, List, drop, sym, ap, ◌∙◌, arith}
use Rattle.std.proofs.Math.Nat.{min-eq_left}
use Rattle.sc_code.specs.Machine.{Act, Does, does}
use Rattle.sc_model.specs.Objects.{Object}
use Rattle.sc_region.specs.Frames.{PlainActivation}
use Rattle.sc_interp.specs.Standing.{state_of, without}
use Rattle.sc_region.specs.Calls.{next_place, past}
use Rattle.sc_interp.specs.Values.{values_of}
use Rattle.sc_interp.proofs.Operands.{values_drop}

next_is : (place : ℕ) → place < 18446744073709551615 → place + 1 ≡ next_place place
next_is place l = let e : place + 1 ≤ 18446744073709551615 = omega (arith, l) in sym (min-eq_left e)

pub passes : (act : Act) (n : ℕ) (objects : List Object) (a : PlainActivation) → a.place < 18446744073709551615 →
    does act (without n (state_of objects a)) ≡ Does act (state_of objects (past n a))
passes act n objects a l =
    ap (λ vs. Does act (record (state_of objects a) { place = a.place + 1; values = vs })) (sym (values_drop n a.operands.values))
    ∙ ap (λ (p : ℕ). Does act (record (state_of objects a) { place = p; values = values_of (drop n a.operands.values) })) (next_is a.place l)
