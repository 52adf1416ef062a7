-- Separate blocks that begin in memory.
use Rattle.std.proofs.Common.{◌≡◌, ℕ, ◌+◌, ◌<◌, ◌≤◌, [], length, ap, ◌∙◌}
use Rattle.std.specs.Prelude.{if◌then◌else◌}
use Rattle.sc_code.specs.Machine.{State, Hop, Opens, does, stuck, written, opens, popped}
use Rattle.sc_interp.specs.Standing.{actuals, without}
use Rattle.sc_interp.proofs.GoingOn.{less_is, more_is}
use Rattle.sc_interp.proofs.Operands.{popped_is, popped_none}

-- there are fewer operands
pub opens_short : (first n : ℕ) (f : State) → length f.values < n → opens first n (popped n [] f.values) f ≡ stuck f
opens_short first n f l = ap (λ o. opens first n o f) (popped_none n [] f.values l)

abbrev opened : ℕ → ℕ → State → Hop
opened first n f = does (Opens first n) (record (without n f) { slots = written first (actuals n f.values) f.slots })

-- there are no such slots
pub opens_outside : (first n : ℕ) (f : State) → n ≤ length f.values → length f.slots < first + n → opens first n (popped n [] f.values) f ≡ stuck f
opens_outside first n f l out =
    ap (λ o. opens first n o f) (popped_is n [] f.values l)
    ∙ ap (λ b. if b then stuck f else opened first n f) (less_is (length f.slots) (first + n) out)

pub opens_well : (first n : ℕ) (f : State) → n ≤ length f.values → first + n ≤ length f.slots →
    opens first n (popped n [] f.values) f ≡ does (Opens first n) (record (without n f) { slots = written first (actuals n f.values) f.slots })
opens_well first n f l fits =
    ap (λ o. opens first n o f) (popped_is n [] f.values l)
    ∙ ap (λ b. if b then stuck f else opened first n f) (more_is (length f.slots) (first + n) fits)
