-- Room for settlements: what one takes is kept for each handler that is out.
use Rattle.std.specs.Prelude.{◌≡◌, ◌≤◌, ◌+◌, ◌*◌, ◌^◌, ℕ, Bool, true, false, Result, Ok, Err, vec_len, vec_capacity}
use Rattle.sc_request.specs.declared.center.Core as coded
use Rattle.sc_request.specs.declared.settlement.SettleFault.{SettleFault}
use Rattle.sc_request.specs.declared.settlement.SettleFault.TheVariants.{NotOut, OutOfMemory}

-- There is room to settle each handler that is out, and so many more: a place in some queue, and in the log an entry,
-- a packed settlement and as many values as the two lists of a settlement may have, with a number of 32 bits for each.
pub record HasRoomFor (more : ℕ) (c : coded.Core) : Type 0 where
  pub places : c.outs + more ≤ c.spare
  pub entries : vec_len c.log.entries + (c.outs + more) ≤ vec_capacity c.log.entries
  pub packed : vec_len c.log.packed + (c.outs + more) ≤ vec_capacity c.log.packed
  pub values : vec_len c.log.values + 32 * (c.outs + more) ≤ vec_capacity c.log.values
  pub packed_numbers : vec_len c.log.packed + (c.outs + more) ≤ 2 ^ 32
  pub value_numbers : vec_len c.log.values + 32 * (c.outs + more) ≤ 2 ^ 32

-- ---- what a settlement answers

abbrev pub is_not_out : Result Unit SettleFault → Bool
is_not_out (Ok u) = false
is_not_out (Err (NotOut h)) = true
is_not_out (Err OutOfMemory) = false

-- The handler that is said not to be out is this one.
abbrev pub IsNamed : ℕ → SettleFault → Type 0
IsNamed handler (NotOut h) = h ≡ handler
IsNamed handler OutOfMemory = Unit {0}

-- there was no memory for it
abbrev pub is_short : Result Unit SettleFault → Bool
is_short (Ok u) = false
is_short (Err (NotOut h)) = false
is_short (Err OutOfMemory) = true
