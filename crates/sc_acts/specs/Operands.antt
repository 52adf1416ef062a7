-- What operands an operation takes.
use Rattle.std.specs.Prelude.{ℕ, not, ◌&&◌, Bool, length, nat_lt}
use Rattle.sc_region.specs.Frames.{PlainActivation}

-- There are this number of operands, and a request has room for as many actuals.
abbrev pub has_actuals : ℕ → PlainActivation → Bool
has_actuals n a = nat_lt n 17 && not (nat_lt (length a.operands.values) n)

-- There are this number of operands with a target below them, and a request has room for as many actuals.
abbrev pub has_call : ℕ → PlainActivation → Bool
has_call n a = nat_lt n 17 && nat_lt n (length a.operands.values)
