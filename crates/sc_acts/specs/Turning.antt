-- What visible operations make of a store.
use Rattle.std.specs.Prelude.{ℕ, ◌-◌, Option, Some, None, drop}
use Rattle.sc_model.specs.declared.cause.Cause.{Cause}
use Rattle.sc_region.specs.declared.job.Want.{Want}
use Rattle.sc_region.specs.declared.job.Want.TheVariants as want
use Rattle.sc_region.specs.Calls.{past}
use Rattle.sc_region.specs.Frames.{PlainActivation}

-- ---- the topmost routine

-- the last operand is removed, and the routine goes this number of operations back
abbrev pub back : ℕ → PlainActivation → PlainActivation
back n a = record a { place = a.place - n; operands = record a.operands { values = drop 1 a.operands.values } }

-- a loop ends, or its body comes again, this number of operations back
abbrev pub round_ended : Option ℕ → PlainActivation → PlainActivation
round_ended None a = past 1 a
round_ended (Some n) a = back n a

-- what is asked, where the store hasn't ended in a failure
abbrev pub unless_failed : Option Cause → Want → Want
unless_failed None w = w
unless_failed (Some why) w = want.Fail why
