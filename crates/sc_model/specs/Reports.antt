-- The statuses of handlers, and the report of a run.
use Rattle.std.specs.Prelude.{ℕ, zero, suc, ◌-◌, Bool, true, false, ◌||◌, List, [], ◌∷◌, ◌++◌, Option, Some, None, length, codes}
use Rattle.std.specs.Fmt.{decimal}
use Rattle.sc_model.specs.declared.cause.Cause.{Cause}
use Rattle.sc_model.specs.declared.cause.Cause.TheVariants as cause
use Rattle.sc_model.specs.declared.status.Status.{Status}
use Rattle.sc_model.specs.declared.status.Status.TheVariants.{Failed, Busy, Waiting, Free}
use Rattle.sc_model.specs.Handlers.{Frame, Handler, World}
use Rattle.sc_model.specs.Runs.{has_turn}

abbrev pub status_with : Option Cause → Bool → List Frame → Status
status_with (Some why) has_turn stack = Failed why
status_with None true stack = Busy
status_with None false (f ∷ below) = Waiting
status_with None false [] = Free

-- the status of the handler
abbrev pub status_of : ℕ → World → Status
status_of h w = status_with (w.handlers h).failure (has_turn h w) (w.handlers h).stack

-- one of the first `n` handlers has a turn
abbrev pub some_has_turn : ℕ → World → Bool
some_has_turn zero w = false
some_has_turn (suc n) w = has_turn n w || some_has_turn n w

-- ---- text

abbrev pub cause_code : Cause → List ℕ
cause_code cause.Invariant = codes "F1"
cause_code cause.Postcondition = codes "F2"
cause_code cause.Check = codes "F3"
cause_code cause.Precondition = codes "F4"
cause_code cause.Overflow = codes "F5"
cause_code cause.DivideByZero = codes "F6"
cause_code cause.UnsetEntity = codes "F7"
cause_code cause.SupplierFailed = codes "F8"
cause_code cause.TooManyHandlers = codes "F9"
cause_code cause.TooManyObjects = codes "F10"
cause_code cause.StackFull = codes "F11"
cause_code cause.QueueFull = codes "F12"
cause_code cause.NotHeld = codes "F13"
cause_code cause.ForeignObject = codes "F14"
cause_code cause.VoidTarget = codes "F15"
cause_code cause.BadCode = codes "F16"

abbrev pub status_text : Status → List ℕ
status_text (Failed why) = codes "failed " ++ cause_code why
status_text Busy = codes "busy"
status_text Waiting = codes "waiting"
status_text Free = codes "free"

abbrev pub line_feed : List ℕ
line_feed = 10 ∷ []

-- a handler's line, and its output with a line feed after it
abbrev pub handler_report : ℕ → Handler → Status → List ℕ
handler_report h x status =
    codes "handler " ++ decimal h ++ codes " " ++ status_text status
    ++ codes " refused " ++ decimal x.refused ++ codes " output " ++ decimal (length x.output) ++ line_feed
    ++ x.output ++ line_feed

-- the last `n` handlers
abbrev pub handlers_report : ℕ → World → List ℕ
handlers_report zero w = []
handlers_report (suc n) w =
    let h : ℕ = w.count - suc n in handler_report h (w.handlers h) (status_of h w) ++ handlers_report n w

abbrev pub end_text : Bool → List ℕ
end_text true = codes "stopped limit"
end_text false = codes "stopped idle"

-- each handler in order of number, and how the run has ended
abbrev pub report : World → List ℕ
report w = handlers_report w.count w ++ end_text (some_has_turn w.count w) ++ line_feed
