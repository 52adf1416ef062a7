-- When a run passes as a test.
use Rattle.std.specs.Prelude.{ℕ, zero, suc, ◌==◌, ◌&&◌, Bool, true, false}
use Rattle.sc_model.specs.declared.status.Status.{Status}
use Rattle.sc_model.specs.declared.status.Status.TheVariants.{Busy, Failed, Free, Waiting}
use Rattle.sc_request.specs.Logs.{Center, status_in}

abbrev pub is_free : Status → Bool
is_free Free = true
is_free (Failed why) = false
is_free Busy = false
is_free Waiting = false

-- the handler of the number is free, and has refused no request
abbrev pub is_done : ℕ → Center → Bool
is_done h c = is_free (status_in h c) && (c.state.handlers h).refused == 0

-- so are the first `n` handlers
abbrev pub are_done : ℕ → Center → Bool
are_done zero c = true
are_done (suc n) c = is_done n c && are_done n c

-- Every handler is free, so that none has anything to do, and none has refused a request.
abbrev pub passes : Center → Bool
passes c = are_done c.state.count c
