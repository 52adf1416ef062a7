-- The statuses of a world's handlers, and the report of a run.
use Rattle.std.specs.Prelude.{ℕ, zero, suc, ◌-◌, Bool, true, false, ◌||◌, List, [], ◌++◌, Option, Some, None, length, map, codes, slice_get}
use Rattle.std.specs.Fmt.{decimal}
use Rattle.std.specs.List.{range_with_len}
use Rattle.sc_model.specs.declared.status.Status.{Status}
use Rattle.sc_model.specs.declared.status.Status.TheVariants.{Failed, Busy, Waiting, Free}
use Rattle.sc_model.specs.Reports.{end_text, line_feed, status_text}
use Rattle.sc_request.specs.Logs.{status_in}
use Rattle.sc_play.specs.Regions.{PlainRegion}
use Rattle.sc_world.specs.Worlds.{PlainWorld}

-- the status of each handler, in order of number
abbrev pub statuses : PlainWorld → List Status
statuses w = map (λ h. status_in h w.center) (range_with_len 0 w.center.state.count)

abbrev pub is_busy : Status → Bool
is_busy (Failed why) = false
is_busy Busy = true
is_busy Waiting = false
is_busy Free = false

-- one of the first `n` handlers has a job
abbrev pub some_is_busy : ℕ → PlainWorld → Bool
some_is_busy zero w = false
some_is_busy (suc n) w = is_busy (status_in n w.center) || some_is_busy n w

-- ---- text

-- the line of a handler, which refused this number of requests, and its output with a line feed after it
abbrev pub handler_report : ℕ → Status → ℕ → List ℕ → List ℕ
handler_report h status refused output =
    codes "handler " ++ decimal h ++ codes " " ++ status_text status
    ++ codes " refused " ++ decimal refused ++ codes " output " ++ decimal (length output) ++ line_feed
    ++ output ++ line_feed

abbrev pub output_in : Option PlainRegion → List ℕ
output_in None = []
output_in (Some x) = x.store.output

-- the line and the output of the handler of the number
abbrev pub report_of : ℕ → PlainWorld → List ℕ
report_of h w =
    handler_report h (status_in h w.center) (w.center.state.handlers h).refused (output_in (slice_get w.regions h))

-- the last `n` handlers
abbrev pub handlers_report : ℕ → PlainWorld → List ℕ
handlers_report zero w = []
handlers_report (suc n) w = report_of (w.center.state.count - suc n) w ++ handlers_report n w

-- each handler in order of number, and how the run has ended
abbrev pub report : PlainWorld → List ℕ
report w = handlers_report w.center.state.count w ++ end_text (some_is_busy w.center.state.count w) ++ line_feed
