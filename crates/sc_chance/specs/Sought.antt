-- What is looked for among runs.
use Rattle.std.specs.Prelude.{ℕ, ◌&&◌, Bool, true, false, List, Option, Some, None, not}
use Rattle.std.specs.List.{list_any}
use Rattle.std.specs.Str.{bytes_eq}
use Rattle.sc_model.specs.declared.status.Status.{Status}
use Rattle.sc_model.specs.declared.status.Status.TheVariants.{Failed, Busy, Waiting, Free}
use Rattle.sc_chance.specs.declared.judging.Kind.{Kind}
use Rattle.sc_chance.specs.declared.judging.Kind.TheVariants as kind
use Rattle.sc_chance.specs.declared.judging.Sought.{Sought}
use Rattle.sc_chance.specs.declared.judging.Sought.TheVariants as sought
use Rattle.sc_chance.specs.declared.playing.ChanceRun.{ChanceRun}

-- the status is of this kind
abbrev pub is_of : Kind → Status → Bool
is_of kind.HasFailed (Failed why) = true
is_of kind.HasFailed Busy = false
is_of kind.HasFailed Waiting = false
is_of kind.HasFailed Free = false
is_of kind.IsBusy (Failed why) = false
is_of kind.IsBusy Busy = true
is_of kind.IsBusy Waiting = false
is_of kind.IsBusy Free = false
is_of kind.IsWaiting (Failed why) = false
is_of kind.IsWaiting Busy = false
is_of kind.IsWaiting Waiting = true
is_of kind.IsWaiting Free = false

-- one of the statuses is of this kind
abbrev pub some_is : Kind → List Status → Bool
some_is k statuses = list_any (is_of k) statuses

-- the report is another one than the first, if there is a first
abbrev pub differs : Option (List ℕ) → List ℕ → Bool
differs None report = false
differs (Some first) report = not (bytes_eq first report)

-- The run shows what is looked for, if the first run had this report. Handlers are stuck if none has a job, and one
-- waits.
abbrev pub shows : Sought → ChanceRun → Option (List ℕ) → Bool
shows sought.Any run first = true
shows sought.Fails run first = some_is kind.HasFailed run.statuses.items
shows sought.Stuck run first =
    not (some_is kind.IsBusy run.statuses.items) && some_is kind.IsWaiting run.statuses.items
shows sought.Refused run first = run.has_refused
shows sought.Differs run first = differs first run.report.items
shows sought.Nothing run first = false
