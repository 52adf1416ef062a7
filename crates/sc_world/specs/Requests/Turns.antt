-- What turns leave of the requests that a store serves.
use Rattle.std.specs.Prelude.{◌≡◌, ℕ, ◌+◌, ◌-◌, Bool, true, false}
use Rattle.sc_region.specs.declared.job.Job.{Job}
use Rattle.sc_region.specs.declared.job.Job.TheVariants as job
use Rattle.sc_region.specs.declared.job.Outcome.{Outcome}
use Rattle.sc_region.specs.declared.job.Want.{Want}
use Rattle.sc_region.specs.declared.job.Want.TheVariants as want
use Rattle.sc_region.specs.Stores.{PlainStore}
use Rattle.sc_play.specs.Regions.{PlainRegion, Plays, IsRefused}
use Rattle.sc_play.specs.Turns.{FirstTurn, TurnOf}
use Rattle.sc_world.specs.Requests.Serving.{Serves}

-- how many requests a handler serves under the job, after serving this number before
abbrev pub served_under : Job → ℕ → ℕ
served_under (job.Take r) n = n + 1
served_under (job.Reply v) n = n
served_under job.Failed n = n
served_under job.Refused n = n
served_under (job.Granted ks) n = n
served_under (job.Made k) n = n
served_under job.Go n = n

-- how many are left of this number, if a turn wants this
abbrev pub left_after : Want → ℕ → ℕ
left_after want.Continue n = n
left_after (want.Reserve ks) n = n
left_after (want.Post r) n = n
left_after (want.Ask r passes) n = n
left_after (want.Create class procedure actuals passes) n = n
left_after (want.Release ks) n = n
left_after (want.Wait ks) n = n
left_after (want.Done v ks refused) n = n - 1
left_after (want.Fail why) n = n

abbrev pub is_failure : Want → Bool
is_failure want.Continue = false
is_failure (want.Reserve ks) = false
is_failure (want.Post r) = false
is_failure (want.Ask r passes) = false
is_failure (want.Create class procedure actuals passes) = false
is_failure (want.Release ks) = false
is_failure (want.Wait ks) = false
is_failure (want.Done v ks refused) = false
is_failure (want.Fail why) = true

-- Of this number of requests the store serves those that are left if a turn wants this, unless that is a failure.
abbrev pub ServesAfter : Want → ℕ → PlainStore → Type 0
ServesAfter w n y = is_failure w ≡ false → Serves (left_after w n) y

-- The first turn under a job serves one request more if that is taken, and one less if it is done.
abbrev pub FirstTurnsServe : Type 0
FirstTurnsServe =
    (h : ℕ) (is_told : Bool) (j : Job) (x y : PlainStore) (w : Want) (n : ℕ) → Serves n x →
    FirstTurn h is_told j x y w →
    ServesAfter w (served_under j n) y

-- So does a further turn.
abbrev pub FurtherTurnsServe : Type 0
FurtherTurnsServe = (h : ℕ) (x y : PlainStore) (w : Want) (n : ℕ) → Serves n x → TurnOf h x y w → ServesAfter w n y

-- So do all turns that a region plays under a job.
abbrev pub RegionsServe : Type 0
RegionsServe =
    (limit : ℕ) (j : Job) (x y : PlainRegion) (o : Outcome) (n : ℕ) → Serves n x.store → Plays limit j x y o →
    ServesAfter o.want (served_under j n) y.store

-- A turn that was refused memory leaves the requests that are served.
abbrev pub RefusedRegionsServe : Type 0
RefusedRegionsServe = (j : Job) (x y : PlainRegion) (n : ℕ) → Serves n x.store → IsRefused j x y → Serves n y.store
