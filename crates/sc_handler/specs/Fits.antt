-- Whether what a handler's turns ask fits the job that they were made under.
use Rattle.std.specs.Prelude.{ℕ, zero, suc, Bool, true, false, not, ◌&&◌, List, [], ◌∷◌, ◌==◌}
use Rattle.sc_lockpass.specs.Rights.{is_handler}
use Rattle.sc_model.specs.declared.cause.Cause.TheVariants as cause
use Rattle.sc_region.specs.declared.job.Errand.{Errand}
use Rattle.sc_region.specs.declared.job.Errand.TheVariants.{Calls, Makes}
use Rattle.sc_region.specs.declared.job.Request.{Request}
use Rattle.sc_region.specs.declared.job.Job.{Job}
use Rattle.sc_region.specs.declared.job.Job.TheVariants as job
use Rattle.sc_region.specs.declared.job.Want.{Want}
use Rattle.sc_region.specs.declared.job.Want.TheVariants.{Continue, Reserve, Done, Fail}
use Rattle.sc_handler.specs.Handlers.{HandlerStage, Awaits}

abbrev pub is_call : Errand → Bool
is_call (Calls x) = true
is_call (Makes k) = false

-- a call on an object of another handler, in the handler's own name
abbrev pub is_request_of : ℕ → Request → Bool
is_request_of h r = is_handler h r.poster && is_call r.errand && not (r.target.handler == h)

abbrev pub is_none_of : List ℕ → Bool
is_none_of [] = true
is_none_of (k ∷ ks) = false

-- the turn that takes a request may begin a routine, or be done with the request
abbrev pub may_take : Want → Bool
may_take Continue = true
may_take (Reserve ks) = true
may_take (Done v ks refused) = not refused && is_none_of ks.items
may_take (Fail why) = true
may_take w = false

-- the turn that takes an answer or reserves does no more
abbrev pub may_take_answer : Want → Bool
may_take_answer Continue = true
may_take_answer (Fail why) = true
may_take_answer w = false

abbrev pub fails_by_supplier : Want → Bool
fails_by_supplier (Fail cause.SupplierFailed) = true
fails_by_supplier w = false

abbrev pub fails_by_precondition : Want → Bool
fails_by_precondition (Fail cause.Precondition) = true
fails_by_precondition w = false

-- The handler's first turn under the job may ask this, where it stood so.
abbrev pub fits_first : HandlerStage → Job → Want → Bool
fits_first stage (job.Take r) w = may_take w
fits_first stage (job.Reply v) w = may_take_answer w
fits_first stage job.Failed w = fails_by_supplier w
fits_first stage job.Refused w = fails_by_precondition w
fits_first stage (job.Granted ks) w = may_take_answer w
fits_first (Awaits k is_creation) (job.Made j) w = may_take_answer w
fits_first stage (job.Made j) w = true
fits_first stage job.Go w = true

-- A further turn may come under it.
abbrev pub goes_on : Job → Bool
goes_on (job.Take r) = true
goes_on (job.Reply v) = true
goes_on job.Failed = false
goes_on job.Refused = false
goes_on (job.Granted ks) = true
goes_on (job.Made k) = true
goes_on job.Go = true

-- the last of so many turns
abbrev pub fits_turns : ℕ → HandlerStage → Job → Want → Bool
fits_turns zero stage j w = false
fits_turns (suc zero) stage j w = fits_first stage j w
fits_turns (suc (suc n)) stage j w = goes_on j
