-- Settlements, jobs and wants without their values, and with them again.
use Rattle.std.specs.Prelude.{ℕ, ◌+◌, Bool, if◌then◌else◌, List, [], ◌++◌, Option, None, is_some, option_to_list, length, take, drop, slice_get}
use Rattle.arrayvec.specs.ArrayVec.{ArrayVec}
use Rattle.sc_region.specs.declared.value.Value.{Value}
use Rattle.sc_region.specs.declared.job.Request.{Request}
use Rattle.sc_region.specs.declared.job.Job.{Job}
use Rattle.sc_region.specs.declared.job.Job.TheVariants as job
use Rattle.sc_region.specs.declared.job.Want.{Want}
use Rattle.sc_region.specs.declared.job.Want.TheVariants as want
use Rattle.sc_handler.specs.declared.packed.PackedRequest.{PackedRequest}
use Rattle.sc_handler.specs.declared.packed.PackedJob.{PackedJob}
use Rattle.sc_handler.specs.declared.packed.PackedJob.TheVariants as packed
use Rattle.sc_handler.specs.declared.packed.PackedWant.{PackedWant}
use Rattle.sc_handler.specs.declared.packed.PackedWant.TheVariants as packed_as
use Rattle.sc_handler.specs.declared.packed.PackedSettlement.{PackedSettlement}
use Rattle.sc_handler.specs.declared.settlement.Settlement.{Settlement}

-- ---- requests and values

abbrev pub packed_request : Request → PackedRequest
packed_request r = record {
  poster = r.poster;
  target = r.target;
  errand = r.errand;
  actuals = length r.actuals.items;
  is_waited = r.is_waited;
}

abbrev pub first_of_all : {A : Type 0} → ℕ → List A → ArrayVec A
first_of_all n xs = record { items = take n xs }

-- the request that has the first of these actuals
abbrev pub unpacked_request : PackedRequest → List Value → Request
unpacked_request p vs = record {
  poster = p.poster;
  target = p.target;
  errand = p.errand;
  actuals = first_of_all p.actuals vs;
  is_waited = p.is_waited;
}

-- the first value, where there is to be one
abbrev pub value_if : Bool → List Value → Option Value
value_if is_there vs = if is_there then slice_get vs 0 else None

abbrev pub count_if : Bool → ℕ
count_if is_there = if is_there then 1 else 0

-- ---- jobs

abbrev pub packed_job : Job → PackedJob
packed_job (job.Take r) = packed.Take (packed_request r)
packed_job (job.Reply v) = packed.Reply (is_some v)
packed_job job.Failed = packed.Failed
packed_job job.Refused = packed.Refused
packed_job (job.Granted ks) = packed.Granted ks
packed_job (job.Made k) = packed.Made k
packed_job job.Go = packed.Go

abbrev pub job_values : Job → List Value
job_values (job.Take r) = r.actuals.items
job_values (job.Reply v) = option_to_list v
job_values job.Failed = []
job_values job.Refused = []
job_values (job.Granted ks) = []
job_values (job.Made k) = []
job_values job.Go = []

abbrev pub values_in_job : PackedJob → ℕ
values_in_job (packed.Take p) = p.actuals
values_in_job (packed.Reply has_value) = count_if has_value
values_in_job packed.Failed = 0
values_in_job packed.Refused = 0
values_in_job (packed.Granted ks) = 0
values_in_job (packed.Made k) = 0
values_in_job packed.Go = 0

-- the job that has the first of these values
abbrev pub unpacked_job : PackedJob → List Value → Job
unpacked_job (packed.Take p) vs = job.Take (unpacked_request p vs)
unpacked_job (packed.Reply has_value) vs = job.Reply (value_if has_value vs)
unpacked_job packed.Failed vs = job.Failed
unpacked_job packed.Refused vs = job.Refused
unpacked_job (packed.Granted ks) vs = job.Granted ks
unpacked_job (packed.Made k) vs = job.Made k
unpacked_job packed.Go vs = job.Go

-- ---- wants

abbrev pub packed_want : Want → PackedWant
packed_want want.Continue = packed_as.Continue
packed_want (want.Reserve ks) = packed_as.Reserve ks
packed_want (want.Post r) = packed_as.Post (packed_request r)
packed_want (want.Ask r passes) = packed_as.Ask (packed_request r) passes
packed_want (want.Create class procedure actuals passes) =
    packed_as.Create class procedure (length actuals.items) passes
packed_want (want.Release ks) = packed_as.Release ks
packed_want (want.Wait ks) = packed_as.Wait ks
packed_want (want.Done v ks refused) = packed_as.Done ks (is_some v) refused
packed_want (want.Fail why) = packed_as.Fail why

abbrev pub want_values : Want → List Value
want_values want.Continue = []
want_values (want.Reserve ks) = []
want_values (want.Post r) = r.actuals.items
want_values (want.Ask r passes) = r.actuals.items
want_values (want.Create class procedure actuals passes) = actuals.items
want_values (want.Release ks) = []
want_values (want.Wait ks) = []
want_values (want.Done v ks refused) = option_to_list v
want_values (want.Fail why) = []

abbrev pub values_in_want : PackedWant → ℕ
values_in_want packed_as.Continue = 0
values_in_want (packed_as.Reserve ks) = 0
values_in_want (packed_as.Post p) = p.actuals
values_in_want (packed_as.Ask p passes) = p.actuals
values_in_want (packed_as.Create class procedure n passes) = n
values_in_want (packed_as.Release ks) = 0
values_in_want (packed_as.Wait ks) = 0
values_in_want (packed_as.Done ks has_reply refused) = count_if has_reply
values_in_want (packed_as.Fail why) = 0

-- the want that has the first of these values
abbrev pub unpacked_want : PackedWant → List Value → Want
unpacked_want packed_as.Continue vs = want.Continue
unpacked_want (packed_as.Reserve ks) vs = want.Reserve ks
unpacked_want (packed_as.Post p) vs = want.Post (unpacked_request p vs)
unpacked_want (packed_as.Ask p passes) vs = want.Ask (unpacked_request p vs) passes
unpacked_want (packed_as.Create class procedure n passes) vs = want.Create class procedure (first_of_all n vs) passes
unpacked_want (packed_as.Release ks) vs = want.Release ks
unpacked_want (packed_as.Wait ks) vs = want.Wait ks
unpacked_want (packed_as.Done ks has_reply refused) vs = want.Done (value_if has_reply vs) ks refused
unpacked_want (packed_as.Fail why) vs = want.Fail why

-- ---- settlements

-- so many turns of a handler that was out with the job, the last of which asks this
abbrev pub packed_of : ℕ → Job → ℕ → Want → PackedSettlement
packed_of h j turns w = record { handler = h; turns = turns; job = packed_job j; want = packed_want w }

abbrev pub packed_settlement : Settlement → PackedSettlement
packed_settlement s = packed_of s.handler s.job s.turns s.want

-- those of its job, then those of its want
abbrev pub values_of : Settlement → List Value
values_of s = job_values s.job ++ want_values s.want

abbrev pub values_in : PackedSettlement → ℕ
values_in p = values_in_job p.job + values_in_want p.want

-- the settlement that has the first of these values
abbrev pub unpacked : PackedSettlement → List Value → Settlement
unpacked p vs = record {
  handler = p.handler;
  job = unpacked_job p.job vs;
  turns = p.turns;
  want = unpacked_want p.want (drop (values_in_job p.job) vs);
}
