-- What a settlement looks at of a job.
use Rattle.std.specs.Prelude.{false, [], None}
use Rattle.sc_region.specs.declared.job.Errand.TheVariants.{Makes}
use Rattle.sc_region.specs.declared.job.Request.{Request}
use Rattle.sc_region.specs.declared.job.Job.{Job}
use Rattle.sc_region.specs.declared.job.Job.TheVariants as job
use Rattle.sc_handler.specs.declared.job_kind.JobKind.{JobKind}
use Rattle.sc_handler.specs.declared.job_kind.JobKind.TheVariants as kind

-- what a job is, but for its values: all that its settlement looks at
abbrev pub kind_of : Job → JobKind
kind_of (job.Take r) = kind.Take
kind_of (job.Reply v) = kind.Reply
kind_of job.Failed = kind.Failed
kind_of job.Refused = kind.Refused
kind_of (job.Granted ks) = kind.Granted ks
kind_of (job.Made k) = kind.Made
kind_of job.Go = kind.Go

-- a request, whatever it is for
abbrev pub some_request : Request
some_request = record {
  poster = None;
  target = record { handler = 0; number = 0; class = 0 };
  errand = Makes None;
  actuals = record { items = [] };
  is_waited = false;
}

-- a job of the kind
abbrev pub of_kind : JobKind → Job
of_kind kind.Take = job.Take some_request
of_kind kind.Reply = job.Reply None
of_kind kind.Failed = job.Failed
of_kind kind.Refused = job.Refused
of_kind (kind.Granted ks) = job.Granted ks
of_kind kind.Made = job.Made 0
of_kind kind.Go = job.Go
