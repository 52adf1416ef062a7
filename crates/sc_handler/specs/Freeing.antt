-- What a settlement may free: rights, sessions, or its handler.
use Rattle.std.specs.Prelude.{Bool, true, false, ◌||◌}
use Rattle.sc_region.specs.declared.job.Job.{Job}
use Rattle.sc_region.specs.declared.job.Job.TheVariants as job
use Rattle.sc_region.specs.declared.job.Want.{Want}
use Rattle.sc_region.specs.declared.job.Want.TheVariants.{Continue, Reserve, Post, Ask, Create, Release, Wait, Done, Fail}

-- under this job rights may change, or sessions end
abbrev pub frees_under : Job → Bool
frees_under (job.Take r) = false
frees_under (job.Reply v) = false
frees_under job.Failed = false
frees_under job.Refused = false
frees_under (job.Granted ks) = true
frees_under (job.Made k) = true
frees_under job.Go = false

-- by what this asks rights may change, or sessions end, or a handler becomes idle
abbrev pub frees_by : Want → Bool
frees_by Continue = false
frees_by (Reserve ks) = false
frees_by (Post r) = false
frees_by (Ask r passing) = passing
frees_by (Create class procedure actuals passing) = true
frees_by (Release ks) = true
frees_by (Wait ks) = true
frees_by (Done v ks refused) = true
frees_by (Fail why) = false

-- The settlement may free what another handler waits to reserve, unless the settled handler fails.
abbrev pub frees : Job → Want → Bool
frees j w = frees_under j || frees_by w
