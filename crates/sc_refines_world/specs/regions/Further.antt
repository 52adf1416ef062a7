-- Settling several turns under one job at once leads to the same state as settling them one after the other.
use Rattle.std.specs.Prelude.{◌≡◌, ℕ, suc, true, Some}
use Rattle.sc_region.specs.declared.job.Job.{Job}
use Rattle.sc_region.specs.declared.job.Job.TheVariants.{Go}
use Rattle.sc_region.specs.declared.job.Want.{Want}
use Rattle.sc_region.specs.declared.job.Want.TheVariants.{Continue}
use Rattle.sc_handler.specs.Handlers.{State}
use Rattle.sc_handler.specs.Picking.{job_of}
use Rattle.sc_handler.specs.Fits.{goes_on}
use Rattle.sc_request.specs.Settling.{settled}

-- If the first turn under a job asks nothing and the job allows more turns, the handler's next job is to go on.
abbrev pub FirstTurnsGoOn : Type 0
FirstTurnsGoOn =
    (most h : ℕ) (j : Job) (c : State) → job_of h c ≡ Some j → goes_on j ≡ true →
    job_of h (settled most h j 1 Continue c) ≡ Some Go

-- Then the settlement of several turns is the settlement of the first, followed by that of the others.
abbrev pub FurtherTurnsSettle : Type 0
FurtherTurnsSettle =
    (most h turns : ℕ) (j : Job) (w : Want) (c : State) → goes_on j ≡ true →
    settled most h j (suc (suc turns)) w c ≡ settled most h Go (suc turns) w (settled most h j 1 Continue c)
