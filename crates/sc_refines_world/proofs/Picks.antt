-- Who has something to do.
use Rattle.std.proofs.Common.{◌≡◌, ◌<◌, ℕ, Bool, true, false, None, Some, refl}
use Rattle.std.proofs.lemmas.Bool.{ltb-true}
use Rattle.std.specs.Prelude.{nat_lt, if◌then◌else◌}
use Rattle.sc_region.specs.declared.job.Job.{Job}
use Rattle.sc_handler.specs.Handlers.{State}
use Rattle.sc_handler.specs.Picking.{job_of, job_with}

-- a handler that has something to do is one that there is
pub has_job : (h : ℕ) (s : State) (j : Job) → job_of h s ≡ Some j → h < s.count
has_job h s j = by (nat_lt h s.count) refl
  where
    by : (b : Bool) → nat_lt h s.count ≡ b → (if b then job_with h (s.handlers h).failure (s.handlers h) s else None) ≡ Some j → h < s.count
    by true e i = ltb-true h s.count e
    by false e i = cc
