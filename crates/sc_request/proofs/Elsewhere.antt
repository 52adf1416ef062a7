-- A handler whose next step isn't a reserve step has what its own record says to do, whatever comes of others.
use Rattle.std.proofs.Common.{◌≡◌, ℕ, Bool, false, Option, Some, None, refl, sym, ap, ◌∙◌}
use Rattle.std.specs.Prelude.{nat_lt, if◌then◌else◌}
use Rattle.sc_model.specs.declared.cause.Cause.{Cause}
use Rattle.sc_region.specs.declared.job.Job.{Job}
use Rattle.sc_handler.specs.Handlers.{HandlerStage, Idle, Runs, HasMade, Reserves, Awaits, Handler, State, is_reserving}
use Rattle.sc_handler.specs.Picking.{job_at, job_with, job_of}
use Rattle.sc_request.specs.Candidates.{uncounted}

job_uncounted : (k : ℕ) (st : HandlerStage) (x : Handler) (s t : State) → is_reserving st ≡ false → job_at k st x t ≡ job_at k st (uncounted x) s
job_uncounted k Idle x s t e = refl
job_uncounted k Runs x s t e = refl
job_uncounted k (HasMade i) x s t e = refl
job_uncounted k (Reserves ks mark) x s t e = cc
job_uncounted k (Awaits i c) x s t e = refl

with_uncounted : (k : ℕ) (why : Option Cause) (x : Handler) (s t : State) → is_reserving x.stage ≡ false →
    job_with k why x t ≡ job_with k why (uncounted x) s
with_uncounted k (Some why) x s t e = refl
with_uncounted k None x s t e = job_uncounted k x.stage x s t e

-- the same job, of the same handler, in another state
job_elsewhere : (k : ℕ) (x y : Handler) (s t : State) → uncounted y ≡ uncounted x → is_reserving y.stage ≡ false →
    job_with k y.failure y t ≡ job_with k x.failure x s
job_elsewhere k x y s t same apart =
    with_uncounted k y.failure y s t apart ∙ ap (λ (z : Handler). job_with k z.failure z s) same
    ∙ sym (with_uncounted k x.failure x s s (ap (λ (z : Handler). is_reserving z.stage) (sym same) ∙ apart))

pub same_job : (k : ℕ) (s t : State) → nat_lt k t.count ≡ nat_lt k s.count → uncounted (t.handlers k) ≡ uncounted (s.handlers k) →
    is_reserving (t.handlers k).stage ≡ false → job_of k t ≡ job_of k s
same_job k s t count same apart =
    ap (λ (b : Bool). if b then job_with k (t.handlers k).failure (t.handlers k) t else None) count
    ∙ ap (λ (o : Option Job). if nat_lt k s.count then o else None) (job_elsewhere k (s.handlers k) (t.handlers k) s t same apart)
