-- Settlements look at nothing of a job but its kind.
use Rattle.std.proofs.Common.{Bor, ◌≡◌, ◌∙◌, ℕ, zero, suc, Bool, true, Option, Some, None, refl, ap, sym}
use Rattle.std.specs.Prelude.{is_some}
use Rattle.std.specs.Option.{option_map}
use Rattle.sc_region.specs.declared.job.Job.{Job}
use Rattle.sc_region.specs.declared.job.Job.TheVariants as job
use Rattle.sc_region.specs.declared.job.Want.{Want}
use Rattle.sc_handler.specs.Handlers.{HandlerStage, Idle, Runs, HasMade, Reserves, Awaits, State}
use Rattle.sc_handler.specs.Fits.{fits_turns}
use Rattle.sc_handler.specs.declared.job_kind.JobKind.{JobKind}
use Rattle.sc_handler.specs.Kinds.{of_kind, kind_of}
use Rattle.sc_request.specs.Candidates.{granted_items}
use Rattle.sc_request.specs.Settling.{asked_in, begun, settled}

fits_made : (k : ℕ) (st : HandlerStage) (w : Want) → fits_turns 1 st (job.Made 0) w ≡ fits_turns 1 st (job.Made k) w
fits_made k Idle w = refl
fits_made k Runs w = refl
fits_made k (HasMade j) w = refl
fits_made k (Reserves ks mark) w = refl
fits_made k (Awaits j is_creation) w = refl

fits_kind : (n : ℕ) (j : Job) (st : HandlerStage) (w : Want) → fits_turns n st (of_kind (kind_of j)) w ≡ fits_turns n st j w
fits_kind zero j st w = refl
fits_kind (suc zero) (job.Take r) st w = refl
fits_kind (suc zero) (job.Reply v) st w = refl
fits_kind (suc zero) job.Failed st w = refl
fits_kind (suc zero) job.Refused st w = refl
fits_kind (suc zero) (job.Granted ks) st w = refl
fits_kind (suc zero) (job.Made k) st w = fits_made k st w
fits_kind (suc zero) job.Go st w = refl
fits_kind (suc (suc n)) (job.Take r) st w = refl
fits_kind (suc (suc n)) (job.Reply v) st w = refl
fits_kind (suc (suc n)) job.Failed st w = refl
fits_kind (suc (suc n)) job.Refused st w = refl
fits_kind (suc (suc n)) (job.Granted ks) st w = refl
fits_kind (suc (suc n)) (job.Made k) st w = refl
fits_kind (suc (suc n)) job.Go st w = refl

begun_kind : (h : ℕ) (j : Job) (s : State) → begun h (of_kind (kind_of j)) s ≡ begun h j s
begun_kind h (job.Take r) s = refl
begun_kind h (job.Reply v) s = refl
begun_kind h job.Failed s = refl
begun_kind h job.Refused s = refl
begun_kind h (job.Granted ks) s = refl
begun_kind h (job.Made k) s = refl
begun_kind h job.Go s = refl

pub settled_kind : (m h : ℕ) (j : Job) (x : JobKind) (n : ℕ) (w : Want) (s : State) → x ≡ kind_of j → settled m h (of_kind x) n w s ≡ settled m h j n w s
settled_kind m h j x n w s e =
    ap (λ (x : JobKind). settled m h (of_kind x) n w s) e
    ∙ ap (λ (b : Bool). asked_in b m h w (begun h (of_kind (kind_of j)) s)) (fits_kind n j (s.handlers h).stage w)
    ∙ ap (λ (t : State). asked_in (fits_turns n (s.handlers h).stage j w) m h w t) (begun_kind h j s)

granted_by : (j : Job) → granted_items (of_kind (kind_of j)) ≡ granted_items j
granted_by (job.Take r) = refl
granted_by (job.Reply v) = refl
granted_by job.Failed = refl
granted_by job.Refused = refl
granted_by (job.Granted ks) = refl
granted_by (job.Made k) = refl
granted_by job.Go = refl

pub granted_kind : (j : Job) (x : JobKind) → x ≡ kind_of j → granted_items (of_kind x) ≡ granted_items j
granted_kind j x e = ap (λ (x : JobKind). granted_items (of_kind x)) e ∙ granted_by j

-- ---- the job that a handler is out with

pub job_is : (o : Option Job) (r : Option (Bor Job)) (x : Bor Job) → option_map (λ (x : Bor Job). x.now) r ≡ o → r ≡ Some x → o ≡ Some x.now
job_is o r x e is = sym e ∙ ap (λ (r : Option (Bor Job)). option_map (λ (x : Bor Job). x.now) r) is

pub one_job : (i j : Job) → Some i ≡ Some j → i ≡ j
one_job i j e = cc

pub some_of : (o : Option Job) → is_some o ≡ true → (j : Job) × (o ≡ Some j)
some_of None e = cc
some_of (Some j) e = (j, refl)
