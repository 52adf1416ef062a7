-- A handler that is picked and settled, and goes on where nothing is asked.
use Rattle.std.proofs.Common.{◌≡◌, ◌+◌, ◌==◌, ℕ, zero, suc, Bool, true, false, List, [], ◌∷◌, Option, Some, None, is_some, slice_get, slice_set, refl, sym, ap, ◌∙◌, arith}
use Rattle.std.proofs.Math.Path.{fun_ext}
use Rattle.std.specs.Prelude.{nat_lt, if◌then◌else◌}
use Rattle.sc_lockpass.specs.Rights as rights
use Rattle.sc_lockpass.specs.Rights.{Rights, is_among}
use Rattle.sc_model.specs.declared.cause.Cause.{Cause}
use Rattle.sc_region.specs.declared.job.Job.{Job}
use Rattle.sc_region.specs.declared.job.Job.TheVariants as job
use Rattle.sc_region.specs.declared.job.Want.{Want}
use Rattle.sc_region.specs.declared.job.Want.TheVariants as want
use Rattle.sc_handler.specs.Handlers.{Awaits, HasMade, Idle, Reserves, Runs, HandlerStage, State, with_stage}
use Rattle.sc_handler.specs.Picking.{job_at, job_of, job_with}
use Rattle.sc_handler.specs.Fits.{fits_turns, goes_on}
use Rattle.sc_request.specs.Logs.{Center, granted, pick_for, picked, settles}
use Rattle.sc_request.specs.Settling.{asked_in, begun, made_at, settled}
use Rattle.sc_play.specs.Regions.{PlainRegion}

-- ---- a handler that is picked and settled

pub picks_job : (h : ℕ) (c : Center) → c.out h ≡ None → pick_for h c ≡ job_of h c.state
picks_job h c e = ap (λ (o : Option Job). if is_some o then None else job_of h c.state) e

reserved_again : (h : ℕ) (ks : List ℕ) (r : Rights) → rights.reserve h ks (rights.reserve h ks r) ≡ rights.reserve h ks r
reserved_again h ks r = ap (λ (q : ℕ → Option ℕ). let all : Rights = record { queue = q; top = r.top } in all) (fun_ext (λ k. again (is_among k ks) (r.queue k)))
  where
    again : (b : Bool) (holder : Option ℕ) → (if b then Some h else (if b then Some h else holder)) ≡ (if b then Some h else holder)
    again true holder = refl
    again false holder = refl

begun_again : (h : ℕ) (j : Job) (s : State) → begun h j (record s { rights = granted h j s.rights }) ≡ begun h j s
begun_again h (job.Granted ks) s = ap (λ (r : Rights). let t : State = record (with_stage h Runs s) { rights = r } in t) (reserved_again h ks.items s.rights)
begun_again h (job.Take r) s = refl
begun_again h (job.Reply v) s = refl
begun_again h job.Failed s = refl
begun_again h job.Refused s = refl
begun_again h (job.Made k) s = refl
begun_again h job.Go s = refl

-- the state of a handler that was picked and is settled is that of its settlement
pub settled_state : (most h : ℕ) (j : Job) (turns : ℕ) (w : Want) (c : Center) → (settles most h j turns w (picked h j c)).state ≡ settled most h j turns w c.state
settled_state most h j turns w c = ap (λ (t : State). asked_in (fits_turns turns (c.state.handlers h).stage j w) most h w t) (begun_again h j c.state)

-- and it is out no more
pub settled_out : (most h : ℕ) (j : Job) (turns : ℕ) (w : Want) (c : Center) (k : ℕ) → c.out k ≡ None → (settles most h j turns w (picked h j c)).out k ≡ None
settled_out most h j turns w c k e = by (k == h)
  where
    by : (b : Bool) → (if b then None else (if b then Some j else c.out k)) ≡ None
    by true = refl
    by false = e

made_count : (h : ℕ) (stage : HandlerStage) (s : State) → (made_at h stage s).count ≡ s.count
made_count h (Awaits k is_creation) s = refl
made_count h Idle s = refl
made_count h Runs s = refl
made_count h (HasMade k) s = refl
made_count h (Reserves ks mark) s = refl

pub begun_count : (h : ℕ) (j : Job) (s : State) → (begun h j s).count ≡ s.count
begun_count h (job.Take r) s = refl
begun_count h (job.Reply v) s = refl
begun_count h job.Failed s = refl
begun_count h job.Refused s = refl
begun_count h (job.Granted ks) s = refl
begun_count h (job.Made k) s = made_count h (s.handlers h).stage s
begun_count h job.Go s = refl

pub job_here : (h : ℕ) (c : State) (j : Job) → job_of h c ≡ Some j → ((c.handlers h).failure ≡ None) × (job_at h (c.handlers h).stage (c.handlers h) c ≡ Some j)
job_here h c j = by (nat_lt h c.count) (c.handlers h).failure refl
  where
    by : (b : Bool) (o : Option Cause) → (c.handlers h).failure ≡ o → (if b then job_with h o (c.handlers h) c else None) ≡ Some j →
        ((c.handlers h).failure ≡ None) × (job_at h (c.handlers h).stage (c.handlers h) c ≡ Some j)
    by true None e is = (e, is)
    by true (Some why) e is = cc
    by false o e is = cc

pub set_same : (rs : List PlainRegion) (h : ℕ) (x y : PlainRegion) → slice_get rs h ≡ Some x → slice_get (slice_set rs h y) h ≡ Some y
set_same [] h x y e = cc
set_same (r ∷ rs) zero x y e = refl
set_same (r ∷ rs) (suc h) x y e = set_same rs h x y e

pub set_other : (rs : List PlainRegion) (h k : ℕ) (y : PlainRegion) → (k ≡ h → ⊥) → slice_get (slice_set rs h y) k ≡ slice_get rs k
set_other [] h k y apart = refl
set_other (r ∷ rs) zero zero y apart = absurd (apart refl)
set_other (r ∷ rs) zero (suc k) y apart = refl
set_other (r ∷ rs) (suc h) zero y apart = refl
set_other (r ∷ rs) (suc h) (suc k) y apart = set_other rs h k y (λ e. apart (ap suc e))

-- ---- where nothing is asked, the handler goes on

continue_fits : (n : ℕ) (stage : HandlerStage) (j : Job) → goes_on j ≡ true → fits_turns (suc n) stage j want.Continue ≡ true
continue_fits (suc n) stage j e = e
continue_fits zero stage (job.Take r) e = refl
continue_fits zero stage (job.Reply v) e = refl
continue_fits zero stage job.Failed e = cc
continue_fits zero stage job.Refused e = cc
continue_fits zero stage (job.Granted ks) e = refl
continue_fits zero Idle (job.Made k) e = refl
continue_fits zero Runs (job.Made k) e = refl
continue_fits zero (HasMade i) (job.Made k) e = refl
continue_fits zero (Reserves ks mark) (job.Made k) e = refl
continue_fits zero (Awaits i b) (job.Made k) e = refl
continue_fits zero stage job.Go e = refl

-- its job has begun then, and no more
pub settled_continue : (most h n : ℕ) (j : Job) (s : State) → goes_on j ≡ true → settled most h j (suc n) want.Continue s ≡ begun h j s
settled_continue most h n j s e =
    ap (λ (b : Bool). asked_in b most h want.Continue (begun h j s)) (continue_fits n (s.handlers h).stage j e)

-- one turn more
pub settled_more : (most h n : ℕ) (j : Job) (w : Want) (s : State) → goes_on j ≡ true →
    settled most h job.Go 1 w (settled most h j (suc n) want.Continue s) ≡ settled most h j (suc n + 1) w s
settled_more most h n j w s e =
    ap (λ (t : State). settled most h job.Go 1 w t) (settled_continue most h n j s e)
    ∙ ap (λ (b : Bool). asked_in b most h w (begun h j s)) (sym e)
    ∙ ap (λ (k : ℕ). settled most h j k w s) more_turns
  where
    more_turns : suc (suc n) ≡ suc n + 1
    more_turns = omega arith
