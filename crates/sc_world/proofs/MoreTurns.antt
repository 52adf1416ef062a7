-- A handler that has more to do is picked again, and its turns follow one another.
use Rattle.std.proofs.Common.{◌≡◌, ◌+◌, ◌==◌, ℕ, zero, suc, Bool, true, false, List, [], ◌∷◌, Option, Some, None, is_some, slice_set, refl, sym, ap, subst, ◌∙◌, arith}
use Rattle.std.proofs.lemmas.Bool.{eq-eqb}
use Rattle.std.proofs.Math.Path.{fun_ext}
use Rattle.std.specs.Prelude.{nat_lt, if◌then◌else◌}
use Rattle.sc_lockpass.specs.Rights.{Rights}
use Rattle.sc_model.specs.declared.cause.Cause.{Cause}
use Rattle.sc_model.specs.declared.cause.Cause.TheVariants as cause
use Rattle.sc_region.specs.declared.job.Job.{Job}
use Rattle.sc_region.specs.declared.job.Job.TheVariants as job
use Rattle.sc_region.specs.declared.job.Request.{Request}
use Rattle.sc_region.specs.declared.job.Want.{Want}
use Rattle.sc_region.specs.declared.job.Want.TheVariants as want
use Rattle.sc_region.specs.Stores.{PlainStore}
use Rattle.sc_handler.specs.Handlers.{Answer, Awaits, Handler, HasMade, Idle, Posted, Refused, Replied, Reserves, Runs, HandlerStage, State, SupplierFailed, put}
use Rattle.sc_handler.specs.Picking.{job_answered, job_at, job_awaiting, job_idle, job_of, job_reserving, job_with}
use Rattle.sc_handler.specs.Changes.{session_ended, takes, takes_answer, takes_callback, takes_next}
use Rattle.sc_handler.specs.Fits.{goes_on}
use Rattle.sc_request.specs.Logs.{Center, granted, pick_for, picked, settles}
use Rattle.sc_request.specs.Settling.{begun, made_at}
use Rattle.sc_play.specs.Regions.{PlainRegion}
use Rattle.sc_play.specs.Turns.{Becomes, FirstTurn, Turns, first, more}
use Rattle.sc_world.specs.Turning.{IsTurn, Makes, TurnsUnder}
use Rattle.sc_world.specs.Worlds.{PlainWorld}
use Rattle.sc_world.proofs.SettledPicks.{begun_count, job_here, settled_continue, settled_more}

-- ---- and it has to go on

ended_stage : (b : Bool) (x : Handler) → (session_ended b x).stage ≡ x.stage
ended_stage false x = refl
ended_stage true x = refl

ended_failure : (b : Bool) (x : Handler) → (session_ended b x).failure ≡ x.failure
ended_failure false x = refl
ended_failure true x = refl

-- it hasn't failed, and its next step is always enabled
abbrev pub GoesOn : Handler → Type 0
GoesOn x = (x.stage ≡ Runs) × (x.failure ≡ None)

own : (h : ℕ) (x : Handler) (s : State) → GoesOn x → GoesOn ((put h x s).handlers h)
own h x s e = subst (λ (b : Bool). GoesOn (if b then x else s.handlers h)) (sym (eq-eqb h h refl)) e

answered_takes : {A : Type 0} (k : ℕ) (b : Bool) (a : Answer) (q : Request) → Some (job_answered k b a) ≡ Some (job.Take q) → A
answered_takes k true (Replied v) q e = cc
answered_takes k false (Replied v) q e = cc
answered_takes k true SupplierFailed q e = cc
answered_takes k false SupplierFailed q e = cc
answered_takes k true Refused q e = cc
answered_takes k false Refused q e = cc

answered_goes : {A : Type 0} (k : ℕ) (b : Bool) (a : Answer) → Some (job_answered k b a) ≡ Some job.Go → A
answered_goes k true (Replied v) e = cc
answered_goes k false (Replied v) e = cc
answered_goes k true SupplierFailed e = cc
answered_goes k false SupplierFailed e = cc
answered_goes k true Refused e = cc
answered_goes k false Refused e = cc

reserving_takes : {A : Type 0} (lost may : Bool) (ks : List ℕ) (q : Request) → job_reserving lost may ks ≡ Some (job.Take q) → A
reserving_takes true may ks q e = cc
reserving_takes false true ks q e = cc
reserving_takes false false ks q e = cc

reserving_goes : {A : Type 0} (lost may : Bool) (ks : List ℕ) → job_reserving lost may ks ≡ Some job.Go → A
reserving_goes true may ks e = cc
reserving_goes false true ks e = cc
reserving_goes false false ks e = cc

module _ (h : ℕ) (c : State) (x : Handler) where
  next_goes : (ps : List Posted) (q : Request) → job_idle ps ≡ Some (job.Take q) → ((takes_next ps x).stage ≡ Runs) × ((takes_next ps x).failure ≡ x.failure)
  next_goes [] q e = cc
  next_goes (p ∷ ps) q e = (refl, refl)

  callback_goes : (k : ℕ) (b : Bool) (o : Option Posted) (a : Option Answer) (q : Request) → job_awaiting k b o a ≡ Some (job.Take q) →
      ((takes_callback o x).stage ≡ Runs) × ((takes_callback o x).failure ≡ x.failure)
  callback_goes k b (Some p) a q e = (refl, refl)
  callback_goes k b None (Some a) q e = answered_takes k b a q e
  callback_goes k b None None q e = cc

  taking_goes : (stage : HandlerStage) (q : Request) → job_at h stage x c ≡ Some (job.Take q) → ((takes stage x).stage ≡ Runs) × ((takes stage x).failure ≡ x.failure)
  taking_goes Idle q e = next_goes x.queue q e
  taking_goes (Awaits k b) q e = callback_goes k b x.callback x.answer q e
  taking_goes Runs q e = cc
  taking_goes (HasMade k) q e = cc
  taking_goes (Reserves ks mark) q e = reserving_takes _ _ _ q e

  idle_goes : {A : Type 0} (ps : List Posted) → job_idle ps ≡ Some job.Go → A
  idle_goes [] e = cc
  idle_goes (p ∷ ps) e = cc

  awaiting_goes : {A : Type 0} (k : ℕ) (b : Bool) (o : Option Posted) (a : Option Answer) → job_awaiting k b o a ≡ Some job.Go → A
  awaiting_goes k b (Some p) a e = cc
  awaiting_goes k b None (Some a) e = answered_goes k b a e
  awaiting_goes k b None None e = cc

  going_runs : (stage : HandlerStage) → job_at h stage x c ≡ Some job.Go → stage ≡ Runs
  going_runs Runs e = refl
  going_runs Idle e = idle_goes x.queue e
  going_runs (HasMade k) e = cc
  going_runs (Reserves ks mark) e = reserving_goes _ _ _ e
  going_runs (Awaits k b) e = awaiting_goes k b x.callback x.answer e

module _ (h : ℕ) (c : State) (r : Rights) where
  abbrev pub s : State
  s = record c { rights = r }

  made_goes : (stage : HandlerStage) → (c.handlers h).failure ≡ None → GoesOn ((made_at h stage s).handlers h)
  made_goes stage lives = by stage
    where
      by : (stage : HandlerStage) → GoesOn ((made_at h stage s).handlers h)
      by (Awaits i b) =
          let e = own h (takes_answer (c.handlers h)) s (refl, lives) in
          (ended_stage _ ((put h (takes_answer (c.handlers h)) s).handlers h) ∙ e.0, ended_failure _ ((put h (takes_answer (c.handlers h)) s).handlers h) ∙ e.1)
      by Idle = own h (record (c.handlers h) { stage = Runs }) s (refl, lives)
      by Runs = own h (record (c.handlers h) { stage = Runs }) s (refl, lives)
      by (HasMade i) = own h (record (c.handlers h) { stage = Runs }) s (refl, lives)
      by (Reserves ks mark) = own h (record (c.handlers h) { stage = Runs }) s (refl, lives)

  pub begun_goes : (j : Job) → job_of h c ≡ Some j → goes_on j ≡ true → GoesOn ((begun h j s).handlers h)
  begun_goes (job.Take q) is e =
      let at = job_here h c (job.Take q) is in
      let t = taking_goes h c (c.handlers h) (c.handlers h).stage q at.1 in
      own h (takes (c.handlers h).stage (c.handlers h)) s (t.0, t.1 ∙ at.0)
  begun_goes (job.Reply v) is e = own h (takes_answer (c.handlers h)) s (refl, (job_here h c (job.Reply v) is).0)
  begun_goes job.Failed is e = cc
  begun_goes job.Refused is e = cc
  begun_goes (job.Granted ks) is e = own h (record (c.handlers h) { stage = Runs }) s (refl, (job_here h c (job.Granted ks) is).0)
  begun_goes (job.Made k) is e = made_goes (c.handlers h).stage (job_here h c (job.Made k) is).0
  begun_goes job.Go is e = let at = job_here h c job.Go is in (going_runs h c (c.handlers h) (c.handlers h).stage at.1, at.0)

job_there : (h : ℕ) (c : State) (j : Job) → job_of h c ≡ Some j → nat_lt h c.count ≡ true
job_there h c j = by (nat_lt h c.count)
  where
    by : (b : Bool) → (if b then job_with h (c.handlers h).failure (c.handlers h) c else None) ≡ Some j → b ≡ true
    by true e = refl
    by false e = cc

goes_job : (h : ℕ) (t : State) → nat_lt h t.count ≡ true → GoesOn (t.handlers h) → job_of h t ≡ Some job.Go
goes_job h t there e =
    ap (λ (b : Bool). if b then job_with h (t.handlers h).failure (t.handlers h) t else None) there
    ∙ ap (λ (o : Option Cause). job_with h o (t.handlers h) t) e.1 ∙ ap (λ (st : HandlerStage). job_at h st (t.handlers h) t) e.0

-- ---- the core of turns that are made at once

module _ (most h : ℕ) (j : Job) (c : Center) (picks : pick_for h c ≡ Some j) (more_comes : goes_on j ≡ true) where
  pub is_job : job_of h c.state ≡ Some j
  is_job = by (is_some (c.out h)) picks
    where
      by : (b : Bool) → (if b then None else job_of h c.state) ≡ Some j → job_of h c.state ≡ Some j
      by true e = cc
      by false e = e

  abbrev pub between : ℕ → Center
  between n = settles most h j (suc n) want.Continue (picked h j c)

  pub picks_again : (n : ℕ) → pick_for h (between n) ≡ Some job.Go
  picks_again n =
      let t : State = begun h j (picked h j c).state in
      let state : (between n).state ≡ t = settled_continue most h n j (picked h j c).state more_comes in
      let there : nat_lt h t.count ≡ true = ap (nat_lt h) (begun_count h j (picked h j c).state) ∙ job_there h c.state j is_job in
      let goes : job_of h t ≡ Some job.Go = goes_job h t there (begun_goes h c.state (granted h j c.state.rights) j is_job more_comes) in
      by (h == h) (eq-eqb h h refl) ∙ ap (job_of h) state ∙ goes
    where
      by : (b : Bool) → b ≡ true → (if is_some (if b then None else (if b then Some j else c.out h)) then None else job_of h (between n).state) ≡ job_of h (between n).state
      by true e = refl
      by false e = cc

  pub once_more : (n : ℕ) (w : Want) → settles most h job.Go 1 w (picked h job.Go (between n)) ≡ settles most h j (suc n + 1) w (picked h j c)
  once_more n w = λ i. record {
    state = settled_more most h n j w (picked h j c).state more_comes i;
    out = fun_ext (λ k. by (k == h) (c.out k)) i;
    last = h;
  }
    where
      by : (b : Bool) (o : Option Job) →
          (if b then None else (if b then Some job.Go else (if b then None else (if b then Some j else o)))) ≡ (if b then None else (if b then Some j else o))
      by true o = refl
      by false o = refl

-- ---- turns of a store

-- who takes a failure asks for one
pub asks_on : (h : ℕ) (b : Bool) (j : Job) (x : PlainStore) (n : ℕ) (y : PlainStore) (w : Want) → Turns h b j x n y w → w ≡ want.Continue → goes_on j ≡ true
asks_on h b j x _ _ _ (first {y} {w} t) e = by j t
  where
    fails : (why : Cause) (z : PlainStore) → z.failure ≡ Some why → Becomes z want.Continue y w → ⊥
    fails why z failed t =
        let has_failed : y.failure ≡ Some why = ap (λ (z : PlainStore). z.failure) t.store ∙ failed in
        let no : w ≡ want.Fail why = rw has_failed at t.want in
        let bad : want.Continue ≡ want.Fail why = sym e ∙ no in cc

    by : (j : Job) → FirstTurn h b j x y w → goes_on j ≡ true
    by (job.Take r) t = refl
    by (job.Reply v) t = refl
    by job.Failed t = absurd (fails cause.SupplierFailed _ refl t)
    by job.Refused t = absurd (fails cause.Precondition _ refl t)
    by (job.Granted ks) t = refl
    by (job.Made k) t = refl
    by job.Go t = refl
asks_on h b j x _ _ _ (more {n} {y} {z} {w} ts t) e = asks_on h b j x n y want.Continue ts refl

-- ---- worlds

pub set_again : (rs : List PlainRegion) (h : ℕ) (x y : PlainRegion) → slice_set (slice_set rs h x) h y ≡ slice_set rs h y
set_again [] h x y = refl
set_again (r ∷ rs) zero x y = refl
set_again (r ∷ rs) (suc h) x y = ap (λ (ts : List PlainRegion). r ∷ ts) (set_again rs h x y)

pub turn_by : (h : ℕ) (j : Job) (x y : PlainWorld) → pick_for h x.center ≡ Some j → Makes 1 h j 1 x y → IsTurn h x y
turn_by h j x y picks makes = subst (λ (o : Option Job). TurnsUnder h o x y) (sym picks) makes

pub turns_some : (h : ℕ) (b : Bool) (j : Job) (x : PlainStore) (n : ℕ) (y : PlainStore) (w : Want) → Turns h b j x n y w → (k : ℕ) × (n ≡ suc k)
turns_some h b j x _ _ _ (first {y} {w} t) = (0, refl)
turns_some h b j x _ _ _ (more {n} {y} {z} {w} ts t) = let e : n + 1 ≡ suc n = omega arith in (n, e)
