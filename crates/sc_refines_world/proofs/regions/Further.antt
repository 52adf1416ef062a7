-- A settlement of more turns under a job is that of the first, which asks nothing, and of those that are left.
use Rattle.std.proofs.Common.{◌≡◌, ℕ, zero, suc, Bool, true, false, List, [], ◌∷◌, Option, Some, None, refl, sym, ap, subst, ◌∙◌}
use Rattle.std.proofs.lemmas.Bool.{eq-eqb}
use Rattle.std.specs.Prelude.{nat_lt, if◌then◌else◌}
use Rattle.sc_lockpass.specs.declared.wait_conditions.session.Release.{Release}
use Rattle.sc_lockpass.specs.declared.wait_conditions.session.Release.TheVariants as release_at
use Rattle.sc_model.specs.declared.cause.Cause.{Cause}
use Rattle.sc_region.specs.declared.job.Job.{Job}
use Rattle.sc_region.specs.declared.job.Job.TheVariants as job
use Rattle.sc_region.specs.declared.job.Want.TheVariants as want
use Rattle.sc_handler.specs.Handlers.{Posted, Answer, Replied, SupplierFailed, Refused, HandlerStage, Idle, Runs, HasMade, Reserves, Awaits, Handler, State, put}
use Rattle.sc_handler.specs.Changes.{session_ended, takes, takes_answer, takes_callback, takes_next}
use Rattle.sc_handler.specs.Picking.{job_answered, job_at, job_awaiting, job_idle, job_of, job_reserving, job_with, needs}
use Rattle.sc_handler.specs.Fits.{fits_first, goes_on}
use Rattle.sc_request.specs.Sessions.{release}
use Rattle.sc_request.specs.Settling.{asked_in, begun, made_at, settled}
use Rattle.sc_refines_world.specs.regions.Further.{FirstTurnsGoOn, FurtherTurnsSettle}
use Rattle.sc_refines_world.proofs.regions.Halves.{none_some}

some_same : {A : Type 0} (x y : A) → Some x ≡ Some y → x ≡ y
some_same x y e = cc

false_true : {B : Type 0} → false ≡ true → B
false_true e = cc

first_fits : (stage : HandlerStage) (j : Job) → goes_on j ≡ true → fits_first stage j want.Continue ≡ true
first_fits stage (job.Take r) g = refl
first_fits stage (job.Reply v) g = refl
first_fits stage job.Failed g = false_true g
first_fits stage job.Refused g = false_true g
first_fits stage (job.Granted ks) g = refl
first_fits Idle (job.Made k) g = refl
first_fits Runs (job.Made k) g = refl
first_fits (HasMade i) (job.Made k) g = refl
first_fits (Reserves ks mark) (job.Made k) g = refl
first_fits (Awaits i b) (job.Made k) g = refl
first_fits stage job.Go g = refl

-- The first turn leaves what the job begins with.
first_settled : (most h : ℕ) (j : Job) (c : State) → goes_on j ≡ true → settled most h j 1 want.Continue c ≡ begun h j c
first_settled most h j c g = ap (λ (fits : Bool). asked_in fits most h want.Continue (begun h j c)) (first_fits (c.handlers h).stage j g)

pub further_turns_settle : FurtherTurnsSettle
further_turns_settle most h zero j w c g =
    ap (λ (fits : Bool). asked_in fits most h w (begun h j c)) g
    ∙ ap (λ (d : State). settled most h job.Go 1 w d) (sym (first_settled most h j c g))
further_turns_settle most h (suc turns) j w c g =
    ap (λ (fits : Bool). asked_in fits most h w (begun h j c)) g
    ∙ ap (λ (d : State). settled most h job.Go (suc (suc turns)) w d) (sym (first_settled most h j c g))

-- ---- the handler goes on

-- The handler has this stage, and hasn't failed.
record IsLiving (stage : HandlerStage) (x : Handler) : Type 0 where
  stage_is : x.stage ≡ stage
  lives : x.failure ≡ None

module _ (h : ℕ) (c : State) (lives : (c.handlers h).failure ≡ None) where
  abbrev y : Handler
  y = c.handlers h

  -- the handler runs as it has begun the job
  abbrev Runs_under : Job → Type 0
  Runs_under j = goes_on j ≡ true → IsLiving Runs ((begun h j c).handlers h)

  abbrev RunsUnder : Option Job → Type 0
  RunsUnder None = Unit {0}
  RunsUnder (Some j) = Runs_under j

  put_runs : (x : Handler) → x.stage ≡ Runs → x.failure ≡ None → IsLiving Runs ((put h x c).handlers h)
  put_runs x is stands = subst (λ (z : Handler). IsLiving Runs z) (own_put x) (record { stage_is = is; lives = stands })
    where
      own_put : (x : Handler) → x ≡ (put h x c).handlers h
      own_put x = rw (eq-eqb h h refl) refl

  released_runs : (how : Release) (ks : List ℕ) (s : State) → IsLiving Runs (s.handlers h) → IsLiving Runs ((release how ks s).handlers h)
  released_runs how ks s e = by _
    where
      by : (b : Bool) → IsLiving Runs (session_ended b (s.handlers h))
      by false = e
      by true = record { stage_is = e.stage_is; lives = e.lives }

  takes_runs : (t : HandlerStage) (x : Handler) → y.stage ≡ t → takes t y ≡ x → x.stage ≡ Runs → x.failure ≡ None →
      IsLiving Runs ((put h (takes y.stage y) c).handlers h)
  takes_runs t x is same runs stands =
      subst (λ (z : Handler). IsLiving Runs ((put h z c).handlers h)) (sym (ap (λ (u : HandlerStage). takes u y) is ∙ same)) (put_runs x runs stands)

  idle_runs : (ps : List Posted) → y.queue ≡ ps → y.stage ≡ Idle → RunsUnder (job_idle ps)
  idle_runs [] queued is = tt
  idle_runs (p ∷ ps) queued is = λ g. takes_runs Idle (takes_next (p ∷ ps) y) is (ap (λ (qs : List Posted). takes_next qs y) queued) refl lives

  entry_runs : (ks : List ℕ) (lost may : Bool) → RunsUnder (job_reserving lost may ks)
  entry_runs ks true may = λ g. false_true g
  entry_runs ks false true = λ g. put_runs (record y { stage = Runs }) refl lives
  entry_runs ks false false = tt

  answer_runs : (k : ℕ) (b : Bool) (a : Answer) → y.stage ≡ Awaits k b → RunsUnder (Some (job_answered k b a))
  answer_runs k true (Replied v) is g =
      subst (λ (t : HandlerStage). IsLiving Runs ((made_at h t c).handlers h)) (sym is)
      (released_runs release_at.Creation (k ∷ []) (put h (takes_answer y) c) (put_runs (takes_answer y) refl lives))
  answer_runs k false (Replied v) is g = put_runs (takes_answer y) refl lives
  answer_runs k true SupplierFailed is g = false_true g
  answer_runs k false SupplierFailed is g = false_true g
  answer_runs k true Refused is g = false_true g
  answer_runs k false Refused is g = false_true g

  awaiting_runs : (k : ℕ) (b : Bool) (p : Option Posted) (a : Option Answer) → y.callback ≡ p → y.stage ≡ Awaits k b → RunsUnder (job_awaiting k b p a)
  awaiting_runs k b (Some p) a called is = λ g. takes_runs (Awaits k b) (takes_callback (Some p) y) is (ap (λ (o : Option Posted). takes_callback o y) called) refl lives
  awaiting_runs k b None (Some a) called is = answer_runs k b a is
  awaiting_runs k b None None called is = tt

  at_runs : (t : HandlerStage) → y.stage ≡ t → RunsUnder (job_at h t y c)
  at_runs Idle is = idle_runs y.queue refl is
  at_runs Runs is = λ g. record { stage_is = is; lives = lives }
  at_runs (HasMade k) is = λ g. subst (λ (t : HandlerStage). IsLiving Runs ((made_at h t c).handlers h)) (sym is) (put_runs (record y { stage = Runs }) refl lives)
  at_runs (Reserves ks mark) is = entry_runs (needs h ks c.rights) _ _
  at_runs (Awaits k b) is = awaiting_runs k b y.callback y.answer refl is

begun_count : (h : ℕ) (j : Job) (c : State) → (begun h j c).count ≡ c.count
begun_count h (job.Take r) c = refl
begun_count h (job.Reply v) c = refl
begun_count h job.Failed c = refl
begun_count h job.Refused c = refl
begun_count h (job.Granted ks) c = refl
begun_count h (job.Made k) c = by (c.handlers h).stage
  where
    by : (t : HandlerStage) → (made_at h t c).count ≡ c.count
    by Idle = refl
    by Runs = refl
    by (HasMade i) = refl
    by (Reserves ks mark) = refl
    by (Awaits i b) = refl
begun_count h job.Go c = refl

module _ (most h : ℕ) (j : Job) (c : State) (g : goes_on j ≡ true) where
  runs_under : (o : Option Job) → ((lives : (c.handlers h).failure ≡ None) → RunsUnder h c lives o) → (lives : (c.handlers h).failure ≡ None) → o ≡ Some j →
      IsLiving Runs ((begun h j c).handlers h)
  runs_under None e lives is = none_some j is
  runs_under (Some i) e lives is = subst (λ (i' : Job). goes_on i' ≡ true → IsLiving Runs ((begun h i' c).handlers h)) (some_same i j is) (e lives) g

  lived : (why : Option Cause) → (c.handlers h).failure ≡ why → job_with h why (c.handlers h) c ≡ Some j → IsLiving Runs ((begun h j c).handlers h)
  lived (Some why) fell is = none_some j is
  lived None lives is =
      runs_under (job_at h (c.handlers h).stage (c.handlers h) c) (λ stands. at_runs h c stands (c.handlers h).stage refl) lives is

  go : (b : Bool) → nat_lt h c.count ≡ b → (if b then job_with h (c.handlers h).failure (c.handlers h) c else None) ≡ Some j →
      job_of h (begun h j c) ≡ Some job.Go
  go true less is =
      let d = begun h j c in
      let runs = lived (c.handlers h).failure refl is in
      ap (λ (b : Bool). if b then job_with h (d.handlers h).failure (d.handlers h) d else None) (ap (λ (m : ℕ). nat_lt h m) (begun_count h j c) ∙ less)
      ∙ ap (λ (o : Option Cause). job_with h o (d.handlers h) d) runs.lives
      ∙ ap (λ (t : HandlerStage). job_at h t (d.handlers h) d) runs.stage_is
  go false less is = none_some j is

-- After it the handler goes on.
pub first_turns_go_on : FirstTurnsGoOn
first_turns_go_on most h j c is g =
    ap (λ (d : State). job_of h d) (first_settled most h j c g) ∙ go most h j c g (nat_lt h c.count) refl is
