-- What a settlement leaves of how a handler stands: it has nothing to be told, but where it has created a handler and goes on.
use Rattle.std.proofs.Common.{◌≡◌, ◌==◌, ◌&&◌, ◌||◌, ℕ, Bool, true, false, List, [], ◌∷◌, Option, Some, None, refl, sym, ap, subst, ◌∙◌}
use Rattle.std.proofs.lemmas.Bool.{eqb-true, eq-eqb}
use Rattle.std.specs.Prelude.{is_some, length, nat_lt, not, if◌then◌else◌}
use Rattle.arrayvec.specs.ArrayVec.{ArrayVec}
use Rattle.sc_lockpass.specs.Passing.{Passed}
use Rattle.sc_lockpass.specs.declared.wait_conditions.session.Release.{Release}
use Rattle.sc_lockpass.specs.declared.wait_conditions.session.Release.TheVariants as release_at
use Rattle.sc_lockpass.specs.wait_conditions.Reservations.{mark_of}
use Rattle.sc_model.specs.declared.cause.Cause.{Cause}
use Rattle.sc_model.specs.declared.cause.Cause.TheVariants as cause
use Rattle.sc_model.specs.Limits.{max_queue}
use Rattle.sc_model.specs.Handlers as machine
use Rattle.sc_region.specs.declared.value.Value.{Value}
use Rattle.sc_region.specs.declared.job.Job.{Job}
use Rattle.sc_region.specs.declared.job.Request.{Request}
use Rattle.sc_region.specs.declared.job.Want.{Want}
use Rattle.sc_region.specs.declared.job.Want.TheVariants as want
use Rattle.sc_handler.specs.Handlers.{Posted, posted, Answer, Replied, SupplierFailed, Refused, HandlerStage, Idle, Runs, HasMade, Reserves, Awaits, Service, Handler, State, put, with_stage}
use Rattle.sc_handler.specs.Changes.{answered, fallen, placed, session_ended, counted_refusal, serves, takes, takes_answer, takes_callback, takes_next}
use Rattle.sc_handler.specs.Picking.{job_answered, job_at, job_awaiting, job_idle, job_reserving, job_with, needs}
use Rattle.sc_request.specs.Sessions.{answer_to, fail, finish, is_callback, passed_if, passes, release, return_rights, send, with_handler}
use Rattle.sc_request.specs.Settling.{asked_in, asks, awaits_if, begun, creates, creation, done, done_if, ends, may_ask, posts_unheld, sends, made_at}
use Rattle.sc_request.specs.Asked.{Numbering}
use Rattle.sc_request.specs.Halves.{IsStage, IsTop, IsOrigin, AreServices}
use Rattle.sc_refines_world.specs.regions.Order.{IsAwaiting, StandsOver, AreInOrder}
use Rattle.sc_refines_world.proofs.regions.Halves.{IsCalm, by_test}

-- ---- what leaves a handler's stage

pub ended_stage : (b : Bool) (x : Handler) → (session_ended b x).stage ≡ x.stage
ended_stage false x = refl
ended_stage true x = refl

placed_stage : (b : Bool) (p : Posted) (x : Handler) → (placed b p x).stage ≡ x.stage
placed_stage false p x = refl
placed_stage true p x = refl

put_by : (k : ℕ) (x : Handler) (s : State) (j : ℕ) (b : Bool) → (j == k) ≡ b → x.stage ≡ (s.handlers k).stage → (if b then x else s.handlers j).stage ≡ (s.handlers j).stage
put_by k x s j true e same = same ∙ ap (λ (i : ℕ). (s.handlers i).stage) (sym (eqb-true j k e))
put_by k x s j false e same = refl

put_stage : (k : ℕ) (x : Handler) (s : State) (j : ℕ) → x.stage ≡ (s.handlers k).stage → ((put k x s).handlers j).stage ≡ (s.handlers j).stage
put_stage k x s j same = put_by k x s j (j == k) refl same

put_own : (h : ℕ) (x : Handler) (s : State) → ((put h x s).handlers h).stage ≡ x.stage
put_own h x s = rw (eq-eqb h h refl) refl

pub released_stage : (how : Release) (ks : List ℕ) (s : State) (j : ℕ) → ((release how ks s).handlers j).stage ≡ (s.handlers j).stage
released_stage how ks s j = ended_stage _ (s.handlers j)

pub passed_stage : (b : Bool) (h k : ℕ) (s : State) (j : ℕ) → ((passes b h k s).handlers j).stage ≡ (s.handlers j).stage
passed_stage false h k s j = refl
passed_stage true h k s j = refl

pub sent_stage : (b : Bool) (k : ℕ) (p : Posted) (s : State) (j : ℕ) → ((send b k p s).handlers j).stage ≡ (s.handlers j).stage
sent_stage b k p s j = put_stage k (placed b p (s.handlers k)) s j (placed_stage b p (s.handlers k))

returned_stage : (p : Option Passed) (s : State) (j : ℕ) → ((return_rights p s).handlers j).stage ≡ (s.handlers j).stage
returned_stage None s j = refl
returned_stage (Some p) s j = refl

answered_stage : (b : Bool) (p : Option ℕ) (a : Answer) (s : State) (j : ℕ) → ((answer_to b p a s).handlers j).stage ≡ (s.handlers j).stage
answered_stage true (Some p) a s j = put_stage p (answered a (s.handlers p)) s j refl
answered_stage true None a s j = refl
answered_stage false p a s j = refl

pub finished_stage : (p : Posted) (a : Answer) (s : State) (j : ℕ) → ((finish p a s).handlers j).stage ≡ (s.handlers j).stage
finished_stage p a s j = answered_stage p.request.is_waited p.request.poster a (return_rights p.passed s) j ∙ returned_stage p.passed s j

failed_stage : (h : ℕ) (why : Cause) (s : State) → ((fail h why s).handlers h).stage ≡ Idle
failed_stage h why s = rw (eq-eqb h h refl) (ended_stage _ (fallen why (s.handlers h)))

-- ---- what a turn asks

-- It isn't the creation of a handler whose creator goes on.
abbrev pub IsPlain : Want → Type 0
IsPlain (want.Create class procedure actuals false) = ⊥
IsPlain w = Unit {0}

-- The one taken last was taken over a handler with nothing to be told.
abbrev pub EndsCalm : List Service → Type 0
EndsCalm [] = Unit {0}
EndsCalm (e ∷ es) = IsCalm e.over

pub record IsRested (x : Handler) : Type 0 where
  pub calm : IsCalm x.stage
  pub ends : EndsCalm x.services

refusal_stage : (b : Bool) (x : Handler) → (counted_refusal b x).stage ≡ x.stage
refusal_stage true x = refl
refusal_stage false x = refl

module _ (most h : ℕ) where
  -- the handler has nothing to be told
  abbrev Calm : State → Type 0
  Calm s = IsCalm (s.handlers h).stage

  calmed : (s t : State) → (t.handlers h).stage ≡ (s.handlers h).stage → Calm s → Calm t
  calmed s t same c = subst IsCalm (sym same) c

  put_calm : (x : Handler) (s : State) → IsCalm x.stage → Calm (put h x s)
  put_calm x s c = subst IsCalm (sym (put_own h x s)) c

  pub fail_calm : (why : Cause) (s : State) → Calm (fail h why s)
  fail_calm why s = subst IsCalm (sym (failed_stage h why s)) tt

  awaits_calm : (b : Bool) (k : ℕ) (s : State) → Calm s → Calm (awaits_if b h k s)
  awaits_calm false k s c = c
  awaits_calm true k s c = put_calm (record (s.handlers h) { stage = Awaits k false }) s tt

  sends_calm : (k : ℕ) (r : Request) (passing waits : Bool) (s : State) → Calm s → Calm (sends h k r passing waits s)
  sends_calm k r passing waits s c =
      let p = posted (record r { is_waited = waits }) (passed_if passing h s.rights) in
      let s1 = awaits_if waits h k s in
      let s2 = send (is_callback h k s) k p s1 in
      calmed s1 (passes passing h k s2) (passed_stage passing h k s2 h ∙ sent_stage (is_callback h k s) k p s1 h) (awaits_calm waits k s c)

  asks_calm : (r : Request) (passing : Bool) (s : State) → Calm s → Calm (asks h r passing s)
  asks_calm r passing s c =
      let k = r.target.handler in
      by_test Calm (is_some (s.handlers k).failure) (fail h cause.SupplierFailed s) _ (λ e. fail_calm cause.SupplierFailed s)
      (λ e. by_test Calm (not (is_callback h k s) && not (nat_lt (length (s.handlers k).queue) max_queue)) (fail h cause.QueueFull s) _
      (λ e. fail_calm cause.QueueFull s) (λ e. sends_calm k r passing (passing || r.is_waited || is_callback h k s) s c))

  creates_calm : (class : ℕ) (procedure : Option ℕ) (actuals : ArrayVec Value) (s : State) → Calm (creates most h class procedure actuals true s)
  creates_calm class procedure actuals s =
      let k = s.count in
      let s1 = with_handler k h s in
      let s2 = with_stage h (Awaits k true) s1 in
      let p = posted (creation h k class procedure actuals true) (passed_if true h s1.rights) in
      by_test Calm (nat_lt s.count most) _ (fail h cause.TooManyHandlers s)
      (λ e. calmed s2 (passes true h k (send false k p s2)) (passed_stage true h k (send false k p s2) h ∙ sent_stage false k p s2 h)
      (put_calm (record (s1.handlers h) { stage = Awaits k true }) s1 tt))
      (λ e. fail_calm cause.TooManyHandlers s)

  -- Where there is room the creator has what it is to be told.
  pub creates_made : (class : ℕ) (procedure : Option ℕ) (actuals : ArrayVec Value) (s : State) → nat_lt s.count most ≡ true →
      ((creates most h class procedure actuals false s).handlers h).stage ≡ HasMade s.count
  creates_made class procedure actuals s room =
      let k = s.count in
      let s1 = with_handler k h s in
      let s2 = with_stage h (HasMade k) s1 in
      let p = posted (creation h k class procedure actuals false) None in
      rw room (released_stage release_at.Creation (k ∷ []) (send false k p s2) h ∙ sent_stage false k p s2 h ∙ put_own h (record (s1.handlers h) { stage = HasMade k }) s1)

  ends_calm : (refused : Bool) (v : Option Value) (ks : List ℕ) (es : List Service) (s : State) → EndsCalm es → Calm (ends h v ks refused es s)
  ends_calm refused v ks [] s c = fail_calm cause.BadCode s
  ends_calm false v ks (e ∷ es) s c =
      let x = record (s.handlers h) { stage = e.over; services = es } in
      let s1 = put h x s in
      calmed s1 (finish e.posted (Replied v) (release release_at.Exit ks s1)) (finished_stage e.posted (Replied v) (release release_at.Exit ks s1) h ∙ released_stage release_at.Exit ks s1 h) (put_calm x s c)
  ends_calm true v ks (e ∷ es) s c =
      let x = record (s.handlers h) { stage = e.over; services = es } in
      let x1 = counted_refusal e.posted.request.is_waited x in
      let s1 = put h x1 s in
      calmed s1 (finish e.posted Refused (release release_at.Refusal ks s1)) (finished_stage e.posted Refused (release release_at.Refusal ks s1) h ∙ released_stage release_at.Refusal ks s1 h)
      (put_calm x1 s (subst IsCalm (sym (refusal_stage e.posted.request.is_waited x)) c))

  done_calm : (a : Want) (s : State) → IsPlain a → IsRested (s.handlers h) → Calm (done most h a s)
  done_calm want.Continue s plain r = r.calm
  done_calm (want.Reserve ks) s plain r = put_calm (record (s.handlers h) { stage = Reserves ks.items []; entry = ks.items }) s tt
  done_calm (want.Post q) s plain r = asks_calm q false s r.calm
  done_calm (want.Ask q passing) s plain r = asks_calm q passing s r.calm
  done_calm (want.Create class procedure actuals true) s plain r = creates_calm class procedure actuals s
  done_calm (want.Create class procedure actuals false) s plain r = absurd plain
  done_calm (want.Release ks) s plain r = calmed s (release release_at.Leave ks.items s) (released_stage release_at.Leave ks.items s h) r.calm
  done_calm (want.Wait ks) s plain r =
      let x = record (s.handlers h) { stage = Reserves (s.handlers h).entry (mark_of (λ k. (s.handlers k).sessions) ks.items) } in
      calmed (put h x s) (release release_at.FalseWaitCondition ks.items (put h x s)) (released_stage release_at.FalseWaitCondition ks.items (put h x s) h) (put_calm x s tt)
  done_calm (want.Done v ks refused) s plain r = ends_calm refused v ks.items (s.handlers h).services s r.ends
  done_calm (want.Fail why) s plain r = fail_calm why s

  pub asked_calm : (fits : Bool) (a : Want) (s : State) → IsPlain a → IsRested (s.handlers h) → Calm (asked_in fits most h a s)
  asked_calm fits a s plain r = by (posts_unheld h a s) (fits && may_ask h a s)
    where
      by : (b c : Bool) → Calm (done_if b c most h a s)
      by true c = fail_calm cause.NotHeld s
      by false true = done_calm a s plain r
      by false false = fail_calm cause.BadCode s

-- ---- the job begins

none_some : {A B : Type 0} (x : A) → None ≡ Some x → B
none_some x e = cc

some_same : {A : Type 0} (x y : A) → Some x ≡ Some y → x ≡ y
some_same x y e = cc

-- the handler has nothing to be told as it begins the job, and takes requests so
abbrev pub RestedUnder : ℕ → State → Option Job → Type 0
RestedUnder h c None = Unit {0}
RestedUnder h c (Some j) = IsRested ((begun h j c).handlers h)

module _ (h : ℕ) (c : State) (ends : EndsCalm (c.handlers h).services) where
  put_rested : (x : Handler) → IsRested x → IsRested ((put h x c).handlers h)
  put_rested x r = rw (eq-eqb h h refl) r

  released_rested : (how : Release) (ks : List ℕ) (s : State) → IsRested (s.handlers h) → IsRested ((release how ks s).handlers h)
  released_rested how ks s r = by _
    where
      by : (b : Bool) → IsRested (session_ended b (s.handlers h))
      by false = r
      by true = record { calm = r.calm; ends = r.ends }

  -- a request is taken over a stage with nothing to be told
  serves_rested : (p : Posted) (x : Handler) → IsCalm x.stage → IsRested (serves p x)
  serves_rested p x calm = record { calm = tt; ends = calm }

  entry_rested : (ks : List ℕ) (lost may : Bool) → IsCalm (c.handlers h).stage → RestedUnder h c (job_reserving lost may ks)
  entry_rested ks true may calm = record { calm = calm; ends = ends }
  entry_rested ks false true calm = put_rested (record (c.handlers h) { stage = Runs }) (record { calm = tt; ends = ends })
  entry_rested ks false false calm = tt

  answer_rested : (k : ℕ) (b : Bool) (a : Answer) → (c.handlers h).stage ≡ Awaits k b → RestedUnder h c (Some (job_answered k b a))
  answer_rested k true (Replied v) is =
      subst (λ (t : HandlerStage). IsRested ((made_at h t c).handlers h)) (sym is)
      (released_rested release_at.Creation (k ∷ []) (put h (takes_answer (c.handlers h)) c) (put_rested (takes_answer (c.handlers h)) (record { calm = tt; ends = ends })))
  answer_rested k false (Replied v) is = put_rested (takes_answer (c.handlers h)) (record { calm = tt; ends = ends })
  answer_rested k b SupplierFailed is = record { calm = subst IsCalm (sym is) tt; ends = ends }
  answer_rested k b Refused is = record { calm = subst IsCalm (sym is) tt; ends = ends }

  takes_rested : (t : HandlerStage) (x : Handler) → (c.handlers h).stage ≡ t → takes t (c.handlers h) ≡ x → IsRested x → IsRested ((put h (takes (c.handlers h).stage (c.handlers h)) c).handlers h)
  takes_rested t x is same r =
      put_rested (takes (c.handlers h).stage (c.handlers h))
      (subst (λ (u : HandlerStage). IsRested (takes u (c.handlers h))) (sym is) (subst IsRested (sym same) r))

  idle_rested : (ps : List Posted) → (c.handlers h).queue ≡ ps → (c.handlers h).stage ≡ Idle → RestedUnder h c (job_idle ps)
  idle_rested [] queued is = tt
  idle_rested (p ∷ ps) queued is =
      takes_rested Idle (takes_next (p ∷ ps) (c.handlers h)) is (ap (λ (qs : List Posted). takes_next qs (c.handlers h)) queued)
      (serves_rested p (record (c.handlers h) { queue = ps }) (subst IsCalm (sym is) tt))

  awaiting_rested : (k : ℕ) (b : Bool) (p : Option Posted) (a : Option Answer) → (c.handlers h).callback ≡ p → (c.handlers h).stage ≡ Awaits k b →
      RestedUnder h c (job_awaiting k b p a)
  awaiting_rested k b (Some p) a called is =
      takes_rested (Awaits k b) (takes_callback (Some p) (c.handlers h)) is (ap (λ (o : Option Posted). takes_callback o (c.handlers h)) called)
      (serves_rested p (record (c.handlers h) { callback = None }) (subst IsCalm (sym is) tt))
  awaiting_rested k b None (Some a) called is = answer_rested k b a is
  awaiting_rested k b None None called is = tt

  at_rested : (t : HandlerStage) → (c.handlers h).stage ≡ t → RestedUnder h c (job_at h t (c.handlers h) c)
  at_rested Idle is = idle_rested (c.handlers h).queue refl is
  at_rested Runs is = record { calm = subst IsCalm (sym is) tt; ends = ends }
  at_rested (HasMade k) is =
      subst (λ (t : HandlerStage). IsRested ((made_at h t c).handlers h)) (sym is) (put_rested (record (c.handlers h) { stage = Runs }) (record { calm = tt; ends = ends }))
  at_rested (Reserves ks mark) is = entry_rested (needs h ks c.rights) _ _ (subst IsCalm (sym is) tt)
  at_rested (Awaits k b) is = awaiting_rested k b (c.handlers h).callback (c.handlers h).answer refl is

  pub job_rested : (why : Option Cause) → RestedUnder h c (job_with h why (c.handlers h) c)
  job_rested (Some why) = tt
  job_rested None = at_rested (c.handlers h).stage refl

-- ---- what frames serve

over_calm : (o : machine.Stage) (f : machine.Frame) (t : HandlerStage) → IsAwaiting o → IsStage o f t → IsCalm t
over_calm machine.Runs f t a e = absurd a
over_calm machine.Reserves f t a e = absurd a
over_calm machine.ReservesBlock f t a e = absurd a
over_calm (machine.InCall gives) f t a e = absurd a
over_calm (machine.Awaits k gives b) f t a e = subst IsCalm (sym e) tt

top_calm : (fs : List machine.Frame) (r : machine.Request) (t : HandlerStage) → StandsOver (machine.Requested r) fs → IsTop fs t → IsCalm t
top_calm [] r t stands top = subst IsCalm (sym top) tt
top_calm (g ∷ gs) r t stands top = over_calm g.stage g t stands top

origin_calm : (n : Numbering) (o : machine.Origin) (below : List machine.Frame) (vs : List Service) →
    ((us : List Service) → AreServices n below us → EndsCalm us) → IsOrigin n o (AreServices n below) below vs → StandsOver o below → EndsCalm vs
origin_calm n (machine.Called c) below vs rest e stands = rest vs e
origin_calm n (machine.Requested r) below [] rest e stands = absurd e
origin_calm n (machine.Requested r) below (v ∷ vs) rest e stands = top_calm below r v.over stands e.1

-- Where frames stand in order, each request was taken over a handler with nothing to be told.
pub services_calm : (n : Numbering) (fs : List machine.Frame) (vs : List Service) → AreServices n fs vs → AreInOrder fs → EndsCalm vs
services_calm n [] vs e order = subst EndsCalm (sym e) tt
services_calm n (f ∷ below) vs e order = origin_calm n f.origin below vs (λ us is. services_calm n below us is order.2) e order.0
