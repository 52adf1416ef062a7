-- In a settlement each other handler stays at its stage, and a job to go on stays due.
use Rattle.std.proofs.Common.{◌≡◌, ◌⊎◌, inl, inr, ◌<◌, ◌≤◌, ◌==◌, ◌&&◌, ◌||◌, not, ℕ, Bool, true, false, List, [], ◌∷◌, Option, Some, None, length, refl, sym, ap, subst, ◌∙◌, arith}
use Rattle.std.proofs.lemmas.Bool.{cases_eq, eq-eqb, ne_eqb, lt-ltb, ltb-true}
use Rattle.std.specs.Prelude.{if◌then◌else◌, is_some, nat_lt}
use Rattle.std.specs.List.{list_any}
use Rattle.arrayvec.specs.ArrayVec.{ArrayVec}
use Rattle.sc_lockpass.specs.Rights.{is_among, is_handler}
use Rattle.sc_lockpass.specs.Passing.{Passed}
use Rattle.sc_lockpass.specs.wait_conditions.Reservations.{ends_session, mark_of, may_reserve, reserve_fails}
use Rattle.sc_lockpass.specs.declared.wait_conditions.session.Release.{Release}
use Rattle.sc_lockpass.specs.declared.wait_conditions.session.Release.TheVariants as release_at
use Rattle.sc_model.specs.declared.cause.Cause.{Cause}
use Rattle.sc_model.specs.declared.cause.Cause.TheVariants as cause
use Rattle.sc_model.specs.Limits.{max_queue}
use Rattle.sc_region.specs.declared.value.Value.{Value}
use Rattle.sc_region.specs.declared.job.Job.{Job}
use Rattle.sc_region.specs.declared.job.Job.TheVariants as job
use Rattle.sc_region.specs.declared.job.Request.{Request}
use Rattle.sc_region.specs.declared.job.Want.{Want}
use Rattle.sc_region.specs.declared.job.Want.TheVariants as want
use Rattle.sc_handler.specs.Handlers.{Posted, posted, Answer, Replied, SupplierFailed, Refused, HandlerStage, Idle, Runs, HasMade, Reserves, Awaits, Service, Handler, State, put, standing_in, with_stage}
use Rattle.sc_handler.specs.Picking.{job_at, job_awaiting, job_idle, job_of, job_reserving, job_with, needs}
use Rattle.sc_handler.specs.Changes.{answered, is_waited_by, placed, requests_at, session_ended, told, counted_refusal, takes, takes_answer}
use Rattle.sc_handler.specs.Fits.{fits_turns}
use Rattle.sc_request.specs.Sessions.{answer_to, fail, finish, is_callback, passed_if, passes, release, reserve, return_rights, send, with_handler}
use Rattle.sc_request.specs.Settling.{asks_of, awaits_if, begun, creates, creates_with, creation, done, done_if, ends, ends_service, made_at, may_ask, posts_unheld, sends, settled}

-- ---- one handler

-- It stands where it stood.
abbrev StaysSo : Handler → Handler → Type 0
StaysSo x y = (y.stage ≡ x.stage) × (y.failure ≡ x.failure)

so : (x : Handler) → StaysSo x x
so x = (refl, refl)

so_then : (x y z : Handler) → StaysSo x y → StaysSo y z → StaysSo x z
so_then x y z p q = (q.0 ∙ p.0, q.1 ∙ p.1)

ended_so : (b : Bool) (x : Handler) → StaysSo x (session_ended b x)
ended_so true x = (refl, refl)
ended_so false x = (refl, refl)

told_so : (b : Bool) (x : Handler) → StaysSo x (told b x)
told_so true x = (refl, refl)
told_so false x = (refl, refl)

placed_so : (b : Bool) (p : Posted) (x : Handler) → StaysSo x (placed b p x)
placed_so true p x = (refl, refl)
placed_so false p x = (refl, refl)

-- ---- states

-- There are as many handlers, or more, and each but this one stands where it stood.
pub record OthersStay (h : ℕ) (s t : State) : Type 0 where
  pub more : s.count ≤ t.count
  pub others : (k : ℕ) → (k ≡ h → ⊥) → k < s.count → StaysSo (s.handlers k) (t.handlers k)

module _ (h : ℕ) where
  stay : (s : State) → OthersStay h s s
  stay s = record { more = omega arith; others = λ k apart few. so (s.handlers k) }

  stay_then : (s t u : State) → OthersStay h s t → OthersStay h t u → OthersStay h s u
  stay_then s t u p q =
      let one = p.more in
      let two = q.more in
      record {
        more = omega (arith, one, two);
        others = λ k apart few. so_then (s.handlers k) (t.handlers k) (u.handlers k) (p.others k apart few) (q.others k apart (omega (arith, few, one)));
      }

  each_stays : (s t : State) → t.count ≡ s.count → ((k : ℕ) → StaysSo (s.handlers k) (t.handlers k)) → OthersStay h s t
  each_stays s t same each = record { more = omega (arith, same); others = λ k apart few. each k }

  own_put : (x : Handler) (s : State) → OthersStay h s (put h x s)
  own_put x s = record { more = omega arith; others = λ k apart few. rw (ne_eqb k h apart) (so (s.handlers k)) }

  any_put : (i : ℕ) (x : Handler) (s : State) → StaysSo (s.handlers i) x → OthersStay h s (put i x s)
  any_put i x s p = each_stays s (put i x s) refl (λ k. by k (cases_eq k i))
    where
      by : (k : ℕ) → (k ≡ i) ⊎ (k ≡ i → ⊥) → StaysSo (s.handlers k) (if k == i then x else s.handlers k)
      by k (inl same) = rw (eq-eqb k i same) (subst (λ (j : ℕ). StaysSo (s.handlers j) x) (sym same) p)
      by k (inr apart) = rw (ne_eqb k i apart) (so (s.handlers k))

  released : (how : Release) (ks : List ℕ) (s : State) → OthersStay h s (release how ks s)
  released how ks s = each_stays s (release how ks s) refl (λ k. ended_so (ends_session how && is_among k ks) (s.handlers k))

  staged : (stage : HandlerStage) (s : State) → OthersStay h s (with_stage h stage s)
  staged stage s = own_put (record (s.handlers h) { stage = stage }) s

  passed_on : (b : Bool) (i k : ℕ) (s : State) → OthersStay h s (passes b i k s)
  passed_on true i k s = each_stays s (passes true i k s) refl (λ j. so (s.handlers j))
  passed_on false i k s = stay s

  sent : (b : Bool) (k : ℕ) (p : Posted) (s : State) → OthersStay h s (send b k p s)
  sent b k p s = any_put k (placed b p (s.handlers k)) s (placed_so b p (s.handlers k))

  returned : (p : Option Passed) (s : State) → OthersStay h s (return_rights p s)
  returned None s = stay s
  returned (Some p) s = each_stays s (return_rights (Some p) s) refl (λ k. so (s.handlers k))

  answers : (b : Bool) (p : Option ℕ) (a : Answer) (s : State) → OthersStay h s (answer_to b p a s)
  answers true (Some p) a s = any_put p (answered a (s.handlers p)) s (refl, refl)
  answers true None a s = stay s
  answers false p a s = stay s

  finished : (p : Posted) (a : Answer) (s : State) → OthersStay h s (finish p a s)
  finished p a s =
      stay_then s (return_rights p.passed s) (finish p a s) (returned p.passed s)
      (answers p.request.is_waited p.request.poster a (return_rights p.passed s))

  fails : (why : Cause) (s : State) → OthersStay h s (fail h why s)
  fails why s = record { more = omega arith; others = λ k apart few. rw (ne_eqb k h apart) (by k) }
    where
      falls : ℕ → Bool
      falls k = ends_session release_at.Failure && is_handler h (s.rights.queue k)

      waits : ℕ → Bool
      waits k = list_any (is_waited_by k) (requests_at (s.handlers h))

      by : (k : ℕ) → StaysSo (s.handlers k) (session_ended (falls k) (told (waits k) (s.handlers k)))
      by k =
          so_then (s.handlers k) (told (waits k) (s.handlers k)) (session_ended (falls k) (told (waits k) (s.handlers k))) (told_so (waits k) (s.handlers k))
          (ended_so (falls k) (told (waits k) (s.handlers k)))

  if_stays : (b : Bool) (s t u : State) → OthersStay h s t → OthersStay h s u → OthersStay h s (if b then t else u)
  if_stays true s t u p q = p
  if_stays false s t u p q = q

  -- ---- the job begins

  made : (stage : HandlerStage) (s : State) → OthersStay h s (made_at h stage s)
  made (Awaits k c) s =
      let t : State = put h (takes_answer (s.handlers h)) s in
      stay_then s t (release release_at.Creation (k ∷ []) t) (own_put (takes_answer (s.handlers h)) s) (released release_at.Creation (k ∷ []) t)
  made Idle s = staged Runs s
  made Runs s = staged Runs s
  made (HasMade k) s = staged Runs s
  made (Reserves ks mark) s = staged Runs s

  begins : (j : Job) (s : State) → OthersStay h s (begun h j s)
  begins (job.Take r) s = own_put (takes (s.handlers h).stage (s.handlers h)) s
  begins (job.Reply v) s = own_put (takes_answer (s.handlers h)) s
  begins job.Failed s = stay s
  begins job.Refused s = stay s
  begins (job.Granted ks) s =
      let t : State = with_stage h Runs s in
      stay_then s t (reserve h ks.items t) (staged Runs s) (each_stays t (reserve h ks.items t) refl (λ k. so (t.handlers k)))
  begins (job.Made k) s = made (s.handlers h).stage s
  begins job.Go s = stay s

  -- ---- what a turn asks

  awaits : (b : Bool) (k : ℕ) (s : State) → OthersStay h s (awaits_if b h k s)
  awaits true k s = staged (Awaits k false) s
  awaits false k s = stay s

  asked_of : (k : ℕ) (r : Request) (passing waits : Bool) (s : State) → OthersStay h s (sends h k r passing waits s)
  asked_of k r passing waits s =
      let t : State = awaits_if waits h k s in
      let p : Posted = posted (record r { is_waited = waits }) (passed_if passing h s.rights) in
      let u : State = send (is_callback h k s) k p t in
      stay_then s u (passes passing h k u) (stay_then s t u (awaits waits k s) (sent (is_callback h k s) k p t)) (passed_on passing h k u)

  asks : (k : ℕ) (r : Request) (passing : Bool) (s : State) → OthersStay h s (asks_of h k r passing s)
  asks k r passing s =
      let goes : State = sends h k r passing (passing || r.is_waited || is_callback h k s) s in
      let full : Bool = not (is_callback h k s) && not (nat_lt (length (s.handlers k).queue) max_queue) in
      if_stays (is_some (s.handlers k).failure) s (fail h cause.SupplierFailed s) (if full then fail h cause.QueueFull s else goes) (fails cause.SupplierFailed s)
      (if_stays full s (fail h cause.QueueFull s) goes (fails cause.QueueFull s) (asked_of k r passing (passing || r.is_waited || is_callback h k s) s))

  one_more : (s : State) → OthersStay h s (with_handler s.count h s)
  one_more s = record {
    more = omega arith;
    others = λ k apart few. rw (ne_eqb k s.count (λ same. absurd (omega (arith, few, same)))) (so (s.handlers k));
  }

  creates_one : (b : Bool) (k : ℕ) (r : Request) (s : State) → OthersStay h s (creates_with b h k r s)
  creates_one true k r s =
      let t : State = with_stage h (Awaits k true) s in
      let p : Posted = posted r (passed_if true h s.rights) in
      let v : State = send false k p t in
      stay_then s v (passes true h k v) (stay_then s t v (staged (Awaits k true) s) (sent false k p t)) (passed_on true h k v)
  creates_one false k r s =
      let t : State = with_stage h (HasMade k) s in
      let v : State = send false k (posted r None) t in
      stay_then s v (release release_at.Creation (k ∷ []) v) (stay_then s t v (staged (HasMade k) s) (sent false k (posted r None) t)) (released release_at.Creation (k ∷ []) v)

  created : (most class : ℕ) (procedure : Option ℕ) (actuals : ArrayVec Value) (passing : Bool) (s : State) →
      OthersStay h s (creates most h class procedure actuals passing s)
  created most class procedure actuals passing s =
      let r : Request = creation h s.count class procedure actuals passing in
      let u : State = with_handler s.count h s in
      let v : State = creates_with passing h s.count r u in
      if_stays (nat_lt s.count most) s v (fail h cause.TooManyHandlers s) (stay_then s u v (one_more s) (creates_one passing s.count r u)) (fails cause.TooManyHandlers s)

  service_ends : (b : Bool) (v : Option Value) (ks : List ℕ) (e : Service) (x : Handler) (s : State) → OthersStay h s (ends_service b h v ks e x s)
  service_ends false v ks e x s =
      let t : State = put h x s in
      let u : State = release release_at.Exit ks t in
      stay_then s u (finish e.posted (Replied v) u) (stay_then s t u (own_put x s) (released release_at.Exit ks t)) (finished e.posted (Replied v) u)
  service_ends true v ks e x s =
      let t : State = put h (counted_refusal e.posted.request.is_waited x) s in
      let u : State = release release_at.Refusal ks t in
      stay_then s u (finish e.posted Refused u) (stay_then s t u (own_put (counted_refusal e.posted.request.is_waited x) s) (released release_at.Refusal ks t))
      (finished e.posted Refused u)

  ends_all : (v : Option Value) (ks : List ℕ) (refused : Bool) (services : List Service) (s : State) → OthersStay h s (ends h v ks refused services s)
  ends_all v ks refused [] s = fails cause.BadCode s
  ends_all v ks refused (e ∷ es) s = service_ends refused v ks e (record (s.handlers h) { stage = e.over; services = es }) s

  comes : (most : ℕ) (w : Want) (s : State) → OthersStay h s (done most h w s)
  comes most want.Continue s = stay s
  comes most (want.Reserve ks) s = own_put (record (s.handlers h) { stage = Reserves ks.items []; entry = ks.items }) s
  comes most (want.Post r) s = asks r.target.handler r false s
  comes most (want.Ask r passing) s = asks r.target.handler r passing s
  comes most (want.Create class procedure actuals passing) s = created most class procedure actuals passing s
  comes most (want.Release ks) s = released release_at.Leave ks.items s
  comes most (want.Wait ks) s =
      let stage : HandlerStage = Reserves (s.handlers h).entry (mark_of (λ k. (s.handlers k).sessions) ks.items) in
      let t : State = with_stage h stage s in
      stay_then s t (release release_at.FalseWaitCondition ks.items t) (staged stage s) (released release_at.FalseWaitCondition ks.items t)
  comes most (want.Done v ks refused) s = ends_all v ks.items refused (s.handlers h).services s
  comes most (want.Fail why) s = fails why s

  comes_if : (b c : Bool) (most : ℕ) (w : Want) (s : State) → OthersStay h s (done_if b c most h w s)
  comes_if true c most w s = fails cause.NotHeld s
  comes_if false true most w s = comes most w s
  comes_if false false most w s = fails cause.BadCode s

  -- the settlement of the handler
  pub others_stay : (most turns : ℕ) (j : Job) (w : Want) (s : State) → OthersStay h s (settled most h j turns w s)
  others_stay most turns j w s =
      let t : State = begun h j s in
      stay_then s t (settled most h j turns w s) (begins j s)
      (comes_if (posts_unheld h w t) (fits_turns turns (s.handlers h).stage j w && may_ask h w t) most w t)

-- ---- a handler that has a job to go on

no_reserving : {A : Type 0} (a b : Bool) (ks : List ℕ) (j : Job) → job_reserving a b ks ≡ Some j → (job.Failed ≡ j → A) → ((ls : List ℕ) → job.Granted (record { items = ls }) ≡ j → A) → A
no_reserving true b ks j e failed granted = failed (cc)
no_reserving false true ks j e failed granted = granted ks (cc)
no_reserving false false ks j e failed granted = cc

no_go : {A : Type 0} (k : ℕ) (c : Bool) (p : Option Posted) (a : Option Answer) → job_awaiting k c p a ≡ Some job.Go → A
no_go k c (Some p) a e = cc
no_go k true None (Some (Replied v)) e = cc
no_go k false None (Some (Replied v)) e = cc
no_go k true None (Some SupplierFailed) e = cc
no_go k false None (Some SupplierFailed) e = cc
no_go k true None (Some Refused) e = cc
no_go k false None (Some Refused) e = cc
no_go k c None None e = cc

no_idle_go : {A : Type 0} (ps : List Posted) → job_idle ps ≡ Some job.Go → A
no_idle_go [] e = cc
no_idle_go (p ∷ ps) e = cc

pub go_runs : (k : ℕ) (stage : HandlerStage) (x : Handler) (s : State) → job_at k stage x s ≡ Some job.Go → stage ≡ Runs
go_runs k Idle x s e = no_idle_go x.queue e
go_runs k Runs x s e = refl
go_runs k (HasMade i) x s e = cc
go_runs k (Reserves ks mark) x s e =
    let needed = needs k ks s.rights in
    no_reserving (reserve_fails (standing_in s) s.rights needed) (may_reserve (standing_in s) s.rights needed mark) needed job.Go e (λ is. cc) (λ ls is. cc)
go_runs k (Awaits i c) x s e = no_go i c x.callback x.answer e

made_same : (i k : ℕ) → Some (job.Made i) ≡ Some (job.Made k) → i ≡ k
made_same i k e = cc

awaited : (i k : ℕ) (c : Bool) (p : Option Posted) (a : Option Answer) → job_awaiting i c p a ≡ Some (job.Made k) → (i ≡ k) × (c ≡ true)
awaited i k c (Some p) a e = cc
awaited i k true None (Some (Replied v)) e = (made_same i k e, refl)
awaited i k false None (Some (Replied v)) e = cc
awaited i k true None (Some SupplierFailed) e = cc
awaited i k false None (Some SupplierFailed) e = cc
awaited i k true None (Some Refused) e = cc
awaited i k false None (Some Refused) e = cc
awaited i k c None None e = cc

no_idle_made : {A : Type 0} (k : ℕ) (ps : List Posted) → job_idle ps ≡ Some (job.Made k) → A
no_idle_made k [] e = cc
no_idle_made k (p ∷ ps) e = cc

-- it goes on with the handler that was made, or waits for that
made_stage : (h k : ℕ) (stage : HandlerStage) (x : Handler) (s : State) → job_at h stage x s ≡ Some (job.Made k) → (stage ≡ HasMade k) ⊎ (stage ≡ Awaits k true)
made_stage h k Idle x s e = no_idle_made k x.queue e
made_stage h k Runs x s e = cc
made_stage h k (HasMade i) x s e = inl (ap (λ (n : ℕ). HasMade n) (made_same i k e))
made_stage h k (Reserves ks mark) x s e =
    let needed = needs h ks s.rights in
    no_reserving (reserve_fails (standing_in s) s.rights needed) (may_reserve (standing_in s) s.rights needed mark) needed (job.Made k) e (λ is. cc) (λ ls is. cc)
made_stage h k (Awaits i c) x s e =
    let is = awaited i k c x.callback x.answer e in
    inr (ap (λ (n : ℕ). Awaits n c) is.0 ∙ ap (λ (b : Bool). Awaits k b) is.1)

-- what it is, where it has a job
pub record HasJob (h : ℕ) (s : State) (j : Job) : Type 0 where
  pub there : h < s.count
  pub stands : (s.handlers h).failure ≡ None
  pub due : job_at h (s.handlers h).stage (s.handlers h) s ≡ Some j

pub has_job : (h : ℕ) (s : State) (j : Job) → job_of h s ≡ Some j → HasJob h s j
has_job h s j e = by (nat_lt h s.count) (s.handlers h).failure refl refl e
  where
    by : (b : Bool) (o : Option Cause) → nat_lt h s.count ≡ b → (s.handlers h).failure ≡ o → (if b then job_with h o (s.handlers h) s else None) ≡ Some j → HasJob h s j
    by true None there stands e = record { there = ltb-true h s.count there; stands = stands; due = e }
    by true (Some why) there stands e = cc
    by false o there stands e = cc

pub job_there : (h : ℕ) (s : State) (stage : HandlerStage) (j : Job) → h < s.count → (s.handlers h).failure ≡ None → (s.handlers h).stage ≡ stage →
    job_at h stage (s.handlers h) s ≡ Some j → job_of h s ≡ Some j
job_there h s stage j there stands at due =
    ap (λ (b : Bool). if b then job_with h (s.handlers h).failure (s.handlers h) s else None) (lt-ltb h s.count there)
    ∙ ap (λ (o : Option Cause). job_with h o (s.handlers h) s) stands
    ∙ ap (λ (t : HandlerStage). job_at h t (s.handlers h) s) at ∙ due

module _ (h k most turns : ℕ) (j : Job) (w : Want) (s : State) (apart : k ≡ h → ⊥) where
  abbrev later : State
  later = settled most h j turns w s

  still : OthersStay h s later
  still = others_stay h most turns j w s

  -- A handler that goes on still has to, whatever the turn of another comes to;
  pub going_stays : job_of k s ≡ Some job.Go → job_of k later ≡ Some job.Go
  going_stays e =
      let has = has_job k s job.Go e in
      let more = still.more in
      let there = has.there in
      let same = still.others k apart there in
      job_there k later Runs job.Go (omega (arith, there, more)) (same.1 ∙ has.stands) (same.0 ∙ go_runs k (s.handlers k).stage (s.handlers k) s has.due) refl

  -- so does one that is told of a handler that was made, unless it waits for that.
  pub telling_stays : (i : ℕ) → job_of k s ≡ Some (job.Made i) → ((s.handlers k).stage ≡ Awaits i true → ⊥) → job_of k later ≡ Some (job.Made i)
  telling_stays i e not_waits =
      let has = has_job k s (job.Made i) e in
      let more = still.more in
      let there = has.there in
      let same = still.others k apart there in
      by (made_stage k i (s.handlers k).stage (s.handlers k) s has.due) (omega (arith, there, more)) (same.1 ∙ has.stands) same.0
    where
      by : ((s.handlers k).stage ≡ HasMade i) ⊎ ((s.handlers k).stage ≡ Awaits i true) → k < later.count → (later.handlers k).failure ≡ None →
          (later.handlers k).stage ≡ (s.handlers k).stage → job_of k later ≡ Some (job.Made i)
      by (inl is) there stands same = job_there k later (HasMade i) (job.Made i) there stands (same ∙ is) refl
      by (inr is) there stands same = absurd (not_waits is)
