-- What becomes of a handler names no more handlers, and no more counts.
use Rattle.std.proofs.Common.{◌≡◌, ◌<◌, ◌≤◌, ◌==◌, ◌∙◌, inl, inr, ℕ, Bool, true, false, List, [], ◌∷◌, Option, Some, None, map, refl, sym, ap, subst, arith}
use Rattle.std.proofs.lemmas.Bool.{and_parts, ltb-true, ltb-false, cases_Bool, ne_eqb}
use Rattle.std.proofs.lemmas.List.Elements.{All-cons, All-filter, All-head, All-nil, All-push, All-tail, All-weaker}
use Rattle.std.specs.Prelude.{nat_lt, not, if◌then◌else◌}
use Rattle.std.specs.List.{All, filter_map, list_all}
use Rattle.sc_lockpass.specs.Rights as rights
use Rattle.sc_lockpass.specs.Rights.{Rights, held, is_among, is_handler, lost_by, release_all}
use Rattle.sc_lockpass.specs.Passing.{Passed, give_back, listed, moved, pass, passed_by, returned}
use Rattle.sc_lockpass.specs.wait_conditions.Entries.{each_once, unheld}
use Rattle.sc_lockpass.specs.declared.wait_conditions.mark.Marked.{Marked}
use Rattle.sc_model.specs.declared.cause.Cause.{Cause}
use Rattle.sc_region.specs.declared.job.Request.{Request}
use Rattle.sc_region.specs.declared.job.Job.{Job}
use Rattle.sc_region.specs.declared.job.Job.TheVariants as job
use Rattle.sc_handler.specs.Handlers.{Posted, posted, Answer, Replied, SupplierFailed, Refused, HandlerStage, Idle, Runs, HasMade, Reserves, Awaits, Service, service, Handler, State, new_handler}
use Rattle.sc_handler.specs.Changes.{answered, counted_refusal, fallen, placed, session_ended, takes, takes_answer, takes_callback, takes_next, to_list, told}
use Rattle.sc_handler.specs.Picking.{job_answered, job_at, job_awaiting, job_idle, job_of, job_reserving, job_with, needs}
use Rattle.sc_request.specs.Candidates.{granted_items}
use Rattle.sc_request.specs.Sessions.{passed_if}
use Rattle.sc_counts.specs.Counted.{AreBelow, IsCounted, IsFreeFrom, IsHandlerCounted, IsReached, IsServiceCounted, IsStageCounted, PassesBelow}

-- ---- rights

module _ (n : ℕ) where
  far_from : (k : ℕ) (ks : List ℕ) → n ≤ k → AreBelow n ks → is_among k ks ≡ false
  far_from k [] far all = refl
  far_from k (j ∷ ks) far all =
      let l = All-head (λ i. i < n) j ks all in
      rw (ne_eqb j k (λ e. omega (arith, l, far, e))) (far_from k ks far (All-tail (λ i. i < n) j ks all))

  pub reserve_free : (h : ℕ) (ks : List ℕ) (r : Rights) → AreBelow n ks → IsFreeFrom n r → IsFreeFrom n (rights.reserve h ks r)
  reserve_free h ks r below free k far = rw (far_from k ks far below) (free k far)

  none_either : (b : Bool) (o : Option ℕ) → o ≡ None → (if b then None else o) ≡ None
  none_either true o e = refl
  none_either false o e = e

  pub release_free : (ks : List ℕ) (r : Rights) → IsFreeFrom n r → IsFreeFrom n (rights.release ks r)
  release_free ks r free k far = none_either (is_among k ks) (r.queue k) (free k far)

  lost_none : (h : ℕ) (o : Option ℕ) → o ≡ None → lost_by h o ≡ None
  lost_none h None e = refl
  lost_none h (Some k) e = cc

  pub release_all_free : (h : ℕ) (r : Rights) → IsFreeFrom n r → IsFreeFrom n (release_all h r)
  release_all_free h r free k far = lost_none h (r.queue k) (free k far)

  moved_none : (h k : ℕ) (o : Option ℕ) → o ≡ None → moved h k o ≡ None
  moved_none h k None e = refl
  moved_none h k (Some j) e = cc

  pub pass_free : (h k : ℕ) (r : Rights) → IsFreeFrom n r → IsFreeFrom n (pass h k r)
  pass_free h k r free j far = moved_none h k (r.queue j) (free j far)

  returned_none : (p : Option (Option ℕ)) (o : Option ℕ) → p ≡ None → o ≡ None → returned p o ≡ None
  returned_none None o e f = f
  returned_none (Some q) o e f = cc

  pub give_back_free : (q : Passed) (r : Rights) → ((k : ℕ) → n ≤ k → q.queue k ≡ None) → IsFreeFrom n r → IsFreeFrom n (give_back q r)
  give_back_free q r is free k far = returned_none (q.queue k) (r.queue k) (is k far) (free k far)

  listed_none : (h : ℕ) (o : Option ℕ) → o ≡ None → listed h o ≡ None
  listed_none h None e = refl
  listed_none h (Some j) e = cc

  some_same : (p q : Passed) → Some p ≡ Some q → p ≡ q
  some_same p q e = cc

  -- what a handler passes is below, where what is held is
  pub passes_below : (b : Bool) (h : ℕ) (q : Request) (r : Rights) → IsFreeFrom n r → PassesBelow n (posted q (passed_if b h r))
  passes_below false h q r free p e k far = cc
  passes_below true h q r free p e k far =
      ap (λ (o : Passed). o.queue k) (sym (some_same (passed_by h r) p e)) ∙ listed_none h (r.queue k) (free k far)

  pub none_passes : (q : Request) → PassesBelow n (posted q None)
  none_passes q p e k far = cc

  is_nobody : {A : Type 0} (h : ℕ) (o : Option ℕ) → o ≡ None → is_handler h o ≡ true → A
  is_nobody h None e f = cc
  is_nobody h (Some k) e f = cc

  -- those that a handler may post to are below
  pub own_below : (h : ℕ) (r : Rights) (ks : List ℕ) → IsFreeFrom n r → list_all (λ k. is_handler h (r.queue k)) ks ≡ true → AreBelow n ks
  own_below h r [] free e = All-nil (λ i. i < n)
  own_below h r (k ∷ ks) free e =
      let parts = and_parts (is_handler h (r.queue k)) (list_all (λ j. is_handler h (r.queue j)) ks) e in
      All-cons (λ i. i < n) k ks (below parts.0) (own_below h r ks free parts.1)
    where
      below : is_handler h (r.queue k) ≡ true → k < n
      below own = elim (cases_Bool (nat_lt k n)) [
        | inl is ↦ ltb-true k n is
        | inr is ↦ is_nobody h (r.queue k) (free k (ltb-false k n is)) own
      ]

  pub listed_below : (ks : List ℕ) → list_all (λ k. nat_lt k n) ks ≡ true → AreBelow n ks
  listed_below [] e = All-nil (λ i. i < n)
  listed_below (k ∷ ks) e =
      let parts = and_parts (nat_lt k n) (list_all (λ j. nat_lt j n) ks) e in
      All-cons (λ i. i < n) k ks (ltb-true k n parts.0) (listed_below ks parts.1)

  -- ---- what is granted

  unheld_below : (h : ℕ) (r : Rights) (ks : List ℕ) → AreBelow n ks → AreBelow n (filter_map (unheld r h) (map Some ks))
  unheld_below h r [] all = All-nil (λ i. i < n)
  unheld_below h r (k ∷ ks) all = elim (cases_Bool (held r h k)) [
    | inl is ↦ rw is (unheld_below h r ks (All-tail (λ i. i < n) k ks all))
    | inr isnt ↦ rw isnt (All-cons (λ i. i < n) k (filter_map (unheld r h) (map Some ks)) (All-head (λ i. i < n) k ks all)
        (unheld_below h r ks (All-tail (λ i. i < n) k ks all)))
  ]

  once_below : (ks : List ℕ) → AreBelow n ks → AreBelow n (each_once ks)
  once_below [] all = All-nil (λ i. i < n)
  once_below (k ∷ ks) all =
      let rest = once_below ks (All-tail (λ i. i < n) k ks all) in
      All-cons (λ i. i < n) k _ (All-head (λ i. i < n) k ks all) (All-filter (λ j. not (j == k)) (λ i. i < n) (each_once ks) rest)

  needs_below : (h : ℕ) (ks : List ℕ) (r : Rights) → AreBelow n ks → AreBelow n (needs h ks r)
  needs_below h ks r all = once_below (filter_map (unheld r h) (map Some ks)) (unheld_below h r ks all)

  same_job : (i j : Job) → Some i ≡ Some j → i ≡ j
  same_job i j e = cc

  none_some : {A : Type 0} (j : Job) → None ≡ Some j → A
  none_some j e = cc

  none_granted : (i j : Job) → granted_items i ≡ [] → Some i ≡ Some j → AreBelow n (granted_items j)
  none_granted i j none e =
      subst (AreBelow n) (ap granted_items (same_job i j e)) (subst (AreBelow n) (sym none) (All-nil (λ i. i < n)))

  idle_grants : (ps : List Posted) (j : Job) → job_idle ps ≡ Some j → AreBelow n (granted_items j)
  idle_grants [] j e = none_some j e
  idle_grants (p ∷ ps) j e = none_granted (job.Take p.request) j refl e

  answer_grants : (k : ℕ) (b : Bool) (a : Answer) → granted_items (job_answered k b a) ≡ []
  answer_grants k true (Replied v) = refl
  answer_grants k false (Replied v) = refl
  answer_grants k b SupplierFailed = refl
  answer_grants k b Refused = refl

  awaiting_grants : (k : ℕ) (b : Bool) (o : Option Posted) (a : Option Answer) (j : Job) → job_awaiting k b o a ≡ Some j → AreBelow n (granted_items j)
  awaiting_grants k b (Some p) a j e = none_granted (job.Take p.request) j refl e
  awaiting_grants k b None (Some a) j e = none_granted (job_answered k b a) j (answer_grants k b a) e
  awaiting_grants k b None None j e = none_some j e

  reserving_grants : (fails may : Bool) (ks : List ℕ) (j : Job) → AreBelow n ks → job_reserving fails may ks ≡ Some j → AreBelow n (granted_items j)
  reserving_grants true may ks j all e = none_granted job.Failed j refl e
  reserving_grants false true ks j all e = subst (AreBelow n) (ap granted_items (same_job (job.Granted (record { items = ks })) j e)) all
  reserving_grants false false ks j all e = none_some j e

  at_grants : (S : ℕ → ℕ) (h : ℕ) (st : HandlerStage) (x : Handler) (s : State) (j : Job) → IsStageCounted S n st → job_at h st x s ≡ Some j → AreBelow n (granted_items j)
  at_grants S h Idle x s j c e = idle_grants x.queue j e
  at_grants S h Runs x s j c e = none_granted job.Go j refl e
  at_grants S h (HasMade k) x s j c e = none_granted (job.Made k) j refl e
  at_grants S h (Reserves ks mark) x s j c e = reserving_grants _ _ (needs h ks s.rights) j (needs_below h ks s.rights c.0) e
  at_grants S h (Awaits k b) x s j c e = awaiting_grants k b x.callback x.answer j e

  pub with_grants : (S : ℕ → ℕ) (h : ℕ) (o : Option Cause) (x : Handler) (s : State) (j : Job) → IsStageCounted S n x.stage → job_with h o x s ≡ Some j → AreBelow n (granted_items j)
  with_grants S h (Some why) x s j c e = none_some j e
  with_grants S h None x s j c e = at_grants S h x.stage x s j c e

if_some : {A : Type 0} (b : Bool) (o : Option A) (a : A) → (if b then o else None) ≡ Some a → o ≡ Some a
if_some true o a e = e
if_some false o a e = cc

-- What a handler is granted is there.
pub job_grants : (h : ℕ) (s : State) (j : Job) → IsCounted s → job_of h s ≡ Some j → AreBelow s.count (granted_items j)
job_grants h s j c e =
    with_grants s.count _ h (s.handlers h).failure (s.handlers h) s j (c.handlers h).stage (if_some (nat_lt h s.count) _ j e)

-- ---- more handlers, and more counts

module _ (S S' : ℕ → ℕ) (n n' : ℕ) (le : n ≤ n') (up : (k : ℕ) → k < n → S k ≤ S' k) where
  reached_more : (m : Marked) → IsReached S n m → IsReached S' n' m
  reached_more m c =
      let below = c.below in
      let reached = c.reached in
      let now = up m.handler below in
      record { below = omega (arith, below, le); reached = omega (arith, reached, now) }

  below_more : (ks : List ℕ) → AreBelow n ks → AreBelow n' ks
  below_more ks all = All-weaker (λ i. i < n) (λ i. i < n') (λ i l. omega (arith, l, le)) ks all

  stage_more : (st : HandlerStage) → IsStageCounted S n st → IsStageCounted S' n' st
  stage_more Idle c = tt
  stage_more Runs c = tt
  stage_more (HasMade k) c = tt
  stage_more (Reserves ks mark) c = (below_more ks c.0, All-weaker (IsReached S n) (IsReached S' n') reached_more mark c.1)
  stage_more (Awaits k is_creation) c = tt

  passes_more : (p : Posted) → PassesBelow n p → PassesBelow n' p
  passes_more p c q e k far = c q e k (omega (arith, far, le))

  service_more : (v : Service) → IsServiceCounted S n v → IsServiceCounted S' n' v
  service_more v c = record { passes = passes_more v.posted c.passes; over = stage_more v.over c.over }

  pub handler_more : (x : Handler) → IsHandlerCounted S n x → IsHandlerCounted S' n' x
  handler_more x c = record {
    stage = stage_more x.stage c.stage;
    services = All-weaker (IsServiceCounted S n) (IsServiceCounted S' n') service_more x.services c.services;
    entry = below_more x.entry c.entry;
    queue = All-weaker (PassesBelow n) (PassesBelow n') passes_more x.queue c.queue;
    callback = All-weaker (PassesBelow n) (PassesBelow n') passes_more (to_list x.callback) c.callback;
  }

-- ---- one handler

module _ (S : ℕ → ℕ) (n : ℕ) where
  pub new_counted : IsHandlerCounted S n new_handler
  new_counted = record {
    stage = tt;
    services = All-nil (IsServiceCounted S n);
    entry = All-nil (λ i. i < n);
    queue = All-nil (PassesBelow n);
    callback = All-nil (PassesBelow n);
  }

  pub staged : (st : HandlerStage) (x : Handler) → IsStageCounted S n st → IsHandlerCounted S n x → IsHandlerCounted S n (record x { stage = st })
  staged st x e c = record { stage = e; services = c.services; entry = c.entry; queue = c.queue; callback = c.callback }

  pub entered : (ks : List ℕ) (x : Handler) → AreBelow n ks → IsHandlerCounted S n x → IsHandlerCounted S n (record x { stage = Reserves ks []; entry = ks })
  entered ks x below c =
      record { stage = (below, All-nil (IsReached S n)); services = c.services; entry = below; queue = c.queue; callback = c.callback }

  next_counted : (ps : List Posted) (x : Handler) → All (PassesBelow n) ps → IsHandlerCounted S n x → IsHandlerCounted S n (takes_next ps x)
  next_counted [] x all c = c
  next_counted (p ∷ ps) x all c = record {
    stage = tt;
    services = All-cons (IsServiceCounted S n) (service p x.stage) x.services (record { passes = All-head (PassesBelow n) p ps all; over = c.stage }) c.services;
    entry = c.entry;
    queue = All-tail (PassesBelow n) p ps all;
    callback = c.callback;
  }

  callback_counted : (o : Option Posted) (x : Handler) → All (PassesBelow n) (to_list o) → IsHandlerCounted S n x → IsHandlerCounted S n (takes_callback o x)
  callback_counted None x all c = c
  callback_counted (Some p) x all c = record {
    stage = tt;
    services = All-cons (IsServiceCounted S n) (service p x.stage) x.services (record { passes = All-head (PassesBelow n) p [] all; over = c.stage }) c.services;
    entry = c.entry;
    queue = c.queue;
    callback = All-nil (PassesBelow n);
  }

  pub taken : (st : HandlerStage) (x : Handler) → IsHandlerCounted S n x → IsHandlerCounted S n (takes st x)
  taken Idle x c = next_counted x.queue x c.queue c
  taken Runs x c = c
  taken (HasMade k) x c = c
  taken (Reserves ks mark) x c = c
  taken (Awaits k is_creation) x c = callback_counted x.callback x c.callback c

  pub answer_taken : (x : Handler) → IsHandlerCounted S n x → IsHandlerCounted S n (takes_answer x)
  answer_taken x c = record { stage = tt; services = c.services; entry = c.entry; queue = c.queue; callback = c.callback }

  pub placed_counted : (b : Bool) (p : Posted) (x : Handler) → PassesBelow n p → IsHandlerCounted S n x → IsHandlerCounted S n (placed b p x)
  placed_counted true p x e c = record {
    stage = c.stage;
    services = c.services;
    entry = c.entry;
    queue = c.queue;
    callback = All-cons (PassesBelow n) p [] e (All-nil (PassesBelow n));
  }
  placed_counted false p x e c = record {
    stage = c.stage;
    services = c.services;
    entry = c.entry;
    queue = All-push (PassesBelow n) x.queue p c.queue e;
    callback = c.callback;
  }

  pub answered_counted : (a : Answer) (x : Handler) → IsHandlerCounted S n x → IsHandlerCounted S n (answered a x)
  answered_counted a x c = record { stage = c.stage; services = c.services; entry = c.entry; queue = c.queue; callback = c.callback }

  pub told_counted : (b : Bool) (x : Handler) → IsHandlerCounted S n x → IsHandlerCounted S n (told b x)
  told_counted true x c = answered_counted SupplierFailed x c
  told_counted false x c = c

  pub fallen_counted : (why : Cause) (x : Handler) → IsHandlerCounted S n (fallen why x)
  fallen_counted why x = record {
    stage = tt;
    services = All-nil (IsServiceCounted S n);
    entry = All-nil (λ i. i < n);
    queue = All-nil (PassesBelow n);
    callback = All-nil (PassesBelow n);
  }

  pub session_counted : (b : Bool) (x : Handler) → IsHandlerCounted S n x → IsHandlerCounted S n (session_ended b x)
  session_counted true x c = record { stage = c.stage; services = c.services; entry = c.entry; queue = c.queue; callback = c.callback }
  session_counted false x c = c

  pub refusal_counted : (b : Bool) (x : Handler) → IsHandlerCounted S n x → IsHandlerCounted S n (counted_refusal b x)
  refusal_counted true x c = c
  refusal_counted false x c = record { stage = c.stage; services = c.services; entry = c.entry; queue = c.queue; callback = c.callback }

  -- the handler after the request that it served last
  pub served_counted : (v : Service) (vs : List Service) (x : Handler) → All (IsServiceCounted S n) (v ∷ vs) → IsHandlerCounted S n x →
      IsHandlerCounted S n (record x { stage = v.over; services = vs })
  served_counted v vs x all c = record {
    stage = (All-head (IsServiceCounted S n) v vs all).over;
    services = All-tail (IsServiceCounted S n) v vs all;
    entry = c.entry;
    queue = c.queue;
    callback = c.callback;
  }

  pub either_counted : (b : Bool) (x y : Handler) → IsHandlerCounted S n x → IsHandlerCounted S n y → IsHandlerCounted S n (if b then x else y)
  either_counted true x y e f = e
  either_counted false x y e f = f
