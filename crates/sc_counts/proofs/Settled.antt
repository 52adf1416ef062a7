-- States that are read alike are settled alike.
use Rattle.std.proofs.Common.{◌≡◌, ◌<◌, ◌∙◌, ◌&&◌, ◌||◌, not, ℕ, Bool, true, false, List, [], ◌∷◌, Option, None, length, map, refl, sym, ap, subst}
use Rattle.std.specs.Prelude.{is_some, nat_lt, if◌then◌else◌}
use Rattle.std.specs.List.{All}
use Rattle.std.proofs.lemmas.List.Elements.{All-nil}
use Rattle.arrayvec.specs.ArrayVec.{ArrayVec}
use Rattle.sc_lockpass.specs.Rights as rights
use Rattle.sc_lockpass.specs.Rights.{is_among, is_handler, release_all}
use Rattle.sc_lockpass.specs.wait_conditions.Reservations.{ends_session, mark_of}
use Rattle.sc_lockpass.specs.declared.wait_conditions.mark.Marked.{Marked}
use Rattle.sc_lockpass.specs.declared.wait_conditions.session.Release.{Release}
use Rattle.sc_lockpass.specs.declared.wait_conditions.session.Release.TheVariants as release_at
use Rattle.sc_model.specs.declared.cause.Cause.{Cause}
use Rattle.sc_model.specs.declared.cause.Cause.TheVariants as cause
use Rattle.sc_model.specs.Limits.{max_queue}
use Rattle.sc_region.specs.declared.value.Value.{Value}
use Rattle.sc_region.specs.declared.job.Request.{Request}
use Rattle.sc_region.specs.declared.job.Job.{Job}
use Rattle.sc_region.specs.declared.job.Job.TheVariants as job
use Rattle.sc_region.specs.declared.job.Want.{Want}
use Rattle.sc_region.specs.declared.job.Want.TheVariants as want
use Rattle.sc_handler.specs.Handlers.{Posted, posted, Answer, Replied, Refused, HandlerStage, Idle, Runs, HasMade, Reserves, Awaits, Service, Handler, State, put, with_stage}
use Rattle.sc_handler.specs.Changes.{counted_refusal, takes, takes_answer}
use Rattle.sc_handler.specs.Canonical.{canon, canon_handler, canon_service, canon_stage, sessions_in}
use Rattle.sc_handler.specs.Fits.{fits_turns}
use Rattle.sc_request.specs.Candidates.{granted_items}
use Rattle.sc_request.specs.Sessions.{fail, finish, is_callback, passed_if, passes, release, reserve, send, with_handler}
use Rattle.sc_request.specs.Settling.{asks_of, begun, creates, creates_with, creation, done, done_if, ends, ends_service, made_at, may_ask, posts_unheld, reserves, sends, settled, waits_again}
use Rattle.sc_counts.specs.Counted.{AreBelow, IsCounted, IsServiceCounted}
use Rattle.sc_counts.proofs.Marks.{wait_reads}
use Rattle.sc_counts.proofs.Jobs.{fits_canon}
use Rattle.sc_counts.proofs.Handlers.{none_passes, refusal_counted, served_counted}
use Rattle.sc_counts.proofs.Likes.{answer_taken_canon, ended_canon, fell, fell_canon, finish_canon, put_canon, read_after, refusal_sessions, reserves_canon, send_canon, sends_canon, stage_canon, taken_canon, with_handler_canon}
use Rattle.sc_counts.proofs.Counting.{begun_counted, fell_counted, put_counted, send_counted, stage_counted, with_handler_counted}

-- the states are read alike
abbrev pub Like : State → State → Type 0
Like s t = canon s ≡ canon t

-- what is read of the one is done alike to what is read of the other
by_canon : (f : State → State) (u v s t : State) → canon u ≡ f (canon s) → canon v ≡ f (canon t) → Like s t → Like u v
by_canon f u v s t e g l = e ∙ ap f l ∙ sym g

-- ---- sessions end

-- a state that is read, where these are released so
abbrev pub read_released : Release → List ℕ → State → State
read_released how ks s = record (read_after (λ k. ends_session how && is_among k ks) s) { rights = rights.release ks s.rights }

released_canon : (how : Release) (ks : List ℕ) (s : State) → IsCounted s → canon (release how ks s) ≡ read_released how ks (canon s)
released_canon how ks s c =
    ap (λ (u : State). record u { rights = rights.release ks s.rights }) (ended_canon (λ k. ends_session how && is_among k ks) s c)

release_like : (how : Release) (ks : List ℕ) (s t : State) → IsCounted s → IsCounted t → Like s t → Like (release how ks s) (release how ks t)
release_like how ks s t c d l =
    by_canon (read_released how ks) (release how ks s) (release how ks t) s t (released_canon how ks s c) (released_canon how ks t d) l

abbrev pub read_failed : ℕ → Cause → State → State
read_failed h why s =
    record (read_after (λ k. ends_session release_at.Failure && is_handler h (s.rights.queue k)) (fell h why s)) { rights = release_all h s.rights }

failed_canon : (h : ℕ) (why : Cause) (s : State) → IsCounted s → canon (fail h why s) ≡ read_failed h why (canon s)
failed_canon h why s c =
    let own = λ (k : ℕ). ends_session release_at.Failure && is_handler h (s.rights.queue k) in
    ap (λ (u : State). record u { rights = release_all h s.rights })
    (ended_canon own (fell h why s) (fell_counted h why s c) ∙ ap (read_after own) (fell_canon h why s))

fail_like : (h : ℕ) (why : Cause) (s t : State) → IsCounted s → IsCounted t → Like s t → Like (fail h why s) (fail h why t)
fail_like h why s t c d l = by_canon (read_failed h why) (fail h why s) (fail h why t) s t (failed_canon h why s c) (failed_canon h why t d) l

-- ---- the job begins

made_stage : (S : ℕ → ℕ) (h : ℕ) (st : HandlerStage) (s : State) → made_at h st s ≡ made_at h (canon_stage S st) s
made_stage S h Idle s = refl
made_stage S h Runs s = refl
made_stage S h (HasMade k) s = refl
made_stage S h (Reserves ks mark) s = refl
made_stage S h (Awaits k b) s = refl

stage_like : (h : ℕ) (st : HandlerStage) (s t : State) → canon_stage (sessions_in s) st ≡ canon_stage (sessions_in t) st → Like s t → Like (with_stage h st s) (with_stage h st t)
stage_like h st s t e l =
    stage_canon h st s ∙ ap (λ (z : HandlerStage). with_stage h z (canon s)) e ∙ ap (with_stage h (canon_stage (sessions_in t) st)) l ∙ sym (stage_canon h st t)

answer_taken_like : (h : ℕ) (s t : State) → Like s t → Like (put h (takes_answer (s.handlers h)) s) (put h (takes_answer (t.handlers h)) t)
answer_taken_like h s t l =
    by_canon (λ (u : State). put h (takes_answer (u.handlers h)) u) (put h (takes_answer (s.handlers h)) s) (put h (takes_answer (t.handlers h)) t) s t
    (answer_taken_canon h s) (answer_taken_canon h t) l

none_granted : (n : ℕ) → AreBelow n []
none_granted n = All-nil (λ i. i < n)

made_like : (h : ℕ) (st : HandlerStage) (s t : State) → IsCounted s → IsCounted t → Like s t → Like (made_at h st s) (made_at h st t)
made_like h (Awaits k b) s t c d l =
    release_like release_at.Creation (k ∷ []) (put h (takes_answer (s.handlers h)) s) (put h (takes_answer (t.handlers h)) t)
    (begun_counted h (job.Reply None) s (none_granted s.count) c) (begun_counted h (job.Reply None) t (none_granted t.count) d) (answer_taken_like h s t l)
made_like h Idle s t c d l = stage_like h Runs s t refl l
made_like h Runs s t c d l = stage_like h Runs s t refl l
made_like h (HasMade k) s t c d l = stage_like h Runs s t refl l
made_like h (Reserves ks mark) s t c d l = stage_like h Runs s t refl l

stage_at : (h : ℕ) (s t : State) → Like s t → canon_stage (sessions_in s) (s.handlers h).stage ≡ canon_stage (sessions_in t) (t.handlers h).stage
stage_at h s t l = ap (λ (u : State). (u.handlers h).stage) l

begun_like : (h : ℕ) (j : Job) (s t : State) → IsCounted s → IsCounted t → Like s t → Like (begun h j s) (begun h j t)
begun_like h (job.Take r) s t c d l =
    by_canon (λ (u : State). put h (takes (u.handlers h).stage (u.handlers h)) u) (begun h (job.Take r) s) (begun h (job.Take r) t) s t (taken_canon h s) (taken_canon h t) l
begun_like h (job.Reply v) s t c d l = answer_taken_like h s t l
begun_like h job.Failed s t c d l = l
begun_like h job.Refused s t c d l = l
begun_like h (job.Granted ks) s t c d l = ap (reserve h ks.items) (stage_like h Runs s t refl l)
begun_like h (job.Made k) s t c d l =
    let st : HandlerStage = canon_stage (sessions_in s) (s.handlers h).stage in
    let its : HandlerStage = canon_stage (sessions_in t) (t.handlers h).stage in
    ap canon (made_stage (sessions_in s) h (s.handlers h).stage s)
    ∙ made_like h st s t c d l
    ∙ ap (λ (z : HandlerStage). canon (made_at h z t)) (stage_at h s t l)
    ∙ sym (ap canon (made_stage (sessions_in t) h (t.handlers h).stage t))
begun_like h job.Go s t c d l = l

-- ---- what is asked

if_like : (b b' : Bool) (s s' t t' : State) → b ≡ b' → Like s s' → Like t t' → Like (if b then s else t) (if b' then s' else t')
if_like true true s s' t t' e l m = l
if_like false false s s' t t' e l m = m
if_like true false s s' t t' e l m = cc
if_like false true s s' t t' e l m = cc

sends_like : (h k : ℕ) (r : Request) (passing : Bool) (s t : State) → Like s t →
    Like (sends h k r passing (passing || r.is_waited || is_callback h k s) s) (sends h k r passing (passing || r.is_waited || is_callback h k t) t)
sends_like h k r passing s t l =
    let waits = λ (u : State). passing || r.is_waited || is_callback h k u in
    by_canon (λ (u : State). sends h k r passing (waits u) u) (sends h k r passing (waits s) s) (sends h k r passing (waits t) t) s t
    (sends_canon h k r passing (waits s) s) (sends_canon h k r passing (waits t) t) l

asks_like : (h k : ℕ) (r : Request) (passing : Bool) (s t : State) → IsCounted s → IsCounted t → Like s t → Like (asks_of h k r passing s) (asks_of h k r passing t)
asks_like h k r passing s t c d l =
    let full = λ (u : State). not (is_callback h k u) && not (nat_lt (length (u.handlers k).queue) max_queue) in
    let sent = λ (u : State). sends h k r passing (passing || r.is_waited || is_callback h k u) u in
    if_like (is_some (s.handlers k).failure) (is_some (t.handlers k).failure) (fail h cause.SupplierFailed s) (fail h cause.SupplierFailed t)
    (if full s then fail h cause.QueueFull s else sent s) (if full t then fail h cause.QueueFull t else sent t)
    (ap (λ (u : State). is_some (u.handlers k).failure) l) (fail_like h cause.SupplierFailed s t c d l)
    (if_like (full s) (full t) (fail h cause.QueueFull s) (fail h cause.QueueFull t) (sent s) (sent t)
    (ap full l) (fail_like h cause.QueueFull s t c d l) (sends_like h k r passing s t l))

-- ---- a handler is made

creates_with_like : (b : Bool) (h k : ℕ) (r : Request) (s t : State) → IsCounted s → IsCounted t → Like s t → Like (creates_with b h k r s) (creates_with b h k r t)
creates_with_like true h k r s t c d l =
    let f = λ (u : State). passes true h k (send false k (posted r (passed_if true h u.rights)) (with_stage h (Awaits k true) u)) in
    let one : (u : State) → canon (f u) ≡ f (canon u) = λ u.
    ap (passes true h k)
    (send_canon false k (posted r (passed_if true h u.rights)) (with_stage h (Awaits k true) u)
    ∙ ap (send false k (posted r (passed_if true h u.rights))) (stage_canon h (Awaits k true) u)) in
    by_canon f (f s) (f t) s t (one s) (one t) l
creates_with_like false h k r s t c d l =
    let f = λ (u : State). send false k (posted r None) (with_stage h (HasMade k) u) in
    let one : (u : State) → canon (f u) ≡ f (canon u) = λ u.
    send_canon false k (posted r None) (with_stage h (HasMade k) u) ∙ ap (send false k (posted r None)) (stage_canon h (HasMade k) u) in
    let counted : (u : State) → IsCounted u → IsCounted (f u) = λ u e.
    send_counted false k (posted r None) (with_stage h (HasMade k) u) (none_passes u.count r) (stage_counted h (HasMade k) u tt e) in
    release_like release_at.Creation (k ∷ []) (f s) (f t) (counted s c) (counted t d) (by_canon f (f s) (f t) s t (one s) (one t) l)

with_handler_like : (h : ℕ) (s t : State) → IsCounted s → IsCounted t → Like s t → Like (with_handler s.count h s) (with_handler t.count h t)
with_handler_like h s t c d l =
    by_canon (λ (u : State). with_handler u.count h u) (with_handler s.count h s) (with_handler t.count h t) s t (with_handler_canon h s c) (with_handler_canon h t d) l

creates_like : (most h class : ℕ) (procedure : Option ℕ) (actuals : ArrayVec Value) (passing : Bool) (s t : State) → IsCounted s → IsCounted t → Like s t →
    Like (creates most h class procedure actuals passing s) (creates most h class procedure actuals passing t)
creates_like most h class procedure actuals passing s t c d l =
    let many : s.count ≡ t.count = ap (λ (u : State). u.count) l in
    let r = λ (n : ℕ). creation h n class procedure actuals passing in
    let u : State = with_handler s.count h s in
    let v : State = with_handler t.count h t in
    let made = creates_with_like passing h s.count (r s.count) u v (with_handler_counted h s c) (with_handler_counted h t d) (with_handler_like h s t c d l) in
    if_like (nat_lt s.count most) (nat_lt t.count most) (creates_with passing h s.count (r s.count) u) (creates_with passing h t.count (r t.count) v)
    (fail h cause.TooManyHandlers s) (fail h cause.TooManyHandlers t) (ap (λ (n : ℕ). nat_lt n most) many)
    (made ∙ ap (λ (n : ℕ). canon (creates_with passing h n (r n) v)) many)
    (fail_like h cause.TooManyHandlers s t c d l)

-- ---- a request ends

finish_like : (p : Posted) (a : Answer) (s t : State) → Like s t → Like (finish p a s) (finish p a t)
finish_like p a s t l = by_canon (finish p a) (finish p a s) (finish p a t) s t (finish_canon p a s) (finish_canon p a t) l

put_like : (h : ℕ) (x y : Handler) (s t : State) → x.sessions ≡ (s.handlers h).sessions → y.sessions ≡ (t.handlers h).sessions →
    canon_handler (sessions_in s) x ≡ canon_handler (sessions_in t) y → Like s t → Like (put h x s) (put h y t)
put_like h x y s t e g same l =
    put_canon h x s e ∙ ap (λ (z : Handler). put h z (canon s)) same ∙ ap (put h (canon_handler (sessions_in t) y)) l ∙ sym (put_canon h y t g)

refusal_canon : (S : ℕ → ℕ) (b : Bool) (x : Handler) → canon_handler S (counted_refusal b x) ≡ counted_refusal b (canon_handler S x)
refusal_canon S true x = refl
refusal_canon S false x = refl

-- the request that ends, and the handler without it, where its services are these
module _ (h : ℕ) (v : Option Value) (ks : List ℕ) (s t : State) (c : IsCounted s) (d : IsCounted t) (l : Like s t) where
  abbrev left : Service → List Service → State → Handler
  left e es u = record (u.handlers h) { stage = e.over; services = es }

  service_like : (refused : Bool) (e e' : Service) (es es' : List Service) → All (IsServiceCounted (sessions_in s) s.count) (e ∷ es) →
      All (IsServiceCounted (sessions_in t) t.count) (e' ∷ es') → e.posted ≡ e'.posted →
      canon_handler (sessions_in s) (left e es s) ≡ canon_handler (sessions_in t) (left e' es' t) →
      Like (ends_service refused h v ks e (left e es s) s) (ends_service refused h v ks e' (left e' es' t) t)
  service_like false e e' es es' all its p same =
      let x : Handler = left e es s in
      let y : Handler = left e' es' t in
      let put_s = put_counted h x s refl (served_counted (sessions_in s) s.count e es (s.handlers h) all (c.handlers h)) c in
      let put_t = put_counted h y t refl (served_counted (sessions_in t) t.count e' es' (t.handlers h) its (d.handlers h)) d in
      finish_like e.posted (Replied v) (release release_at.Exit ks (put h x s)) (release release_at.Exit ks (put h y t))
      (release_like release_at.Exit ks (put h x s) (put h y t) put_s put_t (put_like h x y s t refl refl same l))
      ∙ ap (λ (q : Posted). canon (finish q (Replied v) (release release_at.Exit ks (put h y t)))) p
  service_like true e e' es es' all its p same =
      let w = e.posted.request.is_waited in
      let x : Handler = counted_refusal w (left e es s) in
      let z : Bool → Handler = λ b. counted_refusal b (left e' es' t) in
      let y : Handler = z w in
      let of_x = refusal_sessions w (left e es s) in
      let of_y = refusal_sessions w (left e' es' t) in
      let put_s =
      put_counted h x s of_x
      (refusal_counted (sessions_in s) s.count w (left e es s) (served_counted (sessions_in s) s.count e es (s.handlers h) all (c.handlers h))) c in
      let put_t =
      put_counted h y t of_y
      (refusal_counted (sessions_in t) t.count w (left e' es' t) (served_counted (sessions_in t) t.count e' es' (t.handlers h) its (d.handlers h))) d in
      let alike = refusal_canon (sessions_in s) w (left e es s) ∙ ap (counted_refusal w) same ∙ sym (refusal_canon (sessions_in t) w (left e' es' t)) in
      finish_like e.posted Refused (release release_at.Refusal ks (put h x s)) (release release_at.Refusal ks (put h y t))
      (release_like release_at.Refusal ks (put h x s) (put h y t) put_s put_t (put_like h x y s t of_x of_y alike l))
      ∙ ap (λ (q : Posted). canon (finish q Refused (release release_at.Refusal ks (put h (z q.request.is_waited) t)))) p

  first_alike : (e e' : Service) (es es' : List Service) → map (canon_service (sessions_in s)) (e ∷ es) ≡ map (canon_service (sessions_in t)) (e' ∷ es') →
      canon_service (sessions_in s) e ≡ canon_service (sessions_in t) e'
  first_alike e e' es es' same = cc

  rest_alike : (e e' : Service) (es es' : List Service) → map (canon_service (sessions_in s)) (e ∷ es) ≡ map (canon_service (sessions_in t)) (e' ∷ es') →
      map (canon_service (sessions_in s)) es ≡ map (canon_service (sessions_in t)) es'
  rest_alike e e' es es' same = cc

  left_alike : (e e' : Service) (es es' : List Service) → map (canon_service (sessions_in s)) (e ∷ es) ≡ map (canon_service (sessions_in t)) (e' ∷ es') →
      canon_handler (sessions_in s) (left e es s) ≡ canon_handler (sessions_in t) (left e' es' t)
  left_alike e e' es es' same =
      let over = ap (λ (v : Service). v.over) (first_alike e e' es es' same) in
      let rest = rest_alike e e' es es' same in
      let own : canon_handler (sessions_in s) (s.handlers h) ≡ canon_handler (sessions_in t) (t.handlers h) = ap (λ (u : State). u.handlers h) l in
      λ i. record (own i) { stage = over i; services = rest i }

  ends_like : (refused : Bool) (vs us : List Service) → All (IsServiceCounted (sessions_in s) s.count) vs → All (IsServiceCounted (sessions_in t) t.count) us →
      map (canon_service (sessions_in s)) vs ≡ map (canon_service (sessions_in t)) us → Like (ends h v ks refused vs s) (ends h v ks refused us t)
  ends_like refused [] [] all its same = fail_like h cause.BadCode s t c d l
  ends_like refused (e ∷ es) (e' ∷ es') all its same =
      service_like refused e e' es es' all its (ap (λ (v : Service). v.posted) (first_alike e e' es es' same)) (left_alike e e' es es' same)
  ends_like refused [] (e ∷ es) all its same = cc
  ends_like refused (e ∷ es) [] all its same = cc

-- ---- what a turn asks is done

reserves_like : (h : ℕ) (ks : List ℕ) (s t : State) → Like s t → Like (reserves h ks s) (reserves h ks t)
reserves_like h ks s t l = by_canon (reserves h ks) (reserves h ks s) (reserves h ks t) s t (reserves_canon h ks s) (reserves_canon h ks t) l

-- a state that is read, where the entry waits
abbrev pub read_waits : ℕ → List ℕ → State → State
read_waits h ks s =
    record (with_stage h (Reserves (s.handlers h).entry (mark_of (λ k. 0) ks)) s) { rights = rights.release ks s.rights }

waits_canon : (h : ℕ) (ks : List ℕ) (s : State) → canon (waits_again h ks s) ≡ read_waits h ks (canon s)
waits_canon h ks s =
    let st = λ (mark : List Marked). Reserves (s.handlers h).entry mark in
    ap (λ (u : State). record u { rights = rights.release ks s.rights })
    (stage_canon h (st (mark_of (sessions_in s) ks)) s ∙ ap (λ (mark : List Marked). with_stage h (st mark) (canon s)) (wait_reads (sessions_in s) ks))

waits_like : (h : ℕ) (ks : List ℕ) (s t : State) → Like s t → Like (waits_again h ks s) (waits_again h ks t)
waits_like h ks s t l = by_canon (read_waits h ks) (waits_again h ks s) (waits_again h ks t) s t (waits_canon h ks s) (waits_canon h ks t) l

done_like : (most h : ℕ) (w : Want) (s t : State) → IsCounted s → IsCounted t → Like s t → Like (done most h w s) (done most h w t)
done_like most h want.Continue s t c d l = l
done_like most h (want.Reserve ks) s t c d l = reserves_like h ks.items s t l
done_like most h (want.Post r) s t c d l = asks_like h r.target.handler r false s t c d l
done_like most h (want.Ask r passing) s t c d l = asks_like h r.target.handler r passing s t c d l
done_like most h (want.Create class procedure actuals passing) s t c d l = creates_like most h class procedure actuals passing s t c d l
done_like most h (want.Release ks) s t c d l = release_like release_at.Leave ks.items s t c d l
done_like most h (want.Wait ks) s t c d l = waits_like h ks.items s t l
done_like most h (want.Done v ks refused) s t c d l =
    ends_like h v ks.items s t c d l refused (s.handlers h).services (t.handlers h).services (c.handlers h).services (d.handlers h).services
    (ap (λ (u : State). (u.handlers h).services) l)
done_like most h (want.Fail why) s t c d l = fail_like h why s t c d l

posts_canon : (h : ℕ) (w : Want) (s : State) → posts_unheld h w (canon s) ≡ posts_unheld h w s
posts_canon h want.Continue s = refl
posts_canon h (want.Reserve ks) s = refl
posts_canon h (want.Post r) s = refl
posts_canon h (want.Ask r passing) s = refl
posts_canon h (want.Create class procedure actuals passing) s = refl
posts_canon h (want.Release ks) s = refl
posts_canon h (want.Wait ks) s = refl
posts_canon h (want.Done v ks refused) s = refl
posts_canon h (want.Fail why) s = refl

may_canon : (h : ℕ) (w : Want) (s : State) → may_ask h w (canon s) ≡ may_ask h w s
may_canon h want.Continue s = refl
may_canon h (want.Reserve ks) s = refl
may_canon h (want.Post r) s = refl
may_canon h (want.Ask r passing) s = refl
may_canon h (want.Create class procedure actuals passing) s = refl
may_canon h (want.Release ks) s = refl
may_canon h (want.Wait ks) s = refl
may_canon h (want.Done v ks refused) s = refl
may_canon h (want.Fail why) s = refl

done_if_like : (b b' f f' : Bool) (most h : ℕ) (w : Want) (s t : State) → b ≡ b' → f ≡ f' → IsCounted s → IsCounted t → Like s t →
    Like (done_if b f most h w s) (done_if b' f' most h w t)
done_if_like b b' f f' most h w s t e g c d l = by b f ∙ ap (λ (x : Bool). canon (done_if x f most h w t)) e ∙ ap (λ (x : Bool). canon (done_if b' x most h w t)) g
  where
    by : (x y : Bool) → Like (done_if x y most h w s) (done_if x y most h w t)
    by true y = fail_like h cause.NotHeld s t c d l
    by false true = done_like most h w s t c d l
    by false false = fail_like h cause.BadCode s t c d l

pub settled_like : (most h : ℕ) (j : Job) (turns : ℕ) (w : Want) (s t : State) → AreBelow s.count (granted_items j) → IsCounted s → IsCounted t → Like s t →
    Like (settled most h j turns w s) (settled most h j turns w t)
settled_like most h j turns w s t there c d l =
    let u : State = begun h j s in
    let v : State = begun h j t in
    let begin : Like u v = begun_like h j s t c d l in
    let there_too : AreBelow t.count (granted_items j) = subst (λ (n : ℕ). AreBelow n (granted_items j)) (ap (λ (z : State). z.count) l) there in
    let posts : posts_unheld h w u ≡ posts_unheld h w v = sym (posts_canon h w u) ∙ ap (posts_unheld h w) begin ∙ posts_canon h w v in
    let may : may_ask h w u ≡ may_ask h w v = sym (may_canon h w u) ∙ ap (may_ask h w) begin ∙ may_canon h w v in
    let fits : fits_turns turns (s.handlers h).stage j w ≡ fits_turns turns (t.handlers h).stage j w =
    sym (fits_canon (sessions_in s) turns (s.handlers h).stage j w)
    ∙ ap (λ (z : HandlerStage). fits_turns turns z j w) (stage_at h s t l)
    ∙ fits_canon (sessions_in t) turns (t.handlers h).stage j w in
    done_if_like (posts_unheld h w u) (posts_unheld h w v) (fits_turns turns (s.handlers h).stage j w && may_ask h w u) (fits_turns turns (t.handlers h).stage j w && may_ask h w v)
    most h w u v posts (λ i. fits i && may i) (begun_counted h j s there c) (begun_counted h j t there_too d) begin
