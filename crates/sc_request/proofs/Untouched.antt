-- Whom a settlement touches: all others stay as they are, but for their counts of sessions.
use Rattle.std.proofs.Common.{◌≡◌, ◌+◌, ◌==◌, ◌&&◌, ◌||◌, ℕ, Bool, true, false, not, length, List, [], ◌∷◌, Option, Some, None, refl, sym, ap, ◌∙◌, inl, inr, arith}
use Rattle.std.proofs.lemmas.Bool.{cases_lt, eq-eqb, eqb-false, le-ltb, lt-ltb, ne_eqb}
use Rattle.std.specs.Prelude.{is_some, map, nat_lt, if◌then◌else◌}
use Rattle.arrayvec.specs.ArrayVec.{ArrayVec}
use Rattle.sc_lockpass.specs.Rights.{is_among, is_handler}
use Rattle.sc_lockpass.specs.Passing.{Passed}
use Rattle.sc_lockpass.specs.wait_conditions.Reservations.{ends_session}
use Rattle.sc_lockpass.specs.declared.wait_conditions.session.Release.{Release}
use Rattle.sc_lockpass.specs.declared.wait_conditions.session.Release.TheVariants as release_at
use Rattle.sc_model.specs.declared.cause.Cause.{Cause}
use Rattle.sc_model.specs.declared.cause.Cause.TheVariants as cause
use Rattle.sc_model.specs.Limits.{max_queue}
use Rattle.sc_region.specs.declared.value.Value.{Value}
use Rattle.sc_region.specs.declared.job.Request.{Request}
use Rattle.sc_region.specs.declared.job.Job.{Job}
use Rattle.sc_region.specs.declared.job.Job.TheVariants as job
use Rattle.sc_region.specs.declared.job.Want.{Want}
use Rattle.sc_region.specs.declared.job.Want.TheVariants as want
use Rattle.sc_handler.specs.Handlers.{Posted, posted, Answer, Replied, Refused, HandlerStage, Idle, Runs, HasMade, Reserves, Awaits, Service, Handler, State, put, with_stage}
use Rattle.sc_handler.specs.Changes.{session_ended, placed, answered, to_list, fallen, takes_next, takes_callback, takes, takes_answer, counted_refusal}
use Rattle.sc_handler.specs.Fits.{fits_turns}
use Rattle.sc_request.specs.Sessions.{release, passed_if, passes, send, is_callback, with_handler, answer_to, return_rights, finish, fail}
use Rattle.sc_request.specs.Settling.{made_at, begun, awaits_if, sends, asks, creation, creates_with, creates, ends, done, posts_unheld, may_ask, done_if, settled}
use Rattle.sc_request.specs.Candidates.{LeavesUntouched, may_hear_from, posted_first, touches, uncounted}

-- ---- one handler is changed, or sessions end

pub put_other : (h k : ℕ) (x : Handler) (s : State) → (k == h) ≡ false → (put h x s).handlers k ≡ s.handlers k
put_other h k x s apart = rw apart refl

put_own : (h : ℕ) (x : Handler) (s : State) → (put h x s).handlers h ≡ x
put_own h x s = rw (eq-eqb h h refl) refl

ended_uncounted : (b : Bool) (x : Handler) → uncounted (session_ended b x) ≡ uncounted x
ended_uncounted true x = refl
ended_uncounted false x = refl

released : (how : Release) (ks : List ℕ) (s : State) (k : ℕ) → uncounted ((release how ks s).handlers k) ≡ uncounted (s.handlers k)
released how ks s k = ended_uncounted (ends_session how && is_among k ks) (s.handlers k)

pub either : (P : State → Type 0) (b : Bool) (s t : State) → P s → P t → P (if b then s else t)
either P true s t p q = p
either P false s t p q = q

-- ---- the job begins

made_other : (h k : ℕ) (st : HandlerStage) (s : State) → (k == h) ≡ false → uncounted ((made_at h st s).handlers k) ≡ uncounted (s.handlers k)
made_other h k Idle s apart = ap uncounted (put_other h k _ s apart)
made_other h k Runs s apart = ap uncounted (put_other h k _ s apart)
made_other h k (HasMade i) s apart = ap uncounted (put_other h k _ s apart)
made_other h k (Reserves ks mark) s apart = ap uncounted (put_other h k _ s apart)
made_other h k (Awaits i c) s apart =
    released release_at.Creation (i ∷ []) (put h (takes_answer (s.handlers h)) s) k ∙ ap uncounted (put_other h k (takes_answer (s.handlers h)) s apart)

pub begun_other : (h k : ℕ) (j : Job) (s : State) → (k == h) ≡ false → uncounted ((begun h j s).handlers k) ≡ uncounted (s.handlers k)
begun_other h k (job.Take r) s apart = ap uncounted (put_other h k (takes (s.handlers h).stage (s.handlers h)) s apart)
begun_other h k (job.Reply v) s apart = ap uncounted (put_other h k (takes_answer (s.handlers h)) s apart)
begun_other h k job.Failed s apart = refl
begun_other h k job.Refused s apart = refl
begun_other h k (job.Granted ks) s apart = ap uncounted (put_other h k (record (s.handlers h) { stage = Runs }) s apart)
begun_other h k (job.Made i) s apart = made_other h k (s.handlers h).stage s apart
begun_other h k job.Go s apart = refl

made_count : (h : ℕ) (st : HandlerStage) (s : State) → (made_at h st s).count ≡ s.count
made_count h Idle s = refl
made_count h Runs s = refl
made_count h (HasMade i) s = refl
made_count h (Reserves ks mark) s = refl
made_count h (Awaits i c) s = refl

pub begun_count : (h : ℕ) (j : Job) (s : State) → (begun h j s).count ≡ s.count
begun_count h (job.Take r) s = refl
begun_count h (job.Reply v) s = refl
begun_count h job.Failed s = refl
begun_count h job.Refused s = refl
begun_count h (job.Granted ks) s = refl
begun_count h (job.Made i) s = made_count h (s.handlers h).stage s
begun_count h job.Go s = refl

-- ---- the poster of what is served then

or_none : (a b : Bool) → (a || b) ≡ false → (a ≡ false) × (b ≡ false)
or_none true b e = cc
or_none false b e = (refl, e)

-- the handler posted the request that this one serves
abbrev posted_served : ℕ → Handler → Bool
posted_served k x = posted_first k (map (λ (v : Service). v.posted) x.services)

next_posted : (k : ℕ) (ps : List Posted) (x : Handler) → posted_first k ps ≡ false → posted_served k x ≡ false → posted_served k (takes_next ps x) ≡ false
next_posted k [] x e f = f
next_posted k (p ∷ ps) x e f = e

callback_posted : (k : ℕ) (o : Option Posted) (x : Handler) → posted_first k (to_list o) ≡ false → posted_served k x ≡ false →
    posted_served k (takes_callback o x) ≡ false
callback_posted k None x e f = f
callback_posted k (Some p) x e f = e

taken_posted : (k : ℕ) (st : HandlerStage) (x : Handler) → posted_served k x ≡ false → posted_first k x.queue ≡ false → posted_first k (to_list x.callback) ≡ false →
    posted_served k (takes st x) ≡ false
taken_posted k Idle x e f g = next_posted k x.queue x f e
taken_posted k Runs x e f g = e
taken_posted k (HasMade i) x e f g = e
taken_posted k (Reserves ks mark) x e f g = e
taken_posted k (Awaits i c) x e f g = callback_posted k x.callback x g e

ended_posted : (k : ℕ) (b : Bool) (x : Handler) → posted_served k (session_ended b x) ≡ posted_served k x
ended_posted k true x = refl
ended_posted k false x = refl

made_posted : (h k : ℕ) (st : HandlerStage) (s : State) → posted_served k ((made_at h st s).handlers h) ≡ posted_served k (s.handlers h)
made_posted h k Idle s = ap (posted_served k) (put_own h _ s)
made_posted h k Runs s = ap (posted_served k) (put_own h _ s)
made_posted h k (HasMade i) s = ap (posted_served k) (put_own h _ s)
made_posted h k (Reserves ks mark) s = ap (posted_served k) (put_own h _ s)
made_posted h k (Awaits i c) s =
    let x = takes_answer (s.handlers h) in
    ended_posted k (is_among h (i ∷ [])) ((put h x s).handlers h) ∙ ap (posted_served k) (put_own h x s)

posted_begun : (h k : ℕ) (j : Job) (s : State) → posted_served k (s.handlers h) ≡ false → posted_first k (s.handlers h).queue ≡ false →
    posted_first k (to_list (s.handlers h).callback) ≡ false → posted_served k ((begun h j s).handlers h) ≡ false
posted_begun h k (job.Take r) s e f g =
    let x = s.handlers h in
    ap (posted_served k) (put_own h (takes x.stage x) s) ∙ taken_posted k x.stage x e f g
posted_begun h k (job.Reply v) s e f g = ap (posted_served k) (put_own h (takes_answer (s.handlers h)) s) ∙ e
posted_begun h k job.Failed s e f g = e
posted_begun h k job.Refused s e f g = e
posted_begun h k (job.Granted ks) s e f g = ap (posted_served k) (put_own h (record (s.handlers h) { stage = Runs }) s) ∙ e
posted_begun h k (job.Made i) s e f g = made_posted h k (s.handlers h).stage s ∙ e
posted_begun h k job.Go s e f g = e

begun_posted : (h k : ℕ) (j : Job) (s : State) → may_hear_from (s.handlers h) k ≡ false → posted_served k ((begun h j s).handlers h) ≡ false
begun_posted h k j s e =
    let x = s.handlers h in
    let parts = or_none (posted_served k x) (posted_first k x.queue || posted_first k (to_list x.callback)) e in
    let rest = or_none (posted_first k x.queue) (posted_first k (to_list x.callback)) parts.1 in
    posted_begun h k j s parts.0 rest.0 rest.1

-- ---- a failure shows

ended_failure : (b : Bool) (x : Handler) → (session_ended b x).failure ≡ x.failure
ended_failure true x = refl
ended_failure false x = refl

has_failed : (h : ℕ) (why : Cause) (s : State) → ((fail h why s).handlers h).failure ≡ Some why
has_failed h why s = rw (eq-eqb h h refl) (ended_failure (is_handler h (s.rights.queue h)) (fallen why (s.handlers h)))

pub fail_none : (h : ℕ) (why : Cause) (s : State) → ((fail h why s).handlers h).failure ≡ None → ⊥
fail_none h why s none = let never = sym (has_failed h why s) ∙ none in cc

-- unless the handler has failed in the second state, another one is there as in the first, but for its count of sessions
abbrev Leaves : ℕ → ℕ → State → State → Type 0
Leaves h k s t = (t.handlers h).failure ≡ None → uncounted (t.handlers k) ≡ uncounted (s.handlers k)

fail_leaves : (h k : ℕ) (why : Cause) (s t : State) → Leaves h k t (fail h why s)
fail_leaves h k why s t none = absurd (fail_none h why s none)

-- ---- requests

pub passed_on : (b : Bool) (h i : ℕ) (s : State) (k : ℕ) → (passes b h i s).handlers k ≡ s.handlers k
passed_on true h i s k = refl
passed_on false h i s k = refl

pub awaited_other : (b : Bool) (h i k : ℕ) (s : State) → (k == h) ≡ false → (awaits_if b h i s).handlers k ≡ s.handlers k
awaited_other true h i k s apart = put_other h k _ s apart
awaited_other false h i k s apart = refl

sends_other : (h k : ℕ) (r : Request) (passing waits : Bool) (s : State) → (k == h) ≡ false → (k == r.target.handler) ≡ false →
    (sends h r.target.handler r passing waits s).handlers k ≡ s.handlers k
sends_other h k r passing waits s apart other =
    let i = r.target.handler in
    let t = awaits_if waits h i s in
    let p = posted (record r { is_waited = waits }) (passed_if passing h s.rights) in
    passed_on passing h i (send (is_callback h i s) i p t) k ∙ put_other i k (placed (is_callback h i s) p (t.handlers i)) t other
    ∙ awaited_other waits h i k s apart

-- what holds where the handler fails, and where the request is sent
pub asks_so : (P : State → Type 0) (h : ℕ) (r : Request) (passing : Bool) (s : State) → ((why : Cause) → P (fail h why s)) →
    ((waits : Bool) → P (sends h r.target.handler r passing waits s)) → P (asks h r passing s)
asks_so P h r passing s fails sent =
    let k = r.target.handler in
    let waits = passing || r.is_waited || is_callback h k s in
    let full = not (is_callback h k s) && not (nat_lt (length (s.handlers k).queue) max_queue) in
    either P (is_some (s.handlers k).failure) (fail h cause.SupplierFailed s) (if full then fail h cause.QueueFull s else sends h k r passing waits s)
    (fails cause.SupplierFailed)
    (either P full (fail h cause.QueueFull s) (sends h k r passing waits s) (fails cause.QueueFull) (sent waits))

asks_leaves : (h k : ℕ) (r : Request) (passing : Bool) (s : State) → (k == h) ≡ false → (k == r.target.handler) ≡ false → Leaves h k s (asks h r passing s)
asks_leaves h k r passing s apart other =
    asks_so (Leaves h k s) h r passing s (λ why. fail_leaves h k why s s) (λ waits none. ap uncounted (sends_other h k r passing waits s apart other))

-- ---- a handler is made

pub given_other : (m h k : ℕ) (s : State) → (k == m) ≡ false → (with_handler m h s).handlers k ≡ s.handlers k
given_other m h k s other = rw other refl

creates_other : (passing : Bool) (h m k : ℕ) (r : Request) (s : State) → (k == h) ≡ false → (k == m) ≡ false →
    uncounted ((creates_with passing h m r s).handlers k) ≡ uncounted (s.handlers k)
creates_other true h m k r s apart other =
    let t = with_stage h (Awaits m true) s in
    let p = posted r (passed_if true h s.rights) in
    ap uncounted (put_other m k (placed false p (t.handlers m)) t other ∙ put_other h k _ s apart)
creates_other false h m k r s apart other =
    let t = with_stage h (HasMade m) s in
    released release_at.Creation (m ∷ []) (send false m (posted r None) t) k
    ∙ ap uncounted (put_other m k (placed false (posted r None) (t.handlers m)) t other ∙ put_other h k _ s apart)

creates_leaves : (most h k class : ℕ) (procedure : Option ℕ) (actuals : ArrayVec Value) (passing : Bool) (s : State) → (k == h) ≡ false →
    (k == s.count) ≡ false → Leaves h k s (creates most h class procedure actuals passing s)
creates_leaves most h k class procedure actuals passing s apart other =
    either (Leaves h k s) (nat_lt s.count most) _ _
    (λ none. creates_other passing h s.count k (creation h s.count class procedure actuals passing) (with_handler s.count h s) apart other
    ∙ ap uncounted (given_other s.count h k s other))
    (fail_leaves h k cause.TooManyHandlers s s)

-- ---- a request ends

answered_other : (is_waited : Bool) (poster : Option ℕ) (a : Answer) (k : ℕ) (s : State) → is_handler k poster ≡ false →
    (answer_to is_waited poster a s).handlers k ≡ s.handlers k
answered_other true (Some p) a k s other =
    put_other p k (answered a (s.handlers p)) s (ne_eqb k p (λ e. let never = sym other ∙ eq-eqb p k (sym e) in cc))
answered_other true None a k s other = refl
answered_other false poster a k s other = refl

pub returned_rights : (p : Option Passed) (s : State) (k : ℕ) → (return_rights p s).handlers k ≡ s.handlers k
returned_rights None s k = refl
returned_rights (Some p) s k = refl

finished_other : (p : Posted) (a : Answer) (k : ℕ) (s : State) → is_handler k p.request.poster ≡ false → (finish p a s).handlers k ≡ s.handlers k
finished_other p a k s other =
    answered_other p.request.is_waited p.request.poster a k (return_rights p.passed s) other ∙ returned_rights p.passed s k

ends_leaves : (h k : ℕ) (v : Option Value) (ks : List ℕ) (refused : Bool) (es : List Service) (s : State) → (k == h) ≡ false →
    posted_first k (map (λ (e : Service). e.posted) es) ≡ false → Leaves h k s (ends h v ks refused es s)
ends_leaves h k v ks refused [] s apart other none = fail_leaves h k cause.BadCode s s none
ends_leaves h k v ks false (e ∷ es) s apart other none =
    let x = record (s.handlers h) { stage = e.over; services = es } in
    ap uncounted (finished_other e.posted (Replied v) k (release release_at.Exit ks (put h x s)) other)
    ∙ released release_at.Exit ks (put h x s) k ∙ ap uncounted (put_other h k x s apart)
ends_leaves h k v ks true (e ∷ es) s apart other none =
    let x = counted_refusal e.posted.request.is_waited (record (s.handlers h) { stage = e.over; services = es }) in
    ap uncounted (finished_other e.posted Refused k (release release_at.Refusal ks (put h x s)) other)
    ∙ released release_at.Refusal ks (put h x s) k ∙ ap uncounted (put_other h k x s apart)

-- ---- what the last turn asks

-- once the job has begun
abbrev touches_then : ℕ → Want → State → ℕ → Bool
touches_then h (want.Post r) s k = k == r.target.handler
touches_then h (want.Ask r passing) s k = k == r.target.handler
touches_then h (want.Create class procedure actuals passing) s k = k == s.count
touches_then h (want.Done v ks refused) s k = posted_served k (s.handlers h)
touches_then h w s k = false

done_leaves : (most h k : ℕ) (w : Want) (s : State) → (k == h) ≡ false → touches_then h w s k ≡ false → Leaves h k s (done most h w s)
done_leaves most h k want.Continue s apart other none = refl
done_leaves most h k (want.Reserve ks) s apart other none = ap uncounted (put_other h k _ s apart)
done_leaves most h k (want.Post r) s apart other none = asks_leaves h k r false s apart other none
done_leaves most h k (want.Ask r passing) s apart other none = asks_leaves h k r passing s apart other none
done_leaves most h k (want.Create class procedure actuals passing) s apart other none = creates_leaves most h k class procedure actuals passing s apart other none
done_leaves most h k (want.Release ks) s apart other none = released release_at.Leave ks.items s k
done_leaves most h k (want.Wait ks) s apart other none = ap uncounted (put_other h k _ s apart)
done_leaves most h k (want.Done v ks refused) s apart other none = ends_leaves h k v ks.items refused (s.handlers h).services s apart other none
done_leaves most h k (want.Fail why) s apart other none = fail_leaves h k why s s none

asked_leaves : (unheld fits : Bool) (most h k : ℕ) (w : Want) (s : State) → (k == h) ≡ false → touches_then h w s k ≡ false →
    Leaves h k s (done_if unheld fits most h w s)
asked_leaves true fits most h k w s apart other = fail_leaves h k cause.NotHeld s s
asked_leaves false true most h k w s apart other = done_leaves most h k w s apart other
asked_leaves false false most h k w s apart other = fail_leaves h k cause.BadCode s s

touched_then : (h k : ℕ) (j : Job) (w : Want) (s : State) → touches h w s k ≡ false → touches_then h w (begun h j s) k ≡ false
touched_then h k j want.Continue s e = refl
touched_then h k j (want.Reserve ks) s e = refl
touched_then h k j (want.Post r) s e = e
touched_then h k j (want.Ask r passing) s e = e
touched_then h k j (want.Create class procedure actuals passing) s e = ap (λ n. k == n) (begun_count h j s) ∙ e
touched_then h k j (want.Release ks) s e = refl
touched_then h k j (want.Wait ks) s e = refl
touched_then h k j (want.Done v ks refused) s e = begun_posted h k j s e
touched_then h k j (want.Fail why) s e = refl

pub leaves_untouched : LeavesUntouched
leaves_untouched most h j turns w s k apart other none =
    let t = begun h j s in
    asked_leaves (posts_unheld h w t) (fits_turns turns (s.handlers h).stage j w && may_ask h w t) most h k w t apart (touched_then h k j w s other) none
    ∙ begun_other h k j s apart

-- ---- how many handlers there are

one_more : (k n : ℕ) → (k == n) ≡ false → nat_lt k (n + 1) ≡ nat_lt k n
one_more k n other = elim (cases_lt k n) [
  | inl l ↦ rw (lt-ltb k n l) (lt-ltb k (n + 1) (omega (arith, l)))
  | inr l ↦ let apart = eqb-false k n other in rw (le-ltb k n l) (le-ltb k (n + 1) (omega (arith, l, apart)))
]

-- it is as before whether there is the handler
abbrev pub Counts : ℕ → State → State → Type 0
Counts k s t = nat_lt k t.count ≡ nat_lt k s.count

passed_count : (b : Bool) (h i : ℕ) (s : State) → (passes b h i s).count ≡ s.count
passed_count true h i s = refl
passed_count false h i s = refl

awaited_count : (b : Bool) (h i : ℕ) (s : State) → (awaits_if b h i s).count ≡ s.count
awaited_count true h i s = refl
awaited_count false h i s = refl

pub sends_count : (h k : ℕ) (r : Request) (passing waits : Bool) (s : State) → (sends h k r passing waits s).count ≡ s.count
sends_count h k r passing waits s = passed_count passing h k _ ∙ awaited_count waits h k s

asks_count : (h k : ℕ) (r : Request) (passing : Bool) (s : State) → Counts k s (asks h r passing s)
asks_count h k r passing s =
    asks_so (Counts k s) h r passing s (λ why. refl) (λ waits. ap (λ n. nat_lt k n) (sends_count h r.target.handler r passing waits s))

pub made_with : (passing : Bool) (h m : ℕ) (r : Request) (s : State) → (creates_with passing h m r s).count ≡ s.count
made_with true h m r s = refl
made_with false h m r s = refl

creates_count : (most h k class : ℕ) (procedure : Option ℕ) (actuals : ArrayVec Value) (passing : Bool) (s : State) → (k == s.count) ≡ false →
    Counts k s (creates most h class procedure actuals passing s)
creates_count most h k class procedure actuals passing s other =
    either (Counts k s) (nat_lt s.count most) _ _ (ap (λ n. nat_lt k n) (made_with passing h s.count _ (with_handler s.count h s)) ∙ one_more k s.count other) refl

answered_count : (is_waited : Bool) (poster : Option ℕ) (a : Answer) (s : State) → (answer_to is_waited poster a s).count ≡ s.count
answered_count true (Some p) a s = refl
answered_count true None a s = refl
answered_count false poster a s = refl

returned_count : (p : Option Passed) (s : State) → (return_rights p s).count ≡ s.count
returned_count None s = refl
returned_count (Some p) s = refl

finished_count : (p : Posted) (a : Answer) (s : State) → (finish p a s).count ≡ s.count
finished_count p a s = answered_count p.request.is_waited p.request.poster a (return_rights p.passed s) ∙ returned_count p.passed s

pub ends_count : (h : ℕ) (v : Option Value) (ks : List ℕ) (refused : Bool) (es : List Service) (s : State) → (ends h v ks refused es s).count ≡ s.count
ends_count h v ks refused [] s = refl
ends_count h v ks false (e ∷ es) s = finished_count e.posted (Replied v) _
ends_count h v ks true (e ∷ es) s = finished_count e.posted Refused _

done_count : (most h k : ℕ) (w : Want) (s : State) → touches_then h w s k ≡ false → Counts k s (done most h w s)
done_count most h k want.Continue s other = refl
done_count most h k (want.Reserve ks) s other = refl
done_count most h k (want.Post r) s other = asks_count h k r false s
done_count most h k (want.Ask r passing) s other = asks_count h k r passing s
done_count most h k (want.Create class procedure actuals passing) s other = creates_count most h k class procedure actuals passing s other
done_count most h k (want.Release ks) s other = refl
done_count most h k (want.Wait ks) s other = refl
done_count most h k (want.Done v ks refused) s other = ap (λ n. nat_lt k n) (ends_count h v ks.items refused (s.handlers h).services s)
done_count most h k (want.Fail why) s other = refl

asked_count : (unheld fits : Bool) (most h k : ℕ) (w : Want) (s : State) → touches_then h w s k ≡ false → Counts k s (done_if unheld fits most h w s)
asked_count true fits most h k w s other = refl
asked_count false true most h k w s other = done_count most h k w s other
asked_count false false most h k w s other = refl

pub settled_count : (most h : ℕ) (j : Job) (turns : ℕ) (w : Want) (s : State) (k : ℕ) → touches h w s k ≡ false → Counts k s (settled most h j turns w s)
settled_count most h j turns w s k other =
    let t = begun h j s in
    asked_count (posts_unheld h w t) (fits_turns turns (s.handlers h).stage j w && may_ask h w t) most h k w t (touched_then h k j w s other)
    ∙ ap (λ n. nat_lt k n) (begun_count h j s)
