-- What becomes of a state names no more than handlers that there are, and counts that were reached.
use Rattle.std.proofs.Common.{◌≡◌, ◌+◌, ◌<◌, ◌≤◌, ◌==◌, ◌∙◌, ◌&&◌, ◌||◌, not, ℕ, Bool, true, false, List, [], ◌∷◌, Option, Some, None, length, refl, sym, subst, arith}
use Rattle.std.proofs.lemmas.Bool.{and_parts, ne_eqb}
use Rattle.std.specs.Prelude.{is_some, nat_lt, if◌then◌else◌}
use Rattle.std.specs.List.{All, list_any}
use Rattle.std.proofs.lemmas.List.Elements.{All-head}
use Rattle.arrayvec.specs.ArrayVec.{ArrayVec}
use Rattle.sc_lockpass.specs.Rights.{is_among, is_handler}
use Rattle.sc_lockpass.specs.Passing.{Passed}
use Rattle.sc_lockpass.specs.wait_conditions.Reservations.{ends_session, mark_of}
use Rattle.sc_lockpass.specs.declared.wait_conditions.session.Release.{Release}
use Rattle.sc_lockpass.specs.declared.wait_conditions.session.Release.TheVariants as release_at
use Rattle.sc_model.specs.declared.cause.Cause.{Cause}
use Rattle.sc_model.specs.declared.cause.Cause.TheVariants as cause
use Rattle.sc_model.specs.Limits.{max_queue}
use Rattle.sc_region.specs.declared.value.Value.{Value}
use Rattle.sc_region.specs.declared.job.Request.{Request}
use Rattle.sc_region.specs.declared.job.Job.{Job}
use Rattle.sc_region.specs.declared.job.Job.TheVariants as job
use Rattle.sc_region.specs.declared.job.Want.{Want}
use Rattle.sc_region.specs.declared.job.Want.TheVariants as want
use Rattle.sc_handler.specs.Handlers.{Posted, posted, Answer, Replied, Refused, HandlerStage, Idle, Runs, HasMade, Reserves, Awaits, Service, Handler, State, new_handler, put, with_stage}
use Rattle.sc_handler.specs.Changes.{answered, counted_refusal, fallen, is_waited_by, placed, requests_at, session_ended, takes, takes_answer, told}
use Rattle.sc_handler.specs.Canonical.{sessions_in}
use Rattle.sc_handler.specs.Fits.{fits_turns}
use Rattle.sc_request.specs.Candidates.{granted_items}
use Rattle.sc_request.specs.Sessions.{answer_to, fail, finish, is_callback, passed_if, passes, release, return_rights, send, with_handler}
use Rattle.sc_request.specs.Settling.{asks_of, awaits_if, begun, creates, creates_with, creation, done, done_if, ends, ends_service, made_at, may_ask, posts_unheld, sends, settled, waits_again}
use Rattle.sc_counts.specs.Counted.{AreBelow, IsCounted, IsHandlerCounted, IsServiceCounted, IsStageCounted, PassesBelow}
use Rattle.sc_counts.proofs.Marks.{wait_reached}
use Rattle.sc_counts.proofs.Handlers.{answer_taken, answered_counted, either_counted, entered, fallen_counted, give_back_free, handler_more, listed_below, new_counted, none_passes, own_below, pass_free, passes_below, placed_counted, refusal_counted, release_all_free, release_free, reserve_free, served_counted, session_counted, staged, taken, told_counted}
use Rattle.sc_counts.proofs.Likes.{ended, fell, fell_sessions, placed_sessions, refusal_sessions, sessions_put, takes_sessions}

-- ---- one handler is changed

pub put_counted : (h : ℕ) (x : Handler) (s : State) → x.sessions ≡ (s.handlers h).sessions → IsHandlerCounted (sessions_in s) s.count x → IsCounted s →
    IsCounted (put h x s)
put_counted h x s e is c = record {
  rights = c.rights;
  handlers = λ k. subst (λ (S : ℕ → ℕ). IsHandlerCounted S s.count ((put h x s).handlers k)) (sym (sessions_put h x s e))
      (either_counted (sessions_in s) s.count (k == h) x (s.handlers k) is (c.handlers k));
}

pub stage_counted : (h : ℕ) (st : HandlerStage) (s : State) → IsStageCounted (sessions_in s) s.count st → IsCounted s → IsCounted (with_stage h st s)
stage_counted h st s is c =
    put_counted h (record (s.handlers h) { stage = st }) s refl (staged (sessions_in s) s.count st (s.handlers h) is (c.handlers h)) c

pub send_counted : (b : Bool) (k : ℕ) (p : Posted) (s : State) → PassesBelow s.count p → IsCounted s → IsCounted (send b k p s)
send_counted b k p s is c =
    put_counted k (placed b p (s.handlers k)) s (placed_sessions b p (s.handlers k)) (placed_counted (sessions_in s) s.count b p (s.handlers k) is (c.handlers k)) c

passes_counted : (b : Bool) (h k : ℕ) (s : State) → IsCounted s → IsCounted (passes b h k s)
passes_counted true h k s c = record { rights = pass_free s.count h k s.rights c.rights; handlers = c.handlers }
passes_counted false h k s c = c

awaits_counted : (b : Bool) (h k : ℕ) (s : State) → IsCounted s → IsCounted (awaits_if b h k s)
awaits_counted true h k s c = stage_counted h (Awaits k false) s tt c
awaits_counted false h k s c = c

awaits_count : (b : Bool) (h k : ℕ) (s : State) → s.count ≡ (awaits_if b h k s).count
awaits_count true h k s = refl
awaits_count false h k s = refl

sends_counted : (h k : ℕ) (r : Request) (passing waits : Bool) (s : State) → IsCounted s → IsCounted (sends h k r passing waits s)
sends_counted h k r passing waits s c =
    let p : Posted = posted (record r { is_waited = waits }) (passed_if passing h s.rights) in
    let t : State = awaits_if waits h k s in
    let below : PassesBelow t.count p =
    subst (λ (n : ℕ). PassesBelow n p) (awaits_count waits h k s) (passes_below s.count passing h (record r { is_waited = waits }) s.rights c.rights) in
    passes_counted passing h k (send (is_callback h k s) k p t) (send_counted (is_callback h k s) k p t below (awaits_counted waits h k s c))

answer_counted : (b : Bool) (o : Option ℕ) (a : Answer) (s : State) → IsCounted s → IsCounted (answer_to b o a s)
answer_counted true (Some p) a s c = put_counted p (answered a (s.handlers p)) s refl (answered_counted (sessions_in s) s.count a (s.handlers p) (c.handlers p)) c
answer_counted true None a s c = c
answer_counted false o a s c = c

returned_counted : (o : Option Passed) (s : State) → ((q : Passed) → o ≡ Some q → (k : ℕ) → s.count ≤ k → q.queue k ≡ None) → IsCounted s → IsCounted (return_rights o s)
returned_counted None s is c = c
returned_counted (Some q) s is c = record { rights = give_back_free s.count q s.rights (is q refl) c.rights; handlers = c.handlers }

finish_counted : (p : Posted) (a : Answer) (s : State) → PassesBelow s.count p → IsCounted s → IsCounted (finish p a s)
finish_counted p a s is c = answer_counted p.request.is_waited p.request.poster a (return_rights p.passed s) (returned_counted p.passed s is c)

-- ---- sessions end

up_either : (b : Bool) (x : Handler) → x.sessions ≤ (session_ended b x).sessions
up_either true x = omega arith
up_either false x = omega arith

pub ended_counted : (b : ℕ → Bool) (s : State) → IsCounted s → IsCounted (ended b s)
ended_counted b s c = record {
  rights = c.rights;
  handlers = λ k.
      session_counted (sessions_in (ended b s)) s.count (b k) (s.handlers k)
      (handler_more (sessions_in s) (sessions_in (ended b s)) s.count s.count (omega arith) (λ j below. up_either (b j) (s.handlers j)) (s.handlers k) (c.handlers k));
}

pub release_counted : (how : Release) (ks : List ℕ) (s : State) → IsCounted s → IsCounted (release how ks s)
release_counted how ks s c =
    let e = ended_counted (λ k. ends_session how && is_among k ks) s c in
    record { rights = release_free s.count ks s.rights c.rights; handlers = e.handlers }

pub fell_counted : (h : ℕ) (why : Cause) (s : State) → IsCounted s → IsCounted (fell h why s)
fell_counted h why s c = record {
  rights = c.rights;
  handlers = λ k. subst (λ (S : ℕ → ℕ). IsHandlerCounted S s.count ((fell h why s).handlers k)) (sym (fell_sessions h why s))
      (either_counted (sessions_in s) s.count (k == h) (fallen why (s.handlers k)) (told (list_any (is_waited_by k) (requests_at (s.handlers h))) (s.handlers k))
      (fallen_counted (sessions_in s) s.count why (s.handlers k))
      (told_counted (sessions_in s) s.count (list_any (is_waited_by k) (requests_at (s.handlers h))) (s.handlers k) (c.handlers k)));
}

pub fail_counted : (h : ℕ) (why : Cause) (s : State) → IsCounted s → IsCounted (fail h why s)
fail_counted h why s c =
    let e = ended_counted (λ k. ends_session release_at.Failure && is_handler h (s.rights.queue k)) (fell h why s) (fell_counted h why s c) in
    record { rights = release_all_free s.count h s.rights c.rights; handlers = e.handlers }

-- ---- the job begins

made_counted : (h : ℕ) (st : HandlerStage) (s : State) → IsCounted s → IsCounted (made_at h st s)
made_counted h (Awaits k b) s c =
    release_counted release_at.Creation (k ∷ []) (put h (takes_answer (s.handlers h)) s)
    (put_counted h (takes_answer (s.handlers h)) s refl (answer_taken (sessions_in s) s.count (s.handlers h) (c.handlers h)) c)
made_counted h Idle s c = stage_counted h Runs s tt c
made_counted h Runs s c = stage_counted h Runs s tt c
made_counted h (HasMade k) s c = stage_counted h Runs s tt c
made_counted h (Reserves ks mark) s c = stage_counted h Runs s tt c

pub begun_counted : (h : ℕ) (j : Job) (s : State) → AreBelow s.count (granted_items j) → IsCounted s → IsCounted (begun h j s)
begun_counted h (job.Take r) s there c =
    put_counted h (takes (s.handlers h).stage (s.handlers h)) s (takes_sessions (s.handlers h).stage (s.handlers h))
    (taken (sessions_in s) s.count (s.handlers h).stage (s.handlers h) (c.handlers h)) c
begun_counted h (job.Reply v) s there c =
    put_counted h (takes_answer (s.handlers h)) s refl (answer_taken (sessions_in s) s.count (s.handlers h) (c.handlers h)) c
begun_counted h job.Failed s there c = c
begun_counted h job.Refused s there c = c
begun_counted h (job.Granted ks) s there c =
    let t = stage_counted h Runs s tt c in
    record { rights = reserve_free s.count h ks.items s.rights there c.rights; handlers = t.handlers }
begun_counted h (job.Made k) s there c = made_counted h (s.handlers h).stage s c
begun_counted h job.Go s there c = c

-- ---- what is asked

if_counted : (b : Bool) (s t : State) → IsCounted s → IsCounted t → IsCounted (if b then s else t)
if_counted true s t e f = e
if_counted false s t e f = f

asks_counted : (h k : ℕ) (r : Request) (passing : Bool) (s : State) → IsCounted s → IsCounted (asks_of h k r passing s)
asks_counted h k r passing s c =
    let full = not (is_callback h k s) && not (nat_lt (length (s.handlers k).queue) max_queue) in
    let sent = sends h k r passing (passing || r.is_waited || is_callback h k s) s in
    if_counted (is_some (s.handlers k).failure) (fail h cause.SupplierFailed s) (if full then fail h cause.QueueFull s else sent) (fail_counted h cause.SupplierFailed s c)
    (if_counted full (fail h cause.QueueFull s) sent (fail_counted h cause.QueueFull s c) (sends_counted h k r passing (passing || r.is_waited || is_callback h k s) s c))

-- ---- a handler is made

made_same : (h : ℕ) (s : State) (k : ℕ) → k < s.count → sessions_in s k ≤ sessions_in (with_handler s.count h s) k
made_same h s k below = rw (sessions_in, ne_eqb k s.count (λ e. omega (arith, below, e))) (omega arith)

pub with_handler_counted : (h : ℕ) (s : State) → IsCounted s → IsCounted (with_handler s.count h s)
with_handler_counted h s c =
    let S' = sessions_in (with_handler s.count h s) in
    record {
      rights = λ k far. rw (ne_eqb k s.count (λ e. omega (arith, far, e))) (c.rights k (omega (arith, far)));
      handlers = λ k.
          either_counted S' (s.count + 1) (k == s.count) new_handler (s.handlers k) (new_counted S' (s.count + 1))
          (handler_more (sessions_in s) S' s.count (s.count + 1) (omega arith) (made_same h s) (s.handlers k) (c.handlers k));
    }

creates_with_counted : (b : Bool) (h k : ℕ) (r : Request) (s : State) → IsCounted s → IsCounted (creates_with b h k r s)
creates_with_counted true h k r s c =
    let p = posted r (passed_if true h s.rights) in
    let t = with_stage h (Awaits k true) s in
    passes_counted true h k (send false k p t) (send_counted false k p t (passes_below s.count true h r s.rights c.rights) (stage_counted h (Awaits k true) s tt c))
creates_with_counted false h k r s c =
    let t = with_stage h (HasMade k) s in
    release_counted release_at.Creation (k ∷ []) (send false k (posted r None) t)
    (send_counted false k (posted r None) t (none_passes s.count r) (stage_counted h (HasMade k) s tt c))

creates_counted : (most h class : ℕ) (procedure : Option ℕ) (actuals : ArrayVec Value) (passing : Bool) (s : State) → IsCounted s →
    IsCounted (creates most h class procedure actuals passing s)
creates_counted most h class procedure actuals passing s c =
    let r = creation h s.count class procedure actuals passing in
    if_counted (nat_lt s.count most) (creates_with passing h s.count r (with_handler s.count h s)) (fail h cause.TooManyHandlers s)
    (creates_with_counted passing h s.count r (with_handler s.count h s) (with_handler_counted h s c)) (fail_counted h cause.TooManyHandlers s c)

-- ---- a request ends

service_counted : (refused : Bool) (h : ℕ) (v : Option Value) (ks : List ℕ) (e : Service) (x : Handler) (s : State) → PassesBelow s.count e.posted →
    x.sessions ≡ (s.handlers h).sessions → IsHandlerCounted (sessions_in s) s.count x → IsCounted s → IsCounted (ends_service refused h v ks e x s)
service_counted false h v ks e x s is same of c =
    finish_counted e.posted (Replied v) (release release_at.Exit ks (put h x s)) is (release_counted release_at.Exit ks (put h x s) (put_counted h x s same of c))
service_counted true h v ks e x s is same of c =
    let y = counted_refusal e.posted.request.is_waited x in
    finish_counted e.posted Refused (release release_at.Refusal ks (put h y s)) is
    (release_counted release_at.Refusal ks (put h y s)
    (put_counted h y s (refusal_sessions e.posted.request.is_waited x ∙ same) (refusal_counted (sessions_in s) s.count e.posted.request.is_waited x of) c))

ends_counted : (h : ℕ) (v : Option Value) (ks : List ℕ) (refused : Bool) (vs : List Service) (s : State) → All (IsServiceCounted (sessions_in s) s.count) vs → IsCounted s →
    IsCounted (ends h v ks refused vs s)
ends_counted h v ks refused [] s all c = fail_counted h cause.BadCode s c
ends_counted h v ks refused (e ∷ es) s all c =
    service_counted refused h v ks e (record (s.handlers h) { stage = e.over; services = es }) s (All-head (IsServiceCounted (sessions_in s) s.count) e es all).passes refl
    (served_counted (sessions_in s) s.count e es (s.handlers h) all (c.handlers h)) c

-- ---- what a turn asks is done

waits_counted : (h : ℕ) (ks : List ℕ) (s : State) → AreBelow s.count ks → IsCounted s → IsCounted (waits_again h ks s)
waits_counted h ks s below c =
    let st = Reserves (s.handlers h).entry (mark_of (sessions_in s) ks) in
    release_counted release_at.FalseWaitCondition ks (with_stage h st s)
    (stage_counted h st s ((c.handlers h).entry, wait_reached (sessions_in s) s.count ks below) c)

pub done_counted : (most h : ℕ) (w : Want) (s : State) → may_ask h w s ≡ true → IsCounted s → IsCounted (done most h w s)
done_counted most h want.Continue s may c = c
done_counted most h (want.Reserve ks) s may c =
    put_counted h (record (s.handlers h) { stage = Reserves ks.items []; entry = ks.items }) s refl
    (entered (sessions_in s) s.count ks.items (s.handlers h) (listed_below s.count ks.items may) (c.handlers h)) c
done_counted most h (want.Post r) s may c = asks_counted h r.target.handler r false s c
done_counted most h (want.Ask r passing) s may c = asks_counted h r.target.handler r passing s c
done_counted most h (want.Create class procedure actuals passing) s may c = creates_counted most h class procedure actuals passing s c
done_counted most h (want.Release ks) s may c = release_counted release_at.Leave ks.items s c
done_counted most h (want.Wait ks) s may c = waits_counted h ks.items s (own_below s.count h s.rights ks.items c.rights may) c
done_counted most h (want.Done v ks refused) s may c = ends_counted h v ks.items refused (s.handlers h).services s (c.handlers h).services c
done_counted most h (want.Fail why) s may c = fail_counted h why s c

done_if_counted : (b : Bool) (fits : Bool) (most h : ℕ) (w : Want) (s : State) → IsCounted s → IsCounted (done_if b (fits && may_ask h w s) most h w s)
done_if_counted b fits most h w s c = by b (fits && may_ask h w s) refl
  where
    by : (b d : Bool) → (fits && may_ask h w s) ≡ d → IsCounted (done_if b d most h w s)
    by true d e = fail_counted h cause.NotHeld s c
    by false true e = done_counted most h w s (and_parts fits (may_ask h w s) e).1 c
    by false false e = fail_counted h cause.BadCode s c

pub settled_counted : (most h : ℕ) (j : Job) (turns : ℕ) (w : Want) (s : State) → AreBelow s.count (granted_items j) → IsCounted s → IsCounted (settled most h j turns w s)
settled_counted most h j turns w s there c =
    done_if_counted (posts_unheld h w (begun h j s)) (fits_turns turns (s.handlers h).stage j w) most h w (begun h j s) (begun_counted h j s there c)
