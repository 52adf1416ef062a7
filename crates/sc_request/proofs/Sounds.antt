-- The states that settlements come to are sound.
use Rattle.std.proofs.Common.{◌≡◌, ◌+◌, ◌<◌, ◌≤◌, ◌==◌, ◌&&◌, ◌||◌, ℕ, Bool, true, false, not, List, [], ◌∷◌, Option, Some, None, refl, subst, inl, inr, length, arith}
use Rattle.std.proofs.lemmas.Bool.{cases_Bool, and_parts, or_cases, ltb-true, ltb-false, lt-ltb, eqb-true}
use Rattle.std.specs.Prelude.{is_some, nat_lt, if◌then◌else◌}
use Rattle.std.specs.List.{All, list_any}
use Rattle.std.proofs.lemmas.List.Elements.{All-head, All-tail}
use Rattle.arrayvec.specs.ArrayVec.{ArrayVec}
use Rattle.sc_lockpass.specs.Rights.{Rights, is_among, is_handler, held}
use Rattle.sc_lockpass.specs.Passing.{Passed, passed_by}
use Rattle.sc_lockpass.specs.wait_conditions.Reservations.{ends_session}
use Rattle.sc_lockpass.specs.declared.wait_conditions.session.Release.{Release}
use Rattle.sc_lockpass.specs.declared.wait_conditions.session.Release.TheVariants as release_at
use Rattle.sc_model.specs.declared.cause.Cause.{Cause}
use Rattle.sc_model.specs.declared.cause.Cause.TheVariants as cause
use Rattle.sc_model.specs.Limits.{max_queue}
use Rattle.sc_region.specs.declared.value.Value.{Value}
use Rattle.sc_region.specs.declared.job.Request.{Request}
use Rattle.sc_region.specs.declared.job.Job.{Job}
use Rattle.sc_region.specs.declared.job.Job.TheVariants as job
use Rattle.sc_region.specs.declared.job.Want.{Want}
use Rattle.sc_region.specs.declared.job.Want.TheVariants as want
use Rattle.sc_handler.specs.Handlers.{Posted, posted, Answer, Replied, Refused, HandlerStage, Idle, Runs, HasMade, Reserves, Awaits, Service, Handler, State, new_handler, put, with_stage}
use Rattle.sc_handler.specs.Changes.{placed, answered, requests_at, is_waited_by, told, fallen, takes, takes_answer, counted_refusal}
use Rattle.sc_handler.specs.Fits.{is_request_of, is_call, fits_turns}
use Rattle.sc_request.specs.Candidates.{granted_items}
use Rattle.sc_request.specs.Sessions.{release, passed_if, passes, send, is_callback, with_handler, answer_to, return_rights, finish, fail}
use Rattle.sc_request.specs.Settling.{made_at, begun, reserves, awaits_if, sends, asks_of, creation, creates_with, creates, ends_service, ends, done, posts_unheld, may_ask, done_if, asked_in, settled}
use Rattle.sc_request.specs.Sound.{IsHeldBelow, IsListedBelow, PassesBelow, placed_poster, IsPlaced, AreServed, IsServed, awaits_placed, may_take_over, IsSoundHandler, IsSound}
use Rattle.sc_request.proofs.SoundHandlers.{answer_taken, ended, ended_either, entered, fell, give_back_below, given_below, heard_by, listed_below, more, new_is, pass_below, placed_is, release_all_below, release_below, reserve_below, staged, taken, told_of}

-- ---- all handlers

pub all_more : (c c' n n' : ℕ) (s : State) → c ≤ c' → n ≤ n' → IsSound c n s → IsSound c' n' s
all_more c c' n n' s lc ln all = record {
  within = all.within;
  rights = all.rights;
  handlers = λ k. more c c' n n' s.count s.count (s.handlers k) lc ln (omega arith) (all.handlers k);
}

pub one_more : (c n : ℕ) (s : State) → IsSound c n s → IsSound (c + 1) n s
one_more c n s all = all_more c (c + 1) n n s (omega arith) (omega arith) all

pub if_is : (c n m : ℕ) (b : Bool) (x y : Handler) → IsSoundHandler c n m x → IsSoundHandler c n m y → IsSoundHandler c n m (if b then x else y)
if_is c n m true x y e f = e
if_is c n m false x y e f = f

put_is : (c n h : ℕ) (x : Handler) (s : State) → IsSoundHandler c n s.count x → IsSound c n s → IsSound c n (put h x s)
put_is c n h x s e all =
    record { within = all.within; rights = all.rights; handlers = λ k. if_is c n s.count (k == h) x (s.handlers k) e (all.handlers k) }

stage_is : (c n h : ℕ) (st : HandlerStage) (s : State) → awaits_placed st ≡ true → IsSound c n s → IsSound c n (with_stage h st s)
stage_is c n h st s e all = put_is c n h (record (s.handlers h) { stage = st }) s (staged c n s.count (s.handlers h) st e (all.handlers h)) all

pub release_is : (c n : ℕ) (how : Release) (ks : List ℕ) (s : State) → IsSound c n s → IsSound (c + 1) n (release how ks s)
release_is c n how ks s all = record {
  within = all.within;
  rights = release_below ks s.rights all.rights;
  handlers = λ k. ended c n s.count (ends_session how && is_among k ks) (s.handlers k) (all.handlers k);
}

pub failed_is : (c n h : ℕ) (why : Cause) (s : State) → IsSound c n s → IsSound (c + 1) n (fail h why s)
failed_is c n h why s all = record {
  within = all.within;
  rights = release_all_below h s.rights all.rights;
  handlers = λ k.
      let y = told (list_any (is_waited_by k) (requests_at (s.handlers h))) (s.handlers k) in
      ended c n s.count (ends_session release_at.Failure && is_handler h (s.rights.queue k)) (if k == h then fallen why (s.handlers k) else y)
      (if_is c n s.count (k == h) (fallen why (s.handlers k)) y (fell c n s.count why (s.handlers k) (all.handlers k))
      (told_of c n s.count (list_any (is_waited_by k) (requests_at (s.handlers h))) (s.handlers k) (all.handlers k)));
}

send_is : (c n : ℕ) (b : Bool) (k : ℕ) (p : Posted) (s : State) → IsPlaced p → IsSound c n s → IsSound c n (send b k p s)
send_is c n b k p s e all = put_is c n k (placed b p (s.handlers k)) s (placed_is c n s.count b p (s.handlers k) e (all.handlers k)) all

passes_is : (c n : ℕ) (b : Bool) (h k : ℕ) (s : State) → h < 512 → IsSound c n s → IsSound c n (passes b h k s)
passes_is c n false h k s own all = all
passes_is c n true h k s own all = record { within = all.within; rights = pass_below h k s.rights own all.rights; handlers = all.handlers }

some_same : (p q : Passed) → Some p ≡ Some q → p ≡ q
some_same p q e = cc

passed_placed : (b : Bool) (h : ℕ) (r : Rights) → h < 512 → IsHeldBelow r → PassesBelow (passed_if b h r)
passed_placed false h r own below p e = cc
passed_placed true h r own below p e = subst IsListedBelow (some_same (passed_by h r) p e) (listed_below h r own below)

pub none_passed : PassesBelow None
none_passed p e = cc

answer_is : (c n : ℕ) (b : Bool) (o : Option ℕ) (a : Answer) (s : State) → IsSound c n s → IsSound c n (answer_to b o a s)
answer_is c n true (Some p) a s all = put_is c n p (answered a (s.handlers p)) s (heard_by c n s.count (s.handlers p) a (all.handlers p)) all
answer_is c n true None a s all = all
answer_is c n false o a s all = all

return_is : (c n : ℕ) (o : Option Passed) (s : State) → PassesBelow o → IsSound c n s → IsSound c n (return_rights o s)
return_is c n None s is all = all
return_is c n (Some p) s is all = record { within = all.within; rights = give_back_below p s.rights (is p refl) all.rights; handlers = all.handlers }

pub finish_is : (c n : ℕ) (p : Posted) (a : Answer) (s : State) → IsPlaced p → IsSound c n s → IsSound c n (finish p a s)
finish_is c n p a s is all =
    answer_is c n p.request.is_waited p.request.poster a (return_rights p.passed s) (return_is c n p.passed s is.passed all)

-- ---- the job begins

made_is : (c n h : ℕ) (st : HandlerStage) (s : State) → IsSound c n s → IsSound (c + 1) n (made_at h st s)
made_is c n h (Awaits k b) s all =
    release_is c n release_at.Creation (k ∷ []) (put h (takes_answer (s.handlers h)) s)
    (put_is c n h (takes_answer (s.handlers h)) s (answer_taken c n s.count (s.handlers h) (all.handlers h)) all)
made_is c n h Idle s all = one_more c n (with_stage h Runs s) (stage_is c n h Runs s refl all)
made_is c n h Runs s all = one_more c n (with_stage h Runs s) (stage_is c n h Runs s refl all)
made_is c n h (HasMade k) s all = one_more c n (with_stage h Runs s) (stage_is c n h Runs s refl all)
made_is c n h (Reserves ks mark) s all = one_more c n (with_stage h Runs s) (stage_is c n h Runs s refl all)

-- The job begins: one more request may be served, and one more session of a handler may have ended.
pub begun_is : (c n h : ℕ) (j : Job) (s : State) → All (λ k. k < 512) (granted_items j) → IsSound c n s → IsSound (c + 1) (n + 1) (begun h j s)
begun_is c n h (job.Take r) s there all =
    one_more c (n + 1) (begun h (job.Take r) s)
    (put_is c (n + 1) h (takes (s.handlers h).stage (s.handlers h)) s (taken c n s.count (s.handlers h) (s.handlers h).stage refl (all.handlers h))
    (all_more c c n (n + 1) s (omega arith) (omega arith) all))
begun_is c n h (job.Reply v) s there all =
    all_more c (c + 1) n (n + 1) (begun h (job.Reply v) s) (omega arith) (omega arith)
    (put_is c n h (takes_answer (s.handlers h)) s (answer_taken c n s.count (s.handlers h) (all.handlers h)) all)
begun_is c n h job.Failed s there all = all_more c (c + 1) n (n + 1) s (omega arith) (omega arith) all
begun_is c n h job.Refused s there all = all_more c (c + 1) n (n + 1) s (omega arith) (omega arith) all
begun_is c n h (job.Granted ks) s there all =
    let t = all_more c (c + 1) n (n + 1) (with_stage h Runs s) (omega arith) (omega arith) (stage_is c n h Runs s refl all) in
    record { within = t.within; rights = reserve_below h ks.items s.rights there t.rights; handlers = t.handlers }
begun_is c n h (job.Made k) s there all =
    all_more (c + 1) (c + 1) n (n + 1) (made_at h (s.handlers h).stage s) (omega arith) (omega arith) (made_is c n h (s.handlers h).stage s all)
begun_is c n h job.Go s there all = all_more c (c + 1) n (n + 1) s (omega arith) (omega arith) all

-- ---- what is asked

is_nobody : (h : ℕ) (o : Option ℕ) → o ≡ None → is_handler h o ≡ true → ⊥
is_nobody h None e f = cc
is_nobody h (Some k) e f = cc

below_of : (h k : ℕ) (o : Option ℕ) → (512 ≤ k → o ≡ None) → is_handler h o ≡ true → k < 512
below_of h k o none e = elim (cases_Bool (nat_lt k 512)) [
  | inl is ↦ ltb-true k 512 is
  | inr is ↦ absurd (is_nobody h o (none (ltb-false k 512 is)) e)
]

held_placed : (r : Rights) (h k : ℕ) → IsHeldBelow r → h < 512 → held r h k ≡ true → k < 512
held_placed r h k below own e = elim (or_cases (k == h || is_handler h (r.queue k)) (is_handler h (r.top k)) e) [
  | inl one ↦ elim (or_cases (k == h) (is_handler h (r.queue k)) one) [
    | inl same ↦ let is = eqb-true k h same in omega (arith, is, own)
    | inr queue ↦ below_of h k (r.queue k) (below.queue k) queue
  ]
  | inr top ↦ below_of h k (r.top k) (below.top k) top
]

held_of : (b : Bool) → not b ≡ false → b ≡ true
held_of true e = refl
held_of false e = cc

own_poster : (h : ℕ) (o : Option ℕ) → h < 512 → is_handler h o ≡ true → placed_poster o ≡ true
own_poster h None own e = cc
own_poster h (Some k) own e = let is = eqb-true k h e in lt-ltb k 512 (omega (arith, is, own))

poster_of : (h : ℕ) (r : Request) → h < 512 → is_request_of h r ≡ true → placed_poster r.poster ≡ true
poster_of h r own e =
    let parts = and_parts (is_handler h r.poster && is_call r.errand) (not (r.target.handler == h)) e in
    own_poster h r.poster own (and_parts (is_handler h r.poster) (is_call r.errand) parts.0).0

awaits_is : (c n : ℕ) (b : Bool) (h k : ℕ) (s : State) → k < 512 → IsSound c n s → IsSound c n (awaits_if b h k s)
awaits_is c n false h k s there all = all
awaits_is c n true h k s there all = stage_is c n h (Awaits k false) s (lt-ltb k 512 there) all

sends_is : (c n h k : ℕ) (r : Request) (passing waits : Bool) (s : State) → h < 512 → k < 512 → placed_poster r.poster ≡ true → IsSound c n s →
    IsSound c n (sends h k r passing waits s)
sends_is c n h k r passing waits s own there e all =
    let p = posted (record r { is_waited = waits }) (passed_if passing h s.rights) in
    passes_is c n passing h k (send (is_callback h k s) k p (awaits_if waits h k s)) own
    (send_is c n (is_callback h k s) k p (awaits_if waits h k s) (record { poster = e; passed = passed_placed passing h s.rights own all.rights })
    (awaits_is c n waits h k s there all))

if_sound : (c n : ℕ) (b : Bool) (s t : State) → IsSound c n s → IsSound c n t → IsSound c n (if b then s else t)
if_sound c n true s t e f = e
if_sound c n false s t e f = f

asks_is : (c n h k : ℕ) (r : Request) (passing : Bool) (s : State) → h < 512 → k < 512 → placed_poster r.poster ≡ true → IsSound c n s →
    IsSound (c + 1) n (asks_of h k r passing s)
asks_is c n h k r passing s own there e all =
    let waits = passing || r.is_waited || is_callback h k s in
    let full = not (is_callback h k s) && not (nat_lt (length (s.handlers k).queue) max_queue) in
    let sent = sends h k r passing waits s in
    if_sound (c + 1) n (is_some (s.handlers k).failure) (fail h cause.SupplierFailed s) (if full then fail h cause.QueueFull s else sent)
    (failed_is c n h cause.SupplierFailed s all)
    (if_sound (c + 1) n full (fail h cause.QueueFull s) sent (failed_is c n h cause.QueueFull s all)
    (one_more c n sent (sends_is c n h k r passing waits s own there e all)))

-- ---- a handler is made

pub with_is : (c n k h : ℕ) (s : State) → k < 512 → s.count < 512 → IsSound c n s → IsSound c n (with_handler k h s)
with_is c n k h s there room all = record {
  within = omega (arith, room);
  rights = given_below k (Some h) None s.rights there all.rights;
  handlers = λ j.
      if_is c n (s.count + 1) (j == k) new_handler (s.handlers j) (new_is c n (s.count + 1))
      (more c c n n s.count (s.count + 1) (s.handlers j) (omega arith) (omega arith) (omega arith) (all.handlers j));
}

creates_with_is : (c n h k : ℕ) (b : Bool) (r : Request) (s : State) → h < 512 → k < 512 → placed_poster r.poster ≡ true → IsSound c n s →
    IsSound (c + 1) n (creates_with b h k r s)
creates_with_is c n h k true r s own there e all =
    let p = posted r (passed_if true h s.rights) in
    let t = with_stage h (Awaits k true) s in
    one_more c n (passes true h k (send false k p t))
    (passes_is c n true h k (send false k p t) own
    (send_is c n false k p t (record { poster = e; passed = passed_placed true h s.rights own all.rights }) (stage_is c n h (Awaits k true) s (lt-ltb k 512 there) all)))
creates_with_is c n h k false r s own there e all =
    let t = with_stage h (HasMade k) s in
    release_is c n release_at.Creation (k ∷ []) (send false k (posted r None) t)
    (send_is c n false k (posted r None) t (record { poster = e; passed = none_passed }) (stage_is c n h (HasMade k) s refl all))

creates_is : (c n most h class : ℕ) (procedure : Option ℕ) (actuals : ArrayVec Value) (passing : Bool) (s : State) → most ≤ 512 → h < 512 → IsSound c n s →
    IsSound (c + 1) n (creates most h class procedure actuals passing s)
creates_is c n most h class procedure actuals passing s within own all = elim (cases_Bool (nat_lt s.count most)) [
  | inl is ↦
      let l = ltb-true s.count most is in
      let room : s.count < 512 = omega (arith, l, within) in
      rw is (creates_with_is c n h s.count passing (creation h s.count class procedure actuals passing) (with_handler s.count h s) own room (lt-ltb h 512 own)
      (with_is c n s.count h s room room all))
  | inr is ↦ rw is (failed_is c n h cause.TooManyHandlers s all)
]

-- ---- a request ends

over_placed : (st : HandlerStage) → may_take_over st ≡ true → awaits_placed st ≡ true
over_placed Idle e = refl
over_placed Runs e = refl
over_placed (HasMade k) e = refl
over_placed (Reserves ks mark) e = refl
over_placed (Awaits k b) e = e

-- the handler, which has these services left, stands as it stood when it took the request
left_is : (c n m : ℕ) (x : Handler) (e : Service) (es : List Service) → AreServed (e ∷ es) → length (e ∷ es) ≤ n → IsSoundHandler c n m x →
    IsSoundHandler c n m (record x { stage = e.over; services = es })
left_is c n m x e es all fewer s = record {
  stage = over_placed e.over (All-head IsServed e es all).over;
  queue = s.queue;
  callback = s.callback;
  services = All-tail IsServed e es all;
  entry = s.entry;
  sessions = s.sessions;
  refused = s.refused;
  serves = omega (arith, fewer);
}

service_is : (c n h : ℕ) (refused : Bool) (v : Option Value) (ks : List ℕ) (e : Service) (x : Handler) (s : State) → IsPlaced e.posted → IsSoundHandler c n s.count x →
    IsSound c n s → IsSound (c + 1) n (ends_service refused h v ks e x s)
service_is c n h false v ks e x s is own all =
    finish_is (c + 1) n e.posted (Replied v) (release release_at.Exit ks (put h x s)) is
    (release_is c n release_at.Exit ks (put h x s) (put_is c n h x s own all))
service_is c n h true v ks e x s is own all =
    let w = e.posted.request.is_waited in
    finish_is (c + 1) n e.posted Refused (release release_at.Refusal ks (put h (counted_refusal w x) s)) is (record {
      within = all.within;
      rights = release_below ks s.rights all.rights;
      handlers = λ k. ended_either c n s.count (ends_session release_at.Refusal && is_among k ks) w (k == h) x (s.handlers k) own (all.handlers k);
    })

ends_is : (c n h : ℕ) (v : Option Value) (ks : List ℕ) (refused : Bool) (vs : List Service) (s : State) → AreServed vs → length vs ≤ n → IsSound c n s →
    IsSound (c + 1) n (ends h v ks refused vs s)
ends_is c n h v ks refused [] s are fewer all = failed_is c n h cause.BadCode s all
ends_is c n h v ks refused (e ∷ es) s are fewer all =
    service_is c n h refused v ks e (record (s.handlers h) { stage = e.over; services = es }) s (All-head IsServed e es are).placed
    (left_is c n s.count (s.handlers h) e es are fewer (all.handlers h)) all

-- ---- what comes of it

pub done_is : (c n most h : ℕ) (w : Want) (s : State) → most ≤ 512 → h < 512 → posts_unheld h w s ≡ false → may_ask h w s ≡ true →
    IsSound c n s → IsSound (c + 1) n (done most h w s)
done_is c n most h want.Continue s within own held may all = one_more c n s all
done_is c n most h (want.Reserve ks) s within own held may all =
    one_more c n (reserves h ks.items s)
    (put_is c n h (record (s.handlers h) { stage = Reserves ks.items []; entry = ks.items }) s (entered c n s.count (s.handlers h) ks.items [] may (all.handlers h)) all)
done_is c n most h (want.Post r) s within own held may all =
    asks_is c n h r.target.handler r false s own (held_placed s.rights h r.target.handler all.rights own (held_of _ held))
    (poster_of h r own (and_parts (is_request_of h r) (not r.is_waited) may).0) all
done_is c n most h (want.Ask r passing) s within own held may all =
    asks_is c n h r.target.handler r passing s own (held_placed s.rights h r.target.handler all.rights own (held_of _ held))
    (poster_of h r own (and_parts (is_request_of h r) r.is_waited may).0) all
done_is c n most h (want.Create class procedure actuals passing) s within own held may all = creates_is c n most h class procedure actuals passing s within own all
done_is c n most h (want.Release ks) s within own held may all = release_is c n release_at.Leave ks.items s all
done_is c n most h (want.Wait ks) s within own held may all =
    release_is c n release_at.FalseWaitCondition ks.items (with_stage h (Reserves (s.handlers h).entry _) s) (stage_is c n h (Reserves (s.handlers h).entry _) s refl all)
done_is c n most h (want.Done v ks refused) s within own held may all =
    ends_is c n h v ks.items refused (s.handlers h).services s (all.handlers h).services (all.handlers h).serves all
done_is c n most h (want.Fail why) s within own held may all = failed_is c n h why s all

done_if_is : (c n most h : ℕ) (unheld fits : Bool) (w : Want) (s : State) → most ≤ 512 → h < 512 → (unheld ≡ false → posts_unheld h w s ≡ false) →
    (fits ≡ true → may_ask h w s ≡ true) → IsSound c n s → IsSound (c + 1) n (done_if unheld fits most h w s)
done_if_is c n most h true fits w s within own held may all = failed_is c n h cause.NotHeld s all
done_if_is c n most h false true w s within own held may all = done_is c n most h w s within own (held refl) (may refl) all
done_if_is c n most h false false w s within own held may all = failed_is c n h cause.BadCode s all

pub asked_is : (c n most h : ℕ) (fits : Bool) (w : Want) (s : State) → most ≤ 512 → h < 512 → IsSound c n s → IsSound (c + 1) n (asked_in fits most h w s)
asked_is c n most h fits w s within own all =
    done_if_is c n most h (posts_unheld h w s) (fits && may_ask h w s) w s within own (λ e. e) (λ e. (and_parts fits (may_ask h w s) e).1) all

-- What a settlement leaves is sound: it ends at most two sessions of a handler, and one more request may be served.
pub settled_is : (c n most h : ℕ) (j : Job) (turns : ℕ) (w : Want) (s : State) → most ≤ 512 → h < 512 → All (λ k. k < 512) (granted_items j) → IsSound c n s →
    IsSound (c + 1 + 1) (n + 1) (settled most h j turns w s)
settled_is c n most h j turns w s within own there all =
    asked_is (c + 1) (n + 1) most h (fits_turns turns (s.handlers h).stage j w) w (begun h j s) within own (begun_is c n h j s there all)
