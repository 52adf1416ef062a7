-- What a mover is to change: in the turn of another handler its rights and what it stands at stay.
use Rattle.std.proofs.Common.{◌≡◌, ◌∙◌, ◌⊎◌, inl, inr, ◌<◌, ◌≤◌, ◌==◌, ◌&&◌, ◌||◌, not, ℕ, Bool, true, false, List, [], ◌∷◌, Option, Some, None, length, refl, sym, ap, subst, arith}
use Rattle.std.proofs.lemmas.Bool.{cases_eq, eq-eqb, eqb-true, ne_eqb}
use Rattle.std.specs.Prelude.{if◌then◌else◌, is_some, nat_lt}
use Rattle.std.specs.List.{list_all, list_any}
use Rattle.arrayvec.specs.ArrayVec.{ArrayVec}
use Rattle.sc_lockpass.specs.Rights.{is_among, is_handler}
use Rattle.sc_lockpass.specs.Passing.{Passed, returned}
use Rattle.sc_lockpass.specs.wait_conditions.Reservations.{ends_session, mark_of}
use Rattle.sc_lockpass.specs.declared.wait_conditions.session.Release.{Release}
use Rattle.sc_lockpass.specs.declared.wait_conditions.session.Release.TheVariants as release_at
use Rattle.sc_model.specs.declared.cause.Cause.{Cause}
use Rattle.sc_model.specs.declared.cause.Cause.TheVariants as cause
use Rattle.sc_model.specs.Limits.{max_queue}
use Rattle.sc_region.specs.declared.value.Value.{Value}
use Rattle.sc_region.specs.declared.job.Job.{Job}
use Rattle.sc_region.specs.declared.job.Job.TheVariants as job
use Rattle.sc_region.specs.declared.job.Request.{Request}
use Rattle.sc_region.specs.declared.job.Want.{Want}
use Rattle.sc_region.specs.declared.job.Want.TheVariants as want
use Rattle.sc_handler.specs.Handlers.{Posted, posted, Answer, Replied, Refused, SupplierFailed, HandlerStage, Idle, Runs, HasMade, Reserves, Awaits, Service, Handler, State, new_handler, put, with_stage}
use Rattle.sc_handler.specs.Changes.{answered, counted_refusal, fallen, heard, is_waited_by, placed, requests_at, session_ended, takes, takes_answer, takes_callback, takes_next, told}
use Rattle.sc_handler.specs.Fits.{fits_first}
use Rattle.sc_request.specs.Sessions.{answer_to, fail, finish, is_callback, passed_if, passes, release, reserve, return_rights, send, with_handler}
use Rattle.sc_request.specs.Settling.{asks_of, awaits_if, begun, creates, creates_with, creation, done, done_if, ends, ends_service, made_at, may_ask, may_post_to_all, posts_unheld, sends, settled}
use Rattle.sc_movers.proofs.ChangedStates.{Apart, true_false}
use Rattle.sc_movers.proofs.ChangedTurns.{Beside, and_left, and_right, posts_to, to_another}

-- ---- one handler

-- what it serves and its entry stay, and how often it refused
abbrev pub OwnStays : Handler → Handler → Type 0
OwnStays x y = (y.services ≡ x.services) × (y.entry ≡ x.entry) × (y.refused ≡ x.refused)

pub own_same : (x : Handler) → OwnStays x x
own_same x = (refl, refl, refl)

own_then : (x y z : Handler) → OwnStays x y → OwnStays y z → OwnStays x z
own_then x y z p q = (q.0 ∙ p.0, q.1 ∙ p.1, q.2 ∙ p.2)

ended_own : (b : Bool) (x : Handler) → OwnStays x (session_ended b x)
ended_own true x = (refl, refl, refl)
ended_own false x = (refl, refl, refl)

pub ended_queue : (b : Bool) (x : Handler) → (session_ended b x).queue ≡ x.queue
ended_queue true x = refl
ended_queue false x = refl

told_own : (b : Bool) (x : Handler) → OwnStays x (told b x)
told_own true x = (refl, refl, refl)
told_own false x = (refl, refl, refl)

pub told_queue : (b : Bool) (x : Handler) → (told b x).queue ≡ x.queue
told_queue true x = refl
told_queue false x = refl

told_count : (b : Bool) (x : Handler) → (told b x).sessions ≡ x.sessions
told_count true x = refl
told_count false x = refl

placed_own : (b : Bool) (p : Posted) (x : Handler) → OwnStays x (placed b p x)
placed_own true p x = (refl, refl, refl)
placed_own false p x = (refl, refl, refl)

placed_count : (b : Bool) (p : Posted) (x : Handler) → (placed b p x).sessions ≡ x.sessions
placed_count true p x = refl
placed_count false p x = refl

next_count : (ps : List Posted) (x : Handler) → (takes_next ps x).sessions ≡ x.sessions
next_count [] x = refl
next_count (p ∷ ps) x = refl

callback_count : (p : Option Posted) (x : Handler) → (takes_callback p x).sessions ≡ x.sessions
callback_count None x = refl
callback_count (Some p) x = refl

takes_count : (stage : HandlerStage) (x : Handler) → (takes stage x).sessions ≡ x.sessions
takes_count Idle x = next_count x.queue x
takes_count Runs x = refl
takes_count (HasMade k) x = refl
takes_count (Reserves ks mark) x = refl
takes_count (Awaits k c) x = callback_count x.callback x

-- it has failed, or an answer has come
abbrev pub is_deaf : Handler → Bool
is_deaf x = is_some x.failure || is_some x.answer

pub ended_deaf : (b : Bool) (x : Handler) → is_deaf (session_ended b x) ≡ is_deaf x
ended_deaf true x = refl
ended_deaf false x = refl

placed_deaf : (b : Bool) (p : Posted) (x : Handler) → is_deaf (placed b p x) ≡ is_deaf x
placed_deaf true p x = refl
placed_deaf false p x = refl

answered_deaf : (a : Answer) (x : Handler) → is_deaf x ≡ true → is_deaf (answered a x) ≡ true
answered_deaf a x e = by a x.failure x.answer e
  where
    by : (a : Answer) (f : Option Cause) (o : Option Answer) → (is_some f || is_some o) ≡ true → (is_some f || is_some (heard a f o)) ≡ true
    by a (Some why) o e = refl
    by SupplierFailed None o e = refl
    by (Replied v) None None e = refl
    by (Replied v) None (Some b) e = refl
    by Refused None None e = refl
    by Refused None (Some b) e = refl

told_deaf : (b : Bool) (x : Handler) → is_deaf x ≡ true → is_deaf (told b x) ≡ true
told_deaf true x e = answered_deaf SupplierFailed x e
told_deaf false x e = e

refusal_count : (b : Bool) (x : Handler) → (counted_refusal b x).sessions ≡ x.sessions
refusal_count true x = refl
refusal_count false x = refl

-- who passes a test among all that pass it
pub all_among : (P : ℕ → Bool) (ls : List ℕ) (k : ℕ) → list_all P ls ≡ true → is_among k ls ≡ true → P k ≡ true
all_among P [] k all e = true_false (sym e)
all_among P (j ∷ ls) k all e = by (j == k) refl e (all_among P ls k (and_right (P j) (list_all P ls) all))
  where
    by : (b : Bool) → (j == k) ≡ b → (b || is_among k ls) ≡ true → (is_among k ls ≡ true → P k ≡ true) → P k ≡ true
    by true i e rest = ap P (sym (eqb-true j k i)) ∙ and_left (P j) (list_all P ls) all
    by false i e rest = rest e

-- ---- states

-- There are as many handlers, or more. The rights over those that are safe stay, and their counts; what the handler g
-- serves and its entry; and the queues of those that are closed. Each but h is as deaf as it was.
pub record Stay (g h : ℕ) (safe closed : ℕ → Bool) (s t : State) : Type 0 where
  pub more : s.count ≤ t.count
  pub queue : (k : ℕ) → safe k ≡ true → t.rights.queue k ≡ s.rights.queue k
  pub sessions : (k : ℕ) → safe k ≡ true → (t.handlers k).sessions ≡ (s.handlers k).sessions
  pub own : OwnStays (s.handlers g) (t.handlers g)
  pub asked : (k : ℕ) → closed k ≡ true → (t.handlers k).queue ≡ (s.handlers k).queue
  pub deaf : (k : ℕ) → k < s.count → (k ≡ h → ⊥) → is_deaf (s.handlers k) ≡ true → is_deaf (t.handlers k) ≡ true

pub stay_apart : (g h : ℕ) (safe closed : ℕ → Bool) (s t : State) → Apart h safe s → Stay g h safe closed s t → Apart h safe t
stay_apart g h safe closed s t are p =
    let more = p.more in
    record {
      not_its = λ k e. ap (is_handler h) (p.queue k e) ∙ are.not_its k e;
      few = λ k e. let few = are.few k e in omega (arith, few, more);
    }

module _ (g h n : ℕ) (safe closed spared : ℕ → Bool) (apart : h ≡ g → ⊥) (there : g < n) (not_closed : closed h ≡ false) (shut : (k : ℕ) → closed k ≡ true → safe k ≡ true) where
  abbrev Are : State → Type 0
  Are = Apart h safe

  abbrev Stays : State → State → Type 0
  Stays = Stay g h safe closed

  pub stay : (s : State) → Stays s s
  stay s = record { more = omega arith; queue = λ k e. refl; sessions = λ k e. refl; own = own_same (s.handlers g); asked = λ k e. refl; deaf = λ k few not_h e. e }

  pub stay_then : (s t u : State) → Stays s t → Stays t u → Stays s u
  stay_then s t u p q =
      let one = p.more in
      let two = q.more in
      record {
        more = omega (arith, one, two);
        queue = λ k e. q.queue k e ∙ p.queue k e;
        sessions = λ k e. q.sessions k e ∙ p.sessions k e;
        own = own_then (s.handlers g) (t.handlers g) (u.handlers g) p.own q.own;
        asked = λ k e. q.asked k e ∙ p.asked k e;
        deaf = λ k few not_h e. q.deaf k (omega (arith, few, one)) not_h (p.deaf k few not_h e);
      }

  -- one handler changes, with its count as it was; with what it serves, if it is g; with its queue, if it is closed; and
  -- as deaf as it was, if it isn't h
  put_stays : (i : ℕ) (y : Handler) (s : State) → y.sessions ≡ (s.handlers i).sessions → (i ≡ g → OwnStays (s.handlers i) y) →
      (closed i ≡ true → y.queue ≡ (s.handlers i).queue) → ((i ≡ h → ⊥) → is_deaf (s.handlers i) ≡ true → is_deaf y ≡ true) → Stays s (put i y s)
  put_stays i y s count own asked deaf = record {
    more = omega arith;
    queue = λ k e. refl;
    sessions = λ k e. by k (cases_eq k i);
    own = at (cases_eq g i);
    asked = λ k e. of k e (cases_eq k i);
    deaf = λ k few not_h e. ears k not_h e (cases_eq k i);
  }
    where
      ears : (k : ℕ) → (k ≡ h → ⊥) → is_deaf (s.handlers k) ≡ true → (k ≡ i) ⊎ (k ≡ i → ⊥) → is_deaf (if k == i then y else s.handlers k) ≡ true
      ears k not_h e (inl same) =
          ap (λ (b : Bool). is_deaf (if b then y else s.handlers k)) (eq-eqb k i same)
          ∙ deaf (λ is. not_h (same ∙ is)) (ap (λ (m : ℕ). is_deaf (s.handlers m)) (sym same) ∙ e)
      ears k not_h e (inr other) = ap (λ (b : Bool). is_deaf (if b then y else s.handlers k)) (ne_eqb k i other) ∙ e

      by : (k : ℕ) → (k ≡ i) ⊎ (k ≡ i → ⊥) → (if k == i then y else s.handlers k).sessions ≡ (s.handlers k).sessions
      by k (inl same) =
          ap (λ (b : Bool). (if b then y else s.handlers k).sessions) (eq-eqb k i same) ∙ count ∙ ap (λ (m : ℕ). (s.handlers m).sessions) (sym same)
      by k (inr other) = ap (λ (b : Bool). (if b then y else s.handlers k).sessions) (ne_eqb k i other)

      at : (g ≡ i) ⊎ (g ≡ i → ⊥) → OwnStays (s.handlers g) (if g == i then y else s.handlers g)
      at (inl same) = subst (λ (b : Bool). OwnStays (s.handlers g) (if b then y else s.handlers g)) (sym (eq-eqb g i same))
          (subst (λ (m : ℕ). OwnStays (s.handlers m) y) (sym same) (own (sym same)))
      at (inr other) = subst (λ (b : Bool). OwnStays (s.handlers g) (if b then y else s.handlers g)) (sym (ne_eqb g i other)) (own_same (s.handlers g))

      of : (k : ℕ) → closed k ≡ true → (k ≡ i) ⊎ (k ≡ i → ⊥) → (if k == i then y else s.handlers k).queue ≡ (s.handlers k).queue
      of k e (inl same) =
          ap (λ (b : Bool). (if b then y else s.handlers k).queue) (eq-eqb k i same) ∙ asked (ap closed (sym same) ∙ e) ∙ ap (λ (m : ℕ). (s.handlers m).queue) (sym same)
      of k e (inr other) = ap (λ (b : Bool). (if b then y else s.handlers k).queue) (ne_eqb k i other)

  own_put_stays : (y : Handler) (s : State) → y.sessions ≡ (s.handlers h).sessions → Stays s (put h y s)
  own_put_stays y s count = put_stays h y s count (λ e. absurd (apart e)) (λ e. true_false (sym e ∙ not_closed)) (λ not_h e. absurd (not_h refl))

  released_stays : (how : Release) (ls : List ℕ) (s : State) → ((k : ℕ) → safe k ≡ true → is_among k ls ≡ false) → Stays s (release how ls s)
  released_stays how ls s none = record {
    more = omega arith;
    queue = λ k e. ap (λ (b : Bool). if b then None else s.rights.queue k) (none k e);
    sessions = λ k e. ap (λ (b : Bool). (session_ended (ends_session how && b) (s.handlers k)).sessions) (none k e) ∙ never (ends_session how) k;
    own = ended_own (ends_session how && is_among g ls) (s.handlers g);
    asked = λ k e. ended_queue (ends_session how && is_among k ls) (s.handlers k);
    deaf = λ k few not_h e. ended_deaf (ends_session how && is_among k ls) (s.handlers k) ∙ e;
  }
    where
      never : (b : Bool) (k : ℕ) → (session_ended (b && false) (s.handlers k)).sessions ≡ (s.handlers k).sessions
      never true k = refl
      never false k = refl

  pub rights_stay_only : (s t : State) → t.count ≡ s.count → t.handlers ≡ s.handlers → ((k : ℕ) → safe k ≡ true → t.rights.queue k ≡ s.rights.queue k) → Stays s t
  rights_stay_only s t count handlers queue = record {
    more = omega (arith, count);
    queue = queue;
    sessions = λ k e. ap (λ (hs : ℕ → Handler). (hs k).sessions) handlers;
    own = subst (λ (hs : ℕ → Handler). OwnStays (s.handlers g) (hs g)) (sym handlers) (own_same (s.handlers g));
    asked = λ k e. ap (λ (hs : ℕ → Handler). (hs k).queue) handlers;
    deaf = λ k few not_h e. ap (λ (hs : ℕ → Handler). is_deaf (hs k)) handlers ∙ e;
  }

  passes_stay : (b : Bool) (j : ℕ) (s : State) → Are s → Stays s (passes b h j s)
  passes_stay false j s are = stay s
  passes_stay true j s are =
      rights_stay_only s (passes true h j s) refl refl (λ k e. ap (λ (b : Bool). if b then Some j else s.rights.queue k) (are.not_its k e))

  -- a request isn't sent to the queue of one that is closed
  sent_stays : (b : Bool) (k : ℕ) (p : Posted) (s : State) → (b ≡ false → closed k ≡ false) → Stays s (send b k p s)
  sent_stays b k p s opens = put_stays k (placed b p (s.handlers k)) s (placed_count b p (s.handlers k)) (λ e. placed_own b p (s.handlers k)) (by b opens)
      (λ not_h e. placed_deaf b p (s.handlers k) ∙ e)
    where
      by : (b : Bool) → (b ≡ false → closed k ≡ false) → closed k ≡ true → (placed b p (s.handlers k)).queue ≡ (s.handlers k).queue
      by true opens e = refl
      by false opens e = true_false (sym e ∙ opens refl)

  returned_stays : (o : Option Passed) (s : State) → ((p : Passed) → o ≡ Some p → (k : ℕ) → safe k ≡ true → p.queue k ≡ None) → Stays s (return_rights o s)
  returned_stays None s none = stay s
  returned_stays (Some p) s none =
      rights_stay_only s (return_rights (Some p) s) refl refl (λ k e. ap (λ (l : Option (Option ℕ)). returned l (s.rights.queue k)) (none p refl k e))

  answers_stay : (b : Bool) (p : Option ℕ) (a : Answer) (s : State) → Stays s (answer_to b p a s)
  answers_stay true (Some p) a s = put_stays p (answered a (s.handlers p)) s refl (λ e. (refl, refl, refl)) (λ e. refl) (λ not_h e. answered_deaf a (s.handlers p) e)
  answers_stay true None a s = stay s
  answers_stay false p a s = stay s

  finished_stays : (p : Posted) (a : Answer) (s : State) → ((q : Passed) → p.passed ≡ Some q → (k : ℕ) → safe k ≡ true → q.queue k ≡ None) → Stays s (finish p a s)
  finished_stays p a s none =
      stay_then s (return_rights p.passed s) (finish p a s) (returned_stays p.passed s none)
      (answers_stay p.request.is_waited p.request.poster a (return_rights p.passed s))

  pub fails_stay : (why : Cause) (s : State) → Are s → Stays s (fail h why s)
  fails_stay why s are = record {
    more = omega arith;
    queue = λ k e. ap (λ (b : Bool). if b then None else s.rights.queue k) (are.not_its k e);
    sessions = λ k e. ap (λ (b : Bool). (session_ended (ends_session release_at.Failure && b) (after k)).sessions) (are.not_its k e) ∙ inner k (k == h);
    own = own_then (s.handlers g) (after g) (session_ended (ends_session release_at.Failure && is_handler h (s.rights.queue g)) (after g))
        (subst (λ (b : Bool). OwnStays (s.handlers g) (if b then fallen why (s.handlers g) else told (waits g) (s.handlers g))) (sym (ne_eqb g h (λ i. apart (sym i)))) (told_own (waits g) (s.handlers g)))
        (ended_own (ends_session release_at.Failure && is_handler h (s.rights.queue g)) (after g));
    asked = λ k e. ended_queue (ends_session release_at.Failure && is_handler h (s.rights.queue k)) (after k) ∙ of k e (cases_eq k h);
    deaf = λ k few not_h e.
        ended_deaf (ends_session release_at.Failure && is_handler h (s.rights.queue k)) (after k)
        ∙ ap (λ (b : Bool). is_deaf (if b then fallen why (s.handlers k) else told (waits k) (s.handlers k))) (ne_eqb k h not_h)
        ∙ told_deaf (waits k) (s.handlers k) e;
  }
    where
      waits : ℕ → Bool
      waits k = list_any (is_waited_by k) (requests_at (s.handlers h))

      after : ℕ → Handler
      after k = if k == h then fallen why (s.handlers k) else told (waits k) (s.handlers k)

      inner : (k : ℕ) (b : Bool) → (if b then fallen why (s.handlers k) else told (waits k) (s.handlers k)).sessions ≡ (s.handlers k).sessions
      inner k true = refl
      inner k false = told_count (waits k) (s.handlers k)

      of : (k : ℕ) → closed k ≡ true → (k ≡ h) ⊎ (k ≡ h → ⊥) → (after k).queue ≡ (s.handlers k).queue
      of k e (inl same) = true_false (sym e ∙ ap closed same ∙ not_closed)
      of k e (inr other) =
          ap (λ (b : Bool). (if b then fallen why (s.handlers k) else told (waits k) (s.handlers k)).queue) (ne_eqb k h other) ∙ told_queue (waits k) (s.handlers k)

  -- ---- the job begins

  not_made : (k : ℕ) → safe k ≡ false → (i : ℕ) → safe i ≡ true → is_among i (k ∷ []) ≡ false
  not_made k none i e = by (is_among i (k ∷ [])) refl
    where
      one : (b : Bool) → (k == i) ≡ b → (b || false) ≡ true → k ≡ i
      one true is e = eqb-true k i is
      one false is e = true_false (sym e)

      by : (b : Bool) → is_among i (k ∷ []) ≡ b → is_among i (k ∷ []) ≡ false
      by true is = true_false (sym e ∙ ap safe (sym (one (k == i) refl is)) ∙ none)
      by false is = is

  made_stays : (at : HandlerStage) (s : State) → ((i : ℕ) (c : Bool) → at ≡ Awaits i c → safe i ≡ false) → Stays s (made_at h at s)
  made_stays (Awaits k c) s none =
      let t : State = put h (takes_answer (s.handlers h)) s in
      stay_then s t (release release_at.Creation (k ∷ []) t) (own_put_stays (takes_answer (s.handlers h)) s refl)
      (released_stays release_at.Creation (k ∷ []) t (not_made k (none k c refl)))
  made_stays Idle s none = own_put_stays (record (s.handlers h) { stage = Runs }) s refl
  made_stays Runs s none = own_put_stays (record (s.handlers h) { stage = Runs }) s refl
  made_stays (HasMade k) s none = own_put_stays (record (s.handlers h) { stage = Runs }) s refl
  made_stays (Reserves ls mark) s none = own_put_stays (record (s.handlers h) { stage = Runs }) s refl

  pub begun_stays : (j : Job) (w : Want) (s : State) → Beside h safe spared j w s → Stays s (begun h j s)
  begun_stays (job.Take r) w s b = own_put_stays (takes (s.handlers h).stage (s.handlers h)) s (takes_count (s.handlers h).stage (s.handlers h))
  begun_stays (job.Reply v) w s b = own_put_stays (takes_answer (s.handlers h)) s refl
  begun_stays job.Failed w s b = stay s
  begun_stays job.Refused w s b = stay s
  begun_stays (job.Granted ls) w s b =
      let t : State = with_stage h Runs s in
      stay_then s t (reserve h ls.items t) (own_put_stays (record (s.handlers h) { stage = Runs }) s refl)
      (rights_stay_only t (reserve h ls.items t) refl refl (λ k e. ap (λ (c : Bool). if c then Some h else s.rights.queue k) (b.granted ls refl k e)))
  begun_stays (job.Made k) w s b = made_stays (s.handlers h).stage s (λ i c e. b.made i k c e refl)
  begun_stays job.Go w s b = stay s

  -- ---- what comes of it

  if_stays : (b : Bool) (s t u : State) → Stays s t → Stays s u → Stays s (if b then t else u)
  if_stays true s t u p q = p
  if_stays false s t u p q = q

  awaits_stay : (b : Bool) (k : ℕ) (s : State) → Stays s (awaits_if b h k s)
  awaits_stay true k s = own_put_stays (record (s.handlers h) { stage = Awaits k false }) s refl
  awaits_stay false k s = stay s

  sends_stay : (k : ℕ) (r : Request) (passing waits : Bool) (s : State) → Are s → (is_callback h k s ≡ false → closed k ≡ false) → Stays s (sends h k r passing waits s)
  sends_stay k r passing waits s are opens =
      let t : State = awaits_if waits h k s in
      let p : Posted = posted (record r { is_waited = waits }) (passed_if passing h s.rights) in
      let u : State = send (is_callback h k s) k p t in
      let first = stay_then s t u (awaits_stay waits k s) (sent_stays (is_callback h k s) k p t opens) in
      stay_then s u (passes passing h k u) first (passes_stay passing k u (stay_apart g h safe closed s u are first))

  asks_stay : (k : ℕ) (r : Request) (passing : Bool) (s : State) → Are s → (is_callback h k s ≡ false → closed k ≡ false) → Stays s (asks_of h k r passing s)
  asks_stay k r passing s are opens =
      let goes : State = sends h k r passing (passing || r.is_waited || is_callback h k s) s in
      let full : Bool = not (is_callback h k s) && not (nat_lt (length (s.handlers k).queue) max_queue) in
      if_stays (is_some (s.handlers k).failure) s (fail h cause.SupplierFailed s) (if full then fail h cause.QueueFull s else goes) (fails_stay cause.SupplierFailed s are)
      (if_stays full s (fail h cause.QueueFull s) goes (fails_stay cause.QueueFull s are) (sends_stay k r passing (passing || r.is_waited || is_callback h k s) s are opens))

  open_to : (s : State) → Are s → (k : ℕ) → is_handler h (s.rights.queue k) ≡ true → closed k ≡ false
  open_to s are k its = by (closed k) refl
    where
      by : (b : Bool) → closed k ≡ b → closed k ≡ false
      by true e = true_false (sym its ∙ are.not_its k (shut k e))
      by false e = e

  one_more : (s : State) → Are s → n ≤ s.count → Stays s (with_handler s.count h s)
  one_more s are more =
      record {
        more = omega arith;
        queue = λ k e.
            let few = are.few k e in
            ap (λ (b : Bool). if b then Some h else s.rights.queue k) (ne_eqb k s.count (λ i. omega (arith, few, i)));
        sessions = λ k e.
            let few = are.few k e in
            ap (λ (b : Bool). (if b then new_handler else s.handlers k).sessions) (ne_eqb k s.count (λ i. omega (arith, few, i)));
        own = subst (λ (b : Bool). OwnStays (s.handlers g) (if b then new_handler else s.handlers g)) (sym (ne_eqb g s.count (λ i. omega (arith, there, more, i)))) (own_same (s.handlers g));
        asked = λ k e.
            let few = are.few k (shut k e) in
            ap (λ (b : Bool). (if b then new_handler else s.handlers k).queue) (ne_eqb k s.count (λ i. omega (arith, few, i)));
        deaf = λ k few not_h e. ap (λ (b : Bool). is_deaf (if b then new_handler else s.handlers k)) (ne_eqb k s.count (λ i. omega (arith, few, i))) ∙ e;
      }

  creates_stay : (b : Bool) (k : ℕ) (r : Request) (s : State) → Are s → safe k ≡ false → Stays s (creates_with b h k r s)
  creates_stay true k r s are new =
      let t : State = with_stage h (Awaits k true) s in
      let p : Posted = posted r (passed_if true h s.rights) in
      let v : State = send false k p t in
      let first = stay_then s t v (own_put_stays (record (s.handlers h) { stage = Awaits k true }) s refl) (sent_stays false k p t (λ e. not_shut k new)) in
      stay_then s v (passes true h k v) first (passes_stay true k v (stay_apart g h safe closed s v are first))
    where
      not_shut : (k : ℕ) → safe k ≡ false → closed k ≡ false
      not_shut k new = by (closed k) refl
        where
          by : (b : Bool) → closed k ≡ b → closed k ≡ false
          by true e = true_false (sym (shut k e) ∙ new)
          by false e = e
  creates_stay false k r s are new =
      let t : State = with_stage h (HasMade k) s in
      let v : State = send false k (posted r None) t in
      stay_then s v (release release_at.Creation (k ∷ []) v)
      (stay_then s t v (own_put_stays (record (s.handlers h) { stage = HasMade k }) s refl) (sent_stays false k (posted r None) t (λ e. not_shut k new)))
      (released_stays release_at.Creation (k ∷ []) v (not_made k new))
    where
      not_shut : (k : ℕ) → safe k ≡ false → closed k ≡ false
      not_shut k new = by (closed k) refl
        where
          by : (b : Bool) → closed k ≡ b → closed k ≡ false
          by true e = true_false (sym (shut k e) ∙ new)
          by false e = e

  created_stay : (most class : ℕ) (procedure : Option ℕ) (actuals : ArrayVec Value) (passing : Bool) (s : State) → Are s → n ≤ s.count →
      Stays s (creates most h class procedure actuals passing s)
  created_stay most class procedure actuals passing s are more =
      let r : Request = creation h s.count class procedure actuals passing in
      let u : State = with_handler s.count h s in
      let v : State = creates_with passing h s.count r u in
      let one = one_more s are more in
      if_stays (nat_lt s.count most) s v (fail h cause.TooManyHandlers s)
      (stay_then s u v one (creates_stay passing s.count r u (stay_apart g h safe closed s u are one) (new (safe s.count) refl))) (fails_stay cause.TooManyHandlers s are)
    where
      new : (b : Bool) → safe s.count ≡ b → safe s.count ≡ false
      new true e = let few = are.few s.count e in absurd (omega (arith, few))
      new false e = e

  service_stays : (b : Bool) (v : Option Value) (ls : List ℕ) (e : Service) (x : Handler) (s : State) → x.sessions ≡ (s.handlers h).sessions →
      ((k : ℕ) → safe k ≡ true → is_among k ls ≡ false) → ((p : Passed) → e.posted.passed ≡ Some p → (k : ℕ) → safe k ≡ true → p.queue k ≡ None) →
      Stays s (ends_service b h v ls e x s)
  service_stays false v ls e x s count none back =
      let t : State = put h x s in
      let u : State = release release_at.Exit ls t in
      stay_then s u (finish e.posted (Replied v) u) (stay_then s t u (own_put_stays x s count) (released_stays release_at.Exit ls t none)) (finished_stays e.posted (Replied v) u back)
  service_stays true v ls e x s count none back =
      let y : Handler = counted_refusal e.posted.request.is_waited x in
      let t : State = put h y s in
      let u : State = release release_at.Refusal ls t in
      stay_then s u (finish e.posted Refused u)
      (stay_then s t u (own_put_stays y s (refusal_count e.posted.request.is_waited x ∙ count)) (released_stays release_at.Refusal ls t none)) (finished_stays e.posted Refused u back)

  -- what is released is the other's
  not_among : (ls : List ℕ) (s : State) → Are s → may_post_to_all h ls s ≡ true → (k : ℕ) → safe k ≡ true → is_among k ls ≡ false
  not_among ls s are all k e = by (is_among k ls) refl
    where
      by : (b : Bool) → is_among k ls ≡ b → is_among k ls ≡ false
      by true is = true_false (sym (all_among (λ (i : ℕ). is_handler h (s.rights.queue i)) ls k all is) ∙ are.not_its k e)
      by false is = is

  ends_stay : (v : Option Value) (ls : List ℕ) (refused : Bool) (es : List Service) (s : State) → Are s → may_post_to_all h ls s ≡ true →
      ((e : Service) (rest : List Service) → es ≡ e ∷ rest → (p : Passed) → e.posted.passed ≡ Some p → (k : ℕ) → safe k ≡ true → p.queue k ≡ None) →
      Stays s (ends h v ls refused es s)
  ends_stay v ls refused [] s are all back = fails_stay cause.BadCode s are
  ends_stay v ls refused (e ∷ es) s are all back =
      service_stays refused v ls e (record (s.handlers h) { stage = e.over; services = es }) s refl (not_among ls s are all) (back e es refl)

  done_stays : (most : ℕ) (w : Want) (s : State) → Are s → n ≤ s.count → posts_unheld h w s ≡ false → may_ask h w s ≡ true →
      ((v : Option Value) (ls : ArrayVec ℕ) (refused : Bool) → w ≡ want.Done v ls refused → (e : Service) (es : List Service) → (s.handlers h).services ≡ e ∷ es →
      (p : Passed) → e.posted.passed ≡ Some p → (k : ℕ) → safe k ≡ true → p.queue k ≡ None) →
      Stays s (done most h w s)
  done_stays most want.Continue s are more held may back = stay s
  done_stays most (want.Reserve ls) s are more held may back = own_put_stays (record (s.handlers h) { stage = Reserves ls.items []; entry = ls.items }) s refl
  done_stays most (want.Post r) s are more held may back =
      asks_stay r.target.handler r false s are (λ e. open_to s are r.target.handler
      (posts_to h r.target.handler (is_handler h (s.rights.queue r.target.handler)) (is_handler h (s.rights.top r.target.handler)) held (to_another h r (not r.is_waited) may) e))
  done_stays most (want.Ask r passing) s are more held may back =
      asks_stay r.target.handler r passing s are (λ e. open_to s are r.target.handler
      (posts_to h r.target.handler (is_handler h (s.rights.queue r.target.handler)) (is_handler h (s.rights.top r.target.handler)) held (to_another h r r.is_waited may) e))
  done_stays most (want.Create class procedure actuals passing) s are more held may back = created_stay most class procedure actuals passing s are more
  done_stays most (want.Release ls) s are more held may back = released_stays release_at.Leave ls.items s (not_among ls.items s are may)
  done_stays most (want.Wait ls) s are more held may back =
      let now : HandlerStage = Reserves (s.handlers h).entry (mark_of (λ k. (s.handlers k).sessions) ls.items) in
      let t : State = with_stage h now s in
      stay_then s t (release release_at.FalseWaitCondition ls.items t) (own_put_stays (record (s.handlers h) { stage = now }) s refl)
      (released_stays release_at.FalseWaitCondition ls.items t (not_among ls.items s are may))
  done_stays most (want.Done v ls refused) s are more held may back = ends_stay v ls.items refused (s.handlers h).services s are may (back v ls refused refl)
  done_stays most (want.Fail why) s are more held may back = fails_stay why s are

  if_done : (b c : Bool) (most : ℕ) (w : Want) (s : State) → Are s → (b ≡ false → c ≡ true → Stays s (done most h w s)) → Stays s (done_if b c most h w s)
  if_done true c most w s are comes = fails_stay cause.NotHeld s are
  if_done false true most w s are comes = comes refl refl
  if_done false false most w s are comes = fails_stay cause.BadCode s are

  -- in the turn of the other handler
  pub settled_stays : (most : ℕ) (j : Job) (w : Want) (s : State) → Are s → n ≤ s.count → Beside h safe spared j w s → Stays s (settled most h j 1 w s)
  settled_stays most j w s are more b =
      let t : State = begun h j s in
      let first = begun_stays j w s b in
      let its = stay_apart g h safe closed s t are first in
      let grown = first.more in
      let fits : Bool = fits_first (s.handlers h).stage j w in
      stay_then s t (settled most h j 1 w s) first (if_done (posts_unheld h w t) (fits && may_ask h w t) most w t its
      (λ unheld e. done_stays most w t its (omega (arith, more, grown)) unheld (and_right fits (may_ask h w t) e) (b.returns (and_left fits (may_ask h w t) e))))
