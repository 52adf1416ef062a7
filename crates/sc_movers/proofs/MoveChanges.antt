-- What a mover's turn changes: what its handler stands at, whom it releases, the queue of a free handler, and whom it answers.
use Rattle.std.proofs.Common.{◌≡◌, ◌∙◌, ◌<◌, ◌≤◌, ◌==◌, ◌&&◌, ◌||◌, not, ℕ, Bool, true, false, List, [], ◌∷◌, Option, Some, None, length, refl, sym, ap, subst, arith}
use Rattle.std.proofs.lemmas.Bool.{ne_eqb}
use Rattle.std.specs.Prelude.{if◌then◌else◌}
use Rattle.std.specs.Option.{is_none}
use Rattle.sc_lockpass.specs.Rights.{is_among}
use Rattle.sc_lockpass.specs.wait_conditions.Reservations.{is_idle, may_be_reserved}
use Rattle.sc_model.specs.declared.cause.Cause.{Cause}
use Rattle.sc_handler.specs.Changes.{answered, heard, placed, session_ended, told}
use Rattle.sc_handler.specs.Handlers.{Answer, Refused, Replied, SupplierFailed, Posted, Handler, HandlerStage, Service, State, has_frames, has_requests, new_handler, standing_in}
use Rattle.sc_movers.proofs.ChangedStates.{Change, Harmless, true_false}
use Rattle.sc_movers.proofs.ChangedTurns.{and_right}
use Rattle.sc_movers.proofs.ChangedJobs.{Loosens}

-- ---- what is changed

-- where the handler stands then, what its last reserve step was for, and what it serves
pub record Stand : Type 0 where
  pub stage : HandlerStage
  pub entry : List ℕ
  pub services : List Service

abbrev pub stands_as : Option Stand → Handler → Handler
stands_as None x = x
stands_as (Some o) x = record x { stage = o.stage; entry = o.entry; services = o.services }

-- a request at a handler
pub record Sent : Type 0 where
  pub target : ℕ
  pub posted : Posted

abbrev pub for : ℕ → Option Sent → Option Posted
for k None = None
for k (Some q) = if k == q.target then Some q.posted else None

abbrev pub sent_as : Option Posted → Handler → Handler
sent_as None x = x
sent_as (Some p) x = placed false p x

abbrev pub is_target : ℕ → Option Sent → Bool
is_target k None = false
is_target k (Some q) = k == q.target

-- an answer to a handler
pub record Heard : Type 0 where
  pub hearer : ℕ
  pub answer : Answer

abbrev pub heard_at : ℕ → Option Heard → Option Answer
heard_at k None = None
heard_at k (Some q) = if k == q.hearer then Some q.answer else None

abbrev pub hears_as : Option Answer → Handler → Handler
hears_as None x = x
hears_as (Some a) x = answered a x

abbrev pub is_hearer : ℕ → Option Heard → Bool
is_hearer k None = false
is_hearer k (Some q) = k == q.hearer

-- the handler without the next request of its queue, or as it is
abbrev pub without_next : List Posted → List Posted
without_next [] = []
without_next (p ∷ ps) = ps

abbrev pub takes_as : Bool → Handler → Handler
takes_as false x = x
takes_as true x = record x { queue = without_next x.queue }

-- What the handler g changes: it takes the next request of its queue, or not; it stands so, releases these, which ends a session of each,
-- or none, sends this, and answers this.
pub record Move : Type 0 where
  pub takes : Bool
  pub stand : Option Stand
  pub ends : Bool
  pub frees : List ℕ
  pub sent : Option Sent
  pub answers : Option Heard

abbrev pub stand_for : ℕ → ℕ → Option Stand → Option Stand
stand_for g k o = if k == g then o else None

-- but for what it takes and the answer
abbrev pub moved_at : ℕ → Move → ℕ → Handler → Handler
moved_at g m k x = stands_as (stand_for g k m.stand) (session_ended (m.ends && is_among k m.frees) (sent_as (for k m.sent) x))

abbrev pub change : ℕ → Move → Change
change g m = record { at = λ k x. hears_as (heard_at k m.answers) (takes_as (m.takes && k == g) (moved_at g m k x)); frees = m.frees }

-- whose queue is closed to others, and over whom no other has the right to post
abbrev pub is_closed : ℕ → Move → ℕ → Bool
is_closed g m k = (m.takes && k == g) || is_target k m.sent

abbrev pub is_safe : ℕ → Move → ℕ → Bool
is_safe g m k = is_among k m.frees || is_closed g m k

-- whom no other one may answer
abbrev pub is_spared : Move → ℕ → Bool
is_spared m k = is_hearer k m.answers

-- ---- it is harmless

pub ended_so : (o : Option Stand) (d b : Bool) (q : Option Posted) (x : Handler) →
    session_ended b (stands_as o (session_ended d (sent_as q x))) ≡ stands_as o (session_ended d (sent_as q (session_ended b x)))
ended_so o d false q x = refl
ended_so None true true None x = refl
ended_so None false true None x = refl
ended_so None true true (Some p) x = refl
ended_so None false true (Some p) x = refl
ended_so (Some s) true true None x = refl
ended_so (Some s) false true None x = refl
ended_so (Some s) true true (Some p) x = refl
ended_so (Some s) false true (Some p) x = refl

told_so : (o : Option Stand) (d b : Bool) (q : Option Posted) (x : Handler) →
    told b (stands_as o (session_ended d (sent_as q x))) ≡ stands_as o (session_ended d (sent_as q (told b x)))
told_so o d false q x = refl
told_so None true true None x = refl
told_so None false true None x = refl
told_so None true true (Some p) x = refl
told_so None false true (Some p) x = refl
told_so (Some s) true true None x = refl
told_so (Some s) false true None x = refl
told_so (Some s) true true (Some p) x = refl
told_so (Some s) false true (Some p) x = refl

called_so : (o : Option Stand) (d : Bool) (q : Option Posted) (p : Posted) (x : Handler) →
    placed true p (stands_as o (session_ended d (sent_as q x))) ≡ stands_as o (session_ended d (sent_as q (placed true p x)))
called_so None true None p x = refl
called_so None false None p x = refl
called_so None true (Some r) p x = refl
called_so None false (Some r) p x = refl
called_so (Some s) true None p x = refl
called_so (Some s) false None p x = refl
called_so (Some s) true (Some r) p x = refl
called_so (Some s) false (Some r) p x = refl

posted_so : (o : Option Stand) (d : Bool) (p : Posted) (x : Handler) → placed false p (stands_as o (session_ended d x)) ≡ stands_as o (session_ended d (placed false p x))
posted_so None true p x = refl
posted_so None false p x = refl
posted_so (Some s) true p x = refl
posted_so (Some s) false p x = refl

room_so : (o : Option Stand) (d : Bool) (x : Handler) → length (stands_as o (session_ended d x)).queue ≡ length x.queue
room_so None true x = refl
room_so None false x = refl
room_so (Some s) true x = refl
room_so (Some s) false x = refl

answered_so : (o : Option Stand) (d : Bool) (q : Option Posted) (a : Answer) (x : Handler) →
    answered a (stands_as o (session_ended d (sent_as q x))) ≡ stands_as o (session_ended d (sent_as q (answered a x)))
answered_so None true None a x = refl
answered_so None false None a x = refl
answered_so None true (Some p) a x = refl
answered_so None false (Some p) a x = refl
answered_so (Some s) true None a x = refl
answered_so (Some s) false None a x = refl
answered_so (Some s) true (Some p) a x = refl
answered_so (Some s) false (Some p) a x = refl

pub failure_so : (o : Option Stand) (d : Bool) (q : Option Posted) (x : Handler) → (stands_as o (session_ended d (sent_as q x))).failure ≡ x.failure
failure_so None true None x = refl
failure_so None false None x = refl
failure_so None true (Some p) x = refl
failure_so None false (Some p) x = refl
failure_so (Some s) true None x = refl
failure_so (Some s) false None x = refl
failure_so (Some s) true (Some p) x = refl
failure_so (Some s) false (Some p) x = refl

pub refused_so : (o : Option Stand) (d : Bool) (q : Option Posted) (x : Handler) → (stands_as o (session_ended d (sent_as q x))).refused ≡ x.refused
refused_so None true None x = refl
refused_so None false None x = refl
refused_so None true (Some p) x = refl
refused_so None false (Some p) x = refl
refused_so (Some s) true None x = refl
refused_so (Some s) false None x = refl
refused_so (Some s) true (Some p) x = refl
refused_so (Some s) false (Some p) x = refl

pub stage_so : (d : Bool) (q : Option Posted) (x : Handler) → (session_ended d (sent_as q x)).stage ≡ x.stage
stage_so true None x = refl
stage_so false None x = refl
stage_so true (Some p) x = refl
stage_so false (Some p) x = refl

grows_so : (o : Option Stand) (d : Bool) (q : Option Posted) (x : Handler) → x.sessions ≤ (stands_as o (session_ended d (sent_as q x))).sessions
grows_so None true None x = omega arith
grows_so None false None x = omega arith
grows_so None true (Some p) x = omega arith
grows_so None false (Some p) x = omega arith
grows_so (Some s) true None x = omega arith
grows_so (Some s) false None x = omega arith
grows_so (Some s) true (Some p) x = omega arith
grows_so (Some s) false (Some p) x = omega arith

count_so : (o : Option Stand) (q : Option Posted) (x : Handler) → (stands_as o (session_ended false (sent_as q x))).sessions ≡ x.sessions
count_so None None x = refl
count_so None (Some p) x = refl
count_so (Some s) None x = refl
count_so (Some s) (Some p) x = refl

queue_so : (o : Option Stand) (d : Bool) (x : Handler) → (stands_as o (session_ended d x)).queue ≡ x.queue
queue_so None true x = refl
queue_so None false x = refl
queue_so (Some s) true x = refl
queue_so (Some s) false x = refl

-- ---- an answer

told_heard : (a : Answer) (f : Option Cause) (o : Option Answer) → heard SupplierFailed f (heard a f o) ≡ heard a f (heard SupplierFailed f o)
told_heard a (Some why) o = refl
told_heard SupplierFailed None o = refl
told_heard (Replied v) None None = refl
told_heard (Replied v) None (Some b) = refl
told_heard Refused None None = refl
told_heard Refused None (Some b) = refl

hears_ended : (q : Option Answer) (b : Bool) (x : Handler) → session_ended b (hears_as q x) ≡ hears_as q (session_ended b x)
hears_ended None b x = refl
hears_ended (Some a) true x = refl
hears_ended (Some a) false x = refl

hears_told : (q : Option Answer) (b : Bool) (x : Handler) → told b (hears_as q x) ≡ hears_as q (told b x)
hears_told None b x = refl
hears_told (Some a) true x = ap (λ (o : Option Answer). record x { answer = o }) (told_heard a x.failure x.answer)
hears_told (Some a) false x = refl

hears_placed : (q : Option Answer) (b : Bool) (p : Posted) (x : Handler) → placed b p (hears_as q x) ≡ hears_as q (placed b p x)
hears_placed None b p x = refl
hears_placed (Some a) true p x = refl
hears_placed (Some a) false p x = refl

pub hears_failure : (q : Option Answer) (x : Handler) → (hears_as q x).failure ≡ x.failure
hears_failure None x = refl
hears_failure (Some a) x = refl

pub hears_refused : (q : Option Answer) (x : Handler) → (hears_as q x).refused ≡ x.refused
hears_refused None x = refl
hears_refused (Some a) x = refl

pub hears_stage : (q : Option Answer) (x : Handler) → (hears_as q x).stage ≡ x.stage
hears_stage None x = refl
hears_stage (Some a) x = refl

hears_queue : (q : Option Answer) (x : Handler) → (hears_as q x).queue ≡ x.queue
hears_queue None x = refl
hears_queue (Some a) x = refl

hears_count : (q : Option Answer) (x : Handler) → (hears_as q x).sessions ≡ x.sessions
hears_count None x = refl
hears_count (Some a) x = refl

pub not_hearer : (k : ℕ) (o : Option Heard) → is_hearer k o ≡ false → heard_at k o ≡ None
not_hearer k None e = refl
not_hearer k (Some q) e = ap (λ (b : Bool). if b then Some q.answer else None) e

-- ---- a request is taken

takes_ended : (t : Bool) (b : Bool) (x : Handler) → session_ended b (takes_as t x) ≡ takes_as t (session_ended b x)
takes_ended false b x = refl
takes_ended true true x = refl
takes_ended true false x = refl

takes_told : (t : Bool) (b : Bool) (x : Handler) → told b (takes_as t x) ≡ takes_as t (told b x)
takes_told false b x = refl
takes_told true true x = refl
takes_told true false x = refl

takes_called : (t : Bool) (p : Posted) (x : Handler) → placed true p (takes_as t x) ≡ takes_as t (placed true p x)
takes_called false p x = refl
takes_called true p x = refl

takes_answered : (t : Bool) (a : Answer) (x : Handler) → answered a (takes_as t x) ≡ takes_as t (answered a x)
takes_answered false a x = refl
takes_answered true a x = refl

pub takes_failure : (t : Bool) (x : Handler) → (takes_as t x).failure ≡ x.failure
takes_failure false x = refl
takes_failure true x = refl

pub takes_refused : (t : Bool) (x : Handler) → (takes_as t x).refused ≡ x.refused
takes_refused false x = refl
takes_refused true x = refl

pub takes_stage : (t : Bool) (x : Handler) → (takes_as t x).stage ≡ x.stage
takes_stage false x = refl
takes_stage true x = refl

takes_count : (t : Bool) (x : Handler) → (takes_as t x).sessions ≡ x.sessions
takes_count false x = refl
takes_count true x = refl

-- if none is taken, nothing changes
takes_none : (t : Bool) (x : Handler) → t ≡ false → takes_as t x ≡ x
takes_none false x e = refl
takes_none true x e = true_false e

-- ---- the whole

not_target : (k : ℕ) (o : Option Sent) → is_target k o ≡ false → for k o ≡ None
not_target k None e = refl
not_target k (Some q) e = ap (λ (b : Bool). if b then Some q.posted else None) e

pub or_left : (a b : Bool) → a ≡ true → (a || b) ≡ true
or_left true b e = refl
or_left false b e = true_false (sym e)

pub or_right : (a b : Bool) → b ≡ true → (a || b) ≡ true
or_right true b e = refl
or_right false b e = e

or_none : (a b : Bool) → (a || b) ≡ false → a ≡ false
or_none true b e = true_false e
or_none false b e = refl

-- another handler that isn't sent anything isn't closed
pub others_open : (g h : ℕ) (m : Move) → (h ≡ g → ⊥) → is_target h m.sent ≡ false → is_closed g m h ≡ false
others_open g h m apart e = ap (λ (b : Bool). (m.takes && b) || is_target h m.sent) (ne_eqb h g apart) ∙ by m.takes
  where
    by : (b : Bool) → ((b && false) || is_target h m.sent) ≡ false
    by true = e
    by false = e

-- The handler is there, and so is each other one of the move.
pub record AreThere (g : ℕ) (m : Move) (s : State) : Type 0 where
  pub there : g < s.count
  pub few : (k : ℕ) → is_safe g m k ≡ true → k < s.count
  pub hears : (k : ℕ) → is_hearer k m.answers ≡ true → k < s.count

module _ (g h n : ℕ) (m : Move) (apart : h ≡ g → ⊥) (other : is_target h m.sent ≡ false) (deaf : is_hearer h m.answers ≡ false) (there : g < n)
    (few : (k : ℕ) → is_safe g m k ≡ true → k < n) (hears : (k : ℕ) → is_hearer k m.answers ≡ true → k < n) where
  never : (b : Bool) → (b && false) ≡ false
  never true = refl
  never false = refl

  not_past : (P : ℕ → Bool) → ((k : ℕ) → P k ≡ true → k < n) → (k : ℕ) → n ≤ k → P k ≡ false
  not_past P below k past = by (P k) refl
    where
      by : (b : Bool) → P k ≡ b → P k ≡ false
      by true e = let less = below k e in absurd (omega (arith, less, past))
      by false e = e

  not_safe : (k : ℕ) → n ≤ k → is_safe g m k ≡ false
  not_safe = not_past (is_safe g m) few

  or_last : (a b : Bool) → (a || b) ≡ false → b ≡ false
  or_last true b e = true_false e
  or_last false b e = e

  no_take : (k : ℕ) → is_closed g m k ≡ false → (m.takes && k == g) ≡ false
  no_take k e = or_none (m.takes && k == g) (is_target k m.sent) e

  no_target : (k : ℕ) → is_closed g m k ≡ false → is_target k m.sent ≡ false
  no_target k e = or_last (m.takes && k == g) (is_target k m.sent) e

  not_closed : (k : ℕ) → n ≤ k → is_closed g m k ≡ false
  not_closed k past = or_last (is_among k m.frees) (is_closed g m k) (not_safe k past)

  abbrev taken : ℕ → Bool
  taken k = m.takes && k == g

  others_take : (k : ℕ) → (k ≡ g → ⊥) → taken k ≡ false
  others_take k differs = ap (λ (b : Bool). m.takes && b) (ne_eqb k g differs) ∙ never m.takes

  abbrev at : ℕ → Handler → Handler
  at k x = moved_at g m k x

  abbrev ears : ℕ → Option Answer
  ears k = heard_at k m.answers

  ended_at : (k : ℕ) (b : Bool) (x : Handler) → session_ended b (at k x) ≡ at k (session_ended b x)
  ended_at k b x = ended_so (stand_for g k m.stand) (m.ends && is_among k m.frees) b (for k m.sent) x

  told_at : (k : ℕ) (b : Bool) (x : Handler) → told b (at k x) ≡ at k (told b x)
  told_at k b x = told_so (stand_for g k m.stand) (m.ends && is_among k m.frees) b (for k m.sent) x

  called_at : (k : ℕ) (p : Posted) (x : Handler) → placed true p (at k x) ≡ at k (placed true p x)
  called_at k p x = called_so (stand_for g k m.stand) (m.ends && is_among k m.frees) (for k m.sent) p x

  posted_at : (k : ℕ) → is_closed g m k ≡ false → (p : Posted) (x : Handler) → placed false p (at k x) ≡ at k (placed false p x)
  posted_at k e p x =
      subst (λ (q : Option Posted). placed false p (stands_as (stand_for g k m.stand) (session_ended (m.ends && is_among k m.frees) (sent_as q x)))
      ≡ stands_as (stand_for g k m.stand) (session_ended (m.ends && is_among k m.frees) (sent_as q (placed false p x))))
      (sym (not_target k m.sent (no_target k e))) (posted_so (stand_for g k m.stand) (m.ends && is_among k m.frees) p x)

  room_at : (k : ℕ) → is_closed g m k ≡ false → (x : Handler) → length (at k x).queue ≡ length x.queue
  room_at k e x =
      ap (λ (q : Option Posted). length (stands_as (stand_for g k m.stand) (session_ended (m.ends && is_among k m.frees) (sent_as q x))).queue) (not_target k m.sent (no_target k e))
      ∙ room_so (stand_for g k m.stand) (m.ends && is_among k m.frees) x

  answered_at : (k : ℕ) (a : Answer) (x : Handler) → answered a (at k x) ≡ at k (answered a x)
  answered_at k a x = answered_so (stand_for g k m.stand) (m.ends && is_among k m.frees) (for k m.sent) a x

  own_at : (x : Handler) → at h x ≡ session_ended (m.ends && is_among h m.frees) x
  own_at x =
      ap (λ (b : Bool). stands_as (if b then m.stand else None) (session_ended (m.ends && is_among h m.frees) (sent_as (for h m.sent) x))) (ne_eqb h g apart)
      ∙ ap (λ (q : Option Posted). session_ended (m.ends && is_among h m.frees) (sent_as q x)) (not_target h m.sent other)

  new_at : (k : ℕ) → n ≤ k → at k new_handler ≡ new_handler
  new_at k past =
      ap (λ (b : Bool). stands_as (if b then m.stand else None) (session_ended (m.ends && is_among k m.frees) (sent_as (for k m.sent) new_handler)))
      (ne_eqb k g (λ e. omega (arith, there, past, e)))
      ∙ ap (λ (q : Option Posted). session_ended (m.ends && is_among k m.frees) (sent_as q new_handler))
      (not_target k m.sent (no_target k (not_closed k past)))
      ∙ ap (λ (b : Bool). session_ended (m.ends && b) new_handler) (or_none (is_among k m.frees) (is_closed g m k) (not_safe k past))
      ∙ ap (λ (b : Bool). session_ended b new_handler) (never m.ends)

  -- with what it takes
  abbrev with_take : ℕ → Handler → Handler
  with_take k x = takes_as (taken k) (at k x)

  -- and with the answer
  pub harmless : Harmless h n (is_safe g m) (is_closed g m) (is_spared m) (change g m)
  harmless = record {
    over = m.ends && is_among h m.frees;
    own = λ x.
        ap (λ (q : Option Answer). hears_as q (with_take h x)) (not_hearer h m.answers deaf)
        ∙ takes_none (taken h) (at h x) (others_take h apart) ∙ own_at x;
    ended = λ k b x.
        hears_ended (ears k) b (with_take k x)
        ∙ ap (hears_as (ears k)) (takes_ended (taken k) b (at k x) ∙ ap (takes_as (taken k)) (ended_at k b x));
    told = λ k b x.
        hears_told (ears k) b (with_take k x)
        ∙ ap (hears_as (ears k)) (takes_told (taken k) b (at k x) ∙ ap (takes_as (taken k)) (told_at k b x));
    called = λ k p x.
        hears_placed (ears k) true p (with_take k x)
        ∙ ap (hears_as (ears k)) (takes_called (taken k) p (at k x) ∙ ap (takes_as (taken k)) (called_at k p x));
    posted = λ k e p x.
        hears_placed (ears k) false p (with_take k x)
        ∙ ap (hears_as (ears k)) (
        ap (placed false p) (takes_none (taken k) (at k x) (no_take k e)) ∙ posted_at k e p x
        ∙ sym (takes_none (taken k) (at k (placed false p x)) (no_take k e)));
    room = λ k e x.
        ap (λ (ps : List Posted). length ps) (hears_queue (ears k) (with_take k x))
        ∙ ap (λ (y : Handler). length y.queue) (takes_none (taken k) (at k x) (no_take k e)) ∙ room_at k e x;
    answered = λ k e a x.
        ap (λ (q : Option Answer). answered a (hears_as q (with_take k x))) (not_hearer k m.answers e)
        ∙ takes_answered (taken k) a (at k x) ∙ ap (takes_as (taken k)) (answered_at k a x)
        ∙ ap (λ (q : Option Answer). hears_as q (with_take k (answered a x))) (sym (not_hearer k m.answers e));
    failure = λ k x.
        hears_failure (ears k) (with_take k x) ∙ takes_failure (taken k) (at k x)
        ∙ failure_so (stand_for g k m.stand) (m.ends && is_among k m.frees) (for k m.sent) x;
    freed = λ k e. or_left (is_among k m.frees) (is_closed g m k) e;
    shut = λ k e. or_right (is_among k m.frees) (is_closed g m k) e;
    beyond = λ k past.
        ap (λ (q : Option Answer). hears_as q (with_take k new_handler)) (not_hearer k m.answers (not_past (λ (i : ℕ). is_hearer i m.answers) hears k past))
        ∙ takes_none (taken k) (at k new_handler) (no_take k (not_closed k past)) ∙ new_at k past;
  }

  -- counts of others stay
  pub counts_stay : (k : ℕ) → is_safe g m k ≡ false → (x : Handler) → ((change g m).at k x).sessions ≡ x.sessions
  counts_stay k e x =
      hears_count (ears k) (with_take k x) ∙ takes_count (taken k) (at k x)
      ∙ ap (λ (b : Bool). (stands_as (stand_for g k m.stand) (session_ended (m.ends && b) (sent_as (for k m.sent) x))).sessions) (or_none (is_among k m.frees) (is_closed g m k) e)
      ∙ ap (λ (b : Bool). (stands_as (stand_for g k m.stand) (session_ended b (sent_as (for k m.sent) x))).sessions) (never m.ends)
      ∙ count_so (stand_for g k m.stand) (for k m.sent) x

-- ---- those that may be reserved may be so still

module _ (g : ℕ) (m : Move) (s : State) (targets : (k : ℕ) → is_target k m.sent ≡ true → s.rights.queue k ≡ Some g)
    (busy : may_be_reserved (standing_in s g) (s.rights.queue g) ≡ false) where
  nobodys : (k : ℕ) → may_be_reserved (standing_in s k) (s.rights.queue k) ≡ true → is_none (s.rights.queue k) ≡ true
  nobodys k e = and_right (is_idle (standing_in s k) && not (standing_in s k).has_requests) (is_none (s.rights.queue k)) e

  not_own : (k : ℕ) → may_be_reserved (standing_in s k) (s.rights.queue k) ≡ true → k ≡ g → ⊥
  not_own k e same = true_false (sym e ∙ ap (λ (i : ℕ). may_be_reserved (standing_in s i) (s.rights.queue i)) same ∙ busy)

  not_taken : (k : ℕ) → may_be_reserved (standing_in s k) (s.rights.queue k) ≡ true → (m.takes && k == g) ≡ false
  not_taken k e = ap (λ (b : Bool). m.takes && b) (ne_eqb k g (not_own k e)) ∙ never m.takes
    where
      never : (b : Bool) → (b && false) ≡ false
      never true = refl
      never false = refl

  not_sent : (k : ℕ) → may_be_reserved (standing_in s k) (s.rights.queue k) ≡ true → is_target k m.sent ≡ false
  not_sent k e = by (is_target k m.sent) refl
    where
      by : (b : Bool) → is_target k m.sent ≡ b → is_target k m.sent ≡ false
      by true i = true_false (sym (sym (ap is_none (targets k i)) ∙ nobodys k e))
      by false i = i

  abbrev moved : ℕ → Handler
  moved k = moved_at g m k (s.handlers k)

  pub loosens : Loosens (change g m) s
  loosens = record {
    frames = λ k e.
        ap has_frames (hears_stage (heard_at k m.answers) (takes_as (m.takes && k == g) (moved k)) ∙ takes_stage (m.takes && k == g) (moved k))
        ∙ ap (λ (b : Bool). has_frames (stands_as (if b then m.stand else None) (session_ended (m.ends && is_among k m.frees) (sent_as (for k m.sent) (s.handlers k)))).stage)
        (ne_eqb k g (not_own k e))
        ∙ ap has_frames (stage_so (m.ends && is_among k m.frees) (for k m.sent) (s.handlers k));
    requests = λ k e.
        ap has_requests (hears_queue (heard_at k m.answers) (takes_as (m.takes && k == g) (moved k)))
        ∙ ap (λ (y : Handler). has_requests y.queue) (takes_none (m.takes && k == g) (moved k) (not_taken k e))
        ∙ ap (λ (q : Option Posted). has_requests (stands_as (stand_for g k m.stand) (session_ended (m.ends && is_among k m.frees) (sent_as q (s.handlers k)))).queue)
        (not_target k m.sent (not_sent k e))
        ∙ ap has_requests (queue_so (stand_for g k m.stand) (m.ends && is_among k m.frees) (s.handlers k));
    grows = λ k.
        let same = hears_count (heard_at k m.answers) (takes_as (m.takes && k == g) (moved k)) ∙ takes_count (m.takes && k == g) (moved k) in
        let more = grows_so (stand_for g k m.stand) (m.ends && is_among k m.frees) (for k m.sent) (s.handlers k) in
        omega (arith, same, more);
  }
