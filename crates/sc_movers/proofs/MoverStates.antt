-- The turn of a mover makes a move, and in the turn of another handler it stays one.
use Rattle.std.proofs.Common.{◌≡◌, ◌∙◌, ◌⊎◌, inl, inr, ◌<◌, ◌==◌, ◌&&◌, ◌||◌, not, ℕ, Bool, true, false, List, [], ◌∷◌, Option, Some, None, length, refl, sym, ap, subst, arith}
use Rattle.std.proofs.lemmas.Bool.{cases_eq, eq-eqb, eqb-true, lt-ltb, ltb-true, ne_eqb}
use Rattle.std.specs.Prelude.{if◌then◌else◌, is_some, nat_lt}
use Rattle.arrayvec.specs.ArrayVec.{ArrayVec}
use Rattle.std.specs.List.{list_all}
use Rattle.std.specs.Option.{is_none}
use Rattle.sc_lockpass.specs.Rights.{Rights, is_among, is_handler}
use Rattle.sc_lockpass.specs.wait_conditions.Reservations.{is_idle, may_be_reserved, mark_allows, mark_of, may_reserve, reserve_fails}
use Rattle.sc_lockpass.specs.declared.wait_conditions.mark.Marked.{Marked}
use Rattle.sc_model.specs.declared.cause.Cause.{Cause}
use Rattle.sc_model.specs.declared.cause.Cause.TheVariants as cause
use Rattle.sc_model.specs.Limits.{max_queue}
use Rattle.sc_region.specs.declared.job.Job.{Job}
use Rattle.sc_region.specs.declared.job.Job.TheVariants as job
use Rattle.sc_region.specs.declared.job.Request.{Request}
use Rattle.sc_region.specs.declared.job.Want.{Want}
use Rattle.sc_region.specs.declared.job.Want.TheVariants.{Continue, Reserve, Post, Ask, Create, Release, Wait, Done, Fail}
use Rattle.sc_lockpass.specs.declared.wait_conditions.session.Release.TheVariants as release_at
use Rattle.sc_lockpass.specs.Passing.{Passed}
use Rattle.sc_region.specs.declared.value.Value.{Value}
use Rattle.sc_handler.specs.Changes.{answered, counted_refusal, heard, placed, session_ended}
use Rattle.sc_handler.specs.Fits.{is_request_of}
use Rattle.sc_handler.specs.Handlers.{Posted, posted, Idle, Runs, HasMade, Reserves, Awaits, Handler, HandlerStage, Service, State, put, has_frames, has_requests, standing_in, with_stage, Replied, SupplierFailed, Refused, Answer}
use Rattle.sc_handler.specs.Picking.{job_at, job_awaiting, job_idle, job_of, job_reserving, needs}
use Rattle.sc_request.specs.Sessions.{answer_to, fail, finish, is_callback, release, return_rights, send}
use Rattle.sc_request.specs.Settling.{are_handlers, asks_of, awaits_if, done, done_if, ends, may_ask, may_post_to_all, settled}
use Rattle.sc_refines_world.proofs.OtherStages.{OthersStay, has_job}
use Rattle.sc_movers.specs.Movers.{asks_free, ends_plainly, is_free, is_mover}
use Rattle.sc_movers.specs.Returned.{IdleHasNoTop}
use Rattle.sc_movers.proofs.ChangedStates.{changed, same_states, true_false}
use Rattle.sc_movers.proofs.ChangedTurns.{and_left, and_right, to_another}
use Rattle.sc_movers.proofs.ChangedJobs.{all_then}
use Rattle.sc_movers.proofs.ChangedKept.{Stay, all_among, is_deaf}
use Rattle.sc_movers.proofs.MoveChanges.{Heard, Move, Stand, change, ended_so, hears_as, is_closed, is_hearer, is_safe, is_target, for, moved_at, or_right, sent_as, stand_for, stands_as, takes_as}

abbrev pub counts : State → ℕ → ℕ
counts s k = (s.handlers k).sessions

abbrev pub deaf : State → ℕ → Bool
deaf s k = is_deaf (s.handlers k)

-- a move that changes nothing, and one that sends a request, with where its handler stands then
abbrev pub no_move : Move
no_move = record { takes = false; stand = None; ends = false; frees = []; sent = None; answers = None }

abbrev sending : Option Stand → Request → Bool → Move
sending o r waits = record no_move {
  stand = o;
  sent = Some (record { target = r.target.handler; posted = posted (record r { is_waited = waits }) None });
}

-- what is answered as a request ends, and to whom, if some are deaf
abbrev outcome : Bool → Option Value → Answer
outcome true v = Refused
outcome false v = Replied v

abbrev pub heard_by : Bool → Option ℕ → Answer → (ℕ → Bool) → Option Heard
heard_by true (Some p) a deafs = if deafs p then None else Some (record { hearer = p; answer = a })
heard_by waited poster a deafs = None

abbrev heard_end : Answer → List Service → (ℕ → Bool) → Option Heard
heard_end a [] deafs = None
heard_end a (e ∷ es) deafs = heard_by e.posted.request.is_waited e.posted.request.poster a deafs

-- where the handler stands then
abbrev over_as : List ℕ → List Service → Option Stand
over_as entry [] = None
over_as entry (e ∷ es) = Some (record { stage = e.over; entry = entry; services = es })

-- the move of a mover, if its handler has this entry and serves these, these are the counts of sessions, and some are deaf
abbrev pub move_of : Want → List ℕ → List Service → (ℕ → ℕ) → (ℕ → Bool) → Move
move_of Continue entry services sessions deafs = no_move
move_of (Reserve ks) entry services sessions deafs = record no_move { stand = Some (record { stage = Reserves ks.items []; entry = ks.items; services = services }) }
move_of (Post r) entry services sessions deafs = sending None r false
move_of (Ask r passes) entry services sessions deafs = sending (Some (record { stage = Awaits r.target.handler false; entry = entry; services = services })) r true
move_of (Release ks) entry services sessions deafs = record no_move { ends = true; frees = ks.items }
move_of (Wait ks) entry services sessions deafs =
    record no_move { stand = Some (record { stage = Reserves entry (mark_of sessions ks.items); entry = entry; services = services }); frees = ks.items }
move_of (Done v ks refused) entry services sessions deafs = record {
  takes = false;
  stand = over_as entry services;
  ends = true;
  frees = ks.items;
  sent = None;
  answers = heard_end (outcome refused v) services deafs;
}
move_of (Create class procedure actuals passes) entry services sessions deafs = no_move
move_of (Fail why) entry services sessions deafs = no_move

-- the move of the handler in the state
abbrev pub move_in : ℕ → Want → State → Move
move_in g w s = move_of w (s.handlers g).entry (s.handlers g).services (counts s) (deaf s)

-- ---- what is asked of a free handler

no_stand : (b : Bool) (x : Handler) → stands_as (if b then None else None) x ≡ x
no_stand true x = refl
no_stand false x = refl

pub handler_is : (g : ℕ) (o : Option ℕ) → is_handler g o ≡ true → o ≡ Some g
handler_is g None e = true_false (sym e)
handler_is g (Some k) e = ap (λ (m : ℕ). Some m) (eqb-true k g e)

no_failure : (o : Option Cause) → not (is_some o) ≡ true → o ≡ None
no_failure None e = refl
no_failure (Some why) e = true_false (sym e)

pub no_frames : (stage : HandlerStage) → not (has_frames stage) ≡ true → stage ≡ Idle
no_frames Idle e = refl
no_frames Runs e = true_false (sym e)
no_frames (HasMade k) e = true_false (sym e)
no_frames (Reserves ks mark) e = true_false (sym e)
no_frames (Awaits k c) e = true_false (sym e)

no_requests : (ps : List Posted) → not (has_requests ps) ≡ true → ps ≡ []
no_requests [] e = refl
no_requests (p ∷ ps) e = true_false (sym e)

-- it has no frames and no requests, and hasn't failed
pub record IsFree (k : ℕ) (s : State) : Type 0 where
  pub stage : (s.handlers k).stage ≡ Idle
  pub failure : (s.handlers k).failure ≡ None
  pub queue : (s.handlers k).queue ≡ []

pub free_is : (k : ℕ) (s : State) → is_free k s ≡ true → IsFree k s
free_is k s e =
    let x : Handler = s.handlers k in
    let idle = and_left (is_idle (standing_in s k)) (not (has_requests x.queue)) e in record {
      stage = no_frames x.stage (and_left (not (has_frames x.stage)) (not (is_some x.failure)) idle);
      failure = no_failure x.failure (and_right (not (has_frames x.stage)) (not (is_some x.failure)) idle);
      queue = no_requests x.queue (and_right (is_idle (standing_in s k)) (not (has_requests x.queue)) e);
    }

is_so : (k : ℕ) (s : State) → IsFree k s → is_free k s ≡ true
is_so k s f =
    ap (λ (t : HandlerStage). (not (has_frames t) && not (is_some (s.handlers k).failure)) && not (has_requests (s.handlers k).queue)) f.stage
    ∙ ap (λ (o : Option Cause). not (is_some o) && not (has_requests (s.handlers k).queue)) f.failure
    ∙ ap (λ (ps : List Posted). not (has_requests ps)) f.queue

-- a free handler has nothing to do
pub free_idles : {A : Type 0} (k : ℕ) (s : State) (j : Job) → IsFree k s → job_of k s ≡ Some j → A
free_idles {A} k s j f due =
    let has = has_job k s j due in
    by (sym (ap (λ (t : HandlerStage). job_at k t (s.handlers k) s) f.stage) ∙ has.due) (s.handlers k).queue f.queue
  where
    by : job_idle (s.handlers k).queue ≡ Some j → (ps : List Posted) → ps ≡ [] → A
    by e ps same = none (sym (ap job_idle f.queue) ∙ e)
      where
        none : {A : Type 0} → None ≡ Some j → A
        none e = cc

or_last : (b w : Bool) → b ≡ w → (b || false) ≡ w
or_last true w e = e
or_last false w e = e

module _ (g : ℕ) (s : State) where
  -- what is asked of it is sent
  asks_it : (k : ℕ) (r : Request) (w : Bool) → r.is_waited ≡ w → IsFree k s → is_callback g k s ≡ false →
      asks_of g k r false s ≡ send false k (posted (record r { is_waited = w }) None) (awaits_if w g k s)
  asks_it k r w waited f called =
      let x : Handler = s.handlers k in
      let sends_with : Bool → Bool → State = λ b v. send b k (posted (record r { is_waited = v }) None) (awaits_if v g k s) in
      ap (λ (o : Option Cause). if is_some o then fail g cause.SupplierFailed s
      else (if not (is_callback g k s) && not (nat_lt (length x.queue) max_queue) then fail g cause.QueueFull s else sends_with (is_callback g k s) (r.is_waited || is_callback g k s))) f.failure
      ∙ ap (λ (b : Bool). if not b && not (nat_lt (length x.queue) max_queue) then fail g cause.QueueFull s else sends_with b (r.is_waited || b)) called
      ∙ ap (λ (ps : List Posted). if not (nat_lt (length ps) max_queue) then fail g cause.QueueFull s else sends_with false (r.is_waited || false)) f.queue
      ∙ ap (sends_with false) (or_last r.is_waited w waited)

  not_called : (k : ℕ) → IdleHasNoTop s → IsFree k s → is_callback g k s ≡ false
  not_called k tops f = ap (is_handler g) (tops k f.failure f.stage)

  held_by : (k : ℕ) → is_handler g (s.rights.queue k) ≡ true → not ((k == g) || is_handler g (s.rights.queue k) || is_handler g (s.rights.top k)) ≡ false
  held_by k e = ap (λ (b : Bool). not ((k == g) || b || is_handler g (s.rights.top k))) e ∙ by (k == g)
    where
      by : (b : Bool) → not (b || true || is_handler g (s.rights.top k)) ≡ false
      by true = refl
      by false = refl

  not_false : (b : Bool) → not b ≡ true → b ≡ false
  not_false true e = true_false (sym e)
  not_false false e = refl

  stands_so : (o : Stand) (y : Handler) (k : ℕ) (b : Bool) → (k == g) ≡ b → y ≡ stands_as (Some o) (s.handlers g) → (if b then y else s.handlers k) ≡ stands_as (if b then Some o else None) (s.handlers k)
  stands_so o y k true e same = same ∙ ap (λ (m : ℕ). stands_as (Some o) (s.handlers m)) (sym (eqb-true k g e))
  stands_so o y k false e same = refl

  pub if_done : (a b : Bool) (most : ℕ) (w : Want) → a ≡ false → b ≡ true → done_if a b most g w s ≡ done most g w s
  if_done true b most w i e = true_false i
  if_done false true most w i e = refl
  if_done false false most w i e = true_false (sym e)

  -- the request of a mover
  module _ (r : Request) (w : Bool) (waited : (is_request_of g r && (if w then r.is_waited else not r.is_waited)) ≡ true) (its : asks_free g r.target.handler s ≡ true) (tops : IdleHasNoTop s) where
    abbrev k : ℕ
    k = r.target.handler

    abbrev p : Posted
    p = posted (record r { is_waited = w }) None

    free : IsFree k s
    free = free_is k s (and_right (is_handler g (s.rights.queue k)) (is_free k s) its)

    is_so_waited : r.is_waited ≡ w
    is_so_waited = by w (and_right (is_request_of g r) (if w then r.is_waited else not r.is_waited) waited)
      where
        by : (b : Bool) → (if b then r.is_waited else not r.is_waited) ≡ true → r.is_waited ≡ b
        by true e = e
        by false e = not_false r.is_waited e

    other : (k == g) ≡ false
    other = not_false (k == g) (to_another g r (if w then r.is_waited else not r.is_waited) waited)

    unheld : not ((k == g) || is_handler g (s.rights.queue k) || is_handler g (s.rights.top k)) ≡ false
    unheld = held_by k (and_left (is_handler g (s.rights.queue k)) (is_free k s) its)

    sends_it : asks_of g k r false s ≡ send false k p (awaits_if w g k s)
    sends_it = asks_it k r w is_so_waited free (not_called k tops free)

    posted_as : (o : Option Stand) (x : Handler) → placed false p (stands_as o x) ≡ stands_as o (placed false p x)
    posted_as None x = refl
    posted_as (Some a) x = refl

    -- it stands at the target's queue then, in a state in which the handler stands so
    sent_so : (o : Option Stand) (t : State) → t.count ≡ s.count → t.rights ≡ s.rights → ((j : ℕ) → t.handlers j ≡ stands_as (stand_for g j o) (s.handlers j)) →
        send false k p t ≡ changed (change g (sending o r w)) s
    sent_so o t count rights stand =
        same_states (send false k p t) (changed (change g (sending o r w)) s) count (λ j. by j (cases_eq j k))
        (λ j. ap (λ (a : Rights). a.queue j) rights) (λ j. ap (λ (a : Rights). a.top j) rights)
      where
        by : (j : ℕ) → (j ≡ k) ⊎ (j ≡ k → ⊥) →
            (if j == k then placed false p (t.handlers k) else t.handlers j) ≡ stands_as (stand_for g j o) (sent_as (if j == k then Some p else None) (s.handlers j))
        by j (inl same) =
            ap (λ (b : Bool). if b then placed false p (t.handlers k) else t.handlers j) (eq-eqb j k same)
            ∙ ap (λ (m : ℕ). placed false p (t.handlers m)) (sym same)
            ∙ ap (placed false p) (stand j) ∙ posted_as (stand_for g j o) (s.handlers j)
            ∙ ap (λ (b : Bool). stands_as (stand_for g j o) (sent_as (if b then Some p else None) (s.handlers j))) (sym (eq-eqb j k same))
        by j (inr apart) =
            ap (λ (b : Bool). if b then placed false p (t.handlers k) else t.handlers j) (ne_eqb j k apart)
            ∙ stand j
            ∙ ap (λ (b : Bool). stands_as (stand_for g j o) (sent_as (if b then Some p else None) (s.handlers j))) (sym (ne_eqb j k apart))

-- ---- the end of a request

-- who is deaf hears nothing of it
deaf_hears : (refused : Bool) (v : Option Value) (x : Handler) → is_deaf x ≡ true → answered (outcome refused v) x ≡ x
deaf_hears refused v x e = ap (λ (o : Option Answer). record x { answer = o }) (by refused x.failure x.answer e)
  where
    by : (b : Bool) (f : Option Cause) (o : Option Answer) → (is_some f || is_some o) ≡ true → heard (outcome b v) f o ≡ o
    by true (Some why) o e = refl
    by false (Some why) o e = refl
    by true None (Some a) e = refl
    by false None (Some a) e = refl
    by b None None e = true_false (sym e)

-- what is moved is as deaf as before
deaf_so : (o : Option Stand) (d : Bool) (q : Option Posted) (x : Handler) → is_deaf (stands_as o (session_ended d (sent_as q x))) ≡ is_deaf x
deaf_so None true None x = refl
deaf_so None false None x = refl
deaf_so None true (Some p) x = refl
deaf_so None false (Some p) x = refl
deaf_so (Some s) true None x = refl
deaf_so (Some s) false None x = refl
deaf_so (Some s) true (Some p) x = refl
deaf_so (Some s) false (Some p) x = refl

takes_deaf : (b : Bool) (x : Handler) → is_deaf (takes_as b x) ≡ is_deaf x
takes_deaf true x = refl
takes_deaf false x = refl

pub no_passed : (o : Option Passed) → is_none o ≡ true → o ≡ None
no_passed None e = refl
no_passed (Some p) e = true_false (sym e)

waited_if : (w : Bool) → (false || w) ≡ true → w ≡ true
waited_if w e = e

-- The handler moves so, and answers who waits, if it isn't deaf.
module _ (g : ℕ) (m : Move) (refused : Bool) (v : Option Value) where
  abbrev answering : Option Heard → Move
  answering q = record m { answers = q }

  abbrev said : Answer
  said = outcome refused v

  abbrev hears : ℕ → Bool → Option Heard
  hears p b = if b then None else Some (record { hearer = p; answer = said })

  abbrev moved : ℕ → Handler → Handler
  moved k x = takes_as (m.takes && k == g) (moved_at g m k x)

  -- who is deaf is so then
  deaf_there : (k : ℕ) (x : Handler) → is_deaf x ≡ true → answered said (moved k x) ≡ moved k x
  deaf_there k x e =
      deaf_hears refused v (moved k x)
      (takes_deaf (m.takes && k == g) (moved_at g m k x) ∙ deaf_so (stand_for g k m.stand) (m.ends && is_among k m.frees) (for k m.sent) x ∙ e)

  -- it is so in this state, but for the answer
  module _ (s u : State) (count : u.count ≡ s.count) (queue : (k : ℕ) → u.rights.queue k ≡ (if is_among k m.frees then None else s.rights.queue k))
      (top : (k : ℕ) → u.rights.top k ≡ s.rights.top k) (stand : (k : ℕ) → u.handlers k ≡ moved k (s.handlers k)) where
    pub answers_it : (waited : Bool) (poster : Option ℕ) → answer_to waited poster said u ≡ changed (change g (answering (heard_by waited poster said (deaf s)))) s
    answers_it false poster = same_states u (changed (change g (answering None)) s) count stand queue top
    answers_it true None = same_states u (changed (change g (answering None)) s) count stand queue top
    answers_it true (Some p) = by (deaf s p) refl
      where
        put_so : (k : ℕ) → (k ≡ p) ⊎ (k ≡ p → ⊥) → answered said (u.handlers p) ≡ u.handlers p → (if k == p then answered said (u.handlers p) else u.handlers k) ≡ u.handlers k
        put_so k (inl same) e =
            ap (λ (b : Bool). if b then answered said (u.handlers p) else u.handlers k) (eq-eqb k p same) ∙ e ∙ ap u.handlers (sym same)
        put_so k (inr other) e = ap (λ (b : Bool). if b then answered said (u.handlers p) else u.handlers k) (ne_eqb k p other)

        put_heard : (k : ℕ) → (k ≡ p) ⊎ (k ≡ p → ⊥) →
            (if k == p then answered said (u.handlers p) else u.handlers k) ≡ hears_as (if k == p then Some said else None) (moved k (s.handlers k))
        put_heard k (inl same) =
            ap (λ (b : Bool). if b then answered said (u.handlers p) else u.handlers k) (eq-eqb k p same)
            ∙ ap (λ (i : ℕ). answered said (u.handlers i)) (sym same) ∙ ap (answered said) (stand k)
            ∙ ap (λ (b : Bool). hears_as (if b then Some said else None) (moved k (s.handlers k))) (sym (eq-eqb k p same))
        put_heard k (inr other) =
            ap (λ (b : Bool). if b then answered said (u.handlers p) else u.handlers k) (ne_eqb k p other) ∙ stand k
            ∙ ap (λ (b : Bool). hears_as (if b then Some said else None) (moved k (s.handlers k))) (sym (ne_eqb k p other))

        by : (b : Bool) → deaf s p ≡ b → put p (answered said (u.handlers p)) u ≡ changed (change g (answering (hears p (deaf s p)))) s
        by true e =
            same_states (put p (answered said (u.handlers p)) u) u refl
            (λ k. put_so k (cases_eq k p) (ap (answered said) (stand p) ∙ deaf_there p (s.handlers p) e ∙ sym (stand p))) (λ k. refl) (λ k. refl)
            ∙ same_states u (changed (change g (answering None)) s) count stand queue top
            ∙ ap (λ (b : Bool). changed (change g (answering (hears p b))) s) (sym e)
        by false e =
            same_states (put p (answered said (u.handlers p)) u) (changed (change g (answering (hears p false))) s) count (λ k. put_heard k (cases_eq k p)) queue top
            ∙ ap (λ (b : Bool). changed (change g (answering (hears p b))) s) (sym e)

  -- Who got deaf meanwhile is as it is without the answer.
  pub same_heard : (s t : State) (waited : Bool) (poster : Option ℕ) → ((p : ℕ) → waited ≡ true → poster ≡ Some p → deaf s p ≡ true → deaf t p ≡ true) →
      changed (change g (answering (heard_by waited poster said (deaf t)))) t ≡ changed (change g (answering (heard_by waited poster said (deaf s)))) t
  same_heard s t false poster stays = refl
  same_heard s t true None stays = refl
  same_heard s t true (Some p) stays = by (deaf s p) (deaf t p) refl refl
    where
      none_heard : deaf t p ≡ true → (k : ℕ) → (k ≡ p) ⊎ (k ≡ p → ⊥) → moved k (t.handlers k) ≡ hears_as (if k == p then Some said else None) (moved k (t.handlers k))
      none_heard e k (inl same) =
          sym (deaf_there k (t.handlers k) (ap (deaf t) same ∙ e))
          ∙ ap (λ (b : Bool). hears_as (if b then Some said else None) (moved k (t.handlers k))) (sym (eq-eqb k p same))
      none_heard e k (inr other) = ap (λ (b : Bool). hears_as (if b then Some said else None) (moved k (t.handlers k))) (sym (ne_eqb k p other))

      by : (b c : Bool) → deaf s p ≡ b → deaf t p ≡ c → changed (change g (answering (hears p (deaf t p)))) t ≡ changed (change g (answering (hears p (deaf s p)))) t
      by true c e f = ap (λ (b : Bool). changed (change g (answering (hears p b))) t) (stays p refl refl e ∙ sym e)
      by false false e f = ap (λ (b : Bool). changed (change g (answering (hears p b))) t) (f ∙ sym e)
      by false true e f =
          ap (λ (b : Bool). changed (change g (answering (hears p b))) t) f
          ∙ same_states (changed (change g (answering None)) t) (changed (change g (answering (hears p false))) t) refl (λ k. none_heard f k (cases_eq k p)) (λ k. refl) (λ k. refl)
          ∙ ap (λ (b : Bool). changed (change g (answering (hears p b))) t) (sym e)

-- its handler stands over this, and releases these
abbrev over : Stand → List ℕ → Move
over o ks = record { takes = false; stand = Some o; ends = true; frees = ks; sent = None; answers = None }

-- it is so once the request is over
over_stands : (g : ℕ) (s : State) (o : Stand) (ks : List ℕ) (y : Handler) → y ≡ stands_as (Some o) (s.handlers g) → (k : ℕ) →
    session_ended (is_among k ks) (if k == g then y else s.handlers k) ≡ moved_at g (over o ks) k (s.handlers k)
over_stands g s o ks y same k =
    ap (session_ended (is_among k ks)) (stands_so g s o y k (k == g) refl same)
    ∙ ended_so (stand_for g k (Some o)) false (is_among k ks) None (s.handlers k)

-- ---- the move of a mover

module _ (g : ℕ) (s : State) (running : (s.handlers g).stage ≡ Runs) (tops : IdleHasNoTop s) where
  plain : (k : ℕ) → s.handlers k ≡ stands_as (stand_for g k None) (s.handlers k)
  plain k = sym (no_stand (k == g) (s.handlers k))

  -- where it stands then
  stand_at : (o : Stand) (y : Handler) → y ≡ stands_as (Some o) (s.handlers g) → (k : ℕ) → (if k == g then y else s.handlers k) ≡ stands_as (stand_for g k (Some o)) (s.handlers k)
  stand_at o y same k = stands_so g s o y k (k == g) refl same

  -- the request that was taken last ends
  ends_so : (v : Option Value) (ks : List ℕ) (refused : Bool) (vs : List Service) → ends_plainly refused vs ≡ true →
      ends g v ks refused vs s
      ≡ changed (change g (record {
        takes = false;
        stand = over_as (s.handlers g).entry vs;
        ends = true;
        frees = ks;
        sent = None;
        answers = heard_end (outcome refused v) vs (deaf s);
      })) s
  ends_so v ks refused [] e = true_false (sym e)
  ends_so v ks refused (e ∷ es) plainly = by refused plainly
    where
      x : Handler
      x = record (s.handlers g) { stage = e.over; services = es }

      o : Stand
      o = record { stage = e.over; entry = (s.handlers g).entry; services = es }

      exited : State
      exited = release release_at.Exit ks (put g x s)

      refusing : State
      refusing = release release_at.Refusal ks (put g x s)

      Ends : Bool → Type 0
      Ends b = ends g v ks b (e ∷ es) s ≡ changed (change g (record (over o ks) { answers = heard_by e.posted.request.is_waited e.posted.request.poster (outcome b v) (deaf s) })) s

      by : (b : Bool) → (is_none e.posted.passed && (not b || e.posted.request.is_waited)) ≡ true → Ends b
      by false plainly =
          let none = no_passed e.posted.passed (and_left (is_none e.posted.passed) true plainly) in
          ap (λ (q : Option Passed). answer_to e.posted.request.is_waited e.posted.request.poster (Replied v) (return_rights q exited)) none
          ∙ answers_it g (over o ks) false v s exited refl (λ k. refl) (λ k. refl) (over_stands g s o ks x refl) e.posted.request.is_waited e.posted.request.poster
      by true plainly =
          let none = no_passed e.posted.passed (and_left (is_none e.posted.passed) e.posted.request.is_waited plainly) in
          let heard = and_right (is_none e.posted.passed) e.posted.request.is_waited plainly in
          ap (λ (b : Bool). finish e.posted Refused (release release_at.Refusal ks (put g (counted_refusal b x) s))) heard
          ∙ ap (λ (q : Option Passed). answer_to e.posted.request.is_waited e.posted.request.poster Refused (return_rights q refusing)) none
          ∙ answers_it g (over o ks) true v s refusing refl (λ k. refl) (λ k. refl) (over_stands g s o ks x refl) e.posted.request.is_waited e.posted.request.poster

  pub mover_moves : (most : ℕ) (w : Want) → is_mover g w s ≡ true → settled most g job.Go 1 w s ≡ changed (change g (move_in g w s)) s
  mover_moves most Continue e = same_states s (changed (change g no_move) s) refl plain (λ k. refl) (λ k. refl)
  mover_moves most (Reserve ks) e =
      if_done g s false (are_handlers ks.items s) most (Reserve ks) refl e
      ∙ same_states _ (changed (change g (move_in g (Reserve ks) s)) s) refl
      (stand_at (record { stage = Reserves ks.items []; entry = ks.items; services = (s.handlers g).services }) (record (s.handlers g) { stage = Reserves ks.items []; entry = ks.items }) refl) (λ k. refl) (λ k. refl)
  mover_moves most (Post r) e =
      let may = and_left (may_ask g (Post r) s) (asks_free g r.target.handler s) e in
      let its = and_right (may_ask g (Post r) s) (asks_free g r.target.handler s) e in
      if_done g s _ (may_ask g (Post r) s) most (Post r) (unheld g s r false may its tops) may
      ∙ sends_it g s r false may its tops
      ∙ sent_so g s r false may its tops None s refl refl plain
  mover_moves most (Ask r true) e = true_false (sym e)
  mover_moves most (Ask r false) e =
      let may = and_left (may_ask g (Ask r false) s) (asks_free g r.target.handler s) e in
      let its = and_right (may_ask g (Ask r false) s) (asks_free g r.target.handler s) e in
      let o : Stand = record { stage = Awaits r.target.handler false; entry = (s.handlers g).entry; services = (s.handlers g).services } in
      if_done g s _ (may_ask g (Ask r false) s) most (Ask r false) (unheld g s r true may its tops) may
      ∙ sends_it g s r true may its tops
      ∙ sent_so g s r true may its tops (Some o) (with_stage g (Awaits r.target.handler false) s) refl refl
      (stand_at o (record (s.handlers g) { stage = Awaits r.target.handler false }) refl)
  mover_moves most (Release ks) e =
      if_done g s false (may_post_to_all g ks.items s) most (Release ks) refl e
      ∙ same_states _ (changed (change g (move_in g (Release ks) s)) s) refl
      (λ k. sym (no_stand (k == g) (session_ended (true && is_among k ks.items) (s.handlers k)))) (λ k. refl) (λ k. refl)
  mover_moves most (Wait ks) e =
      let now : HandlerStage = Reserves (s.handlers g).entry (mark_of (counts s) ks.items) in
      if_done g s false (may_post_to_all g ks.items s) most (Wait ks) refl e
      ∙ same_states _ (changed (change g (move_in g (Wait ks) s)) s) refl
      (stand_at (record { stage = now; entry = (s.handlers g).entry; services = (s.handlers g).services }) (record (s.handlers g) { stage = now }) refl) (λ k. refl) (λ k. refl)
  mover_moves most (Create class procedure actuals passes) e = true_false (sym e)
  mover_moves most (Done v ks refused) e =
      if_done g s false (may_post_to_all g ks.items s) most (Done v ks refused) refl (and_left (may_post_to_all g ks.items s) (ends_plainly refused (s.handlers g).services) e)
      ∙ ends_so v ks.items refused (s.handlers g).services (and_right (may_post_to_all g ks.items s) (ends_plainly refused (s.handlers g).services) e)
  mover_moves most (Fail why) e = true_false (sym e)

-- ---- what is safe is its own

only_last : (b : Bool) → (false || b) ≡ true → b ≡ true
only_last b e = e

pub only_first : (b : Bool) → (b || false) ≡ true → b ≡ true
only_first true e = refl
only_first false e = true_false (sym e)

asked_its : (g : ℕ) (s : State) (k i : ℕ) → asks_free g i s ≡ true → (k == i) ≡ true → s.rights.queue k ≡ Some g
asked_its g s k i e is =
    ap s.rights.queue (eqb-true k i is) ∙ handler_is g (s.rights.queue i) (and_left (is_handler g (s.rights.queue i)) (is_free i s) e)

pub are_own : (g : ℕ) (w : Want) (s : State) → is_mover g w s ≡ true → (k : ℕ) → is_safe g (move_in g w s) k ≡ true → s.rights.queue k ≡ Some g
are_own g (Release ks) s e k i = handler_is g (s.rights.queue k) (all_among (λ (j : ℕ). is_handler g (s.rights.queue j)) ks.items k e (only_first (is_among k ks.items) i))
are_own g (Wait ks) s e k i = handler_is g (s.rights.queue k) (all_among (λ (j : ℕ). is_handler g (s.rights.queue j)) ks.items k e (only_first (is_among k ks.items) i))
are_own g Continue s e k i = true_false (sym i)
are_own g (Reserve ks) s e k i = true_false (sym i)
are_own g (Post r) s e k i = asked_its g s k r.target.handler (and_right (may_ask g (Post r) s) (asks_free g r.target.handler s) e) i
are_own g (Ask r true) s e k i = true_false (sym e)
are_own g (Ask r false) s e k i = asked_its g s k r.target.handler (and_right (may_ask g (Ask r false) s) (asks_free g r.target.handler s) e) i
are_own g (Create class procedure actuals passes) s e k i = true_false (sym e)
are_own g (Done v ks refused) s e k i =
    handler_is g (s.rights.queue k) (all_among (λ (j : ℕ). is_handler g (s.rights.queue j)) ks.items k
    (and_left (may_post_to_all g ks.items s) (ends_plainly refused (s.handlers g).services) e) (only_first (is_among k ks.items) i))
are_own g (Fail why) s e k i = true_false (sym e)

-- the target is free, so another handler with something to do isn't it
pub target_is : (g : ℕ) (w : Want) (s : State) → is_mover g w s ≡ true → (k : ℕ) → is_target k (move_in g w s).sent ≡ true → IsFree k s
target_is g (Post r) s e k i =
    let its = and_right (may_ask g (Post r) s) (asks_free g r.target.handler s) e in
    subst (λ (m : ℕ). IsFree m s) (sym (eqb-true k r.target.handler i)) (free_is r.target.handler s (and_right (is_handler g (s.rights.queue r.target.handler)) (is_free r.target.handler s) its))
target_is g (Ask r false) s e k i =
    let its = and_right (may_ask g (Ask r false) s) (asks_free g r.target.handler s) e in
    subst (λ (m : ℕ). IsFree m s) (sym (eqb-true k r.target.handler i)) (free_is r.target.handler s (and_right (is_handler g (s.rights.queue r.target.handler)) (is_free r.target.handler s) its))
target_is g (Ask r true) s e k i = true_false (sym e)
target_is g Continue s e k i = true_false (sym i)
target_is g (Reserve ks) s e k i = true_false (sym i)
target_is g (Release ks) s e k i = true_false (sym i)
target_is g (Wait ks) s e k i = true_false (sym i)
target_is g (Create class procedure actuals passes) s e k i = true_false (sym e)
target_is g (Done v ks refused) s e k i = true_false (sym i)
target_is g (Fail why) s e k i = true_false (sym e)

pub other_is : (g : ℕ) (w : Want) (s : State) → is_mover g w s ≡ true → (h : ℕ) (j : Job) → job_of h s ≡ Some j → is_target h (move_in g w s).sent ≡ false
other_is g w s e h j due = by (is_target h (move_in g w s).sent) refl
  where
    by : (b : Bool) → is_target h (move_in g w s).sent ≡ b → is_target h (move_in g w s).sent ≡ false
    by true i = free_idles h s j (target_is g w s e h i) due
    by false i = i

-- ---- it stays so

-- tests of each of these are the same in both states
same_tests : (P Q : ℕ → Bool) (ks : List ℕ) → ((k : ℕ) → is_among k ks ≡ true → Q k ≡ P k) → list_all Q ks ≡ list_all P ks
same_tests P Q [] same = refl
same_tests P Q (k ∷ ks) same =
    ap (λ (b : Bool). b && list_all Q ks) (same k (here k ks)) ∙ ap (λ (b : Bool). P k && b) (same_tests P Q ks (λ j e. same j (later j k ks e)))
  where
    here : (j : ℕ) (js : List ℕ) → is_among j (j ∷ js) ≡ true
    here j js = ap (λ (b : Bool). b || is_among j js) (eq-eqb j j refl)

    later : (j i : ℕ) (js : List ℕ) → is_among j js ≡ true → is_among j (i ∷ js) ≡ true
    later j i js e = ap (λ (b : Bool). (i == j) || b) e ∙ always (i == j)
      where
        always : (b : Bool) → (b || true) ≡ true
        always true = refl
        always false = refl

same_marks : (ks : List ℕ) (m n : ℕ → ℕ) → ((k : ℕ) → is_among k ks ≡ true → n k ≡ m k) → mark_of n ks ≡ mark_of m ks
same_marks [] m n same = refl
same_marks (k ∷ ks) m n same =
    ap (λ (c : ℕ). let x : Marked = record { handler = k; sessions = c } in x ∷ mark_of n ks) (same k (here k ks))
    ∙ ap (λ (ms : List Marked). let x : Marked = record { handler = k; sessions = m k } in x ∷ ms) (same_marks ks m n (λ j e. same j (later j k ks e)))
  where
    here : (j : ℕ) (js : List ℕ) → is_among j (j ∷ js) ≡ true
    here j js = ap (λ (b : Bool). b || is_among j js) (eq-eqb j j refl)

    later : (j i : ℕ) (js : List ℕ) → is_among j js ≡ true → is_among j (i ∷ js) ≡ true
    later j i js e = ap (λ (b : Bool). (i == j) || b) e ∙ always (i == j)
      where
        always : (b : Bool) → (b || true) ≡ true
        always true = refl
        always false = refl

first_safe : (k : ℕ) (ks : List ℕ) → is_among k ks ≡ true → (is_among k ks || false) ≡ true
first_safe k ks e = ap (λ (b : Bool). b || false) e

module _ (g h : ℕ) (w : Want) (s t : State) (same : Stay g h (is_safe g (move_in g w s)) (is_closed g (move_in g w s)) s t) (others : OthersStay h s t)
    (other : is_target h (move_in g w s).sent ≡ false) (few : (k : ℕ) → is_safe g (move_in g w s) k ≡ true → k < s.count) where
  -- the target is still free, and its own
  asks_still : (k : ℕ) → is_safe g (move_in g w s) k ≡ true → is_target k (move_in g w s).sent ≡ true → asks_free g k s ≡ true → asks_free g k t ≡ true
  asks_still k safe target e =
      let f = free_is k s (and_right (is_handler g (s.rights.queue k)) (is_free k s) e) in
      let apart : k ≡ h → ⊥ = λ i. true_false (sym target ∙ ap (λ (m : ℕ). is_target m (move_in g w s).sent) i ∙ other) in
      let stays = others.others k apart (few k safe) in
      ap (λ (o : Option ℕ). is_handler g o && is_free k t) (same.queue k safe)
      ∙ ap (λ (b : Bool). b && is_free k t) (and_left (is_handler g (s.rights.queue k)) (is_free k s) e)
      ∙ is_so k t (record { stage = stays.0 ∙ f.stage; failure = stays.1 ∙ f.failure; queue = same.asked k (or_right ((move_in g w s).takes && k == g) (is_target k (move_in g w s).sent) target) ∙ f.queue })

  itself : (k : ℕ) → (k == k) ≡ true
  itself k = eq-eqb k k refl

  pub still_mover : is_mover g w s ≡ true → is_mover g w t ≡ true
  still_mover = by w same asks_still
    where
      by : (v : Want) → Stay g h (is_safe g (move_in g v s)) (is_closed g (move_in g v s)) s t →
          ((k : ℕ) → is_safe g (move_in g v s) k ≡ true → is_target k (move_in g v s).sent ≡ true → asks_free g k s ≡ true → asks_free g k t ≡ true) →
          is_mover g v s ≡ true → is_mover g v t ≡ true
      by Continue st asks e = refl
      by (Reserve ks) st asks e =
          all_then (λ (k : ℕ). nat_lt k s.count) (λ (k : ℕ). nat_lt k t.count) ks.items
          (λ k i. let less = ltb-true k s.count i in let more = st.more in lt-ltb k t.count (omega (arith, less, more))) e
      by (Post r) st asks e =
          let its = and_right (may_ask g (Post r) s) (asks_free g r.target.handler s) e in
          ap (λ (b : Bool). b && asks_free g r.target.handler t) (and_left (may_ask g (Post r) s) (asks_free g r.target.handler s) e)
          ∙ asks r.target.handler (itself r.target.handler) (itself r.target.handler) its
      by (Ask r true) st asks e = true_false (sym e)
      by (Ask r false) st asks e =
          let its = and_right (may_ask g (Ask r false) s) (asks_free g r.target.handler s) e in
          ap (λ (b : Bool). b && asks_free g r.target.handler t) (and_left (may_ask g (Ask r false) s) (asks_free g r.target.handler s) e)
          ∙ asks r.target.handler (itself r.target.handler) (itself r.target.handler) its
      by (Release ks) st asks e =
          same_tests (λ (k : ℕ). is_handler g (s.rights.queue k)) (λ (k : ℕ). is_handler g (t.rights.queue k)) ks.items (λ k i. ap (is_handler g) (st.queue k (first_safe k ks.items i))) ∙ e
      by (Wait ks) st asks e =
          same_tests (λ (k : ℕ). is_handler g (s.rights.queue k)) (λ (k : ℕ). is_handler g (t.rights.queue k)) ks.items (λ k i. ap (is_handler g) (st.queue k (first_safe k ks.items i))) ∙ e
      by (Create class procedure actuals passes) st asks e = true_false (sym e)
      by (Done v ks refused) st asks e =
          ap (λ (vs : List Service). may_post_to_all g ks.items t && ends_plainly refused vs) st.own.0
          ∙ ap (λ (b : Bool). b && ends_plainly refused (s.handlers g).services)
          (same_tests (λ (k : ℕ). is_handler g (s.rights.queue k)) (λ (k : ℕ). is_handler g (t.rights.queue k)) ks.items (λ k i. ap (is_handler g) (st.queue k (first_safe k ks.items i))))
          ∙ e
      by (Fail why) st asks e = true_false (sym e)

  -- its move is the same, but that who got deaf meanwhile doesn't hear the answer
  pub same_move : move_in g w t ≡ move_of w (s.handlers g).entry (s.handlers g).services (counts s) (deaf t)
  same_move = ap (λ (es : List ℕ). move_of w es (t.handlers g).services (counts t) (deaf t)) same.own.1
      ∙ ap (λ (vs : List Service). move_of w (s.handlers g).entry vs (counts t) (deaf t)) same.own.0
      ∙ by w same
    where
      by : (v : Want) → Stay g h (is_safe g (move_in g v s)) (is_closed g (move_in g v s)) s t →
          move_of v (s.handlers g).entry (s.handlers g).services (counts t) (deaf t) ≡ move_of v (s.handlers g).entry (s.handlers g).services (counts s) (deaf t)
      by (Wait ks) st =
          ap (λ (m : List Marked). let o : Stand = record { stage = Reserves (s.handlers g).entry m; entry = (s.handlers g).entry; services = (s.handlers g).services } in
          let v : Move = record no_move { stand = Some o; frees = ks.items } in v)
          (same_marks ks.items (counts s) (counts t) (λ k i. st.sessions k (first_safe k ks.items i)))
      by (Ask r passes) st = refl
      by Continue st = refl
      by (Release ks) st = refl
      by (Reserve ks) st = refl
      by (Post r) st = refl
      by (Create class procedure actuals passes) st = refl
      by (Done v ks refused) st = refl
      by (Fail why) st = refl

-- p waits for the end of the request that the handler took last, which it asks for
pub record WaitsFor (g : ℕ) (w : Want) (s : State) (p : ℕ) : Type 0 where
  pub value : Option Value
  pub released : ArrayVec ℕ
  pub refused : Bool
  pub first : Service
  pub rest : List Service
  pub ends : w ≡ Done value released refused
  pub services : (s.handlers g).services ≡ first ∷ rest
  pub waited : first.posted.request.is_waited ≡ true
  pub poster : first.posted.request.poster ≡ Some p

-- the move changes the same, though some got deaf meanwhile
module _ (g : ℕ) (s t : State) where
  pub same_changed : (w : Want) → ((p : ℕ) → WaitsFor g w s p → deaf s p ≡ true → deaf t p ≡ true) →
      changed (change g (move_of w (s.handlers g).entry (s.handlers g).services (counts s) (deaf t))) t ≡ changed (change g (move_in g w s)) t
  same_changed (Done v ks refused) stays = by (s.handlers g).services refl
    where
      by : (vs : List Service) → (s.handlers g).services ≡ vs →
          changed (change g (move_of (Done v ks refused) (s.handlers g).entry vs (counts s) (deaf t))) t
          ≡ changed (change g (move_of (Done v ks refused) (s.handlers g).entry vs (counts s) (deaf s))) t
      by [] is = refl
      by (e ∷ es) is =
          same_heard g (over (record { stage = e.over; entry = (s.handlers g).entry; services = es }) ks.items) refused v s t e.posted.request.is_waited e.posted.request.poster
          (λ p waited poster. stays p (record { value = v; released = ks; refused = refused; first = e; rest = es; ends = refl; services = is; waited = waited; poster = poster }))
  same_changed (Wait ks) stays = refl
  same_changed (Ask r passes) stays = refl
  same_changed Continue stays = refl
  same_changed (Release ks) stays = refl
  same_changed (Reserve ks) stays = refl
  same_changed (Post r) stays = refl
  same_changed (Create class procedure actuals passes) stays = refl
  same_changed (Fail why) stays = refl

-- who is to hear the answer waits for it, and isn't deaf
pub hearer_by : (waited : Bool) (poster : Option ℕ) (a : Answer) (deafs : ℕ → Bool) (k : ℕ) → is_hearer k (heard_by waited poster a deafs) ≡ true →
    (waited ≡ true) × (poster ≡ Some k) × (deafs k ≡ false)
hearer_by true (Some p) a deafs k i = by (deafs p) refl i
  where
    by : (b : Bool) → deafs p ≡ b → is_hearer k (if b then None else Some (record { hearer = p; answer = a })) ≡ true → (true ≡ true) × (Some p ≡ Some k) × (deafs k ≡ false)
    by true e i = true_false (sym i)
    by false e i = let same = eqb-true k p i in (refl, ap (λ (m : ℕ). Some m) (sym same), ap deafs same ∙ e)
hearer_by true None a deafs k i = true_false (sym i)
hearer_by false poster a deafs k i = true_false (sym i)

pub hearer_waits : (g : ℕ) (w : Want) (s : State) (k : ℕ) → is_hearer k (move_in g w s).answers ≡ true → WaitsFor g w s k × (deaf s k ≡ false)
hearer_waits g (Done v ks refused) s k i = by (s.handlers g).services refl i
  where
    by : (vs : List Service) → (s.handlers g).services ≡ vs → is_hearer k (heard_end (outcome refused v) vs (deaf s)) ≡ true → WaitsFor g (Done v ks refused) s k × (deaf s k ≡ false)
    by [] is i = true_false (sym i)
    by (e ∷ es) is i =
        let so = hearer_by e.posted.request.is_waited e.posted.request.poster (outcome refused v) (deaf s) k i in
        (record { value = v; released = ks; refused = refused; first = e; rest = es; ends = refl; services = is; waited = so.0; poster = so.1 }, so.2)
hearer_waits g (Wait ks) s k i = true_false (sym i)
hearer_waits g (Ask r passes) s k i = true_false (sym i)
hearer_waits g Continue s k i = true_false (sym i)
hearer_waits g (Release ks) s k i = true_false (sym i)
hearer_waits g (Reserve ks) s k i = true_false (sym i)
hearer_waits g (Post r) s k i = true_false (sym i)
hearer_waits g (Create class procedure actuals passes) s k i = true_false (sym i)
hearer_waits g (Fail why) s k i = true_false (sym i)

-- ---- what another one reserves may be reserved

free_of : (s : State) (ls : List ℕ) (mark : List Marked) (k : ℕ) → may_reserve (standing_in s) s.rights ls mark ≡ true → is_among k ls ≡ true →
    may_be_reserved (standing_in s k) (s.rights.queue k) ≡ true
free_of s ls mark k e i =
    all_among (λ (j : ℕ). may_be_reserved (standing_in s j) (s.rights.queue j)) ls k
    (and_left (list_all (λ (j : ℕ). may_be_reserved (standing_in s j) (s.rights.queue j)) ls) (mark_allows (λ (j : ℕ). (standing_in s j).sessions) mark) e) i

module _ (h : ℕ) (s : State) where
  abbrev pub GrantedFree : Job → Type 0
  GrantedFree (job.Granted ls) = (k : ℕ) → is_among k ls.items ≡ true → may_be_reserved (standing_in s k) (s.rights.queue k) ≡ true
  GrantedFree j = Unit {0}

  of_awaiting : (k : ℕ) (c : Bool) (p : Option Posted) (a : Option Answer) (j : Job) → job_awaiting k c p a ≡ Some j → GrantedFree j
  of_awaiting k c (Some p) a (job.Granted ls) e = cc
  of_awaiting k true None (Some (Replied v)) (job.Granted ls) e = cc
  of_awaiting k false None (Some (Replied v)) (job.Granted ls) e = cc
  of_awaiting k true None (Some SupplierFailed) (job.Granted ls) e = cc
  of_awaiting k false None (Some SupplierFailed) (job.Granted ls) e = cc
  of_awaiting k true None (Some Refused) (job.Granted ls) e = cc
  of_awaiting k false None (Some Refused) (job.Granted ls) e = cc
  of_awaiting k c None None (job.Granted ls) e = cc
  of_awaiting k c p a (job.Take r) e = tt
  of_awaiting k c p a (job.Reply v) e = tt
  of_awaiting k c p a job.Failed e = tt
  of_awaiting k c p a job.Refused e = tt
  of_awaiting k c p a (job.Made i) e = tt
  of_awaiting k c p a job.Go e = tt

  same_job : (j i : Job) → Some j ≡ Some i → j ≡ i
  same_job j i e = cc

  of_reserving : (ls : List ℕ) (mark : List Marked) (a b : Bool) → may_reserve (standing_in s) s.rights ls mark ≡ b → (j : Job) → job_reserving a b ls ≡ Some j → GrantedFree j
  of_reserving ls mark true b may j e = subst GrantedFree (same_job job.Failed j e) tt
  of_reserving ls mark false true may j e =
      subst GrantedFree (same_job (job.Granted (record { items = ls })) j e) (λ k i. free_of s ls mark k may i)
  of_reserving ls mark false false may j e = cc

  of_idle : (ps : List Posted) (j : Job) → job_idle ps ≡ Some j → GrantedFree j
  of_idle [] j e = cc
  of_idle (p ∷ ps) j e = subst GrantedFree (same_job (job.Take p.request) j e) tt

  of_stage : (stage : HandlerStage) (j : Job) → job_at h stage (s.handlers h) s ≡ Some j → GrantedFree j
  of_stage Idle j e = of_idle (s.handlers h).queue j e
  of_stage Runs j e = subst GrantedFree (same_job job.Go j e) tt
  of_stage (HasMade k) j e = subst GrantedFree (same_job (job.Made k) j e) tt
  of_stage (Reserves ls mark) j e =
      let ns = needs h ls s.rights in
      of_reserving ns mark (reserve_fails (standing_in s) s.rights ns) (may_reserve (standing_in s) s.rights ns mark) refl j e
  of_stage (Awaits k c) j e = of_awaiting k c (s.handlers h).callback (s.handlers h).answer j e

  pub granted_free : (j : Job) → job_of h s ≡ Some j → GrantedFree j
  granted_free j e = of_stage (s.handlers h).stage j (has_job h s j e).due
