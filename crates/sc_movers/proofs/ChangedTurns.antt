-- What a mover changes: the turn of another handler does the same before and after it.
use Rattle.std.proofs.Common.{◌≡◌, ◌∙◌, ◌≤◌, ◌==◌, ◌&&◌, ◌||◌, not, ℕ, Bool, true, false, List, [], ◌∷◌, Option, Some, None, length, refl, sym, ap, arith}
use Rattle.std.proofs.Math.Path.{fun_ext}
use Rattle.std.proofs.lemmas.Bool.{eqb-true, ne_eqb}
use Rattle.std.specs.Prelude.{if◌then◌else◌, is_some, nat_lt}
use Rattle.std.specs.List.{list_all}
use Rattle.arrayvec.specs.ArrayVec.{ArrayVec}
use Rattle.sc_lockpass.specs.Rights.{held, is_among, is_handler}
use Rattle.sc_lockpass.specs.Passing.{Passed}
use Rattle.sc_lockpass.specs.wait_conditions.Reservations.{mark_of}
use Rattle.sc_lockpass.specs.declared.wait_conditions.mark.Marked.{Marked}
use Rattle.sc_lockpass.specs.declared.wait_conditions.session.Release.TheVariants as release_at
use Rattle.sc_model.specs.declared.cause.Cause.{Cause}
use Rattle.sc_model.specs.declared.cause.Cause.TheVariants as cause
use Rattle.sc_model.specs.Limits.{max_queue}
use Rattle.sc_region.specs.declared.value.Value.{Value}
use Rattle.sc_region.specs.declared.job.Job.{Job}
use Rattle.sc_region.specs.declared.job.Job.TheVariants as job
use Rattle.sc_region.specs.declared.job.Request.{Request}
use Rattle.sc_region.specs.declared.job.Want.{Want}
use Rattle.sc_region.specs.declared.job.Want.TheVariants as want
use Rattle.sc_handler.specs.Handlers.{Posted, posted, Replied, Refused, HandlerStage, Idle, Runs, HasMade, Reserves, Awaits, Service, Handler, State, put, with_stage}
use Rattle.sc_handler.specs.Changes.{counted_refusal, session_ended, takes, takes_answer}
use Rattle.sc_handler.specs.Fits.{fails_by_supplier, fits_first, is_request_of}
use Rattle.sc_request.specs.Sessions.{fail, finish, is_callback, passed_if, passes, release, reserve, send, with_handler}
use Rattle.sc_request.specs.Settling.{asks_of, awaits_if, begun, creates, creates_with, creation, done, done_if, ends, ends_service, made_at, may_ask, may_post_to_all, posts_unheld, sends, settled, waits_again}
use Rattle.sc_movers.proofs.ChangedStates as states
use Rattle.sc_movers.proofs.ChangedStates.{Apart, Change, Harmless, answer_ended, changed, staged_ended, takes_ended, true_false}

pub and_left : (a b : Bool) → (a && b) ≡ true → a ≡ true
and_left true b e = refl
and_left false b e = e

pub and_right : (a b : Bool) → (a && b) ≡ true → b ≡ true
and_right true b e = e
and_right false b e = true_false (sym e)

-- one of a single one is that
pub among_one : (j k : ℕ) → is_among k (j ∷ []) ≡ true → j ≡ k
among_one j k e = by (j == k) refl e
  where
    by : (b : Bool) → (j == k) ≡ b → (b || false) ≡ true → j ≡ k
    by true i e = eqb-true j k i
    by false i e = true_false (sym e)

-- a request to another handler that isn't called back goes to one that its poster may post to
pub posts_to : (h k : ℕ) (q c : Bool) → not ((k == h) || q || c) ≡ false → not (k == h) ≡ true → c ≡ false → q ≡ true
posts_to h k q c held other none = by (k == h) q c held other none
  where
    by : (a q c : Bool) → not (a || q || c) ≡ false → not a ≡ true → c ≡ false → q ≡ true
    by true q c held other none = true_false (sym other)
    by false true c held other none = refl
    by false false true held other none = true_false none
    by false false false held other none = true_false held

pub to_another : (h : ℕ) (r : Request) (b : Bool) → (is_request_of h r && b) ≡ true → not (r.target.handler == h) ≡ true
to_another h r b e = and_right _ (not (r.target.handler == h)) (and_left (is_request_of h r) b e)

-- ---- a handler that is told that a supplier has failed fails

abbrev pub told_cause : Bool → Want → Cause
told_cause true w = cause.NotHeld
told_cause false (want.Fail why) = if fails_by_supplier (want.Fail why) then why else cause.BadCode
told_cause false w = cause.BadCode

pub told_fails : (h most : ℕ) (w : Want) (s : State) → settled most h job.Failed 1 w s ≡ fail h (told_cause (posts_unheld h w s) w) s
told_fails h most w s = by (posts_unheld h w s) w
  where
    either : (why : Cause) (b : Bool) → done_if false (b && true) most h (want.Fail why) s ≡ fail h (if b then why else cause.BadCode) s
    either why true = refl
    either why false = refl

    by : (b : Bool) (v : Want) → done_if b (fails_by_supplier v && may_ask h v s) most h v s ≡ fail h (told_cause b v) s
    by true v = refl
    by false want.Continue = refl
    by false (want.Reserve ls) = refl
    by false (want.Post r) = refl
    by false (want.Ask r passes) = refl
    by false (want.Create class procedure actuals passes) = refl
    by false (want.Release ls) = refl
    by false (want.Wait ls) = refl
    by false (want.Done v ls refused) = refl
    by false (want.Fail why) = either why (fails_by_supplier (want.Fail why))

-- What is known of the other handler's turn: it reserves none of these, none of them was made for it, and none returns as the
-- request that it serves ends. It answers none that is spared.
pub record Beside (h : ℕ) (safe spared : ℕ → Bool) (j : Job) (w : Want) (s : State) : Type 0 where
  pub granted : (ls : ArrayVec ℕ) → j ≡ job.Granted ls → (k : ℕ) → safe k ≡ true → is_among k ls.items ≡ false
  pub made : (i k : ℕ) (c : Bool) → (s.handlers h).stage ≡ Awaits i c → j ≡ job.Made k → safe i ≡ false
  pub returns : fits_first (s.handlers h).stage j w ≡ true → (v : Option Value) (ls : ArrayVec ℕ) (refused : Bool) → w ≡ want.Done v ls refused →
      (e : Service) (es : List Service) → ((begun h j s).handlers h).services ≡ e ∷ es → (p : Passed) → e.posted.passed ≡ Some p →
      (k : ℕ) → safe k ≡ true → p.queue k ≡ None
  pub answers : fits_first (s.handlers h).stage j w ≡ true → (v : Option Value) (ls : ArrayVec ℕ) (refused : Bool) → w ≡ want.Done v ls refused →
      (e : Service) (es : List Service) → ((begun h j s).handlers h).services ≡ e ∷ es →
      (k : ℕ) → e.posted.request.is_waited ≡ true → e.posted.request.poster ≡ Some k → spared k ≡ false

-- No other handler is told or given anything of this by the end of the request.
pub record EndsBeside (safe spared : ℕ → Bool) (e : Service) : Type 0 where
  pub returns : (p : Passed) → e.posted.passed ≡ Some p → (k : ℕ) → safe k ≡ true → p.queue k ≡ None
  pub answers : (k : ℕ) → e.posted.request.is_waited ≡ true → e.posted.request.poster ≡ Some k → spared k ≡ false

module _ (h n : ℕ) (safe closed spared : ℕ → Bool) (c : Change) (harm : Harmless h n safe closed spared c) where
  abbrev f : State → State
  f = changed c

  abbrev Are : State → Type 0
  Are = Apart h safe

  not_made : (k : ℕ) → safe k ≡ false → (i : ℕ) → safe i ≡ true → is_among i (k ∷ []) ≡ false
  not_made k none i e = by (is_among i (k ∷ [])) refl
    where
      by : (b : Bool) → is_among i (k ∷ []) ≡ b → is_among i (k ∷ []) ≡ false
      by true is = true_false (sym e ∙ ap safe (sym (among_one k i is)) ∙ none)
      by false is = is

  -- ---- the job begins

  made_changed : (at : HandlerStage) (s : State) → made_at h at (f s) ≡ f (made_at h at s)
  made_changed (Awaits k a) s =
      ap (release release_at.Creation (k ∷ [])) (states.own_put h n safe closed spared c harm takes_answer answer_ended s)
      ∙ states.released_changed h n safe closed spared c harm release_at.Creation (k ∷ []) (put h (takes_answer (s.handlers h)) s)
  made_changed Idle s = states.stage_changed h n safe closed spared c harm Runs s
  made_changed Runs s = states.stage_changed h n safe closed spared c harm Runs s
  made_changed (HasMade k) s = states.stage_changed h n safe closed spared c harm Runs s
  made_changed (Reserves ls mark) s = states.stage_changed h n safe closed spared c harm Runs s

  begun_changed : (j : Job) (s : State) → ((ls : ArrayVec ℕ) → j ≡ job.Granted ls → (k : ℕ) → safe k ≡ true → is_among k ls.items ≡ false) →
      begun h j (f s) ≡ f (begun h j s)
  begun_changed (job.Take r) s disjoint =
      ap (λ (t : HandlerStage). put h (takes t ((f s).handlers h)) (f s)) (states.stage_own h n safe closed spared c harm s)
      ∙ states.own_put h n safe closed spared c harm (takes (s.handlers h).stage) (takes_ended (s.handlers h).stage) s
  begun_changed (job.Reply v) s disjoint = states.own_put h n safe closed spared c harm takes_answer answer_ended s
  begun_changed job.Failed s disjoint = refl
  begun_changed job.Refused s disjoint = refl
  begun_changed (job.Granted ls) s disjoint =
      ap (reserve h ls.items) (states.stage_changed h n safe closed spared c harm Runs s)
      ∙ states.reserved_changed h n safe closed spared c harm ls.items (with_stage h Runs s) (disjoint ls refl)
  begun_changed (job.Made k) s disjoint =
      ap (λ (t : HandlerStage). made_at h t (f s)) (states.stage_own h n safe closed spared c harm s)
      ∙ made_changed (s.handlers h).stage s
  begun_changed job.Go s disjoint = refl

  pub same_apart : (s t : State) → Are s → s.count ≤ t.count → ((k : ℕ) → safe k ≡ true → is_handler h (t.rights.queue k) ≡ is_handler h (s.rights.queue k)) → Are t
  same_apart s t are more same = record {
    not_its = λ k e. same k e ∙ are.not_its k e;
    few = λ k e. let few = are.few k e in omega (arith, few, more);
  }

  pub released_apart : (how : _) (ls : List ℕ) (s : State) → Are s → Are (release how ls s)
  released_apart how ls s are = record { not_its = λ k e. by (is_among k ls) (s.rights.queue k) (are.not_its k e); few = are.few }
    where
      by : (b : Bool) (o : Option ℕ) → is_handler h o ≡ false → is_handler h (if b then None else o) ≡ false
      by true o e = refl
      by false o e = e

  made_apart : (at : HandlerStage) (s : State) → Are s → Are (made_at h at s)
  made_apart (Awaits k a) s are =
      let t : State = put h (takes_answer (s.handlers h)) s in
      released_apart release_at.Creation (k ∷ []) t (same_apart s t are (omega arith) (λ i e. refl))
  made_apart Idle s are = same_apart s (with_stage h Runs s) are (omega arith) (λ i e. refl)
  made_apart Runs s are = same_apart s (with_stage h Runs s) are (omega arith) (λ i e. refl)
  made_apart (HasMade k) s are = same_apart s (with_stage h Runs s) are (omega arith) (λ i e. refl)
  made_apart (Reserves ls mark) s are = same_apart s (with_stage h Runs s) are (omega arith) (λ i e. refl)

  pub begun_apart : (j : Job) (w : Want) (s : State) → Are s → Beside h safe spared j w s → Are (begun h j s)
  begun_apart (job.Take r) w s are b = same_apart s (begun h (job.Take r) s) are (omega arith) (λ i e. refl)
  begun_apart (job.Reply v) w s are b = same_apart s (begun h (job.Reply v) s) are (omega arith) (λ i e. refl)
  begun_apart job.Failed w s are b = are
  begun_apart job.Refused w s are b = are
  begun_apart (job.Granted ls) w s are b =
      same_apart s (begun h (job.Granted ls) s) are (omega arith) (λ k e. ap (λ (a : Bool). is_handler h (if a then Some h else s.rights.queue k)) (b.granted ls refl k e))
  begun_apart (job.Made k) w s are b = made_apart (s.handlers h).stage s are
  begun_apart job.Go w s are b = are

  begun_count : (j : Job) (s : State) → (begun h j s).count ≡ s.count
  begun_count (job.Take r) s = refl
  begun_count (job.Reply v) s = refl
  begun_count job.Failed s = refl
  begun_count job.Refused s = refl
  begun_count (job.Granted ls) s = refl
  begun_count (job.Made k) s = by (s.handlers h).stage
    where
      by : (at : HandlerStage) → (made_at h at s).count ≡ s.count
      by (Awaits k a) = refl
      by Idle = refl
      by Runs = refl
      by (HasMade k) = refl
      by (Reserves ls mark) = refl
  begun_count job.Go s = refl

  -- ---- what is asked for is the same

  pub same_held : (s : State) → states.FreesNone h c s → (k : ℕ) → held (f s).rights h k ≡ held s.rights h k
  same_held s none k = ap (λ (b : Bool). (k == h) || b || is_handler h (s.rights.top k)) (states.same_holder h n safe closed spared c harm s none k)

  same_all : (ls : List ℕ) (s : State) → Are s → may_post_to_all h ls (f s) ≡ may_post_to_all h ls s
  same_all ls s are = ap (λ (P : ℕ → Bool). list_all P ls) (fun_ext (states.same_holder h n safe closed spared c harm s (states.frees_none h n safe closed spared c harm s are)))

  pub same_unheld : (w : Want) (s : State) → states.FreesNone h c s → posts_unheld h w (f s) ≡ posts_unheld h w s
  same_unheld want.Continue s none = refl
  same_unheld (want.Reserve ls) s none = refl
  same_unheld (want.Post r) s none = ap not (same_held s none r.target.handler)
  same_unheld (want.Ask r passing) s none = ap not (same_held s none r.target.handler)
  same_unheld (want.Create class procedure actuals passing) s none = refl
  same_unheld (want.Release ls) s none = refl
  same_unheld (want.Wait ls) s none = refl
  same_unheld (want.Done v ls refused) s none = refl
  same_unheld (want.Fail why) s none = refl

  same_may : (w : Want) (s : State) → Are s → may_ask h w (f s) ≡ may_ask h w s
  same_may want.Continue s are = refl
  same_may (want.Reserve ls) s are = refl
  same_may (want.Post r) s are = refl
  same_may (want.Ask r passing) s are = refl
  same_may (want.Create class procedure actuals passing) s are = refl
  same_may (want.Release ls) s are = same_all ls.items s are
  same_may (want.Wait ls) s are = same_all ls.items s are
  same_may (want.Done v ls refused) s are = same_all ls.items s are
  same_may (want.Fail why) s are = refl

  -- ---- what comes of it

  if_changed : (b : Bool) (s t u v : State) → u ≡ f s → v ≡ f t → (if b then u else v) ≡ f (if b then s else t)
  if_changed true s t u v p q = p
  if_changed false s t u v p q = q

  fails_so : (why : Cause) (s : State) → Are s → fail h why (f s) ≡ f (fail h why s)
  fails_so why s are = states.fails_changed h n safe closed spared c harm why s (states.frees_none h n safe closed spared c harm s are)

  -- whom the handler may post to isn't closed
  pub open_to : (s : State) → Are s → (k : ℕ) → is_handler h (s.rights.queue k) ≡ true → closed k ≡ false
  open_to s are k its = by (closed k) refl
    where
      by : (b : Bool) → closed k ≡ b → closed k ≡ false
      by true e = true_false (sym its ∙ are.not_its k (harm.shut k e))
      by false e = e

  awaits_changed : (b : Bool) (k : ℕ) (s : State) → awaits_if b h k (f s) ≡ f (awaits_if b h k s)
  awaits_changed true k s = states.stage_changed h n safe closed spared c harm (Awaits k false) s
  awaits_changed false k s = refl

  sends_changed : (k : ℕ) (r : Request) (passing waits : Bool) (s : State) → Are s → (is_callback h k s ≡ false → closed k ≡ false) →
      sends h k r passing waits (f s) ≡ f (sends h k r passing waits s)
  sends_changed k r passing waits s are opens =
      let p : Posted = posted (record r { is_waited = waits }) (passed_if passing h s.rights) in
      ap (λ q. passes passing h k (send (is_callback h k s) k (posted (record r { is_waited = waits }) q) (awaits_if waits h k (f s))))
      (states.passed_changed h n safe closed spared c harm passing s are)
      ∙ ap (λ (t : State). passes passing h k (send (is_callback h k s) k p t)) (awaits_changed waits k s)
      ∙ ap (passes passing h k) (states.sent_changed h n safe closed spared c harm (is_callback h k s) k p (awaits_if waits h k s) opens)
      ∙ states.passes_changed h n safe closed spared c harm passing k (send (is_callback h k s) k p (awaits_if waits h k s))

  asks_changed : (k : ℕ) (r : Request) (passing : Bool) (s : State) → Are s → (is_callback h k s ≡ false → closed k ≡ false) →
      asks_of h k r passing (f s) ≡ f (asks_of h k r passing s)
  asks_changed k r passing s are opens =
      let waits : Bool = passing || r.is_waited || is_callback h k s in
      ap (λ (o : Option _). if is_some o then fail h cause.SupplierFailed (f s)
      else (if not (is_callback h k s) && not (nat_lt (length ((f s).handlers k).queue) max_queue) then fail h cause.QueueFull (f s) else sends h k r passing waits (f s)))
      (harm.failure k (s.handlers k))
      ∙ ap (λ (b : Bool). if is_some (s.handlers k).failure then fail h cause.SupplierFailed (f s) else (if b then fail h cause.QueueFull (f s) else sends h k r passing waits (f s)))
      (room (is_callback h k s) opens)
      ∙ if_changed (is_some (s.handlers k).failure) (fail h cause.SupplierFailed s) (if full then fail h cause.QueueFull s else sends h k r passing waits s)
      (fail h cause.SupplierFailed (f s)) (if full then fail h cause.QueueFull (f s) else sends h k r passing waits (f s))
      (fails_so cause.SupplierFailed s are)
      (if_changed full (fail h cause.QueueFull s) (sends h k r passing waits s) (fail h cause.QueueFull (f s)) (sends h k r passing waits (f s))
      (fails_so cause.QueueFull s are) (sends_changed k r passing waits s are opens))
    where
      full : Bool
      full = not (is_callback h k s) && not (nat_lt (length (s.handlers k).queue) max_queue)

      room : (b : Bool) → (b ≡ false → closed k ≡ false) →
          (not b && not (nat_lt (length ((f s).handlers k).queue) max_queue)) ≡ (not b && not (nat_lt (length (s.handlers k).queue) max_queue))
      room true opens = refl
      room false opens = ap (λ (m : ℕ). not (nat_lt m max_queue)) (harm.room k (opens refl) (s.handlers k))

  creates_one_changed : (b : Bool) (k : ℕ) (r : Request) (s : State) → Are s → closed k ≡ false → creates_with b h k r (f s) ≡ f (creates_with b h k r s)
  creates_one_changed true k r s are opens =
      let p : Posted = posted r (passed_if true h s.rights) in
      ap (λ q. passes true h k (send false k (posted r q) (with_stage h (Awaits k true) (f s)))) (states.passed_changed h n safe closed spared c harm true s are)
      ∙ ap (λ (t : State). passes true h k (send false k p t)) (states.stage_changed h n safe closed spared c harm (Awaits k true) s)
      ∙ ap (passes true h k) (states.sent_changed h n safe closed spared c harm false k p (with_stage h (Awaits k true) s) (λ e. opens))
      ∙ states.passes_changed h n safe closed spared c harm true k (send false k p (with_stage h (Awaits k true) s))
  creates_one_changed false k r s are opens =
      ap (λ (t : State). release release_at.Creation (k ∷ []) (send false k (posted r None) t)) (states.stage_changed h n safe closed spared c harm (HasMade k) s)
      ∙ ap (release release_at.Creation (k ∷ [])) (states.sent_changed h n safe closed spared c harm false k (posted r None) (with_stage h (HasMade k) s) (λ e. opens))
      ∙ states.released_changed h n safe closed spared c harm release_at.Creation (k ∷ []) (send false k (posted r None) (with_stage h (HasMade k) s))

  more_apart : (s : State) → Are s → Are (with_handler s.count h s)
  more_apart s are = same_apart s (with_handler s.count h s) are (omega arith) (λ k e. let few = are.few k e in
      ap (λ (b : Bool). is_handler h (if b then Some h else s.rights.queue k)) (ne_eqb k s.count (λ i. omega (arith, few, i))))

  new_open : (s : State) → Are s → closed s.count ≡ false
  new_open s are = by (closed s.count) refl
    where
      by : (b : Bool) → closed s.count ≡ b → closed s.count ≡ false
      by true e = let few = are.few s.count (harm.shut s.count e) in absurd (omega (arith, few))
      by false e = e

  creates_changed : (most class : ℕ) (procedure : Option ℕ) (actuals : ArrayVec Value) (passing : Bool) (s : State) → Are s → n ≤ s.count →
      creates most h class procedure actuals passing (f s) ≡ f (creates most h class procedure actuals passing s)
  creates_changed most class procedure actuals passing s are more =
      let r : Request = creation h s.count class procedure actuals passing in
      let t : State = with_handler s.count h s in
      if_changed (nat_lt s.count most) (creates_with passing h s.count r t) (fail h cause.TooManyHandlers s)
      (creates_with passing h s.count r (with_handler s.count h (f s))) (fail h cause.TooManyHandlers (f s))
      (ap (creates_with passing h s.count r) (states.one_more_changed h n safe closed spared c harm s are more)
      ∙ creates_one_changed passing s.count r t (more_apart s are) (new_open s are))
      (fails_so cause.TooManyHandlers s are)

  -- it ends the request that it served last
  abbrev over_as : Service → List Service → Handler → Handler
  over_as e es x = record x { stage = e.over; services = es }

  over_ended : (e : Service) (es : List Service) (d : Bool) (x : Handler) → over_as e es (session_ended d x) ≡ session_ended d (over_as e es x)
  over_ended e es true x = refl
  over_ended e es false x = refl

  refused_ended : (waited : Bool) (e : Service) (es : List Service) (d : Bool) (x : Handler) →
      counted_refusal waited (over_as e es (session_ended d x)) ≡ session_ended d (counted_refusal waited (over_as e es x))
  refused_ended true e es true x = refl
  refused_ended true e es false x = refl
  refused_ended false e es true x = refl
  refused_ended false e es false x = refl

  service_changed : (b : Bool) (v : Option Value) (ls : List ℕ) (e : Service) (es : List Service) (s : State) → EndsBeside safe spared e →
      ends_service b h v ls e (record ((f s).handlers h) { stage = e.over; services = es }) (f s)
      ≡ f (ends_service b h v ls e (record (s.handlers h) { stage = e.over; services = es }) s)
  service_changed false v ls e es s none =
      let t : State = put h (record (s.handlers h) { stage = e.over; services = es }) s in
      ap (λ (u : State). finish e.posted (Replied v) (release release_at.Exit ls u))
      (states.own_put h n safe closed spared c harm (λ x. record x { stage = e.over; services = es }) (over_ended e es) s)
      ∙ ap (finish e.posted (Replied v)) (states.released_changed h n safe closed spared c harm release_at.Exit ls t)
      ∙ states.finished_changed h n safe closed spared c harm e.posted (Replied v) (release release_at.Exit ls t) none.returns none.answers
  service_changed true v ls e es s none =
      let waited : Bool = e.posted.request.is_waited in
      let t : State = put h (counted_refusal waited (record (s.handlers h) { stage = e.over; services = es })) s in
      ap (λ (u : State). finish e.posted Refused (release release_at.Refusal ls u))
      (states.own_put h n safe closed spared c harm (λ x. counted_refusal waited (record x { stage = e.over; services = es })) (refused_ended waited e es) s)
      ∙ ap (finish e.posted Refused) (states.released_changed h n safe closed spared c harm release_at.Refusal ls t)
      ∙ states.finished_changed h n safe closed spared c harm e.posted Refused (release release_at.Refusal ls t) none.returns none.answers

  ends_changed : (v : Option Value) (ls : List ℕ) (refused : Bool) (es : List Service) (s : State) → Are s →
      ((e : Service) (rest : List Service) → es ≡ e ∷ rest → EndsBeside safe spared e) → ends h v ls refused es (f s) ≡ f (ends h v ls refused es s)
  ends_changed v ls refused [] s are none = fails_so cause.BadCode s are
  ends_changed v ls refused (e ∷ es) s are none = service_changed refused v ls e es s (none e es refl)

  -- counts of what is the other's are the same
  same_mark : (ls : List ℕ) (s : State) → Are s → may_post_to_all h ls s ≡ true → ((k : ℕ) → safe k ≡ false → (x : Handler) → (c.at k x).sessions ≡ x.sessions) →
      mark_of (λ k. ((f s).handlers k).sessions) ls ≡ mark_of (λ k. (s.handlers k).sessions) ls
  same_mark [] s are its counts = refl
  same_mark (k ∷ ls) s are its counts =
      ap (λ (m : ℕ). let x : Marked = record { handler = k; sessions = m } in x ∷ mark_of (λ k. ((f s).handlers k).sessions) ls) (counts k (by (safe k) refl) (s.handlers k))
      ∙ ap (λ (ms : List Marked). let x : Marked = record { handler = k; sessions = (s.handlers k).sessions } in x ∷ ms)
      (same_mark ls s are (and_right (is_handler h (s.rights.queue k)) (may_post_to_all h ls s) its) counts)
    where
      by : (b : Bool) → safe k ≡ b → safe k ≡ false
      by true e = true_false (sym (and_left (is_handler h (s.rights.queue k)) (may_post_to_all h ls s) its) ∙ are.not_its k e)
      by false e = e

  module _ (counts : (k : ℕ) → safe k ≡ false → (x : Handler) → (c.at k x).sessions ≡ x.sessions) where
    waits_changed : (ls : List ℕ) (s : State) → Are s → may_post_to_all h ls s ≡ true → waits_again h ls (f s) ≡ f (waits_again h ls s)
    waits_changed ls s are its =
        let now : HandlerStage = Reserves (s.handlers h).entry (mark_of (λ k. (s.handlers k).sessions) ls) in
        ap (λ (m : List Marked). release release_at.FalseWaitCondition ls (with_stage h (Reserves ((f s).handlers h).entry m) (f s))) (same_mark ls s are its counts)
        ∙ ap (λ (es : List ℕ). release release_at.FalseWaitCondition ls (with_stage h (Reserves es (mark_of (λ k. (s.handlers k).sessions) ls)) (f s)))
        (states.entry_own h n safe closed spared c harm s)
        ∙ ap (release release_at.FalseWaitCondition ls) (states.stage_changed h n safe closed spared c harm now s)
        ∙ states.released_changed h n safe closed spared c harm release_at.FalseWaitCondition ls (with_stage h now s)

    entered_ended : (ls : List ℕ) (d : Bool) (x : Handler) → record (session_ended d x) { stage = Reserves ls []; entry = ls } ≡ session_ended d (record x { stage = Reserves ls []; entry = ls })
    entered_ended ls true x = refl
    entered_ended ls false x = refl

    done_changed : (most : ℕ) (w : Want) (s : State) → Are s → n ≤ s.count → posts_unheld h w s ≡ false → may_ask h w s ≡ true →
        ((v : Option Value) (ls : ArrayVec ℕ) (refused : Bool) → w ≡ want.Done v ls refused → (e : Service) (es : List Service) → (s.handlers h).services ≡ e ∷ es →
        EndsBeside safe spared e) →
        done most h w (f s) ≡ f (done most h w s)
    done_changed most want.Continue s are more held may none = refl
    done_changed most (want.Reserve ls) s are more held may none =
        states.own_put h n safe closed spared c harm (λ x. record x { stage = Reserves ls.items []; entry = ls.items }) (entered_ended ls.items) s
    done_changed most (want.Post r) s are more held may none =
        asks_changed r.target.handler r false s are (λ e. open_to s are r.target.handler
        (posts_to h r.target.handler (is_handler h (s.rights.queue r.target.handler)) (is_handler h (s.rights.top r.target.handler)) held (to_another h r (not r.is_waited) may) e))
    done_changed most (want.Ask r passing) s are more held may none =
        asks_changed r.target.handler r passing s are (λ e. open_to s are r.target.handler
        (posts_to h r.target.handler (is_handler h (s.rights.queue r.target.handler)) (is_handler h (s.rights.top r.target.handler)) held (to_another h r r.is_waited may) e))
    done_changed most (want.Create class procedure actuals passing) s are more held may none = creates_changed most class procedure actuals passing s are more
    done_changed most (want.Release ls) s are more held may none = states.released_changed h n safe closed spared c harm release_at.Leave ls.items s
    done_changed most (want.Wait ls) s are more held may none = waits_changed ls.items s are may
    done_changed most (want.Done v ls refused) s are more held may none =
        ap (λ (es : List Service). ends h v ls.items refused es (f s)) (states.services_own h n safe closed spared c harm s)
        ∙ ends_changed v ls.items refused (s.handlers h).services s are (none v ls refused refl)
    done_changed most (want.Fail why) s are more held may none = fails_so why s are

    if_done : (a b : Bool) (most : ℕ) (w : Want) (s : State) → Are s → (a ≡ false → b ≡ true → done most h w (f s) ≡ f (done most h w s)) →
        done_if a b most h w (f s) ≡ f (done_if a b most h w s)
    if_done true b most w s are comes = fails_so cause.NotHeld s are
    if_done false true most w s are comes = comes refl refl
    if_done false false most w s are comes = fails_so cause.BadCode s are

    -- The turn of the other handler does the same after the change as before.
    pub settled_changed : (most : ℕ) (j : Job) (w : Want) (s : State) → n ≤ s.count → Are s → Beside h safe spared j w s → settled most h j 1 w (f s) ≡ f (settled most h j 1 w s)
    settled_changed most j w s more are b =
        let t : State = begun h j s in
        let its : Are t = begun_apart j w s are b in
        let fits : Bool = fits_first (s.handlers h).stage j w in
        let same = begun_count j s in
        ap (λ (u : HandlerStage). done_if (posts_unheld h w (begun h j (f s))) (fits_first u j w && may_ask h w (begun h j (f s))) most h w (begun h j (f s)))
        (states.stage_own h n safe closed spared c harm s)
        ∙ ap (λ (u : State). done_if (posts_unheld h w u) (fits && may_ask h w u) most h w u) (begun_changed j s b.granted)
        ∙ ap (λ (a : Bool). done_if a (fits && may_ask h w (f t)) most h w (f t)) (same_unheld w t (states.frees_none h n safe closed spared c harm t its))
        ∙ ap (λ (a : Bool). done_if (posts_unheld h w t) (fits && a) most h w (f t)) (same_may w t its)
        ∙ if_done (posts_unheld h w t) (fits && may_ask h w t) most w t its
        (λ unheld e. done_changed most w t its (omega (arith, more, same)) unheld (and_right fits (may_ask h w t) e)
        (λ v ls refused is e0 es first. record {
          returns = b.returns (and_left fits (may_ask h w t) e) v ls refused is e0 es first;
          answers = b.answers (and_left fits (may_ask h w t) e) v ls refused is e0 es first;
        }))

  -- ---- it is told that a supplier has failed

  -- So does the turn of one that is told so, if nothing that is released was its own: it fails.
  pub told_changed : (most : ℕ) (w : Want) (s : State) → states.FreesNone h c s → settled most h job.Failed 1 w (f s) ≡ f (settled most h job.Failed 1 w s)
  told_changed most w s none =
      told_fails h most w (f s) ∙ ap (λ (b : Bool). fail h (told_cause b w) (f s)) (same_unheld w s none)
      ∙ states.fails_changed h n safe closed spared c harm (told_cause (posts_unheld h w s) w) s none
      ∙ ap f (sym (told_fails h most w s))
