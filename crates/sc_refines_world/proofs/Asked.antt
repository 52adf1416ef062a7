-- What settlements leave of the requests that stand at handlers, and of how many handlers there are.
use Rattle.std.proofs.Common.{◌≡◌, ◌≤◌, ◌+◌, ◌==◌, ◌&&◌, ◌||◌, not, ℕ, Bool, true, false, List, [], ◌∷◌, Option, Some, None, is_some, length, refl, ◌∙◌, arith}
use Rattle.std.proofs.lemmas.Bool.{ltb-true}
use Rattle.std.specs.List.{list_any}
use Rattle.std.specs.Prelude.{nat_lt, if◌then◌else◌}
use Rattle.arrayvec.specs.ArrayVec.{ArrayVec}
use Rattle.sc_lockpass.specs.Passing.{Passed}
use Rattle.sc_lockpass.specs.Rights.{is_among, is_handler}
use Rattle.sc_lockpass.specs.wait_conditions.Reservations.{ends_session, mark_of}
use Rattle.sc_lockpass.specs.declared.wait_conditions.session.Release.{Release}
use Rattle.sc_lockpass.specs.declared.wait_conditions.session.Release.TheVariants as release_at
use Rattle.sc_model.specs.declared.cause.Cause.{Cause}
use Rattle.sc_model.specs.declared.cause.Cause.TheVariants as cause
use Rattle.sc_model.specs.Limits.{max_queue}
use Rattle.sc_region.specs.declared.value.Value.{Value}
use Rattle.sc_region.specs.declared.job.Errand.{Errand}
use Rattle.sc_region.specs.declared.job.Errand.TheVariants.{Makes}
use Rattle.sc_region.specs.declared.job.Request.{Request}
use Rattle.sc_region.specs.declared.job.Job.{Job}
use Rattle.sc_region.specs.declared.job.Job.TheVariants as job
use Rattle.sc_region.specs.declared.job.Want.{Want}
use Rattle.sc_region.specs.declared.job.Want.TheVariants as want
use Rattle.sc_handler.specs.Handlers.{Posted, posted, Answer, Replied, Refused, HandlerStage, Idle, Runs, HasMade, Reserves, Awaits, Service, Handler, State, new_handler, put, with_stage}
use Rattle.sc_handler.specs.Changes.{answered, fallen, is_waited_by, placed, requests_at, session_ended, to_list, told, counted_refusal, takes, takes_answer, takes_callback, takes_next}
use Rattle.sc_handler.specs.Fits.{fits_turns}
use Rattle.sc_request.specs.Sessions.{answer_to, fail, finish, is_callback, passed_if, passes, release, return_rights, send, with_handler}
use Rattle.sc_request.specs.Settling.{asks_of, awaits_if, begun, creates, creates_with, creation, done, done_if, ends, ends_service, made_at, may_ask, posts_unheld, sends, settled, waits_again}
use Rattle.sc_machine_laws.specs.states.Points.{Each}
use Rattle.sc_machine_laws.proofs.states.Lists.{each_append}

-- ---- requests

module _ (P : Errand → Type 0) where
  abbrev AskFor : List Posted → Type 0
  AskFor ps = Each (λ (p : Posted). P p.request.errand) ps

  -- so it is of each request in the handler's queue, and of its callback
  abbrev pub Asks : Handler → Type 0
  Asks x = AskFor x.queue × AskFor (to_list x.callback)

  -- the same at each handler
  abbrev pub AllAsk : State → Type 0
  AllAsk s = (k : ℕ) → Asks (s.handlers k)

  -- and of the request that a turn asks for, if it does
  abbrev pub WantAsks : Want → Type 0
  WantAsks (want.Post r) = P r.errand
  WantAsks (want.Ask r passes) = P r.errand
  WantAsks (want.Create class procedure actuals passes) = P (Makes procedure)
  WantAsks want.Continue = Unit {0}
  WantAsks (want.Reserve ks) = Unit {0}
  WantAsks (want.Release ks) = Unit {0}
  WantAsks (want.Wait ks) = Unit {0}
  WantAsks (want.Done v ks refused) = Unit {0}
  WantAsks (want.Fail why) = Unit {0}

  ended_asks : (b : Bool) (x : Handler) → Asks x → Asks (session_ended b x)
  ended_asks false x is = is
  ended_asks true x is = is

  put_asks : (h : ℕ) (x : Handler) (s : State) → AllAsk s → Asks x → AllAsk (put h x s)
  put_asks h x s all is k = by (k == h)
    where
      by : (b : Bool) → Asks (if b then x else s.handlers k)
      by true = is
      by false = all k

  release_asks : (how : Release) (ks : List ℕ) (s : State) → AllAsk s → AllAsk (release how ks s)
  release_asks how ks s all k = ended_asks (ends_session how && is_among k ks) (s.handlers k) (all k)

  answer_asks : (b : Bool) (o : Option ℕ) (a : Answer) (s : State) → AllAsk s → AllAsk (answer_to b o a s)
  answer_asks true (Some p) a s all = put_asks p (answered a (s.handlers p)) s all (all p)
  answer_asks true None a s all = all
  answer_asks false o a s all = all

  returned_asks : (o : Option Passed) (s : State) → AllAsk s → AllAsk (return_rights o s)
  returned_asks None s all = all
  returned_asks (Some p) s all = all

  finish_asks : (p : Posted) (a : Answer) (s : State) → AllAsk s → AllAsk (finish p a s)
  finish_asks p a s all = answer_asks p.request.is_waited p.request.poster a (return_rights p.passed s) (returned_asks p.passed s all)

  told_asks : (b : Bool) (x : Handler) → Asks x → Asks (told b x)
  told_asks false x is = is
  told_asks true x is = is

  fail_asks : (h : ℕ) (why : Cause) (s : State) → AllAsk s → AllAsk (fail h why s)
  fail_asks h why s all k = by (ends_session release_at.Failure && is_handler h (s.rights.queue k)) (k == h)
    where
      by : (a b : Bool) → Asks (session_ended a (if b then fallen why (s.handlers k) else told (list_any (is_waited_by k) (requests_at (s.handlers h))) (s.handlers k)))
      by a true = ended_asks a (fallen why (s.handlers k)) (tt, tt)
      by a false =
          let t = list_any (is_waited_by k) (requests_at (s.handlers h)) in
          ended_asks a (told t (s.handlers k)) (told_asks t (s.handlers k) (all k))

  placed_asks : (b : Bool) (p : Posted) (x : Handler) → P p.request.errand → Asks x → Asks (placed b p x)
  placed_asks true p x one is = (is.0, (one, tt))
  placed_asks false p x one is = (each_append (λ (p : Posted). P p.request.errand) x.queue (p ∷ []) is.0 (one, tt), is.1)

  send_asks : (b : Bool) (k : ℕ) (p : Posted) (s : State) → P p.request.errand → AllAsk s → AllAsk (send b k p s)
  send_asks b k p s one all = put_asks k (placed b p (s.handlers k)) s all (placed_asks b p (s.handlers k) one (all k))

  passes_asks : (b : Bool) (h k : ℕ) (s : State) → AllAsk s → AllAsk (passes b h k s)
  passes_asks false h k s all = all
  passes_asks true h k s all = all

  stage_asks : (h : ℕ) (stage : HandlerStage) (s : State) → AllAsk s → AllAsk (with_stage h stage s)
  stage_asks h stage s all = put_asks h (record (s.handlers h) { stage = stage }) s all (all h)

  waiting_asks : (b : Bool) (h k : ℕ) (s : State) → AllAsk s → AllAsk (awaits_if b h k s)
  waiting_asks false h k s all = all
  waiting_asks true h k s all = stage_asks h (Awaits k false) s all

  sends_asks : (h k : ℕ) (r : Request) (passing waits : Bool) (s : State) → P r.errand → AllAsk s → AllAsk (sends h k r passing waits s)
  sends_asks h k r passing waits s one all =
      let p : Posted = posted (record r { is_waited = waits }) (passed_if passing h s.rights) in
      passes_asks passing h k (send (is_callback h k s) k p (awaits_if waits h k s))
      (send_asks (is_callback h k s) k p (awaits_if waits h k s) one (waiting_asks waits h k s all))

  asks_asks : (h k : ℕ) (r : Request) (passing : Bool) (s : State) → P r.errand → AllAsk s → AllAsk (asks_of h k r passing s)
  asks_asks h k r passing s one all = by (is_some (s.handlers k).failure) (not (is_callback h k s) && not (nat_lt (length (s.handlers k).queue) max_queue))
    where
      by : (a b : Bool) → AllAsk (if a then fail h cause.SupplierFailed s else if b then fail h cause.QueueFull s
          else sends h k r passing (passing || r.is_waited || is_callback h k s) s)
      by true b = fail_asks h cause.SupplierFailed s all
      by false true = fail_asks h cause.QueueFull s all
      by false false = sends_asks h k r passing (passing || r.is_waited || is_callback h k s) s one all

  handler_asks : (k h : ℕ) (s : State) → AllAsk s → AllAsk (with_handler k h s)
  handler_asks k h s all j = by (j == k)
    where
      by : (b : Bool) → Asks (if b then new_handler else s.handlers j)
      by true = (tt, tt)
      by false = all j

  creates_with_asks : (b : Bool) (h k : ℕ) (r : Request) (s : State) → P r.errand → AllAsk s → AllAsk (creates_with b h k r s)
  creates_with_asks true h k r s one all =
      passes_asks true h k (send false k (posted r (passed_if true h s.rights)) (with_stage h (Awaits k true) s))
      (send_asks false k (posted r (passed_if true h s.rights)) (with_stage h (Awaits k true) s) one (stage_asks h (Awaits k true) s all))
  creates_with_asks false h k r s one all =
      release_asks release_at.Creation (k ∷ []) (send false k (posted r None) (with_stage h (HasMade k) s))
      (send_asks false k (posted r None) (with_stage h (HasMade k) s) one (stage_asks h (HasMade k) s all))

  creates_asks : (most h class : ℕ) (procedure : Option ℕ) (us : ArrayVec Value) (passing : Bool) (s : State) → P (Makes procedure) → AllAsk s →
      AllAsk (creates most h class procedure us passing s)
  creates_asks most h class procedure us passing s one all = by (nat_lt s.count most)
    where
      by : (b : Bool) → AllAsk (if b then creates_with passing h s.count (creation h s.count class procedure us passing) (with_handler s.count h s)
          else fail h cause.TooManyHandlers s)
      by true = creates_with_asks passing h s.count (creation h s.count class procedure us passing) (with_handler s.count h s) one (handler_asks s.count h s all)
      by false = fail_asks h cause.TooManyHandlers s all

  again_asks : (h : ℕ) (ks : List ℕ) (s : State) → AllAsk s → AllAsk (waits_again h ks s)
  again_asks h ks s all =
      let stage : HandlerStage = Reserves (s.handlers h).entry (mark_of (λ k. (s.handlers k).sessions) ks) in
      release_asks release_at.FalseWaitCondition ks (with_stage h stage s) (stage_asks h stage s all)

  refusal_asks : (b : Bool) (x : Handler) → Asks x → Asks (counted_refusal b x)
  refusal_asks true x is = is
  refusal_asks false x is = is

  service_asks : (b : Bool) (h : ℕ) (v : Option Value) (ks : List ℕ) (e : Service) (x : Handler) (s : State) → AllAsk s → Asks x → AllAsk (ends_service b h v ks e x s)
  service_asks false h v ks e x s all is =
      finish_asks e.posted (Replied v) (release release_at.Exit ks (put h x s)) (release_asks release_at.Exit ks (put h x s) (put_asks h x s all is))
  service_asks true h v ks e x s all is =
      let y : Handler = counted_refusal e.posted.request.is_waited x in
      finish_asks e.posted Refused (release release_at.Refusal ks (put h y s))
      (release_asks release_at.Refusal ks (put h y s) (put_asks h y s all (refusal_asks e.posted.request.is_waited x is)))

  ends_asks : (h : ℕ) (v : Option Value) (ks : List ℕ) (refused : Bool) (es : List Service) (s : State) → AllAsk s → AllAsk (ends h v ks refused es s)
  ends_asks h v ks refused [] s all = fail_asks h cause.BadCode s all
  ends_asks h v ks refused (e ∷ es) s all = service_asks refused h v ks e (record (s.handlers h) { stage = e.over; services = es }) s all (all h)

  done_asks : (most h : ℕ) (w : Want) (s : State) → WantAsks w → AllAsk s → AllAsk (done most h w s)
  done_asks most h want.Continue s one all = all
  done_asks most h (want.Reserve ks) s one all = put_asks h (record (s.handlers h) { stage = Reserves ks.items []; entry = ks.items }) s all (all h)
  done_asks most h (want.Post r) s one all = asks_asks h r.target.handler r false s one all
  done_asks most h (want.Ask r passes) s one all = asks_asks h r.target.handler r passes s one all
  done_asks most h (want.Create class procedure us passes) s one all = creates_asks most h class procedure us passes s one all
  done_asks most h (want.Release ks) s one all = release_asks release_at.Leave ks.items s all
  done_asks most h (want.Wait ks) s one all = again_asks h ks.items s all
  done_asks most h (want.Done v ks refused) s one all = ends_asks h v ks.items refused (s.handlers h).services s all
  done_asks most h (want.Fail why) s one all = fail_asks h why s all

  done_if_asks : (a b : Bool) (most h : ℕ) (w : Want) (s : State) → WantAsks w → AllAsk s → AllAsk (done_if a b most h w s)
  done_if_asks true b most h w s one all = fail_asks h cause.NotHeld s all
  done_if_asks false true most h w s one all = done_asks most h w s one all
  done_if_asks false false most h w s one all = fail_asks h cause.BadCode s all

  next_asks : (ps : List Posted) (x : Handler) → AskFor ps → Asks x → Asks (takes_next ps x)
  next_asks [] x these is = is
  next_asks (p ∷ ps) x these is = (these.1, is.1)

  callback_asks : (o : Option Posted) (x : Handler) → Asks x → Asks (takes_callback o x)
  callback_asks None x is = is
  callback_asks (Some p) x is = (is.0, tt)

  takes_asks : (stage : HandlerStage) (x : Handler) → Asks x → Asks (takes stage x)
  takes_asks Idle x is = next_asks x.queue x is.0 is
  takes_asks (Awaits k is_creation) x is = callback_asks x.callback x is
  takes_asks Runs x is = is
  takes_asks (HasMade k) x is = is
  takes_asks (Reserves ks mark) x is = is

  made_asks : (h : ℕ) (stage : HandlerStage) (s : State) → AllAsk s → AllAsk (made_at h stage s)
  made_asks h (Awaits k is_creation) s all =
      release_asks release_at.Creation (k ∷ []) (put h (takes_answer (s.handlers h)) s) (put_asks h (takes_answer (s.handlers h)) s all (all h))
  made_asks h Idle s all = stage_asks h Runs s all
  made_asks h Runs s all = stage_asks h Runs s all
  made_asks h (HasMade k) s all = stage_asks h Runs s all
  made_asks h (Reserves ks mark) s all = stage_asks h Runs s all

  begun_asks : (h : ℕ) (j : Job) (s : State) → AllAsk s → AllAsk (begun h j s)
  begun_asks h (job.Take r) s all = put_asks h (takes (s.handlers h).stage (s.handlers h)) s all (takes_asks (s.handlers h).stage (s.handlers h) (all h))
  begun_asks h (job.Reply v) s all = put_asks h (takes_answer (s.handlers h)) s all (all h)
  begun_asks h job.Failed s all = all
  begun_asks h job.Refused s all = all
  begun_asks h (job.Granted ks) s all = stage_asks h Runs s all
  begun_asks h (job.Made k) s all = made_asks h (s.handlers h).stage s all
  begun_asks h job.Go s all = all

  -- so it is after a settlement, if it is of the request that is asked for
  pub settled_asks : (most h : ℕ) (j : Job) (turns : ℕ) (w : Want) (s : State) → WantAsks w → AllAsk s → AllAsk (settled most h j turns w s)
  settled_asks most h j turns w s one all =
      done_if_asks (posts_unheld h w (begun h j s)) (fits_turns turns (s.handlers h).stage j w && may_ask h w (begun h j s)) most h w (begun h j s) one
      (begun_asks h j s all)

-- ---- how many handlers there are

-- none goes, and there are no more than there may be
abbrev pub Counts : ℕ → State → State → Type 0
Counts most s t = (s.count ≤ t.count) × (s.count ≤ most → t.count ≤ most)

same_count : (most : ℕ) (s t : State) → t.count ≡ s.count → Counts most s t
same_count most s t e = (omega (arith, e), λ few. omega (arith, e, few))

answer_count : (b : Bool) (o : Option ℕ) (a : Answer) (s : State) → (answer_to b o a s).count ≡ s.count
answer_count true (Some p) a s = refl
answer_count true None a s = refl
answer_count false o a s = refl

returned_count : (o : Option Passed) (s : State) → (return_rights o s).count ≡ s.count
returned_count None s = refl
returned_count (Some p) s = refl

finish_count : (p : Posted) (a : Answer) (s : State) → (finish p a s).count ≡ s.count
finish_count p a s = answer_count p.request.is_waited p.request.poster a (return_rights p.passed s) ∙ returned_count p.passed s

passes_count : (b : Bool) (h k : ℕ) (s : State) → (passes b h k s).count ≡ s.count
passes_count false h k s = refl
passes_count true h k s = refl

waiting_count : (b : Bool) (h k : ℕ) (s : State) → (awaits_if b h k s).count ≡ s.count
waiting_count false h k s = refl
waiting_count true h k s = refl

asks_count : (h k : ℕ) (r : Request) (passing : Bool) (s : State) → (asks_of h k r passing s).count ≡ s.count
asks_count h k r passing s = by (is_some (s.handlers k).failure) (not (is_callback h k s) && not (nat_lt (length (s.handlers k).queue) max_queue))
  where
    sent : (waits : Bool) → (sends h k r passing waits s).count ≡ s.count
    sent waits = passes_count passing h k _ ∙ waiting_count waits h k s

    by : (a b : Bool) → (if a then fail h cause.SupplierFailed s else if b then fail h cause.QueueFull s
        else sends h k r passing (passing || r.is_waited || is_callback h k s) s).count ≡ s.count
    by true b = refl
    by false true = refl
    by false false = sent (passing || r.is_waited || is_callback h k s)

created_count : (b : Bool) (h k : ℕ) (r : Request) (s : State) → (creates_with b h k r s).count ≡ s.count
created_count true h k r s = refl
created_count false h k r s = refl

creates_counts : (most h class : ℕ) (procedure : Option ℕ) (us : ArrayVec Value) (passing : Bool) (s : State) → Counts most s (creates most h class procedure us passing s)
creates_counts most h class procedure us passing s = by (nat_lt s.count most) refl
  where
    one : State
    one = creates_with passing h s.count (creation h s.count class procedure us passing) (with_handler s.count h s)

    by : (b : Bool) → nat_lt s.count most ≡ b → Counts most s (if b then one else fail h cause.TooManyHandlers s)
    by true e =
        let more : one.count ≡ s.count + 1 = created_count passing h s.count (creation h s.count class procedure us passing) (with_handler s.count h s) in
        let room = ltb-true s.count most e in
        (omega (arith, more), λ few. omega (arith, more, room))
    by false e = same_count most s (fail h cause.TooManyHandlers s) refl

ends_count : (h : ℕ) (v : Option Value) (ks : List ℕ) (refused : Bool) (es : List Service) (s : State) → (ends h v ks refused es s).count ≡ s.count
ends_count h v ks refused [] s = refl
ends_count h v ks false (e ∷ es) s = finish_count e.posted (Replied v) _
ends_count h v ks true (e ∷ es) s = finish_count e.posted Refused _

done_counts : (most h : ℕ) (w : Want) (s : State) → Counts most s (done most h w s)
done_counts most h want.Continue s = same_count most s s refl
done_counts most h (want.Reserve ks) s = same_count most s (done most h (want.Reserve ks) s) refl
done_counts most h (want.Post r) s = same_count most s (done most h (want.Post r) s) (asks_count h r.target.handler r false s)
done_counts most h (want.Ask r passes) s = same_count most s (done most h (want.Ask r passes) s) (asks_count h r.target.handler r passes s)
done_counts most h (want.Create class procedure us passes) s = creates_counts most h class procedure us passes s
done_counts most h (want.Release ks) s = same_count most s (done most h (want.Release ks) s) refl
done_counts most h (want.Wait ks) s = same_count most s (done most h (want.Wait ks) s) refl
done_counts most h (want.Done v ks refused) s = same_count most s (done most h (want.Done v ks refused) s) (ends_count h v ks.items refused (s.handlers h).services s)
done_counts most h (want.Fail why) s = same_count most s (done most h (want.Fail why) s) refl

done_if_counts : (a b : Bool) (most h : ℕ) (w : Want) (s : State) → Counts most s (done_if a b most h w s)
done_if_counts true b most h w s = same_count most s (fail h cause.NotHeld s) refl
done_if_counts false true most h w s = done_counts most h w s
done_if_counts false false most h w s = same_count most s (fail h cause.BadCode s) refl

made_count : (h : ℕ) (stage : HandlerStage) (s : State) → (made_at h stage s).count ≡ s.count
made_count h (Awaits k is_creation) s = refl
made_count h Idle s = refl
made_count h Runs s = refl
made_count h (HasMade k) s = refl
made_count h (Reserves ks mark) s = refl

pub begun_count : (h : ℕ) (j : Job) (s : State) → (begun h j s).count ≡ s.count
begun_count h (job.Take r) s = refl
begun_count h (job.Reply v) s = refl
begun_count h job.Failed s = refl
begun_count h job.Refused s = refl
begun_count h (job.Granted ks) s = refl
begun_count h (job.Made k) s = made_count h (s.handlers h).stage s
begun_count h job.Go s = refl

pub settled_counts : (most h : ℕ) (j : Job) (turns : ℕ) (w : Want) (s : State) → Counts most s (settled most h j turns w s)
settled_counts most h j turns w s =
    let t : State = begun h j s in
    let same : t.count ≡ s.count = begun_count h j s in
    let u : State = done_if (posts_unheld h w t) (fits_turns turns (s.handlers h).stage j w && may_ask h w t) most h w t in
    let c : Counts most t u = done_if_counts (posts_unheld h w t) (fits_turns turns (s.handlers h).stage j w && may_ask h w t) most h w t in
    let least : t.count ≤ u.count = c.0 in
    (omega (arith, least, same), λ few. c.1 (omega (arith, few, same)))
