-- Who reserves: a settlement lets no other handler than the settled one come to a reserve step.
use Rattle.std.proofs.Common.{◌≡◌, ◌==◌, ◌&&◌, ℕ, Bool, true, false, List, [], ◌∷◌, Option, Some, None, refl, sym, ap, ◌∙◌, inl, inr, slice_set}
use Rattle.std.proofs.lemmas.Bool.{cases_Bool, cases_eq, eq-eqb, ne_eqb}
use Rattle.std.specs.Prelude.{nat_lt, slice_get, if◌then◌else◌}
use Rattle.std.specs.List.{list_any}
use Rattle.arrayvec.specs.ArrayVec.{ArrayVec}
use Rattle.sc_lockpass.specs.Rights.{is_among, is_handler}
use Rattle.sc_lockpass.specs.Tables.{is_member}
use Rattle.sc_lockpass.specs.wait_conditions.Reservations.{ends_session}
use Rattle.sc_lockpass.specs.declared.wait_conditions.session.Release.{Release}
use Rattle.sc_lockpass.specs.declared.wait_conditions.session.Release.TheVariants as release_at
use Rattle.sc_model.specs.declared.cause.Cause.{Cause}
use Rattle.sc_model.specs.declared.cause.Cause.TheVariants as cause
use Rattle.sc_region.specs.declared.value.Value.{Value}
use Rattle.sc_region.specs.declared.job.Request.{Request}
use Rattle.sc_region.specs.declared.job.Job.{Job}
use Rattle.sc_region.specs.declared.job.Want.{Want}
use Rattle.sc_region.specs.declared.job.Want.TheVariants as want
use Rattle.sc_handler.specs.declared.handler.Handler as coded
use Rattle.sc_handler.specs.Handlers.{Posted, posted, Answer, Replied, Refused, HandlerStage, HasMade, Awaits, Service, Handler, State, put, with_stage, is_reserving}
use Rattle.sc_handler.specs.Changes.{session_ended, placed, answered, requests_at, is_waited_by, told, counted_refusal}
use Rattle.sc_handler.specs.Fits.{fits_turns}
use Rattle.sc_request.specs.Sessions.{release, passed_if, send, is_callback, with_handler, answer_to, return_rights, finish, fail}
use Rattle.sc_request.specs.Settling.{begun, awaits_if, sends, asks, creation, creates_with, creates, ends, done, posts_unheld, may_ask, done_if, settled}
use Rattle.sc_request.specs.Tables.{handler_at}
use Rattle.sc_request.specs.Candidates.{AreReserving}
use Rattle.sc_request.proofs.Outs.{same_handler, with_job}
use Rattle.sc_request.proofs.Untouched.{asks_so, awaited_other, begun_other, either, passed_on, put_other, returned_rights}

-- ---- stages, and whether a handler has failed

abbrev pub stage_and_failure : Handler → HandlerStage × Option Cause
stage_and_failure x = (x.stage, x.failure)

put_alike : (q k : ℕ) (x : Handler) (s : State) → stage_and_failure x ≡ stage_and_failure (s.handlers q) → stage_and_failure ((put q x s).handlers k) ≡ stage_and_failure (s.handlers k)
put_alike q k x s e = elim (cases_eq k q) [
  | inl is ↦ rw (eq-eqb k q is) (e ∙ ap (λ i. stage_and_failure (s.handlers i)) (sym is))
  | inr apart ↦ rw (ne_eqb k q apart) refl
]

placed_alike : (b : Bool) (p : Posted) (x : Handler) → stage_and_failure (placed b p x) ≡ stage_and_failure x
placed_alike true p x = refl
placed_alike false p x = refl

ended_alike : (b : Bool) (x : Handler) → stage_and_failure (session_ended b x) ≡ stage_and_failure x
ended_alike true x = refl
ended_alike false x = refl

told_alike : (b : Bool) (x : Handler) → stage_and_failure (told b x) ≡ stage_and_failure x
told_alike true x = refl
told_alike false x = refl

pub released_alike : (how : Release) (ks : List ℕ) (s : State) (k : ℕ) → stage_and_failure ((release how ks s).handlers k) ≡ stage_and_failure (s.handlers k)
released_alike how ks s k = ended_alike (ends_session how && is_among k ks) (s.handlers k)

-- where the handler's next step is a reserve step in the second state, it is in the first
abbrev Reserved : ℕ → State → State → Type 0
Reserved k s t = is_reserving (t.handlers k).stage ≡ true → is_reserving (s.handlers k).stage ≡ true

by_stage : (k : ℕ) (s t : State) → stage_and_failure (t.handlers k) ≡ stage_and_failure (s.handlers k) → Reserved k s t
by_stage k s t e is = ap (λ (p : HandlerStage × Option Cause). is_reserving p.0) (sym e) ∙ is

pub fail_alike : (h k : ℕ) (why : Cause) (s : State) → (k == h) ≡ false → stage_and_failure ((fail h why s).handlers k) ≡ stage_and_failure (s.handlers k)
fail_alike h k why s apart =
    let b = list_any (is_waited_by k) (requests_at (s.handlers h)) in
    rw apart (ended_alike (is_handler h (s.rights.queue k)) (told b (s.handlers k)) ∙ told_alike b (s.handlers k))

fail_reserved : (h k : ℕ) (why : Cause) (s : State) → (k == h) ≡ false → Reserved k s (fail h why s)
fail_reserved h k why s apart = by_stage k s (fail h why s) (fail_alike h k why s apart)

-- ---- requests

pub sends_alike : (h k : ℕ) (r : Request) (passing waits : Bool) (s : State) → (k == h) ≡ false →
    stage_and_failure ((sends h r.target.handler r passing waits s).handlers k) ≡ stage_and_failure (s.handlers k)
sends_alike h k r passing waits s apart =
    let i = r.target.handler in
    let t = awaits_if waits h i s in
    let b = is_callback h i s in
    let p = posted (record r { is_waited = waits }) (passed_if passing h s.rights) in
    ap stage_and_failure (passed_on passing h i (send b i p t) k) ∙ put_alike i k (placed b p (t.handlers i)) t (placed_alike b p (t.handlers i))
    ∙ ap stage_and_failure (awaited_other waits h i k s apart)

asks_reserved : (h k : ℕ) (r : Request) (passing : Bool) (s : State) → (k == h) ≡ false → Reserved k s (asks h r passing s)
asks_reserved h k r passing s apart =
    asks_so (Reserved k s) h r passing s (λ why. fail_reserved h k why s apart)
    (λ waits. by_stage k s (sends h r.target.handler r passing waits s) (sends_alike h k r passing waits s apart))

-- ---- a handler is made

made_reserved : (m h k : ℕ) (s : State) → Reserved k s (with_handler m h s)
made_reserved m h k s is = elim (cases_Bool (k == m)) [
  | inl same ↦ let never = rw same at is in cc
  | inr apart ↦ rw apart at is
]

pub creates_alike : (passing : Bool) (h m k : ℕ) (r : Request) (s : State) → (k == h) ≡ false →
    stage_and_failure ((creates_with passing h m r s).handlers k) ≡ stage_and_failure (s.handlers k)
creates_alike true h m k r s apart =
    let t = with_stage h (Awaits m true) s in
    put_alike m k (placed false (posted r (passed_if true h s.rights)) (t.handlers m)) t refl ∙ ap stage_and_failure (put_other h k _ s apart)
creates_alike false h m k r s apart =
    let t = with_stage h (HasMade m) s in
    released_alike release_at.Creation (m ∷ []) (send false m (posted r None) t) k
    ∙ put_alike m k (placed false (posted r None) (t.handlers m)) t refl ∙ ap stage_and_failure (put_other h k _ s apart)

creates_reserved : (most h k class : ℕ) (procedure : Option ℕ) (actuals : ArrayVec Value) (passing : Bool) (s : State) → (k == h) ≡ false →
    Reserved k s (creates most h class procedure actuals passing s)
creates_reserved most h k class procedure actuals passing s apart =
    let t = with_handler s.count h s in
    let r = creation h s.count class procedure actuals passing in
    either (Reserved k s) (nat_lt s.count most) _ _
    (λ is. made_reserved s.count h k s (by_stage k t (creates_with passing h s.count r t) (creates_alike passing h s.count k r t apart) is))
    (fail_reserved h k cause.TooManyHandlers s apart)

-- ---- a request ends

answered_alike : (is_waited : Bool) (poster : Option ℕ) (a : Answer) (k : ℕ) (s : State) → stage_and_failure ((answer_to is_waited poster a s).handlers k) ≡ stage_and_failure (s.handlers k)
answered_alike true (Some p) a k s = put_alike p k (answered a (s.handlers p)) s refl
answered_alike true None a k s = refl
answered_alike false poster a k s = refl

pub finished_alike : (p : Posted) (a : Answer) (k : ℕ) (s : State) → stage_and_failure ((finish p a s).handlers k) ≡ stage_and_failure (s.handlers k)
finished_alike p a k s =
    answered_alike p.request.is_waited p.request.poster a k (return_rights p.passed s) ∙ ap stage_and_failure (returned_rights p.passed s k)

ends_reserved : (h k : ℕ) (v : Option Value) (ks : List ℕ) (refused : Bool) (es : List Service) (s : State) → (k == h) ≡ false →
    Reserved k s (ends h v ks refused es s)
ends_reserved h k v ks refused [] s apart = fail_reserved h k cause.BadCode s apart
ends_reserved h k v ks false (e ∷ es) s apart =
    let t = put h (record (s.handlers h) { stage = e.over; services = es }) s in
    by_stage k s (ends h v ks false (e ∷ es) s) (finished_alike e.posted (Replied v) k (release release_at.Exit ks t)
    ∙ released_alike release_at.Exit ks t k ∙ ap stage_and_failure (put_other h k _ s apart))
ends_reserved h k v ks true (e ∷ es) s apart =
    let t = put h (counted_refusal e.posted.request.is_waited (record (s.handlers h) { stage = e.over; services = es })) s in
    by_stage k s (ends h v ks true (e ∷ es) s) (finished_alike e.posted Refused k (release release_at.Refusal ks t)
    ∙ released_alike release_at.Refusal ks t k ∙ ap stage_and_failure (put_other h k _ s apart))

-- ---- what the last turn asks

done_reserved : (most h k : ℕ) (w : Want) (s : State) → (k == h) ≡ false → Reserved k s (done most h w s)
done_reserved most h k want.Continue s apart = λ is. is
done_reserved most h k (want.Reserve ks) s apart = by_stage k s (done most h (want.Reserve ks) s) (ap stage_and_failure (put_other h k _ s apart))
done_reserved most h k (want.Post r) s apart = asks_reserved h k r false s apart
done_reserved most h k (want.Ask r passing) s apart = asks_reserved h k r passing s apart
done_reserved most h k (want.Create class procedure actuals passing) s apart = creates_reserved most h k class procedure actuals passing s apart
done_reserved most h k (want.Release ks) s apart = by_stage k s (release release_at.Leave ks.items s) (released_alike release_at.Leave ks.items s k)
done_reserved most h k (want.Wait ks) s apart = by_stage k s (done most h (want.Wait ks) s) (ap stage_and_failure (put_other h k _ s apart))
done_reserved most h k (want.Done v ks refused) s apart = ends_reserved h k v ks.items refused (s.handlers h).services s apart
done_reserved most h k (want.Fail why) s apart = fail_reserved h k why s apart

asked_reserved : (unheld fits : Bool) (most h k : ℕ) (w : Want) (s : State) → (k == h) ≡ false → Reserved k s (done_if unheld fits most h w s)
asked_reserved true fits most h k w s apart = fail_reserved h k cause.NotHeld s apart
asked_reserved false true most h k w s apart = done_reserved most h k w s apart
asked_reserved false false most h k w s apart = fail_reserved h k cause.BadCode s apart

settled_reserved : (most h : ℕ) (j : Job) (turns : ℕ) (w : Want) (s : State) (k : ℕ) → (k == h) ≡ false → Reserved k s (settled most h j turns w s)
settled_reserved most h j turns w s k apart is =
    let t = begun h j s in
    by_stage k s t (ap stage_and_failure (begun_other h k j s apart))
    (asked_reserved (posts_unheld h w t) (fits_turns turns (s.handlers h).stage j w && may_ask h w t) most h k w t apart is)

-- ---- the set of those who reserve

pub settled_reserving : (most h : ℕ) (j : Job) (turns : ℕ) (w : Want) (s : State) (words later : List ℕ) → AreReserving words s.handlers →
    ((k : ℕ) → is_member later k ≡ (if k == h then is_reserving ((settled most h j turns w s).handlers h).stage else is_member words k)) →
    AreReserving later (settled most h j turns w s).handlers
settled_reserving most h j turns w s words later all l k is = elim (cases_eq k h) [
  | inl same ↦ l k ∙ rw (eq-eqb k h same) (ap (λ i. is_reserving ((settled most h j turns w s).handlers i).stage) (sym same) ∙ is)
  | inr apart ↦ l k ∙ rw (ne_eqb k h apart) (all k (settled_reserved most h j turns w s k (ne_eqb k h apart) is))
]

-- whoever is out with whatever
pub same_reserving : (words : List ℕ) (xs : List coded.Handler) (sessions : List ℕ) (h : ℕ) (x : coded.Handler) (o : Option Job) → slice_get xs h ≡ Some x →
    AreReserving words (handler_at xs sessions) → AreReserving words (handler_at (slice_set xs h (with_job o x)) sessions)
same_reserving words xs sessions h x o e all k is = all k (ap (λ (y : Handler). is_reserving y.stage) (sym (same_handler xs sessions h k x o e)) ∙ is)
