-- How many handlers there are after a settlement.
use Rattle.std.proofs.Common.{◌≡◌, ◌≤◌, ◌+◌, ◌&&◌, ◌||◌, not, ℕ, Bool, true, false, List, [], ◌∷◌, Option, Some, None, length, refl, ◌∙◌, arith}
use Rattle.std.proofs.lemmas.Bool.{ltb-true}
use Rattle.std.specs.Prelude.{is_some, nat_lt, if◌then◌else◌}
use Rattle.arrayvec.specs.ArrayVec.{ArrayVec}
use Rattle.sc_lockpass.specs.Passing.{Passed}
use Rattle.sc_model.specs.declared.cause.Cause.TheVariants as cause
use Rattle.sc_model.specs.Limits.{max_queue}
use Rattle.sc_region.specs.declared.value.Value.{Value}
use Rattle.sc_region.specs.declared.job.Request.{Request}
use Rattle.sc_region.specs.declared.job.Job.{Job}
use Rattle.sc_region.specs.declared.job.Job.TheVariants as job
use Rattle.sc_region.specs.declared.job.Want.{Want}
use Rattle.sc_region.specs.declared.job.Want.TheVariants as want
use Rattle.sc_handler.specs.Handlers.{Posted, Answer, Replied, Refused, HandlerStage, Idle, Runs, HasMade, Reserves, Awaits, Service, State}
use Rattle.sc_handler.specs.Fits.{fits_turns}
use Rattle.sc_request.specs.Logs.{picked}
use Rattle.sc_request.specs.Sessions.{answer_to, fail, finish, is_callback, passes, return_rights, with_handler}
use Rattle.sc_request.specs.Settling.{asks_of, awaits_if, begun, creates, creates_with, creation, done, done_if, ends, made_at, may_ask, posts_unheld, sends}
use Rattle.sc_counts.specs.Laws.{SettlementsStayFew}

-- ---- other handlers

answer_count : (b : Bool) (o : Option ℕ) (a : Answer) (s : State) → (answer_to b o a s).count ≡ s.count
answer_count true (Some p) a s = refl
answer_count true None a s = refl
answer_count false o a s = refl

returned_count : (o : Option Passed) (s : State) → (return_rights o s).count ≡ s.count
returned_count None s = refl
returned_count (Some p) s = refl

finish_count : (p : Posted) (a : Answer) (s : State) → (finish p a s).count ≡ s.count
finish_count p a s = answer_count p.request.is_waited p.request.poster a (return_rights p.passed s) ∙ returned_count p.passed s

passes_count : (b : Bool) (h k : ℕ) (s : State) → (passes b h k s).count ≡ s.count
passes_count false h k s = refl
passes_count true h k s = refl

waiting_count : (b : Bool) (h k : ℕ) (s : State) → (awaits_if b h k s).count ≡ s.count
waiting_count false h k s = refl
waiting_count true h k s = refl

-- ---- what a turn asks is done

asks_count : (h k : ℕ) (r : Request) (passing : Bool) (s : State) → (asks_of h k r passing s).count ≡ s.count
asks_count h k r passing s = by (is_some (s.handlers k).failure) (not (is_callback h k s) && not (nat_lt (length (s.handlers k).queue) max_queue))
  where
    sent : (waits : Bool) → (sends h k r passing waits s).count ≡ s.count
    sent waits = passes_count passing h k _ ∙ waiting_count waits h k s

    by : (a b : Bool) → (if a then fail h cause.SupplierFailed s else if b then fail h cause.QueueFull s
        else sends h k r passing (passing || r.is_waited || is_callback h k s) s).count ≡ s.count
    by true b = refl
    by false true = refl
    by false false = sent (passing || r.is_waited || is_callback h k s)

created_count : (b : Bool) (h k : ℕ) (r : Request) (s : State) → (creates_with b h k r s).count ≡ s.count
created_count true h k r s = refl
created_count false h k r s = refl

ends_count : (h : ℕ) (v : Option Value) (ks : List ℕ) (refused : Bool) (es : List Service) (s : State) → (ends h v ks refused es s).count ≡ s.count
ends_count h v ks refused [] s = refl
ends_count h v ks false (e ∷ es) s = finish_count e.posted (Replied v) _
ends_count h v ks true (e ∷ es) s = finish_count e.posted Refused _

-- There are no more than there may be, if there were none more before.
abbrev StaysFew : ℕ → State → State → Type 0
StaysFew most s t = s.count ≤ most → t.count ≤ most

same_few : (most : ℕ) (s t : State) → t.count ≡ s.count → StaysFew most s t
same_few most s t e few = omega (arith, e, few)

creates_few : (most h class : ℕ) (procedure : Option ℕ) (us : ArrayVec Value) (passing : Bool) (s : State) →
    StaysFew most s (creates most h class procedure us passing s)
creates_few most h class procedure us passing s = by (nat_lt s.count most) refl
  where
    one : State
    one = creates_with passing h s.count (creation h s.count class procedure us passing) (with_handler s.count h s)

    by : (b : Bool) → nat_lt s.count most ≡ b → StaysFew most s (if b then one else fail h cause.TooManyHandlers s)
    by true e few =
        let more : one.count ≡ s.count + 1 = created_count passing h s.count (creation h s.count class procedure us passing) (with_handler s.count h s) in
        let room = ltb-true s.count most e in omega (arith, more, room)
    by false e few = few

done_few : (most h : ℕ) (w : Want) (s : State) → StaysFew most s (done most h w s)
done_few most h want.Continue s few = few
done_few most h (want.Reserve ks) s few = few
done_few most h (want.Post r) s few = same_few most s (done most h (want.Post r) s) (asks_count h r.target.handler r false s) few
done_few most h (want.Ask r passing) s few = same_few most s (done most h (want.Ask r passing) s) (asks_count h r.target.handler r passing s) few
done_few most h (want.Create class procedure us passing) s few = creates_few most h class procedure us passing s few
done_few most h (want.Release ks) s few = few
done_few most h (want.Wait ks) s few = few
done_few most h (want.Done v ks refused) s few =
    same_few most s (done most h (want.Done v ks refused) s) (ends_count h v ks.items refused (s.handlers h).services s) few
done_few most h (want.Fail why) s few = few

done_if_few : (a b : Bool) (most h : ℕ) (w : Want) (s : State) → StaysFew most s (done_if a b most h w s)
done_if_few true b most h w s few = few
done_if_few false true most h w s few = done_few most h w s few
done_if_few false false most h w s few = few

-- ---- settlements

made_count : (h : ℕ) (stage : HandlerStage) (s : State) → (made_at h stage s).count ≡ s.count
made_count h (Awaits k is_creation) s = refl
made_count h Idle s = refl
made_count h Runs s = refl
made_count h (HasMade k) s = refl
made_count h (Reserves ks mark) s = refl

begun_count : (h : ℕ) (j : Job) (s : State) → (begun h j s).count ≡ s.count
begun_count h (job.Take r) s = refl
begun_count h (job.Reply v) s = refl
begun_count h job.Failed s = refl
begun_count h job.Refused s = refl
begun_count h (job.Granted ks) s = refl
begun_count h (job.Made k) s = made_count h (s.handlers h).stage s
begun_count h job.Go s = refl

pub settlements_stay_few : SettlementsStayFew
settlements_stay_few most h turns j w c few =
    let s : State = (picked h j c).state in
    let t : State = begun h j s in
    done_if_few (posts_unheld h w t) (fits_turns turns (s.handlers h).stage j w && may_ask h w t) most h w t
    (same_few most s t (begun_count h j s) few)
