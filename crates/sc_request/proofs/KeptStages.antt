-- A settlement leaves each other handler that there is at its stage, and lets none fail.
use Rattle.std.proofs.Common.{◌≡◌, ◌+◌, ◌==◌, ◌&&◌, ℕ, Bool, true, false, List, [], ◌∷◌, Option, None, refl, ap, ◌∙◌, inl, inr, arith}
use Rattle.std.proofs.lemmas.Bool.{cases_Bool, ltb-true, lt-ltb, ne_eqb}
use Rattle.std.specs.Prelude.{nat_lt}
use Rattle.arrayvec.specs.ArrayVec.{ArrayVec}
use Rattle.sc_lockpass.specs.declared.wait_conditions.session.Release.TheVariants as release_at
use Rattle.sc_model.specs.declared.cause.Cause.{Cause}
use Rattle.sc_model.specs.declared.cause.Cause.TheVariants as cause
use Rattle.sc_region.specs.declared.value.Value.{Value}
use Rattle.sc_region.specs.declared.job.Request.{Request}
use Rattle.sc_region.specs.declared.job.Job.{Job}
use Rattle.sc_region.specs.declared.job.Want.{Want}
use Rattle.sc_region.specs.declared.job.Want.TheVariants as want
use Rattle.sc_handler.specs.Handlers.{HandlerStage, Replied, Refused, Service, Handler, State, put}
use Rattle.sc_handler.specs.Changes.{counted_refusal}
use Rattle.sc_handler.specs.Fits.{fits_turns}
use Rattle.sc_request.specs.Sessions.{release, with_handler, fail}
use Rattle.sc_request.specs.Settling.{begun, sends, asks, creation, creates_with, creates, ends, done, posts_unheld, may_ask, done_if, settled}
use Rattle.sc_request.proofs.Reservers.{creates_alike, fail_alike, finished_alike, released_alike, sends_alike, stage_and_failure}
use Rattle.sc_request.proofs.Untouched.{asks_so, begun_count, begun_other, either, ends_count, given_other, made_with, put_other, sends_count}

-- The handler, where there is it, is there in the second state, and at the same stage; and it has failed in the second state
-- only if it has in the first.
pub record Stands (k : ℕ) (s t : State) : Type 0 where
  pub stage : nat_lt k s.count ≡ true → ((t.handlers k).stage ≡ (s.handlers k).stage) × (nat_lt k t.count ≡ true)
  pub unfailed : (s.handlers k).failure ≡ None → (t.handlers k).failure ≡ None

stage_in : (x y : Handler) → stage_and_failure x ≡ stage_and_failure y → x.stage ≡ y.stage
stage_in x y e = ap (λ (p : HandlerStage × Option Cause). p.0) e

failure_in : (x y : Handler) → stage_and_failure x ≡ stage_and_failure y → x.failure ≡ y.failure
failure_in x y e = ap (λ (p : HandlerStage × Option Cause). p.1) e

as_many : (k : ℕ) (s t : State) → stage_and_failure (t.handlers k) ≡ stage_and_failure (s.handlers k) → t.count ≡ s.count → Stands k s t
as_many k s t e n = record {
  stage = λ there. (stage_in (t.handlers k) (s.handlers k) e, ap (λ m. nat_lt k m) n ∙ there);
  unfailed = λ none. failure_in (t.handlers k) (s.handlers k) e ∙ none;
}

fail_stands : (h k : ℕ) (why : Cause) (s : State) → (k == h) ≡ false → Stands k s (fail h why s)
fail_stands h k why s apart = as_many k s (fail h why s) (fail_alike h k why s apart) refl

asks_stands : (h k : ℕ) (r : Request) (passing : Bool) (s : State) → (k == h) ≡ false → Stands k s (asks h r passing s)
asks_stands h k r passing s apart =
    asks_so (Stands k s) h r passing s (λ why. fail_stands h k why s apart)
    (λ waits. as_many k s (sends h r.target.handler r passing waits s) (sends_alike h k r passing waits s apart) (sends_count h r.target.handler r passing waits s))

-- ---- a handler is made

is_no_new : (k n : ℕ) → nat_lt k n ≡ true → (k == n) ≡ false
is_no_new k n there = let below = ltb-true k n there in ne_eqb k n (λ e. omega (arith, below, e))

is_there : (k n : ℕ) → nat_lt k n ≡ true → nat_lt k (n + 1) ≡ true
is_there k n there = let below = ltb-true k n there in lt-ltb k (n + 1) (omega (arith, below))

made_unfailed : (m h k : ℕ) (s : State) → (s.handlers k).failure ≡ None → ((with_handler m h s).handlers k).failure ≡ None
made_unfailed m h k s none = elim (cases_Bool (k == m)) [
  | inl same ↦ rw same refl
  | inr apart ↦ rw apart none
]

creates_stands : (most h k class : ℕ) (procedure : Option ℕ) (actuals : ArrayVec Value) (passing : Bool) (s : State) → (k == h) ≡ false →
    Stands k s (creates most h class procedure actuals passing s)
creates_stands most h k class procedure actuals passing s apart =
    let t = with_handler s.count h s in
    let r = creation h s.count class procedure actuals passing in
    let u = creates_with passing h s.count r t in
    let alike = creates_alike passing h s.count k r t apart in
    either (Stands k s) (nat_lt s.count most) _ _
    (record {
      stage = λ there. (
        stage_in (u.handlers k) (t.handlers k) alike ∙ ap (λ (x : Handler). x.stage) (given_other s.count h k s (is_no_new k s.count there)),
        ap (λ n. nat_lt k n) (made_with passing h s.count r t) ∙ is_there k s.count there,
      );
      unfailed = λ none. failure_in (u.handlers k) (t.handlers k) alike ∙ made_unfailed s.count h k s none;
    })
    (fail_stands h k cause.TooManyHandlers s apart)

-- ---- a request ends

ends_stands : (h k : ℕ) (v : Option Value) (ks : List ℕ) (refused : Bool) (es : List Service) (s : State) → (k == h) ≡ false →
    Stands k s (ends h v ks refused es s)
ends_stands h k v ks refused [] s apart = fail_stands h k cause.BadCode s apart
ends_stands h k v ks false (e ∷ es) s apart =
    let t = put h (record (s.handlers h) { stage = e.over; services = es }) s in
    as_many k s (ends h v ks false (e ∷ es) s)
    (finished_alike e.posted (Replied v) k (release release_at.Exit ks t)
    ∙ released_alike release_at.Exit ks t k ∙ ap stage_and_failure (put_other h k _ s apart))
    (ends_count h v ks false (e ∷ es) s)
ends_stands h k v ks true (e ∷ es) s apart =
    let t = put h (counted_refusal e.posted.request.is_waited (record (s.handlers h) { stage = e.over; services = es })) s in
    as_many k s (ends h v ks true (e ∷ es) s)
    (finished_alike e.posted Refused k (release release_at.Refusal ks t)
    ∙ released_alike release_at.Refusal ks t k ∙ ap stage_and_failure (put_other h k _ s apart))
    (ends_count h v ks true (e ∷ es) s)

-- ---- what the last turn asks

done_stands : (most h k : ℕ) (w : Want) (s : State) → (k == h) ≡ false → Stands k s (done most h w s)
done_stands most h k want.Continue s apart = as_many k s s refl refl
done_stands most h k (want.Reserve ks) s apart = as_many k s (done most h (want.Reserve ks) s) (ap stage_and_failure (put_other h k _ s apart)) refl
done_stands most h k (want.Post r) s apart = asks_stands h k r false s apart
done_stands most h k (want.Ask r passing) s apart = asks_stands h k r passing s apart
done_stands most h k (want.Create class procedure actuals passing) s apart = creates_stands most h k class procedure actuals passing s apart
done_stands most h k (want.Release ks) s apart = as_many k s (release release_at.Leave ks.items s) (released_alike release_at.Leave ks.items s k) refl
done_stands most h k (want.Wait ks) s apart = as_many k s (done most h (want.Wait ks) s) (ap stage_and_failure (put_other h k _ s apart)) refl
done_stands most h k (want.Done v ks refused) s apart = ends_stands h k v ks.items refused (s.handlers h).services s apart
done_stands most h k (want.Fail why) s apart = fail_stands h k why s apart

asked_stands : (unheld fits : Bool) (most h k : ℕ) (w : Want) (s : State) → (k == h) ≡ false → Stands k s (done_if unheld fits most h w s)
asked_stands true fits most h k w s apart = fail_stands h k cause.NotHeld s apart
asked_stands false true most h k w s apart = done_stands most h k w s apart
asked_stands false false most h k w s apart = fail_stands h k cause.BadCode s apart

pub settled_stands : (most h : ℕ) (j : Job) (turns : ℕ) (w : Want) (s : State) (k : ℕ) → (k == h) ≡ false → Stands k s (settled most h j turns w s)
settled_stands most h j turns w s k apart =
    let t = begun h j s in
    let rest = asked_stands (posts_unheld h w t) (fits_turns turns (s.handlers h).stage j w && may_ask h w t) most h k w t apart in
    let first = begun_other h k j s apart in
    record {
      stage = λ there.
          let later = rest.stage (ap (λ n. nat_lt k n) (begun_count h j s) ∙ there) in
          (later.0 ∙ ap (λ (x : Handler). x.stage) first, later.1);
      unfailed = λ none. rest.unfailed (ap (λ (x : Handler). x.failure) first ∙ none);
    }
