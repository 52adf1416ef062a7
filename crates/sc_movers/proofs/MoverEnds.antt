-- Who waits for the end of a request that a mover ends: it has nothing to do until then, but to fail.
use Rattle.std.proofs.Common.{◌≡◌, ◌∙◌, ◌⊎◌, inl, inr, ◌==◌, ◌&&◌, ◌||◌, not, ℕ, Bool, true, false, List, ◌∷◌, ◌++◌, Option, Some, None, map, refl, sym, ap}
use Rattle.std.proofs.lemmas.Bool.{eq-eqb}
use Rattle.std.proofs.lemmas.List.Folds.{list_any-append}
use Rattle.std.specs.Prelude.{if◌then◌else◌, is_some}
use Rattle.std.specs.List.{list_any}
use Rattle.std.specs.Option.{is_none}
use Rattle.sc_lockpass.specs.Rights.{is_handler}
use Rattle.sc_lockpass.specs.wait_conditions.Reservations.{ends_session}
use Rattle.sc_lockpass.specs.declared.wait_conditions.session.Release.TheVariants as release_at
use Rattle.sc_model.specs.declared.cause.Cause.{Cause}
use Rattle.sc_model.specs.declared.cause.Cause.TheVariants as cause
use Rattle.sc_region.specs.declared.job.Job.{Job}
use Rattle.sc_region.specs.declared.job.Job.TheVariants as job
use Rattle.sc_region.specs.declared.job.Want.{Want}
use Rattle.sc_region.specs.declared.job.Want.TheVariants.{Continue, Reserve, Post, Ask, Create, Release, Wait, Done, Fail}
use Rattle.sc_handler.specs.Changes.{fallen, is_waited_by, requests_at, to_list, told}
use Rattle.sc_handler.specs.Fits.{fails_by_supplier}
use Rattle.sc_handler.specs.Handlers.{Answer, Handler, HandlerStage, Posted, Service, State, SupplierFailed}
use Rattle.sc_handler.specs.Picking.{job_at, job_awaiting, job_of}
use Rattle.sc_request.specs.Sessions.{fail}
use Rattle.sc_request.specs.Settling.{done_if, may_ask, may_post_to_all, posts_unheld, settled}
use Rattle.sc_refines_world.proofs.OtherStages.{has_job}
use Rattle.sc_movers.specs.Movers.{ends_plainly, is_mover}
use Rattle.sc_movers.specs.Returned.{HearsNothing, UnlentWait, is_unlent_of, waits_unlent}
use Rattle.sc_movers.proofs.ChangedStates.{true_false}
use Rattle.sc_movers.proofs.ChangedTurns.{and_left, and_right}
use Rattle.sc_movers.proofs.ChangedKept.{ended_deaf, is_deaf}
use Rattle.sc_movers.proofs.MoveChanges.{Move, is_hearer}
use Rattle.sc_movers.proofs.MoverStates.{WaitsFor, deaf}

-- ---- the request that ends

-- It stands at its handler until then.
served_there : (P : Posted → Bool) (x : Handler) (e : Service) (es : List Service) → x.services ≡ e ∷ es → P e.posted ≡ true → list_any P (requests_at x) ≡ true
served_there P x e es is passes =
    list_any-append P (x.queue ++ to_list x.callback) (map (λ (v : Service). v.posted) x.services)
    ∙ ap (λ (vs : List Service). list_any P (x.queue ++ to_list x.callback) || list_any P (map (λ (v : Service). v.posted) vs)) is
    ∙ ap (λ (b : Bool). list_any P (x.queue ++ to_list x.callback) || (b || list_any P (map (λ (v : Service). v.posted) es))) passes
    ∙ always (list_any P (x.queue ++ to_list x.callback))
  where
    always : (b : Bool) → (b || true) ≡ true
    always true = refl
    always false = refl

pub unlent_there : (g : ℕ) (w : Want) (s : State) → is_mover g w s ≡ true → (p : ℕ) → WaitsFor g w s p → waits_unlent p g s ≡ true
unlent_there g w s moves p waits =
    served_there (is_unlent_of p) (s.handlers g) waits.first waits.rest waits.services
    (ap (λ (b : Bool). (b && is_handler p waits.first.posted.request.poster) && is_none waits.first.posted.passed) waits.waited
    ∙ ap (λ (o : Option ℕ). is_handler p o && is_none waits.first.posted.passed) waits.poster
    ∙ ap (λ (b : Bool). b && is_none waits.first.posted.passed) (eq-eqb p p refl)
    ∙ and_left (is_none waits.first.posted.passed) (not waits.refused || waits.first.posted.request.is_waited)
    (sym (ap (ends_plainly waits.refused) waits.services)
    ∙ and_right (may_post_to_all g waits.released.items s) (ends_plainly waits.refused (s.handlers g).services)
    (sym (ap (λ (v : Want). is_mover g v s) waits.ends) ∙ moves)))

-- ---- who hears of it

pub record IsOpen (p : ℕ) (s : State) : Type 0 where
  pub alive : (s.handlers p).failure ≡ None
  pub unanswered : (s.handlers p).answer ≡ None

pub open_is : (p : ℕ) (s : State) → deaf s p ≡ false → IsOpen p s
open_is p s e = by (s.handlers p).failure (s.handlers p).answer refl refl e
  where
    by : (f : Option Cause) (o : Option Answer) → (s.handlers p).failure ≡ f → (s.handlers p).answer ≡ o → (is_some f || is_some o) ≡ false → IsOpen p s
    by None None alive unanswered e = record { alive = alive; unanswered = unanswered }
    by None (Some a) alive unanswered e = true_false e
    by (Some why) o alive unanswered e = true_false e

-- a handler that waits unlent, and has a job, is told that a supplier has failed
pub told_only : (p g : ℕ) (s : State) (j : Job) → HearsNothing p g s → job_of p s ≡ Some j → (j ≡ job.Failed) × (deaf s p ≡ true)
told_only p g s j hears due = by (s.handlers p).answer refl hears.answer
  where
    waiting : job_awaiting g hears.is_creation None (s.handlers p).answer ≡ Some j
    waiting =
        sym (ap (λ (o : Option Posted). job_awaiting g hears.is_creation o (s.handlers p).answer) hears.no_callback)
        ∙ sym (ap (λ (t : HandlerStage). job_at p t (s.handlers p) s) hears.awaits) ∙ (has_job p s j due).due

    always : (b : Bool) → (b || true) ≡ true
    always true = refl
    always false = refl

    is_failed : (c : Bool) → job_awaiting g c None (Some SupplierFailed) ≡ Some j → j ≡ job.Failed
    is_failed true e = cc
    is_failed false e = cc

    none : {A : Type 0} → job_awaiting g hears.is_creation None None ≡ Some j → A
    none e = cc

    by : (o : Option Answer) → (s.handlers p).answer ≡ o → ((s.handlers p).answer ≡ None) ⊎ ((s.handlers p).answer ≡ Some SupplierFailed) → (j ≡ job.Failed) × (deaf s p ≡ true)
    by o is (inl quiet) = none (sym (ap (λ (a : Option Answer). job_awaiting g hears.is_creation None a) quiet) ∙ waiting)
    by o is (inr failed) = (
      is_failed hears.is_creation (sym (ap (λ (a : Option Answer). job_awaiting g hears.is_creation None a) failed) ∙ waiting),
      ap (λ (a : Option Answer). is_some (s.handlers p).failure || is_some a) failed ∙ always (is_some (s.handlers p).failure),
    )

-- who is to hear the answer has nothing to do, so another handler with a job isn't it
pub other_hears : (g : ℕ) (s : State) (m : Move) → ((k : ℕ) → is_hearer k m.answers ≡ true → IsOpen k s × (waits_unlent k g s ≡ true)) → UnlentWait s →
    (h : ℕ) (j : Job) → job_of h s ≡ Some j → is_hearer h m.answers ≡ false
other_hears g s m hears unlent h j due = by (is_hearer h m.answers) refl
  where
    by : (b : Bool) → is_hearer h m.answers ≡ b → is_hearer h m.answers ≡ false
    by true e =
        let so = hears h e in
        let waits = (unlent h g so.1).1 (has_job h s j due).stands in
        true_false (
        sym (told_only h g s j waits due).1
        ∙ ap (λ (o : Option Cause). is_some o || is_some (s.handlers h).answer) so.0.alive ∙ ap (λ (o : Option Answer). is_some o) so.0.unanswered)
    by false e = e

-- ---- a handler that is told so fails

falls : (h : ℕ) (why : Cause) (s : State) → is_deaf ((fail h why s).handlers h) ≡ true
falls h why s =
    ended_deaf (ends_session release_at.Failure && is_handler h (s.rights.queue h)) (if h == h then fallen why (s.handlers h) else told (waits h) (s.handlers h))
    ∙ ap (λ (b : Bool). is_deaf (if b then fallen why (s.handlers h) else told (waits h) (s.handlers h))) (eq-eqb h h refl)
  where
    waits : ℕ → Bool
    waits k = list_any (is_waited_by k) (requests_at (s.handlers h))

told_falls : (most h : ℕ) (w : Want) (s : State) → is_deaf ((settled most h job.Failed 1 w s).handlers h) ≡ true
told_falls most h w s = by (posts_unheld h w s) w
  where
    fails : (why : Cause) → is_deaf ((done_if false (fails_by_supplier (Fail why) && true) most h (Fail why) s).handlers h) ≡ true
    fails why = either (fails_by_supplier (Fail why) && true)
      where
        either : (b : Bool) → is_deaf ((done_if false b most h (Fail why) s).handlers h) ≡ true
        either true = falls h why s
        either false = falls h cause.BadCode s

    by : (b : Bool) (v : Want) → is_deaf ((done_if b (fails_by_supplier v && may_ask h v s) most h v s).handlers h) ≡ true
    by true v = falls h cause.NotHeld s
    by false Continue = falls h cause.BadCode s
    by false (Reserve ks) = falls h cause.BadCode s
    by false (Post r) = falls h cause.BadCode s
    by false (Ask r passes) = falls h cause.BadCode s
    by false (Create class procedure actuals passes) = falls h cause.BadCode s
    by false (Release ks) = falls h cause.BadCode s
    by false (Wait ks) = falls h cause.BadCode s
    by false (Done v ks refused) = falls h cause.BadCode s
    by false (Fail why) = fails why

-- Who is deaf and waits unlent is deaf after its own turn, too.
pub own_deaf : (most p g : ℕ) (w : Want) (s t : State) (j : Job) → HearsNothing p g s → job_of p s ≡ Some j → is_deaf ((settled most p j 1 w t).handlers p) ≡ true
own_deaf most p g w s t j hears due =
    ap (λ (i : Job). is_deaf ((settled most p i 1 w t).handlers p)) (told_only p g s j hears due).0 ∙ told_falls most p w t
