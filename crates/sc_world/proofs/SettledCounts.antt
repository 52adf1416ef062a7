-- What settlements leave of the requests that the core says a handler serves.
use Rattle.std.proofs.Common.{◌≡◌, ◌+◌, ◌&&◌, ℕ, Bool, true, false, List, [], ◌∷◌, Option, Some, None, length, refl, sym, subst, ◌∙◌, arith}
use Rattle.std.specs.Prelude.{if◌then◌else◌, is_some, nat_lt}
use Rattle.sc_model.specs.declared.cause.Cause.{Cause}
use Rattle.sc_model.specs.declared.cause.Cause.TheVariants as cause
use Rattle.sc_region.specs.declared.job.Job.{Job}
use Rattle.sc_region.specs.declared.job.Job.TheVariants as job
use Rattle.sc_region.specs.declared.job.Request.{Request}
use Rattle.sc_region.specs.declared.job.Want.{Want}
use Rattle.sc_region.specs.declared.job.Want.TheVariants as want
use Rattle.sc_handler.specs.Handlers.{Posted, Answer, Replied, SupplierFailed, Refused, HandlerStage, Idle, Runs, HasMade, Reserves, Awaits, Handler, State, with_stage}
use Rattle.sc_handler.specs.Picking.{job_answered, job_at, job_awaiting, job_idle, job_of, job_reserving, job_with}
use Rattle.sc_handler.specs.Fits.{fits_turns}
use Rattle.sc_handler.specs.Changes.{serves, takes, takes_answer, takes_callback, takes_next}
use Rattle.sc_request.specs.Logs.{Center, pick_for, picked}
use Rattle.sc_request.specs.Sessions.{passes, reserve}
use Rattle.sc_request.specs.Settling.{begun, done_if, made_at, may_ask, posts_unheld, settled}
use Rattle.sc_world.specs.Requests.Settlements.{KeepsServices, OthersServe, SettlementsServe, known}
use Rattle.sc_world.specs.Requests.Turns.{is_failure, left_after, served_under}
use Rattle.sc_world.proofs.AlikeCounts.{alike, alike_then, keeps, made_alike, put_alike, some_none, stage_alike, staged}
use Rattle.sc_world.proofs.PassingCounts.{Counts, OthersKeep, Passes, alike_passes, counts_kept, done_if_passes, fails, known_there, others_put, others_then, passes_put}

-- ---- a request is taken

serves_one : (n : ℕ) (x : Handler) (stage : HandlerStage) (p : Posted) (y : Handler) → x.stage ≡ stage → KeepsServices x y → y.stage ≡ x.stage → y.services ≡ x.services →
    Counts n x → Counts (n + 1) (serves p y)
serves_one n x stage p y is kept same services c e =
    let had = counts_kept n x y kept c e in
    let count = had.count in
    record { count = omega (arith, count); frames = (refl, had.frames) }

-- what a job needs that it is to take a request
no_go : {A : Type 0} (r : Request) → Some job.Go ≡ Some (job.Take r) → A
no_go r e = cc

no_made : {A : Type 0} (k : ℕ) (r : Request) → Some (job.Made k) ≡ Some (job.Take r) → A
no_made k r e = cc

no_none : {A : Type 0} (r : Request) → None ≡ Some (job.Take r) → A
no_none r e = cc

no_reservation : {A : Type 0} (b c : Bool) (ks : List ℕ) (r : Request) → job_reserving b c ks ≡ Some (job.Take r) → A
no_reservation true c ks r e = cc
no_reservation false true ks r e = cc
no_reservation false false ks r e = cc

no_answer : {A : Type 0} (k : ℕ) (c : Bool) (a : Answer) (r : Request) → Some (job_answered k c a) ≡ Some (job.Take r) → A
no_answer k true (Replied v) r e = cc
no_answer k false (Replied v) r e = cc
no_answer k c SupplierFailed r e = cc
no_answer k c Refused r e = cc

next_counts : (n : ℕ) (r : Request) (queue : List Posted) (x : Handler) → job_idle queue ≡ Some (job.Take r) → Counts n x → Counts (n + 1) (takes_next queue x)
next_counts n r [] x is c = no_none r is
next_counts n r (p ∷ ps) x is c = serves_one n x x.stage p (record x { queue = ps }) refl (λ e. (e, refl, λ f. f)) refl refl c

callback_counts : (n : ℕ) (k : ℕ) (b : Bool) (r : Request) (callback : Option Posted) (a : Option Answer) (x : Handler) →
    job_awaiting k b callback a ≡ Some (job.Take r) → Counts n x → Counts (n + 1) (takes_callback callback x)
callback_counts n k b r (Some p) a x is c = serves_one n x x.stage p (record x { callback = None }) refl (λ e. (e, refl, λ f. f)) refl refl c
callback_counts n k b r None (Some a) x is c = no_answer k b a r is
callback_counts n k b r None None x is c = no_none r is

takes_counts : (n h : ℕ) (r : Request) (stage : HandlerStage) (x : Handler) (s : State) → job_at h stage x s ≡ Some (job.Take r) → Counts n x →
    Counts (n + 1) (takes stage x)
takes_counts n h r Idle x s is c = next_counts n r x.queue x is c
takes_counts n h r Runs x s is c = no_go r is
takes_counts n h r (HasMade k) x s is c = no_made k r is
takes_counts n h r (Reserves ks mark) x s is c = no_reservation _ _ _ r is
takes_counts n h r (Awaits k b) x s is c = callback_counts n k b r x.callback x.answer x is c

-- ---- who has a job

failed_none : {A : Type 0} (why : Cause) (o : Option Job) (j : Job) (h : ℕ) (x : Handler) (s : State) → job_with h (Some why) x s ≡ Some j → A
failed_none why o j h x s e = cc

at_work : (h : ℕ) (o : Option Cause) (x : Handler) (s : State) (j : Job) → job_with h o x s ≡ Some j → (o ≡ None) × (job_at h x.stage x s ≡ Some j)
at_work h None x s j e = (refl, e)
at_work h (Some why) x s j e = failed_none why None j h x s e

has_place : (b : Bool) (o : Option Job) (j : Job) → (if b then o else None) ≡ Some j → (b ≡ true) × (o ≡ Some j)
has_place true o j e = (refl, e)
has_place false o j e = cc

-- a handler with something to do is one that there is, and hasn't failed
has_job : (h : ℕ) (s : State) (j : Job) → job_of h s ≡ Some j →
    (nat_lt h s.count ≡ true) × ((s.handlers h).failure ≡ None) × (job_at h (s.handlers h).stage (s.handlers h) s ≡ Some j)
has_job h s j e =
    let p = has_place (nat_lt h s.count) (job_with h (s.handlers h).failure (s.handlers h) s) j e in
    let w = at_work h (s.handlers h).failure (s.handlers h) s j p.1 in
    (p.0, w.0, w.1)

-- ---- settlements

abbrev is_taking : Job → Bool
is_taking (job.Take r) = true
is_taking (job.Reply v) = false
is_taking job.Failed = false
is_taking job.Refused = false
is_taking (job.Granted ks) = false
is_taking (job.Made k) = false
is_taking job.Go = false

begun_without : (h n : ℕ) (j : Job) (s : State) → is_taking j ≡ false → Passes h n (served_under j n) s (begun h j s)
begun_without h n (job.Take r) s e = cc
begun_without h n (job.Reply v) s e =
    alike_passes h n s (begun h (job.Reply v) s)
    (put_alike h (takes_answer (s.handlers h)) s (staged (record (s.handlers h) { answer = None }) Runs refl))
begun_without h n job.Failed s e = alike_passes h n s s (alike s)
begun_without h n job.Refused s e = alike_passes h n s s (alike s)
begun_without h n (job.Granted ks) s e =
    let t : State = with_stage h Runs s in
    alike_passes h n s (reserve h ks.items t)
    (alike_then s t (reserve h ks.items t) (stage_alike h Runs s refl) (record { count = refl; handlers = λ k. keeps (t.handlers k) }))
begun_without h n (job.Made k) s e = alike_passes h n s (made_at h (s.handlers h).stage s) (made_alike h (s.handlers h).stage s)
begun_without h n job.Go s e = alike_passes h n s s (alike s)

begun_passes : (h n : ℕ) (j : Job) (s t : State) → job_at h (s.handlers h).stage (s.handlers h) t ≡ Some j → Passes h n (served_under j n) s (begun h j s)
begun_passes h n (job.Take r) s t is =
    passes_put h n (n + 1) (takes (s.handlers h).stage (s.handlers h)) s (takes_counts n h r (s.handlers h).stage (s.handlers h) t is)
begun_passes h n j s t is = begun_without h n j s refl

begun_others : (h : ℕ) (j : Job) (s : State) → OthersKeep h s (begun h j s)
begun_others h (job.Take r) s = others_put h (takes (s.handlers h).stage (s.handlers h)) s
begun_others h j s = (begun_without h 0 j s refl).others

asked_passes : (most h turns n : ℕ) (j : Job) (w : Want) (s : State) → Passes h n (left_after w n) (begun h j s) (settled most h j turns w s)
asked_passes most h turns n j w s =
    let t : State = begun h j s in
    done_if_passes (posts_unheld h w t) (fits_turns turns (s.handlers h).stage j w && may_ask h w t) most h n w t

pub others_serve : OthersServe
others_serve most h turns k j w s apart =
    others_then h s (begun h j s) (settled most h j turns w s) (begun_others h j s) (asked_passes most h turns 0 j w s).others k apart

-- where a failure is asked the handler fails
fails_if : (c : Bool) (most h : ℕ) (why : Cause) (s : State) → nat_lt h s.count ≡ true → (known h (done_if false c most h (want.Fail why) s)).failure ≡ None → ⊥
fails_if true most h why s there e = some_none why (sym (fails h why s there) ∙ e)
fails_if false most h why s there e = some_none cause.BadCode (sym (fails h cause.BadCode s there) ∙ e)

asks_none : (b : Bool) (most h : ℕ) (w : Want) (s : State) → nat_lt h s.count ≡ true →
    (known h (done_if (posts_unheld h w s) b most h w s)).failure ≡ None → is_failure w ≡ false
asks_none b most h want.Continue s there e = refl
asks_none b most h (want.Reserve ks) s there e = refl
asks_none b most h (want.Post r) s there e = refl
asks_none b most h (want.Ask r passes) s there e = refl
asks_none b most h (want.Create class procedure actuals passes) s there e = refl
asks_none b most h (want.Release ks) s there e = refl
asks_none b most h (want.Wait ks) s there e = refl
asks_none b most h (want.Done v ks refused) s there e = refl
asks_none b most h (want.Fail why) s there e = absurd (fails_if b most h why s there e)

none_out : (b : Bool) (o : Option Job) (j : Job) → (if b then None else o) ≡ Some j → o ≡ Some j
none_out true o j e = cc
none_out false o j e = e

-- a handler that is picked is one that there is, and hasn't failed
pub has_pick : (h : ℕ) (c : Center) (j : Job) → pick_for h c ≡ Some j →
    (nat_lt h c.state.count ≡ true) × ((c.state.handlers h).failure ≡ None) × (job_at h (c.state.handlers h).stage (c.state.handlers h) c.state ≡ Some j)
has_pick h c j e = has_job h c.state j (none_out (is_some (c.out h)) (job_of h c.state) j e)

pub settlements_serve : SettlementsServe
settlements_serve most h turns j w c is frames stands =
    let due = has_pick h c j is in
    let s : State = (picked h j c).state in
    let t : State = begun h j s in
    let n : ℕ = length (s.handlers h).services in
    let m : ℕ = served_under j n in
    let before : Counts n (known h s) = subst (λ (x : Handler). Counts n x) (sym (known_there h s due.0)) (λ e. record { count = refl; frames = frames }) in
    let begins = (begun_passes h n j s c.state due.2).own due.0 before in (
      ((asked_passes most h turns m j w s).own begins.0 begins.1).1 stands,
      asks_none (fits_turns turns (s.handlers h).stage j w && may_ask h w t) most h w t begins.0 stands,
    )
