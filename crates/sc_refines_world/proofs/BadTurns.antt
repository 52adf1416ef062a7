-- Turns of which the headline doesn't hold, each for one of its parts: whatever the system is, that part refuses the second state
-- after the first one.
use Rattle.std.proofs.Common.{ℕ, ◌≡◌, ◌⊎◌, inl, inr, true, false, List, [], ◌∷◌, Option, Some, None, length, ap, sym, ◌∙◌, arith}
use Rattle.std.specs.Prelude.{◌++◌, Contains}
use Rattle.sc_text.specs.declared.token.Span.{Span}
use Rattle.sc_tree.specs.Plain.{System}
use Rattle.sc_lockpass.specs.Rights.{Rights, held, unreserved}
use Rattle.sc_model.specs.declared.cause.Cause.TheVariants as cause
use Rattle.sc_model.specs.Failures.{requests_at}
use Rattle.sc_model.specs.Handlers.{Called, Calls, Errand, Frame, Makes, Origin, Reply, Request, Requested, Reserves, Runs, World, new_handler}
use Rattle.sc_model.specs.Routines.{Routine}
use Rattle.sc_model.specs.Steps.{Point, Unqualified}
use Rattle.sc_model.specs.Tasks.{Require}
use Rattle.sc_model.specs.Values.{Reference, Value}
use Rattle.sc_machine_laws.specs.RequestLaws as laws
use Rattle.sc_machine_laws.specs.RequestLaws.{AnswerComes, MayAnswer}
use Rattle.sc_machine_laws.specs.states.Fitting.{MayEnd}
use Rattle.sc_machine_laws.specs.states.Fitting as fitting
use Rattle.sc_machine_laws.specs.settlements.Entries.{HasStarted}
use Rattle.sc_machine_laws.specs.Starting.{IsVerdict}
use Rattle.sc_refines_world.specs.Moving as moving
use Rattle.sc_refines_world.specs.Moving.{AsksForNone, Begins, BeginsWithOne, ComesTo, FramesMove, IsEntered, IsTaken, call, end, fall, go_on, refuse, return, stay, take_callback, take_next}
use Rattle.sc_refines_world.specs.Posting.{WasPosted}
use Rattle.sc_refines_world.specs.Refining.{ComeUnderRight}
use Rattle.sc_refines_world.proofs.BadStates.{falsity}
use Rattle.sc_refines_world.proofs.SmallStates.{alone, apart, first, first_of, frame, none-is-some, none-of-none, request, routine, two}

-- ---- what is posted

-- A request comes to a handler which its poster doesn't hold.
pub posted_unheld : ComeUnderRight 0 (alone new_handler) (two new_handler (record new_handler { queue = request 0 1 false ∷ [] }) unreserved) → ⊥
posted_unheld comes = by (comes 1 (request 0 1 false) (first (request 0 1 false)))
  where
    right : (held unreserved 0 1 ≡ true) ⊎ (◌≡◌ {A = ℕ} 1 2) → ⊥
    right (inl is) = apart (sym is)
    right (inr new) = omega (arith, new)

    by : Contains (requests_at new_handler) (request 0 1 false) ⊎ ((◌≡◌ {A = Option ℕ} (Some 0) (Some 0)) × ((held unreserved 0 1 ≡ true) ⊎ (◌≡◌ {A = ℕ} 1 2))) → ⊥
    by (inl there) = none-of-none (request 0 1 false) there
    by (inr posted) = right posted.1

-- It comes in the name of another one.
abbrev holds_all : Rights
holds_all = record { queue = λ k. Some 0; top = λ k. None }

pub posted_for_another : ComeUnderRight 0 (two new_handler new_handler holds_all) (two new_handler (record new_handler { queue = request 1 1 false ∷ [] }) holds_all) → ⊥
posted_for_another comes = by (comes 1 (request 1 1 false) (first (request 1 1 false)))
  where
    same : {a b : ℕ} → Some a ≡ Some b → a ≡ b
    same e = cc

    by : Contains (requests_at new_handler) (request 1 1 false) ⊎ ((◌≡◌ {A = Option ℕ} (Some 1) (Some 0)) × ((held holds_all 0 1 ≡ true) ⊎ (◌≡◌ {A = ℕ} 1 2))) → ⊥
    by (inl there) = none-of-none (request 1 1 false) there
    by (inr posted) = let e : 1 ≡ 0 = same posted.0 in omega (arith, e)

-- A request is there after no turn at all; or it has no poster.
pub posted_in_no_turn : (most : ℕ) (s : System) (v : World) (k : ℕ) (r : Request) → WasPosted most s [] v k r → ⊥
posted_in_no_turn most s v k r was = none was.before was.turns_are
  where
    none : (before : List ℕ) → [] ≡ before ++ was.poster ∷ was.after → ⊥
    none [] e = cc
    none (h ∷ hs) e = cc

pub posted_by_nobody : (most : ℕ) (s : System) (hs : List ℕ) (v : World) (k : ℕ) (r : Request) → r.poster ≡ None →
    WasPosted most s hs v k r → ⊥
posted_by_nobody most s hs v k r nobody was = none-is-some (sym nobody ∙ was.poster_is)

-- ---- what is taken

-- the origin of the topmost frame
abbrev origin_in : Origin → List Frame → Origin
origin_in o [] = o
origin_in o (f ∷ fs) = f.origin

-- the errand of the first of some requests
abbrev errand_in : List Request → Errand
errand_in [] = Calls []
errand_in (r ∷ rs) = r.errand

-- A handler without frames takes the first of its queue, which stays in it.
pub stays_queued : (s : System) (w : World) (h : ℕ) (r : Request) →
    FramesMove s w h (record new_handler { queue = r ∷ [] })
    (record new_handler { queue = r ∷ []; stack = frame (Requested r) Runs ∷ [] }) → ⊥
stays_queued s w h r (stay same rest) = cc
stays_queued s w h r (go_on before after comes rest) = cc
stays_queued s w h r (call before after comes calls rest) = cc
stays_queued s w h r (return before origin move after rest) = cc
stays_queued s w h r (end before origin move after rest) = cc
stays_queued s w h r (refuse before origin move refused after rest) = cc
stays_queued s w h r (take_next none queue callback failure taken) =
    let long : 1 ≡ 2 = ap length queue in
    omega (arith, long)
stays_queued s w h r (take_callback callback gone queue failure taken) = cc
stays_queued s w h r (fall falls) = let e : false ≡ true = falls.has_failed in cc

-- The request that is taken begins a frame of another one.
pub begins_anothers : (s : System) (w : World) (h : ℕ) →
    FramesMove s w h (record new_handler { queue = request 1 0 true ∷ [] })
    (record new_handler { stack = frame (Requested (request 1 0 false)) Runs ∷ [] }) → ⊥
begins_anothers s w h (stay same rest) = cc
begins_anothers s w h (go_on before after comes rest) = cc
begins_anothers s w h (call before after comes calls rest) = cc
begins_anothers s w h (return before origin move after rest) = cc
begins_anothers s w h (end before origin move after rest) = cc
begins_anothers s w h (refuse before origin move refused after rest) = cc
begins_anothers s w h (take_next none queue callback failure (moving.IsTaken.done asks e)) = cc
begins_anothers s w h (take_next {r} none queue callback failure (moving.IsTaken.begun e begins name entered)) =
    let is : Requested (request 1 0 false) ≡ Requested r =
    ap (λ fs. origin_in (Called Unqualified) fs) e ∙ begins.origin_is in
    cc
begins_anothers s w h (take_callback callback gone queue failure taken) = cc
begins_anothers s w h (fall falls) = let e : false ≡ true = falls.has_failed in cc

-- a request to make the first object by a procedure
abbrev creation : Request
creation = record (request 1 0 true) { errand = Makes (Some []) }

-- such a request can't be done at once
not-at-once : (s : System) (r : Request) → r.errand ≡ Makes (Some []) → AsksForNone s r → ⊥
not-at-once s r is (moving.AsksForNone.object none) = cc
not-at-once s r is (moving.AsksForNone.attribute calls version kind) = cc

same-errand : (q r : Request) → Some q ≡ Some r → q.errand ≡ r.errand
same-errand q r e = cc

not-taken : (s : System) (r : Request) → r.errand ≡ Makes (Some []) → IsTaken s r [] [] → ⊥
not-taken s r is (moving.IsTaken.done asks e) = not-at-once s r is asks
not-taken s r is (moving.IsTaken.begun e begins name entered) = cc

-- A request falls from the queue, and nothing is run for it.
pub drops_next : (s : System) (w : World) (h : ℕ) → FramesMove s w h (record new_handler { queue = creation ∷ [] }) new_handler → ⊥
drops_next s w h (stay same rest) = let e : [] ≡ creation ∷ [] = rest.queue_stays in cc
drops_next s w h (go_on before after comes rest) = cc
drops_next s w h (call before after comes calls rest) = cc
drops_next s w h (return before origin move after rest) = cc
drops_next s w h (end before origin move after rest) = cc
drops_next s w h (refuse before origin move refused after rest) = cc
drops_next s w h (take_next {r} none queue callback failure taken) =
    let is : Makes (Some []) ≡ r.errand = ap errand_in queue in not-taken s r (sym is) taken
drops_next s w h (take_callback callback gone queue failure taken) = cc
drops_next s w h (fall falls) = let e : false ≡ true = falls.has_failed in cc

-- So does a callback.
pub drops_callback : (s : System) (w : World) (h : ℕ) → FramesMove s w h (record new_handler { callback = Some creation }) new_handler → ⊥
drops_callback s w h (stay same rest) = let e : None ≡ Some creation = rest.callback_stays in none-is-some e
drops_callback s w h (go_on before after comes rest) = cc
drops_callback s w h (call before after comes calls rest) = cc
drops_callback s w h (return before origin move after rest) = cc
drops_callback s w h (end before origin move after rest) = cc
drops_callback s w h (refuse before origin move refused after rest) = cc
drops_callback s w h (take_next none queue callback failure taken) = cc
drops_callback s w h (take_callback {r} callback gone queue failure taken) = not-taken s r (sym (same-errand creation r callback)) taken
drops_callback s w h (fall falls) = let e : false ≡ true = falls.has_failed in cc

-- A handler fails, and a request stands at it yet.
pub falls_with_request : (s : System) (w : World) (h : ℕ) (r : Request) →
    FramesMove s w h (record new_handler { queue = r ∷ [] }) (record new_handler { queue = r ∷ []; failure = Some cause.Check }) → ⊥
falls_with_request s w h r (stay same rest) = let e : Some cause.Check ≡ None = rest.failure_stays in cc
falls_with_request s w h r (go_on before after comes rest) = cc
falls_with_request s w h r (call before after comes calls rest) = cc
falls_with_request s w h r (return before origin move after rest) = cc
falls_with_request s w h r (end before origin move after rest) = cc
falls_with_request s w h r (refuse before origin move refused after rest) = cc
falls_with_request s w h r (take_next none queue callback failure taken) = let e : Some cause.Check ≡ None = failure in cc
falls_with_request s w h r (take_callback callback gone queue failure taken) = cc
falls_with_request s w h r (fall falls) = let e : r ∷ [] ≡ [] = falls.queue_is in cc

-- ---- frames that begin

-- A frame that has its body alone before it doesn't begin: the precondition comes first.
pub skips_all : (o : Origin) → Begins o (record (frame o Runs) { tasks = [] }) → ⊥
skips_all o begins = cc

-- The frame of a request runs on another object than the target.
pub runs_elsewhere : (s : System) (x : List ℕ) (vs : List Value) → IsEntered s (first_of 1) x vs (frame (Called Unqualified) Runs) → ⊥
runs_elsewhere s x vs entered = let e : 0 ≡ 1 = ap (λ (r : Reference). r.handler) entered.current_is in omega (arith, e)

-- A routine starts before it has reserved, and so without a verdict on its precondition.
abbrev cautious : Span → Routine
cautious q = record routine { require = falsity q ∷ [] }

abbrev waiting : Span → Frame
waiting q = record (frame (Called Unqualified) Reserves) { routine = cautious q; tasks = Require (falsity q ∷ []) ∷ [] }

pub starts_unasked : (s : System) (w : World) (h : ℕ) (below : List Frame) (q : Span) →
    ComesTo s w h (waiting q) below (record (frame (Called Unqualified) Runs) { routine = cautious q }) → ⊥
starts_unasked s w h below q comes = by (comes.starts_by_verdict (λ none. some none) tt)
  where
    some : falsity q ∷ [] ≡ [] → ⊥
    some e = cc

    by : HasStarted (Require (falsity q ∷ []) ∷ []) ⊎ ((p : Point) × IsVerdict s w h (waiting q) below p) → ⊥
    by (inl started) = apart started.0
    by (inr verdict) = let e : Reserves ≡ Runs = verdict.1.runs in cc

-- ---- handlers that begin

-- A handler that is created has no request, or two.
pub begins_without : (s : System) (w : World) (h k : ℕ) → BeginsWithOne s w h k new_handler → ⊥
begins_without s w h k begins = let long : 0 ≡ 1 = ap length begins.queue_is in omega (arith, long)

pub begins_with_two : (s : System) (w : World) (h k : ℕ) (q r : Request) → BeginsWithOne s w h k (record new_handler { queue = q ∷ r ∷ [] }) → ⊥
begins_with_two s w h k q r begins = let long : 2 ≡ 1 = ap length begins.queue_is in omega (arith, long)

-- Its request calls a feature.
pub begins_with_call : (s : System) (w : World) (h k : ℕ) → BeginsWithOne s w h k (record new_handler { queue = request h k false ∷ [] }) → ⊥
begins_with_call s w h k begins =
    let is : Calls [] ≡ Makes begins.procedure = ap errand_in begins.queue_is ∙ begins.errand_is in cc

-- ---- answers

-- A handler has a reply, and nothing that it waits for has ended.
ends-nothing : {r : Request} → MayEnd new_handler r → ⊥
ends-nothing (fitting.runs stack stage origin) = cc
ends-nothing (fitting.next stack queue) = cc
ends-nothing (fitting.called_back stack callback) = cc

pub replied_by_none : (s : System) → AnswerComes s (alone new_handler) 0 1 (two new_handler (record new_handler { answer = Some (Reply None) }) unreserved) → ⊥
replied_by_none s (laws.AnswerComes.stays e) = cc
replied_by_none s (laws.AnswerComes.told dead e) = let no : false ≡ true = dead in cc
replied_by_none s (laws.AnswerComes.exits may ends e) = ends-nothing may.may_end
replied_by_none s (laws.AnswerComes.refused may ends e) = ends-nothing may.may_end
replied_by_none s (laws.AnswerComes.attribute may ends e) = ends-nothing may.may_end
replied_by_none s (laws.AnswerComes.made may makes e) = ends-nothing may.may_end
