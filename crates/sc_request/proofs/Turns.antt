-- A handler has a job exactly where the machine gives it a turn.
use Rattle.std.proofs.Common.{ℕ, ◌≡◌, Bool, true, false, ◌&&◌, ◌||◌, List, [], ◌∷◌, Option, Some, None, refl, ap, ◌∙◌, inl, inr}
use Rattle.std.proofs.Math.Path.{fun_ext}
use Rattle.std.specs.Prelude.{is_some, map, nat_lt, if◌then◌else◌}
use Rattle.std.specs.List.{filter_map}
use Rattle.std.specs.Option.{option_map}
use Rattle.sc_lockpass.specs.Rights.{Rights}
use Rattle.sc_lockpass.specs.wait_conditions.Entries.{needed, unheld, each_once}
use Rattle.sc_lockpass.specs.wait_conditions.Reservations.{Standing, reserve_is_enabled}
use Rattle.sc_lockpass.specs.declared.wait_conditions.mark.Marked.{Marked}
use Rattle.sc_model.specs.declared.cause.Cause.{Cause}
use Rattle.sc_region.specs.declared.job.Job.{Job}
use Rattle.sc_model.specs.Values as value
use Rattle.sc_model.specs.Values.{handler_of}
use Rattle.sc_model.specs.Environments.{separate_formals}
use Rattle.sc_model.specs.Entries.{opened_in}
use Rattle.sc_model.specs.Handlers as machine
use Rattle.sc_model.specs.Sessions as sessions
use Rattle.sc_model.specs.Runs.{has_turn_with, goes}
use Rattle.sc_handler.specs.Handlers.{Posted, Answer, HandlerStage, Handler, State, has_frames, has_requests, standing_of, standing_in}
use Rattle.sc_handler.specs.Picking.{needs, job_reserving, job_for_entry, job_idle, job_awaiting, job_at, job_with}
use Rattle.sc_request.specs.Asked.{Numbering, handlers_of}
use Rattle.sc_request.specs.Halves.{posted_of, answer_of, IsStage, IsTop, IsHandlerOf, IsHalfOf}
use Rattle.sc_request.specs.Laws.{PicksWhereTurns}

-- ---- what a reservation looks at

staged_frames : (stage : machine.Stage) (f : machine.Frame) (below : List machine.Frame) (t : HandlerStage) → IsStage stage f t → has_frames t ≡ true
staged_frames machine.Runs f below t (inl e) = rw e refl
staged_frames machine.Runs f below t (inr (k, e)) = rw e refl
staged_frames machine.Reserves f below t e = rw e refl
staged_frames machine.ReservesBlock f below t e = rw e refl
staged_frames (machine.InCall gives) f below t e = rw e refl
staged_frames (machine.Awaits k gives c) f below t e = rw e refl

same_frames : (stack : List machine.Frame) (t : HandlerStage) → IsTop stack t → has_frames t ≡ sessions.has_frames stack
same_frames [] t e = rw e refl
same_frames (f ∷ below) t e = staged_frames f.stage f below t e

same_requests : (n : Numbering) (rs : List machine.Request) → has_requests (map (posted_of n) rs) ≡ sessions.has_requests rs
same_requests n [] = refl
same_requests n (r ∷ rs) = refl

same_standing : (n : Numbering) (x : machine.Handler) (y : Handler) → IsHandlerOf n x y → standing_of y ≡ sessions.standing_of x
same_standing n x y e = λ i. record {
  has_frames = same_frames x.stack y.stage e.stage i;
  has_failed = is_some (e.failure i);
  has_requests = (ap has_requests e.queue ∙ same_requests n x.queue) i;
  sessions = e.sessions i;
}

pub same_standings : (n : Numbering) (w : machine.World) (s : State) → IsHalfOf n w s → standing_in s ≡ sessions.standing_in w
same_standings n w s e = fun_ext (λ k. same_standing n (w.handlers k) (s.handlers k) (e.handlers k))

-- ---- reserve steps

unheld_of : (r : Rights) (h : ℕ) (vs : List value.Value) → filter_map (unheld r h) (map Some (handlers_of vs)) ≡ filter_map (unheld r h) (map handler_of vs)
unheld_of r h [] = refl
unheld_of r h (value.Integer z ∷ vs) = unheld_of r h vs
unheld_of r h (value.Boolean b ∷ vs) = unheld_of r h vs
unheld_of r h (value.Void ∷ vs) = unheld_of r h vs
unheld_of r h (value.Attached o ∷ vs) = rw (unheld_of r h vs) refl

pub same_needs : (r : Rights) (h : ℕ) (vs : List value.Value) → needs h (handlers_of vs) r ≡ needed r h (map handler_of vs)
same_needs r h vs = ap each_once (unheld_of r h vs)

reserving : (lost may : Bool) (ks : List ℕ) → is_some (job_reserving lost may ks) ≡ (lost || may)
reserving true may ks = refl
reserving false true ks = refl
reserving false false ks = refl

entering : (n : Numbering) (w : machine.World) (s : State) (h : ℕ) (vs : List value.Value) (mark : List Marked) → IsHalfOf n w s →
    is_some (job_for_entry (needs h (handlers_of vs) s.rights) mark s) ≡ reserve_is_enabled (sessions.standing_in w) w.rights (needed w.rights h (map handler_of vs)) mark
entering n w s h vs mark e =
    reserving _ _ _
    ∙ ap (λ (st : ℕ → Standing). reserve_is_enabled st s.rights (needs h (handlers_of vs) s.rights) mark) (same_standings n w s e)
    ∙ ap (λ (r : Rights). reserve_is_enabled (sessions.standing_in w) r (needs h (handlers_of vs) r) mark) e.rights
    ∙ ap (λ (ks : List ℕ). reserve_is_enabled (sessions.standing_in w) w.rights ks mark) (same_needs w.rights h vs)

-- ---- the other stages

idling : (n : Numbering) (rs : List machine.Request) → is_some (job_idle (map (posted_of n) rs)) ≡ sessions.has_requests rs
idling n [] = refl
idling n (r ∷ rs) = refl

awaiting : (n : Numbering) (k : ℕ) (c : Bool) (callback : Option machine.Request) (answer : Option machine.Answer) →
    is_some (job_awaiting k c (option_map (posted_of n) callback) (option_map answer_of answer)) ≡ (is_some callback || is_some answer)
awaiting n k c (Some r) a = refl
awaiting n k c None (Some a) = refl
awaiting n k c None None = refl

waiting : (n : Numbering) (w : machine.World) (s : State) (h k : ℕ) (c : Bool) → IsHandlerOf n (w.handlers h) (s.handlers h) →
    is_some (job_awaiting k c (s.handlers h).callback (s.handlers h).answer) ≡ (is_some (w.handlers h).callback || is_some (w.handlers h).answer)
waiting n w s h k c e =
    ap (λ (p : Option Posted). is_some (job_awaiting k c p (s.handlers h).answer)) e.callback
    ∙ ap (λ (a : Option Answer). is_some (job_awaiting k c (option_map (posted_of n) (w.handlers h).callback) a)) e.answer
    ∙ awaiting n k c (w.handlers h).callback (w.handlers h).answer

-- ---- a handler

going : (n : Numbering) (w : machine.World) (s : State) (h : ℕ) (stage : machine.Stage) (f : machine.Frame) (t : HandlerStage) → IsHalfOf n w s →
    IsStage stage f t → is_some (job_at h t (s.handlers h) s) ≡ goes h stage f w
going n w s h machine.Runs f t e (inl is) = rw is refl
going n w s h machine.Runs f t e (inr (k, is)) = rw is refl
going n w s h machine.Reserves f t e is = ap (λ (u : HandlerStage). is_some (job_at h u (s.handlers h) s)) is ∙ entering n w s h (separate_formals f.environment) f.mark e
going n w s h machine.ReservesBlock f t e is = ap (λ (u : HandlerStage). is_some (job_at h u (s.handlers h) s)) is ∙ entering n w s h (opened_in f.environment f.tasks) [] e
going n w s h (machine.InCall gives) f t e is = rw is refl
going n w s h (machine.Awaits k gives c) f t e is = ap (λ (u : HandlerStage). is_some (job_at h u (s.handlers h) s)) is ∙ waiting n w s h k c (e.handlers h)

standing : (n : Numbering) (w : machine.World) (s : State) (h : ℕ) (stack : List machine.Frame) → IsHalfOf n w s →
    IsTop stack (s.handlers h).stage → is_some (job_at h (s.handlers h).stage (s.handlers h) s) ≡ has_turn_with h None stack w
standing n w s h [] e is =
    ap (λ (u : HandlerStage). is_some (job_at h u (s.handlers h) s)) is
    ∙ ap (λ (ps : List Posted). is_some (job_idle ps)) (e.handlers h).queue ∙ idling n (w.handlers h).queue
standing n w s h (f ∷ below) e is = going n w s h f.stage f (s.handlers h).stage e is

living : (n : Numbering) (w : machine.World) (s : State) (h : ℕ) (why : Option Cause) → IsHalfOf n w s →
    is_some (job_with h why (s.handlers h) s) ≡ has_turn_with h why (w.handlers h).stack w
living n w s h (Some why) e = refl
living n w s h None e = standing n w s h (w.handlers h).stack e (e.handlers h).stage

numbered : (b : Bool) (j : Option Job) → is_some (if b then j else None) ≡ (b && is_some j)
numbered true j = refl
numbered false j = refl

pub picks : PicksWhereTurns
picks n w s h e =
    numbered (nat_lt h s.count) (job_with h (s.handlers h).failure (s.handlers h) s)
    ∙ ap (λ (count : ℕ). nat_lt h count && is_some (job_with h (s.handlers h).failure (s.handlers h) s)) e.count
    ∙ ap (λ (why : Option Cause). nat_lt h w.count && is_some (job_with h why (s.handlers h) s)) (e.handlers h).failure
    ∙ ap (λ (b : Bool). nat_lt h w.count && b) (living n w s h (w.handlers h).failure e)
