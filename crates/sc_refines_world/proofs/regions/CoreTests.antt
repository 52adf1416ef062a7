-- The core computes the same tests of a handler as the machine, and requests that stand at it have names with numbers.
use Rattle.std.proofs.Common.{◌≡◌, inl, inr, ◌++◌, ℕ, true, List, [], ◌∷◌, Option, Some, map, refl, ap, ◌∙◌}
use Rattle.std.proofs.Math.Path.{fun_ext}
use Rattle.std.proofs.lemmas.List.Elements.{All-head, All-tail}
use Rattle.std.specs.Prelude.{All, is_some}
use Rattle.std.specs.List.{filter_map}
use Rattle.sc_lockpass.specs.Rights.{Rights}
use Rattle.sc_lockpass.specs.wait_conditions.Entries.{unheld, each_once}
use Rattle.sc_lockpass.specs.wait_conditions.Reservations.{Standing, reserve_fails, may_reserve}
use Rattle.sc_lockpass.specs.declared.wait_conditions.mark.Marked.{Marked}
use Rattle.sc_model.specs.Values as value
use Rattle.sc_model.specs.Values.{Value, handler_of}
use Rattle.sc_model.specs.Entries.{needed_for}
use Rattle.sc_model.specs.Sessions as sessions
use Rattle.sc_model.specs.Handlers as machine
use Rattle.sc_model.specs.Handlers.{Request, Stage, Frame, Handler, World}
use Rattle.sc_region.specs.declared.job.Job.{Job}
use Rattle.sc_handler.specs.Handlers as core
use Rattle.sc_handler.specs.Picking.{job_for_entry, job_reserving, needs}
use Rattle.sc_request.specs.Asked.{Numbering, handlers_of}
use Rattle.sc_request.specs.Halves.{posted_of, IsStage, IsTop, IsHandlerOf, IsHalfOf}

-- ---- the core computes the same tests

module _ (n : Numbering) where
  staged_frames : (stage : Stage) (f : Frame) (t : core.HandlerStage) → IsStage stage f t → core.has_frames t ≡ true
  staged_frames machine.Runs f t (inl e) = rw e refl
  staged_frames machine.Runs f t (inr (k, e)) = rw e refl
  staged_frames machine.Reserves f t e = rw e refl
  staged_frames machine.ReservesBlock f t e = rw e refl
  staged_frames (machine.InCall gives) f t e = rw e refl
  staged_frames (machine.Awaits k gives c) f t e = rw e refl

  same_frames : (stack : List Frame) (t : core.HandlerStage) → IsTop stack t → core.has_frames t ≡ sessions.has_frames stack
  same_frames [] t e = rw e refl
  same_frames (f ∷ below) t e = staged_frames f.stage f t e

  same_requests : (rs : List Request) → core.has_requests (map (posted_of n) rs) ≡ sessions.has_requests rs
  same_requests [] = refl
  same_requests (r ∷ rs) = refl

  same_standing : (x : Handler) (y : core.Handler) → IsHandlerOf n x y → core.standing_of y ≡ sessions.standing_of x
  same_standing x y e = λ i. record {
    has_frames = same_frames x.stack y.stage e.stage i;
    has_failed = is_some (e.failure i);
    has_requests = (ap core.has_requests e.queue ∙ same_requests x.queue) i;
    sessions = e.sessions i;
  }

  same_standings : (w : World) (c : core.State) → IsHalfOf n w c → core.standing_in c ≡ sessions.standing_in w
  same_standings w c e = fun_ext (λ k. same_standing (w.handlers k) (c.handlers k) (e.handlers k))

  unheld_of : (r : Rights) (h : ℕ) (vs : List Value) → filter_map (unheld r h) (map Some (handlers_of vs)) ≡ filter_map (unheld r h) (map handler_of vs)
  unheld_of r h [] = refl
  unheld_of r h (value.Integer z ∷ vs) = unheld_of r h vs
  unheld_of r h (value.Boolean b ∷ vs) = unheld_of r h vs
  unheld_of r h (value.Void ∷ vs) = unheld_of r h vs
  unheld_of r h (value.Attached o ∷ vs) = rw (unheld_of r h vs) refl

  pub same_job : (h : ℕ) (w : World) (c : core.State) (vs : List Value) (mark : List Marked) → IsHalfOf n w c →
      job_for_entry (needs h (handlers_of vs) c.rights) mark c
      ≡ job_reserving (reserve_fails (sessions.standing_in w) w.rights (needed_for h vs w)) (may_reserve (sessions.standing_in w) w.rights (needed_for h vs w) mark) (needed_for h vs w)
  same_job h w c vs mark e =
      ap (λ (st : ℕ → Standing). from st c.rights (needs h (handlers_of vs) c.rights)) (same_standings w c e)
      ∙ ap (λ (r : Rights). from (sessions.standing_in w) r (needs h (handlers_of vs) r)) e.rights
      ∙ ap (λ (ks : List ℕ). from (sessions.standing_in w) w.rights ks) (ap each_once (unheld_of w.rights h vs))
    where
      from : (ℕ → Standing) → Rights → List ℕ → Option Job
      from st r ks = job_reserving (reserve_fails st r ks) (may_reserve st r ks mark) ks

-- ---- requests whose names have numbers

pub named_callback : (P : Request → Type 0) (qs : List Request) (r : Request) → All P (qs ++ r ∷ []) → P r
named_callback P [] r e = All-head P r [] e
named_callback P (q ∷ qs) r e = named_callback P qs r (All-tail P q (qs ++ r ∷ []) e)
