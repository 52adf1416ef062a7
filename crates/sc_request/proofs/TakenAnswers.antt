-- Answers are taken, and reserve steps: the core stays the half of the machine.
use Rattle.std.proofs.Common.{ℕ, ◌≡◌, List, [], ◌∷◌, Option, Some, None, refl, sym, subst, inl}
use Rattle.sc_rules.specs.declared.entity_types.entity_type.EntityType.{EntityType}
use Rattle.sc_lockpass.specs.Rights as maps
use Rattle.sc_lockpass.specs.declared.wait_conditions.session.Release.TheVariants as release_at
use Rattle.sc_model.specs.Values.{Value}
use Rattle.sc_model.specs.Exits.{handed_as}
use Rattle.sc_model.specs.Handlers as machine
use Rattle.sc_model.specs.Sessions as machine_sessions
use Rattle.sc_handler.specs.Handlers.{Runs, Service, Handler, State, put, with_stage}
use Rattle.sc_handler.specs.Changes.{takes_answer}
use Rattle.sc_request.specs.Sessions.{reserve, release}
use Rattle.sc_request.specs.Asked.{Numbering}
use Rattle.sc_request.specs.Halves.{IsStage, IsOrigin, AreServices, IsHandlerOf, IsHalfOf}
use Rattle.sc_request.proofs.Kept.{put_alike, rights_alike, release_alike}
use Rattle.sc_request.proofs.Sent.{stack_alike}

-- ---- answers

-- the frame goes on with what it is handed
pub handed_runs : (gives : Option EntityType) (v : Option Value) (f : machine.Frame) → IsStage (handed_as gives v f).stage (handed_as gives v f) Runs
handed_runs (Some t) (Some v) f = inl refl
handed_runs (Some t) None f = inl refl
handed_runs None v f = inl refl

pub handed_serves : (n : Numbering) (gives : Option EntityType) (v : Option Value) (f : machine.Frame) (below : List machine.Frame) (vs : List Service) →
    AreServices n (f ∷ below) vs → AreServices n (handed_as gives v f ∷ below) vs
handed_serves n (Some t) (Some v) f below vs e = e
handed_serves n (Some t) None f below vs e = e
handed_serves n None v f below vs e = e

replied : (n : Numbering) (x : machine.Handler) (y : Handler) (f : machine.Frame) (below : List machine.Frame) (gives : Option EntityType) (v : Option Value) →
    IsHandlerOf n x y → x.stack ≡ f ∷ below → IsHandlerOf n (record x { stack = handed_as gives v f ∷ below; answer = None }) (takes_answer y)
replied n x y f below gives v e is = record {
  stage = handed_runs gives v f;
  services = handed_serves n gives v f below y.services (subst (λ (stack : List machine.Frame). AreServices n stack y.services) is e.services);
  queue = e.queue;
  callback = e.callback;
  answer = refl;
  failure = e.failure;
  sessions = e.sessions;
  refused = e.refused;
}

pub reply_alike : (n : Numbering) (h : ℕ) (w : machine.World) (s : State) (f : machine.Frame) (below : List machine.Frame) (gives : Option EntityType) (v : Option Value) →
    IsHalfOf n w s → (w.handlers h).stack ≡ f ∷ below →
    IsHalfOf n (machine.put h (record (w.handlers h) { stack = handed_as gives v f ∷ below; answer = None }) w) (put h (takes_answer (s.handlers h)) s)
reply_alike n h w s f below gives v e is =
    put_alike n w s h _ _ e (replied n (w.handlers h) (s.handlers h) f below gives v (e.handlers h) is)

-- the answer to a creation, with which its creator releases the new handler
pub creation_alike : (n : Numbering) (h k : ℕ) (w : machine.World) (s : State) (f : machine.Frame) (below : List machine.Frame) (gives : Option EntityType) (v : Option Value) →
    IsHalfOf n w s → (w.handlers h).stack ≡ f ∷ below →
    IsHalfOf n
    (machine_sessions.release release_at.Creation (k ∷ []) (machine.put h (record (w.handlers h) { stack = handed_as gives v f ∷ below; answer = None }) w))
    (release release_at.Creation (k ∷ []) (put h (takes_answer (s.handlers h)) s))
creation_alike n h k w s f below gives v e is = release_alike n release_at.Creation (k ∷ []) _ _ (reply_alike n h w s f below gives v e is)

-- ---- reserve steps

-- the frame goes on, and holds these
pub reserve_alike : (n : Numbering) (h : ℕ) (w : machine.World) (s : State) (f f' : machine.Frame) (below : List machine.Frame) (ks : List ℕ) → IsHalfOf n w s →
    (w.handlers h).stack ≡ f ∷ below → f'.origin ≡ f.origin → f'.stage ≡ machine.Runs →
    IsHalfOf n (machine_sessions.reserve h ks (machine.with_stack h (f' ∷ below) w)) (reserve h ks (with_stage h Runs s))
reserve_alike n h w s f f' below ks e is origin runs =
    let y = s.handlers h in
    let old = subst (λ (stack : List machine.Frame). AreServices n stack y.services) is (e.handlers h).services in
    let services = subst (λ (o : machine.Origin). IsOrigin n o (AreServices n below) below y.services) (sym origin) old in
    let stage = subst (λ (st : machine.Stage). IsStage st f' Runs) (sym runs) (inl refl) in
    rights_alike n _ _ (maps.reserve h ks) (stack_alike n w s h (f' ∷ below) Runs e stage services)
