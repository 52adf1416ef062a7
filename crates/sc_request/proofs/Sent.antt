-- Frames, requests and new handlers keep that the core is the half of the machine.
use Rattle.std.proofs.Common.{ℕ, ◌≡◌, ◌+◌, ◌==◌, Bool, true, false, List, [], ◌∷◌, ◌++◌, Some, None, refl, sym, ap, ◌∙◌, subst}
use Rattle.std.proofs.lemmas.Bool.{eqb-true}
use Rattle.std.specs.Prelude.{if◌then◌else◌}
use Rattle.sc_lockpass.specs.Rights.{Rights}
use Rattle.sc_lockpass.specs.Passing.{pass}
use Rattle.sc_model.specs.Handlers as machine
use Rattle.sc_model.specs.Asking as asking
use Rattle.sc_handler.specs.Handlers.{Posted, HandlerStage, Handler, State, with_stage}
use Rattle.sc_handler.specs.Changes.{placed}
use Rattle.sc_request.specs.Sessions.{given_to, passes, send, with_handler}
use Rattle.sc_request.specs.Asked.{Numbering}
use Rattle.sc_request.specs.Halves.{posted_of, IsTop, AreServices, IsHandlerOf, IsHalfOf}
use Rattle.sc_request.proofs.Kept.{put_alike, rights_alike, map_append, chosen}
use Rattle.sc_request.proofs.Opening.{new}

-- ---- frames

left_by : (n : Numbering) (b : Bool) (x x' : machine.Handler) (y : Handler) → (b ≡ true → IsHandlerOf n x y) → IsHandlerOf n x' y → IsHandlerOf n (if b then x else x') y
left_by n true x x' y e f = e refl
left_by n false x x' y e f = f

-- a change that the core doesn't see
pub put_left : (n : Numbering) (w : machine.World) (s : State) (h : ℕ) (x : machine.Handler) → IsHalfOf n w s → IsHandlerOf n x (s.handlers h) →
    IsHalfOf n (machine.put h x w) s
put_left n w s h x e f = record {
  count = e.count;
  rights = e.rights;
  handlers = λ k. left_by n (k == h) x (w.handlers k) (s.handlers k)
      (λ same. subst (λ (j : ℕ). IsHandlerOf n x (s.handlers j)) (sym (eqb-true k h same)) f) (e.handlers k);
}

restacked : (n : Numbering) (x : machine.Handler) (y : Handler) (stack : List machine.Frame) (t : HandlerStage) → IsHandlerOf n x y →
    IsTop stack t → AreServices n stack y.services → IsHandlerOf n (record x { stack = stack }) (record y { stage = t })
restacked n x y stack t e f g = record {
  stage = f;
  services = g;
  queue = e.queue;
  callback = e.callback;
  answer = e.answer;
  failure = e.failure;
  sessions = e.sessions;
  refused = e.refused;
}

-- other frames, which serve the same requests
pub stack_alike : (n : Numbering) (w : machine.World) (s : State) (h : ℕ) (stack : List machine.Frame) (t : HandlerStage) → IsHalfOf n w s →
    IsTop stack t → AreServices n stack (s.handlers h).services → IsHalfOf n (machine.with_stack h stack w) (with_stage h t s)
stack_alike n w s h stack t e f g = put_alike n w s h _ _ e (restacked n (w.handlers h) (s.handlers h) stack t (e.handlers h) f g)

pub printed : (n : Numbering) (x : machine.Handler) (y : Handler) (output : List ℕ) → IsHandlerOf n x y → IsHandlerOf n (record x { output = output }) y
printed n x y output e = record {
  stage = e.stage;
  services = e.services;
  queue = e.queue;
  callback = e.callback;
  answer = e.answer;
  failure = e.failure;
  sessions = e.sessions;
  refused = e.refused;
}

-- ---- requests

placed_alike : (n : Numbering) (is_callback : Bool) (r : machine.Request) (x : machine.Handler) (y : Handler) → IsHandlerOf n x y →
    IsHandlerOf n (asking.placed is_callback r x) (placed is_callback (posted_of n r) y)
placed_alike n true r x y e = record {
  stage = e.stage;
  services = e.services;
  queue = e.queue;
  callback = refl;
  answer = e.answer;
  failure = e.failure;
  sessions = e.sessions;
  refused = e.refused;
}
placed_alike n false r x y e = record {
  stage = e.stage;
  services = e.services;
  queue = ap (λ (q : List Posted). q ++ posted_of n r ∷ []) e.queue ∙ sym (map_append (posted_of n) x.queue (r ∷ []));
  callback = e.callback;
  answer = e.answer;
  failure = e.failure;
  sessions = e.sessions;
  refused = e.refused;
}

pub send_alike : (n : Numbering) (is_callback : Bool) (k : ℕ) (r : machine.Request) (w : machine.World) (s : State) → IsHalfOf n w s →
    IsHalfOf n (asking.send is_callback k r w) (send is_callback k (posted_of n r) s)
send_alike n is_callback k r w s e = put_alike n w s k _ _ e (placed_alike n is_callback r (w.handlers k) (s.handlers k) (e.handlers k))

pub passes_alike : (n : Numbering) (passing : Bool) (h k : ℕ) (w : machine.World) (s : State) → IsHalfOf n w s →
    IsHalfOf n (asking.passes passing h k w) (passes passing h k s)
passes_alike n false h k w s e = e
passes_alike n true h k w s e = rights_alike n w s (pass h k) e

-- ---- a new handler

pub handler_alike : (n : Numbering) (k h : ℕ) (w : machine.World) (s : State) → IsHalfOf n w s → IsHalfOf n (asking.with_handler k h w) (with_handler k h s)
handler_alike n k h w s e = record {
  count = ap (λ m. m + 1) e.count;
  rights = ap (λ (r : Rights). record { queue = given_to k (Some h) r.queue; top = given_to k None r.top }) e.rights;
  handlers = λ j. chosen n (j == k) _ _ _ _ (new n) (e.handlers j);
}
