-- What stays of the frames and requests of handlers in parts of a turn: what is put, told, posted and handed.
use Rattle.std.proofs.Common.{ℕ, ◌≡◌, ◌≢◌, ◌==◌, ◌&&◌, Bool, true, false, List, ◌++◌, Option, Some, None, refl, sym, ap, subst, ◌∙◌}
use Rattle.std.proofs.lemmas.Bool.{eq-eqb, eqb-true, ne_eqb}
use Rattle.std.specs.Prelude.{if◌then◌else◌, is_some}
use Rattle.std.specs.List.{list_any}
use Rattle.sc_rules.specs.declared.entity_types.entity_type.EntityType.{EntityType}
use Rattle.sc_lockpass.specs.Passing.{Passed}
use Rattle.sc_lockpass.specs.Rights.{is_among, is_handler}
use Rattle.sc_lockpass.specs.wait_conditions.Reservations.{ends_session}
use Rattle.sc_lockpass.specs.declared.wait_conditions.session.Release.{Release}
use Rattle.sc_lockpass.specs.declared.wait_conditions.session.Release.TheVariants as release_at
use Rattle.sc_model.specs.declared.cause.Cause.{Cause}
use Rattle.sc_model.specs.Answers.{answer_to, answered, finish, return_rights}
use Rattle.sc_model.specs.Asking.{passes, placed, send, with_handler}
use Rattle.sc_model.specs.Exits.{handed_as}
use Rattle.sc_model.specs.Failures.{fails_with, fallen, is_waited_by, requests_at, told}
use Rattle.sc_model.specs.Handlers.{Answer, Frame, Handler, Request, World, new_handler, put, with_stack}
use Rattle.sc_model.specs.Preconditions.{counted_refusal}
use Rattle.sc_model.specs.Sessions.{release, session_ended}
use Rattle.sc_model.specs.Values.{Value}
use Rattle.sc_machine_laws.proofs.states.links.Looks.{m_put-off}
use Rattle.sc_refines_world.specs.Moving.{Falls, RequestsStay}

-- ---- what stays of a handler

-- its frames and requests, and whether it has failed
pub record Alike (x y : Handler) : Type 0 where
  pub stack : y.stack ≡ x.stack
  pub queue : y.queue ≡ x.queue
  pub callback : y.callback ≡ x.callback
  pub failure : y.failure ≡ x.failure

pub alike_again : {x y z : Handler} → Alike x y → Alike y z → Alike x z
alike_again a b = record { stack = b.stack ∙ a.stack; queue = b.queue ∙ a.queue; callback = b.callback ∙ a.callback; failure = b.failure ∙ a.failure }

pub alike_same : (x : Handler) → Alike x x
alike_same x = record { stack = refl; queue = refl; callback = refl; failure = refl }

pub alike_to : (x y : Handler) → y ≡ x → Alike x y
alike_to x y e = subst (Alike x) (sym e) (alike_same x)

ended_like : (b : Bool) (x : Handler) → Alike x (session_ended b x)
ended_like true x = record { stack = refl; queue = refl; callback = refl; failure = refl }
ended_like false x = alike_same x

pub counted_like : (b : Bool) (x : Handler) → Alike x (counted_refusal b x)
counted_like true x = alike_same x
counted_like false x = record { stack = refl; queue = refl; callback = refl; failure = refl }

pub rest_same : (x : Handler) → RequestsStay x x
rest_same x = record { queue_stays = refl; callback_stays = refl; failure_stays = refl }

pub rest_alike : {x y z : Handler} → RequestsStay x y → Alike y z → RequestsStay x z
rest_alike r a = record { queue_stays = a.queue ∙ r.queue_stays; callback_stays = a.callback ∙ r.callback_stays; failure_stays = a.failure ∙ r.failure_stays }

module _ (h : ℕ) where
  pub put_own : (x : Handler) (v : World) → (put h x v).handlers h ≡ x
  put_own x v = ap (λ (b : Bool). if b then x else v.handlers h) (eq-eqb h h refl)

  pub put_like : (j : ℕ) (x : Handler) (v : World) → Alike (v.handlers j) x → Alike (v.handlers h) ((put j x v).handlers h)
  put_like j x v a = by (h == j) refl
    where
      by : (b : Bool) → (h == j) ≡ b → Alike (v.handlers h) (if b then x else v.handlers h)
      by true e = subst (λ k. Alike (v.handlers k) x) (sym (eqb-true h j e)) a
      by false e = alike_same (v.handlers h)

  pub release_like : (how : Release) (ks : List ℕ) (v : World) → Alike (v.handlers h) ((release how ks v).handlers h)
  release_like how ks v = ended_like (ends_session how && is_among h ks) (v.handlers h)

  rights_like : (p : Option Passed) (v : World) → Alike (v.handlers h) ((return_rights p v).handlers h)
  rights_like None v = alike_same (v.handlers h)
  rights_like (Some p) v = record { stack = refl; queue = refl; callback = refl; failure = refl }

  answer_like : (b : Bool) (p : Option ℕ) (a : Answer) (v : World) → Alike (v.handlers h) ((answer_to b p a v).handlers h)
  answer_like true (Some p) a v = put_like p (answered a (v.handlers p)) v (record { stack = refl; queue = refl; callback = refl; failure = refl })
  answer_like true None a v = alike_same (v.handlers h)
  answer_like false p a v = alike_same (v.handlers h)

  pub finish_like : (r : Request) (a : Answer) (v : World) → Alike (v.handlers h) ((finish r a v).handlers h)
  finish_like r a v = alike_again (rights_like r.passed v) (answer_like r.is_waited r.poster a (return_rights r.passed v))

  pub passes_like : (b : Bool) (j : ℕ) (v : World) → Alike (v.handlers h) ((passes b h j v).handlers h)
  passes_like true j v = alike_same (v.handlers h)
  passes_like false j v = alike_same (v.handlers h)

  -- a request goes to another handler, and so does a creation
  pub send_like : (b : Bool) (j : ℕ) (q : Request) (v : World) → h ≢ j → Alike (v.handlers h) ((send b j q v).handlers h)
  send_like b j q v ne = alike_to (v.handlers h) ((send b j q v).handlers h) (m_put-off j (placed b q (v.handlers j)) v h ne)

  pub new_like : (j : ℕ) (v : World) → h ≢ j → Alike (v.handlers h) ((with_handler j h v).handlers h)
  new_like j v ne = alike_to (v.handlers h) ((with_handler j h v).handlers h) (ap (λ (b : Bool). if b then new_handler else v.handlers h) (ne_eqb h j ne))

  pub stack_own : (st : List Frame) (v : World) → ((with_stack h st v).handlers h).stack ≡ st
  stack_own st v = ap (λ (x : Handler). x.stack) (put_own (record (v.handlers h) { stack = st }) v)

  -- the handler is put, and nothing else of it has changed but its objects, frames and answer
  pub rest_put : (x y : Handler) (v : World) → RequestsStay x y → RequestsStay x ((put h y v).handlers h)
  rest_put x y v r = subst (RequestsStay x) (sym (put_own y v)) r

  pub rest_stack : {x : Handler} (st : List Frame) (v : World) → RequestsStay x (v.handlers h) → RequestsStay x ((with_stack h st v).handlers h)
  rest_stack {x} st v r = rest_put x (record (v.handlers h) { stack = st }) v
      (record { queue_stays = r.queue_stays; callback_stays = r.callback_stays; failure_stays = r.failure_stays })

  -- ---- a failure

  pub fails_falls : (x : Handler) → x.failure ≡ None → (why : Cause) (taken : List Request) (v : World) → Falls x ((fails_with h why taken v).handlers h)
  fails_falls x stood why taken v =
      let a = ended_like (ends_session release_at.Failure && is_handler h (v.rights.queue h)) (fallen why (v.handlers h)) in
      subst (Falls x) (sym own)
      (record { stood = stood; has_failed = ap is_some a.failure; stack_is = a.stack; queue_is = a.queue; callback_is = a.callback })
    where
      own : (fails_with h why taken v).handlers h ≡ session_ended (ends_session release_at.Failure && is_handler h (v.rights.queue h)) (fallen why (v.handlers h))
      own = ap (λ (b : Bool). session_ended (ends_session release_at.Failure && is_handler h (v.rights.queue h))
          (if b then fallen why (v.handlers h) else told (list_any (is_waited_by h) (taken ++ requests_at (v.handlers h))) (v.handlers h))) (eq-eqb h h refl)

-- what comes is one of two
pub either : (P : World → Type 0) (b : Bool) (x y : World) → P x → P y → P (if b then x else y)
either P true x y t u = t
either P false x y t u = u

-- what an answer or a result leaves of the frame to which it is handed
pub record IsHanded (f g : Frame) : Type 0 where
  pub tasks : g.tasks ≡ f.tasks
  pub current : g.current ≡ f.current
  pub routine : g.routine ≡ f.routine
  pub origin : g.origin ≡ f.origin
  pub text : g.text ≡ f.text
  pub environment : g.environment ≡ f.environment

pub handed_same : (gives : Option EntityType) (v : Option Value) (f : Frame) → IsHanded f (handed_as gives v f)
handed_same (Some t) (Some v) f = record { tasks = refl; current = refl; routine = refl; origin = refl; text = refl; environment = refl }
handed_same (Some t) None f = record { tasks = refl; current = refl; routine = refl; origin = refl; text = refl; environment = refl }
handed_same None v f = record { tasks = refl; current = refl; routine = refl; origin = refl; text = refl; environment = refl }
