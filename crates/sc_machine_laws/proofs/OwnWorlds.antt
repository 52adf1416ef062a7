-- What the frames of a handler rest on, and what stays of it in the handler's own turn.
use Rattle.std.proofs.Common.{ℕ, ◌≡◌, ◌≢◌, ◌⊎◌, ◌==◌, ◌&&◌, Bool, true, false, List, [], ◌++◌, Option, Some, None, refl, sym, ap, subst, ◌∙◌, inl, inr}
use Rattle.std.proofs.Math.Path.{fun_ext}
use Rattle.std.proofs.lemmas.Bool.{eq-eqb, eqb-true}
use Rattle.std.specs.Prelude.{if◌then◌else◌, is_some}
use Rattle.std.specs.List.{list_any}
use Rattle.sc_lockpass.specs.Rights.{Rights, is_among, is_handler}
use Rattle.sc_lockpass.specs.Passing.{Passed}
use Rattle.sc_lockpass.specs.wait_conditions.Reservations.{ends_session}
use Rattle.sc_lockpass.specs.declared.wait_conditions.session.Release.{Release}
use Rattle.sc_lockpass.specs.declared.wait_conditions.session.Release.TheVariants as release_at
use Rattle.sc_model.specs.declared.cause.Cause.{Cause}
use Rattle.sc_model.specs.Objects.{Object}
use Rattle.sc_model.specs.Handlers.{Request, Answer, Reply, Failed, Refused, Frame, Handler, World, new_handler, put, with_stack}
use Rattle.sc_model.specs.Sessions.{session_ended, release}
use Rattle.sc_model.specs.Answers.{heard, answered, answer_to, return_rights, finish}
use Rattle.sc_model.specs.Failures.{requests_at, is_waited_by, told, fallen, fails_with}
use Rattle.sc_model.specs.Asking.{passes, placed, send, with_handler}
use Rattle.sc_machine_laws.proofs.states.links.Looks.{m_put-own, m_put-off}
use Rattle.sc_machine_laws.proofs.RestingHandlers.{ended_rests}
use Rattle.sc_machine_laws.specs.Following.{IsQuiet, objects_of}
use Rattle.sc_machine_laws.specs.Following as following

-- ---- answers that make the handler fail

-- no reply has come, but that there will be none
abbrev pub IsNoReply : Option Answer → Type 0
IsNoReply a = (a ≡ Some Failed) ⊎ (a ≡ Some Refused)

heard_failed : (a : Answer) (why : Option Cause) → IsNoReply (heard a why (Some Failed))
heard_failed a (Some why) = inl refl
heard_failed (Reply v) None = inl refl
heard_failed Failed None = inl refl
heard_failed Refused None = inl refl

heard_refused : (a : Answer) (why : Option Cause) → IsNoReply (heard a why (Some Refused))
heard_refused a (Some why) = inr refl
heard_refused (Reply v) None = inr refl
heard_refused Failed None = inl refl
heard_refused Refused None = inr refl

-- what is heard changes nothing of that
pub heard_no_reply : (a : Answer) (why : Option Cause) (old : Option Answer) → IsNoReply old →
    IsNoReply (heard a why old)
heard_no_reply a why old (inl e) = subst (λ (o : Option Answer). IsNoReply (heard a why o)) (sym e) (heard_failed a why)
heard_no_reply a why old (inr e) = subst (λ (o : Option Answer). IsNoReply (heard a why o)) (sym e)
    (heard_refused a why)

-- ---- the same stack, and the same answer or one that is no reply

pub record IsLike (h : ℕ) (v u : World) : Type 0 where
  pub stack_is : (u.handlers h).stack ≡ (v.handlers h).stack
  pub no_reply : IsNoReply (v.handlers h).answer → IsNoReply (u.handlers h).answer

pub like_put : (h j : ℕ) (x : Handler) (v : World) → x.stack ≡ (v.handlers j).stack →
    (IsNoReply (v.handlers j).answer → IsNoReply x.answer) →
    IsLike h v (put j x v)
like_put h j x v e n = by (h == j) refl
  where
    by : (b : Bool) → (h == j) ≡ b → IsLike h v (record v { handlers = λ k. if k == j then x else v.handlers k })
    by true i = let m : h ≡ j = eqb-true h j i in record {
      stack_is = ap (λ (b : Bool). (if b then x else v.handlers h).stack) i ∙ e
          ∙ ap (λ (k : ℕ). (v.handlers k).stack) (sym m);
      no_reply = λ z. subst (λ (b : Bool). IsNoReply (if b then x else v.handlers h).answer) (sym i)
          (n (subst (λ (k : ℕ). IsNoReply (v.handlers k).answer) m z));
    }
    by false i = record {
      stack_is = ap (λ (b : Bool). (if b then x else v.handlers h).stack) i;
      no_reply = λ z. subst (λ (b : Bool). IsNoReply (if b then x else v.handlers h).answer) (sym i) z;
    }

pub like_again : (h : ℕ) (w v u : World) → IsLike h w v → IsLike h v u → IsLike h w u
like_again h w v u a b = record { stack_is = b.stack_is ∙ a.stack_is; no_reply = λ z. b.no_reply (a.no_reply z) }

pub like_release : (h : ℕ) (how : Release) (ks : List ℕ) (v : World) → IsLike h v (release how ks v)
like_release h how ks v =
    record {
      stack_is = stack (ends_session how && is_among h ks);
      no_reply = answer (ends_session how && is_among h ks);
    }
  where
    stack : (b : Bool) → (session_ended b (v.handlers h)).stack ≡ (v.handlers h).stack
    stack true = refl
    stack false = refl

    answer : (b : Bool) → IsNoReply (v.handlers h).answer → IsNoReply (session_ended b (v.handlers h)).answer
    answer true z = z
    answer false z = z

like_return : (h : ℕ) (p : Option Passed) (v : World) → IsLike h v (return_rights p v)
like_return h None v = record { stack_is = refl; no_reply = λ z. z }
like_return h (Some p) v = record { stack_is = refl; no_reply = λ z. z }

like_answer : (h : ℕ) (b : Bool) (p : Option ℕ) (a : Answer) (v : World) → IsLike h v (answer_to b p a v)
like_answer h true (Some p) a v = like_put h p (answered a (v.handlers p)) v refl
    (heard_no_reply a (v.handlers p).failure (v.handlers p).answer)
like_answer h true None a v = record { stack_is = refl; no_reply = λ z. z }
like_answer h false p a v = record { stack_is = refl; no_reply = λ z. z }

pub like_finish : (h : ℕ) (r : Request) (a : Answer) (v : World) → IsLike h v (finish r a v)
like_finish h r a v = like_again h v (return_rights r.passed v) (finish r a v) (like_return h r.passed v)
    (like_answer h r.is_waited r.poster a (return_rights r.passed v))

pub like_passes : (h : ℕ) (b : Bool) (g j : ℕ) (v : World) → IsLike h v (passes b g j v)
like_passes h true g j v = record { stack_is = refl; no_reply = λ z. z }
like_passes h false g j v = record { stack_is = refl; no_reply = λ z. z }

pub like_send : (h : ℕ) (b : Bool) (j : ℕ) (r : Request) (v : World) → IsLike h v (send b j r v)
like_send h b j r v = like_put h j (placed b r (v.handlers j)) v (stack b) (answer b)
  where
    stack : (b : Bool) → (placed b r (v.handlers j)).stack ≡ (v.handlers j).stack
    stack true = refl
    stack false = refl

    answer : (b : Bool) → IsNoReply (v.handlers j).answer → IsNoReply (placed b r (v.handlers j)).answer
    answer true z = z
    answer false z = z

-- a handler that is new is another one
pub like_new : (h j g : ℕ) (v : World) → (h == j) ≡ false → IsLike h v (with_handler j g v)
like_new h j g v i = record {
  stack_is = ap (λ (b : Bool). (if b then new_handler else v.handlers h).stack) i;
  no_reply = λ z. subst (λ (b : Bool). IsNoReply (if b then new_handler else v.handlers h).answer) (sym i) z;
}

-- ---- failures

-- nothing is left of the stack of a handler that fails
pub fallen_stack : (h : ℕ) (why : Cause) (taken : List Request) (v : World) →
    ((fails_with h why taken v).handlers h).stack ≡ []
fallen_stack h why taken v = (ended_rests (ends_session release_at.Failure && is_handler h (v.rights.queue h))
    (if h == h then fallen why (v.handlers h) else told
    (list_any (is_waited_by h) (taken ++ requests_at (v.handlers h))) (v.handlers h))).stack
    ∙ ap (λ (b : Bool). (if b then fallen why (v.handlers h) else told
    (list_any (is_waited_by h) (taken ++ requests_at (v.handlers h))) (v.handlers h)).stack)
    (eq-eqb h h refl)

-- ---- the handler is another, with the same objects

pub put_objects : (h : ℕ) (x : Handler) (w : World) → x.objects ≡ (w.handlers h).objects →
    objects_of (put h x w) ≡ objects_of w
put_objects h x w e = fun_ext (λ k. by k (k == h) refl)
  where
    by : (k : ℕ) (b : Bool) → (k == h) ≡ b → (if b then x else w.handlers k).objects ≡ (w.handlers k).objects
    by k true i = e ∙ ap (λ (j : ℕ). (w.handlers j).objects) (sym (eqb-true k h i))
    by k false i = refl

pub quiet_stays : (w v : World) (h k : ℕ) → v.handlers k ≡ w.handlers k → v.rights ≡ w.rights →
    IsQuiet w h k → IsQuiet v h k
quiet_stays w v h k e r (following.failed f) =
    following.failed (subst (λ (x : Handler). is_some x.failure ≡ true) (sym e) f)
quiet_stays w v h k e r (following.idle a b c) = following.idle (ap (λ (x : Handler). x.stack) e ∙ a)
    (ap (λ (x : Handler). x.queue) e ∙ b)
    (ap (λ (x : Rights). x.queue k) r ∙ c)
quiet_stays w v h k e r (following.waiting c) = following.waiting (ap (λ (x : Rights). x.top k) r ∙ c)

-- Objects, rights and other handlers are the same, and an answer that is no reply is still none.
pub record IsSame (h : ℕ) (w v : World) : Type 0 where
  pub objects_are : objects_of v ≡ objects_of w
  pub no_reply : IsNoReply (w.handlers h).answer → IsNoReply (v.handlers h).answer
  pub quiet : (k : ℕ) → k ≢ h → IsQuiet w h k → IsQuiet v h k

pub same_put : (h : ℕ) (x : Handler) (w : World) → x.objects ≡ (w.handlers h).objects →
    (IsNoReply (w.handlers h).answer → IsNoReply x.answer) →
    IsSame h w (put h x w)
same_put h x w e n = record {
  objects_are = put_objects h x w e;
  no_reply = λ z. subst (λ (y : Handler). IsNoReply y.answer) (sym (m_put-own h x w)) (n z);
  quiet = λ k ne q. quiet_stays w (put h x w) h k (m_put-off h x w k ne) refl q;
}

-- the stack twice put is the one put last
pub stack_again : (h : ℕ) (os : List Object) (old st : List Frame) (w : World) → os ≡ (w.handlers h).objects →
    with_stack h st (put h (record (w.handlers h) { objects = os; stack = old }) w) ≡ with_stack h st w
stack_again h os old st w e = λ i. record w { handlers = fun_ext (λ k. by k (k == h)) i }
  where
    own : (put h (record (w.handlers h) { objects = os; stack = old }) w).handlers h
        ≡ record (w.handlers h) { stack = old }
    own = m_put-own h (record (w.handlers h) { objects = os; stack = old }) w
        ∙ ap (λ (os : List Object). record (w.handlers h) { objects = os; stack = old }) e

    by : (k : ℕ) (b : Bool) →
        (if b then record ((put h (record (w.handlers h) { objects = os; stack = old }) w).handlers h) { stack = st }
        else if b then record (w.handlers h) { objects = os; stack = old } else w.handlers k)
        ≡ (if b then record (w.handlers h) { stack = st } else w.handlers k)
    by k true = ap (λ (x : Handler). record x { stack = st }) own
    by k false = refl

pub stack_once : (h : ℕ) (os : List Object) (st : List Frame) (w : World) → os ≡ (w.handlers h).objects →
    put h (record (w.handlers h) { objects = os; stack = st }) w ≡ with_stack h st w
stack_once h os st w e = ap (λ (os : List Object). put h (record (w.handlers h) { objects = os; stack = st }) w) e

-- the release of none changes nothing
pub none_released : (how : Release) (w : World) → release how [] w ≡ w
none_released how w = λ i. record w { handlers = fun_ext (λ k. by (ends_session how) k) i }
  where
    by : (b : Bool) (k : ℕ) → session_ended (b && false) (w.handlers k) ≡ w.handlers k
    by true k = refl
    by false k = refl
