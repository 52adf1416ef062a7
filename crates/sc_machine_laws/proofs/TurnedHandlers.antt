-- What a request, or the creation of a handler, leaves of another handler.
use Rattle.std.proofs.Common.{◌≡◌, ◌≢◌, ◌⊎◌, ⊎_elim, inl, inr, ℕ, ◌<◌, ◌≤◌, ◌==◌, ◌&&◌, ◌||◌, not, Bool, true, false, List, [], ◌∷◌, ◌++◌, Option, Some, None, length, refl, sym, ap, ◌∙◌, subst, arith}
use Rattle.std.specs.Prelude.{if◌then◌else◌, nat_lt, is_some}
use Rattle.std.proofs.lemmas.Bool.{eqb-true, ne_eqb}
use Rattle.sc_rules.specs.declared.entity_types.entity_type.EntityType.{EntityType}
use Rattle.sc_lockpass.specs.Rights.{is_handler, held}
use Rattle.sc_lockpass.specs.declared.wait_conditions.session.Release.TheVariants as release_at
use Rattle.sc_model.specs.declared.cause.Cause.TheVariants as cause
use Rattle.sc_model.specs.Values.{Reference, Operand}
use Rattle.sc_model.specs.Limits.{max_queue}
use Rattle.sc_model.specs.Handlers.{Calls, Request, Answer, Frame, Handler, World, new_handler, put, with_stack}
use Rattle.sc_model.specs.Asking.{passes, placed, send, awaits_if, request_by, is_callback, asks, request, with_handler, passes_or_releases, created, creates_handler}
use Rattle.sc_machine_laws.proofs.states.Waits.{true_false}
use Rattle.sc_machine_laws.proofs.states.links.Looks.{m_put-own, m_put-off}
use Rattle.sc_machine_laws.specs.RequestLaws as laws
use Rattle.sc_machine_laws.specs.RequestLaws.{QueueComes, CallbackComes, Stays}
use Rattle.sc_machine_laws.proofs.RestingHandlers.{Rests, rests_same, put_at, Same, same_again, put_same, stack_same, release_same}
use Rattle.sc_machine_laws.proofs.Others.{Heard, same, Comes, same_comes, heard_after, fail_comes}

-- ---- tests

pub not_true : (b : Bool) → not b ≡ false → b ≡ true
not_true true e = refl
not_true false e = true_false e

none_holds : {A : Type 0} → false ≡ true → A
none_holds e = cc

pub is_holder : (h : ℕ) (o : Option ℕ) → is_handler h o ≡ true → o ≡ Some h
is_holder h None e = none_holds e
is_holder h (Some j) e = ap Some (eqb-true j h e)

or_last : (a b c : Bool) → ((a || b) || c) ≡ true → a ≡ false → c ≡ false → b ≡ true
or_last true b c e f i = true_false f
or_last false true c e f i = refl
or_last false false c e f i = sym i ∙ e

-- ---- a turn

module _ (g k : ℕ) (ne : k ≢ g) (Why : Request → Answer → Type 0) (Q : Type 0) where
  pub record Turned (w v : World) : Type 0 where
    pub stays : Stays w g k (v.handlers k)
    pub heard : Heard g k Why (w.handlers k) v
    pub count : w.count ≤ v.count
    pub own : Q → ((v.handlers g).queue ≡ (w.handlers g).queue) ⊎ (is_some (v.handlers g).failure ≡ true)

  pub rests_stay : (w : World) (y : Handler) → Rests (w.handlers k) y → Stays w g k y
  rests_stay w y r = record {
    objects_stay = r.objects;
    stack_stays = r.stack;
    failure_stays = r.failure;
    queue_comes = laws.QueueComes.stays r.queue;
    callback_comes = laws.CallbackComes.stays r.callback;
  }

  pub comes_turned : {w v : World} → Comes g k ne Why w v → Turned w v
  comes_turned {w} {v} c =
      record { stays = rests_stay w (v.handlers k) c.rests; heard = c.heard; count = c.count; own = λ q. c.own }

  if_turned : (w : World) (b : Bool) (x y : World) → (b ≡ true → Turned w x) → (b ≡ false → Turned w y) →
      Turned w (if b then x else y)
  if_turned w true x y p q = p refl
  if_turned w false x y p q = q refl

  -- the handler of the turn was changed before
  pub put_turned : (x : Handler) (w v : World) → x.queue ≡ (w.handlers g).queue → Turned (put g x w) v → Turned w v
  put_turned x w v e t = record {
    stays = record {
      objects_stay = t.stays.objects_stay ∙ ap (λ (y : Handler). y.objects) off;
      stack_stays = t.stays.stack_stays ∙ ap (λ (y : Handler). y.stack) off;
      failure_stays = t.stays.failure_stays ∙ ap (λ (y : Handler). y.failure) off;
      queue_comes = queue_on t.stays.queue_comes;
      callback_comes = callback_on t.stays.callback_comes;
    };
    heard = heard_after g k ne Why (put_same g k ne x w e) t.heard;
    count = t.count;
    own = λ q. ⊎_elim (λ i. inl (i ∙ ap (λ (y : Handler). y.queue) (m_put-own g x w) ∙ e)) (λ d. inr d) (t.own q);
  }
    where
      off : (put g x w).handlers k ≡ w.handlers k
      off = m_put-off g x w k ne

      queue_on : QueueComes (put g x w) g k (v.handlers k) → QueueComes w g k (v.handlers k)
      queue_on (laws.QueueComes.stays i) = laws.QueueComes.stays (i ∙ ap (λ (y : Handler). y.queue) off)
      queue_on (laws.QueueComes.comes r poster right i) = laws.QueueComes.comes r poster right
          (i ∙ ap (λ (y : Handler). y.queue ++ r ∷ []) off)

      callback_on : CallbackComes (put g x w) g k (v.handlers k) → CallbackComes w g k (v.handlers k)
      callback_on (laws.CallbackComes.stays i) = laws.CallbackComes.stays (i ∙ ap (λ (y : Handler). y.callback) off)
      callback_on (laws.CallbackComes.comes r poster right i) = laws.CallbackComes.comes r poster right i

  -- ---- a request

  -- how the handlers look when the request has been sent, on a world that looks like the one before
  sent_stays : (w u : World) (j : ℕ) (c : Bool) (q : Request) → u.handlers k ≡ w.handlers k → q.poster ≡ Some g
      → (k ≡ j → c ≡ true → w.rights.top k ≡ Some g) → (k ≡ j → c ≡ false → w.rights.queue k ≡ Some g)
      → Stays w g k ((send c j q u).handlers k)
  sent_stays w u j c q off poster top queue = by c (top) (queue)
    where
      by : (c : Bool) → (k ≡ j → c ≡ true → w.rights.top k ≡ Some g) → (k ≡ j → c ≡ false → w.rights.queue k ≡ Some g)
          → Stays w g k ((send c j q u).handlers k)
      by true top queue = ⊎_elim
          (λ (a : (k ≡ j) × ((put j (placed true q (u.handlers j)) u).handlers k ≡ placed true q
          (u.handlers k))). record {
            objects_stay = ap (λ (y : Handler). y.objects) a.1 ∙ ap (λ (y : Handler). y.objects) off;
            stack_stays = ap (λ (y : Handler). y.stack) a.1 ∙ ap (λ (y : Handler). y.stack) off;
            failure_stays = ap (λ (y : Handler). y.failure) a.1 ∙ ap (λ (y : Handler). y.failure) off;
            queue_comes = laws.QueueComes.stays (ap (λ (y : Handler). y.queue) a.1 ∙ ap (λ (y : Handler). y.queue) off);
            callback_comes = laws.CallbackComes.comes q poster (top a.0 refl) (ap (λ (y : Handler). y.callback) a.1);
          })
          (λ e. rests_stay w _ (rests_same (w.handlers k) _ (e ∙ off)))
          (put_at j k (placed true q) u)
      by false top queue = ⊎_elim
          (λ (a : (k ≡ j) × ((put j (placed false q (u.handlers j)) u).handlers k ≡ placed false q
          (u.handlers k))). record {
            objects_stay = ap (λ (y : Handler). y.objects) a.1 ∙ ap (λ (y : Handler). y.objects) off;
            stack_stays = ap (λ (y : Handler). y.stack) a.1 ∙ ap (λ (y : Handler). y.stack) off;
            failure_stays = ap (λ (y : Handler). y.failure) a.1 ∙ ap (λ (y : Handler). y.failure) off;
            queue_comes = laws.QueueComes.comes q poster (queue a.0 refl)
                (ap (λ (y : Handler). y.queue) a.1 ∙ ap (λ (y : Handler). y.queue ++ q ∷ []) off);
            callback_comes = laws.CallbackComes.stays
                (ap (λ (y : Handler). y.callback) a.1 ∙ ap (λ (y : Handler). y.callback) off);
          })
          (λ e. rests_stay w _ (rests_same (w.handlers k) _ (e ∙ off)))
          (put_at j k (placed false q) u)

  placed_answer : (c : Bool) (q : Request) (x : Handler) → (placed c q x).answer ≡ x.answer
  placed_answer true q x = refl
  placed_answer false q x = refl

  sent_answer : (u : World) (j : ℕ) (c : Bool) (q : Request) → ((send c j q u).handlers k).answer
      ≡ (u.handlers k).answer
  sent_answer u j c q = ⊎_elim
      (λ (a : (k ≡ j) × ((put j (placed c q (u.handlers j)) u).handlers k ≡ placed c q (u.handlers k))). ap
      (λ (y : Handler). y.answer) a.1 ∙ placed_answer c q (u.handlers k))
      (λ e. ap (λ (y : Handler). y.answer) e)
      (put_at j k (placed c q) u)

  passed_handlers : (b : Bool) (j : ℕ) (w : World) → (passes b g j w).handlers ≡ w.handlers
  passed_handlers true j w = refl
  passed_handlers false j w = refl

  passed_count : (b : Bool) (j : ℕ) (w : World) → (passes b g j w).count ≡ w.count
  passed_count true j w = refl
  passed_count false j w = refl

  asks_turned : (r : Reference) (x : List ℕ) (us : List Operand) (t : Option EntityType) (passing waiting : Bool)
      (f : Frame) (below : List Frame)
      (w : World) → held w.rights g r.handler ≡ true → (Q → r.handler ≢ g) →
      Turned w (asks g r x us t passing waiting f below w)
  asks_turned r x us t passing waiting f below w has other = record {
    stays = subst (λ (hs : ℕ → Handler). Stays w g k (hs k)) (sym there)
        (sent_stays w before r.handler (is_callback g r.handler w) q off refl
        (λ e c. ap w.rights.top e ∙ is_holder g (w.rights.top r.handler) c)
        (λ e c. ap w.rights.queue e ∙ is_holder g (w.rights.queue r.handler)
        (or_last (r.handler == g) (is_handler g (w.rights.queue r.handler)) (is_handler g (w.rights.top r.handler)) has
        (ne_eqb r.handler g (λ i. ne (e ∙ i))) c)));
    heard = same (ap (λ (hs : ℕ → Handler). (hs k).answer) there ∙ sent_answer before r.handler
        (is_callback g r.handler w) q ∙ ap (λ (y : Handler). y.answer) off);
    count = let e : (asks g r x us t passing waiting f below w).count ≡ w.count =
        passed_count passing r.handler after in omega (arith, e);
    own = λ i. inl (ap (λ (hs : ℕ → Handler). (hs g).queue) there
        ∙ ap (λ (y : Handler). y.queue)
        (m_put-off r.handler (placed (is_callback g r.handler w) q (before.handlers r.handler)) before g
        (λ e. other i (sym e)))
        ∙ ap (λ (y : Handler). y.queue)
        (m_put-own g (record (w.handlers g) { stack = awaits_if waiting r.handler t false f ∷ below }) w));
  }
    where
      before : World
      before = with_stack g (awaits_if waiting r.handler t false f ∷ below) w

      q : Request
      q = request_by g r (Calls x) us waiting passing w

      after : World
      after = send (is_callback g r.handler w) r.handler q before

      off : before.handlers k ≡ w.handlers k
      off = m_put-off g (record (w.handlers g) { stack = awaits_if waiting r.handler t false f ∷ below }) w k ne

      there : (asks g r x us t passing waiting f below w).handlers ≡ after.handlers
      there = passed_handlers passing r.handler after

  pub request_turned : (r : Reference) (x : List ℕ) (us : List Operand) (t : Option EntityType) (passing : Bool)
      (f : Frame) (below : List Frame)
      (w : World) → (Q → r.handler ≢ g) → Turned w (request g r x us t passing f below w)
  request_turned r x us t passing f below w other =
      if_turned w (not (held w.rights g r.handler)) _ _ (λ e. comes_turned (fail_comes g k ne Why cause.NotHeld w))
      (λ has. if_turned w (is_some (w.handlers r.handler).failure) _ _
      (λ e. comes_turned (fail_comes g k ne Why cause.SupplierFailed w))
      (λ e. if_turned w (not (is_callback g r.handler w) && not
      (nat_lt (length (w.handlers r.handler).queue) max_queue)) _ _
      (λ i. comes_turned (fail_comes g k ne Why cause.QueueFull w))
      (λ i. asks_turned r x us t passing (passing || is_some t || is_callback g r.handler w) f below w
      (not_true (held w.rights g r.handler) has) other)))

  -- ---- a creation, where k is another one

  module _ (there : ℕ) (within : k ≢ there) (mine : g < there) where
    new_same : (w : World) → w.count ≡ there → Same g k ne w (with_handler w.count g w)
    new_same w e = record {
      rests = rests_same (w.handlers k) ((with_handler w.count g w).handlers k) (off k (λ i. within (i ∙ e)));
      answer = ap (λ (y : Handler). y.answer) (off k (λ i. within (i ∙ e)));
      count = omega arith;
      own = ap (λ (y : Handler). y.queue) (off g (λ i. omega (arith, i, e, mine)));
    }
      where
        off : (j : ℕ) → j ≢ w.count → (with_handler w.count g w).handlers j ≡ w.handlers j
        off j i = ap (λ (b : Bool). if b then new_handler else w.handlers j) (ne_eqb j w.count i)

    send_same : (w : World) (j : ℕ) (q : Request) → k ≢ j → g ≢ j → Same g k ne w (send false j q w)
    send_same w j q other own = record {
      rests = rests_same (w.handlers k) ((send false j q w).handlers k)
          (m_put-off j (placed false q (w.handlers j)) w k other);
      answer = ap (λ (y : Handler). y.answer) (m_put-off j (placed false q (w.handlers j)) w k other);
      count = omega arith;
      own = ap (λ (y : Handler). y.queue) (m_put-off j (placed false q (w.handlers j)) w g own);
    }

    released_same : (b : Bool) (j : ℕ) (w : World) → Same g k ne w (passes_or_releases b g j w)
    released_same true j w =
        record { rests = rests_same (w.handlers k) (w.handlers k) refl; answer = refl; count = omega arith; own = refl }
    released_same false j w = release_same g k ne release_at.Creation (j ∷ []) w

    created_same : (class : ℕ) (procedure : Option (List ℕ)) (us : List Operand) (t : EntityType) (passing : Bool)
        (f : Frame) (below : List Frame)
        (w : World) → w.count ≡ there
        → Same g k ne w (created g (record { handler = w.count; number = 1; class = class }) procedure us t
        passing f below w)
    created_same class procedure us t passing f below w e = same_again g k ne (new_same w e)
        (same_again g k ne (stack_same g k ne _ (with_handler w.count g w))
        (same_again g k ne (send_same _ w.count _ (λ i. within (i ∙ e)) (λ i. omega (arith, i, e, mine)))
        (released_same passing w.count _)))

    pub creates_comes : (most class : ℕ) (procedure : Option (List ℕ)) (us : List Operand) (t : EntityType) (passing : Bool)
        (f : Frame) (below : List Frame)
        (w : World) → w.count ≡ there → Turned w (creates_handler most g class procedure us t passing f below w)
    creates_comes most class procedure us t passing f below w e = if_turned w (nat_lt w.count most) _ _
        (λ i. comes_turned (same_comes g k ne Why (created_same class procedure us t passing f below w e)))
        (λ i. comes_turned (fail_comes g k ne Why cause.TooManyHandlers w))
