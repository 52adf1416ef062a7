-- What of a machine's handler counts for rights, and how a world goes on standing for the machine's state.
use Rattle.std.proofs.Common.{◌≡◌, ◌≢◌, ◌⊎◌, ⊎_elim, inl, inr, ℕ, ◌<◌, ◌≤◌, Bool, true, false, List, [], Some, None, refl, sym, ap, ◌∙◌, subst, arith}
use Rattle.std.specs.Prelude.{is_some, if◌then◌else◌}
use Rattle.std.specs.Option.{option_map}
use Rattle.std.proofs.lemmas.Bool.{eq-eqb, ne_eqb, cases_eq}
use Rattle.sc_lockpass.specs.Rights.{is_among}
use Rattle.sc_lockpass.specs.Rights as rights
use Rattle.sc_machine_laws.specs.states.World.{Grant, Frame, Handler, World, holder, rights_of}
use Rattle.sc_machine_laws.specs.states.Stands.{AreRequests, IsCallback, answer_of, IsStack, IsHandler, IsNew, Stands}
use Rattle.sc_machine_laws.proofs.states.links.Maps.{same_rights}
use Rattle.sc_machine_laws.proofs.states.links.Lists.{Restacked, Released, Reserved}
use Rattle.sc_model.specs.Objects.{Object}
use Rattle.sc_model.specs.Handlers as machine
use Rattle.sc_model.specs.Handlers.{put, with_stack}
use Rattle.sc_model.specs.Sessions.{session_ended}

-- the second looks like the first, as far as rights go
pub record Looks (x y : machine.Handler) : Type 0 where
  pub failure : y.failure ≡ x.failure
  pub stack : y.stack ≡ x.stack
  pub queue : y.queue ≡ x.queue
  pub callback : y.callback ≡ x.callback
  pub answer : y.answer ≡ x.answer

pub looks_same : (x : machine.Handler) → Looks x x
looks_same x = record { failure = refl; stack = refl; queue = refl; callback = refl; answer = refl }

pub looks_again : (x y z : machine.Handler) → Looks x y → Looks y z → Looks x z
looks_again x y z a b = record {
  failure = b.failure ∙ a.failure;
  stack = b.stack ∙ a.stack;
  queue = b.queue ∙ a.queue;
  callback = b.callback ∙ a.callback;
  answer = b.answer ∙ a.answer;
}

pub looks_by : (x y : machine.Handler) → y ≡ x → Looks x y
looks_by x y e = subst (Looks x) (sym e) (looks_same x)

pub looks_ended : (b : Bool) (x : machine.Handler) → Looks x (session_ended b x)
looks_ended false x = looks_same x
looks_ended true x = record { failure = refl; stack = refl; queue = refl; callback = refl; answer = refl }

pub looks_handler : (g : Handler) (x y : machine.Handler) → Looks x y → IsHandler g x → IsHandler g y
looks_handler g x y l p = record {
  failed = p.failed ∙ ap is_some (sym l.failure);
  stack = subst (λ s. IsStack s g.stack) (sym l.stack) p.stack;
  requests = subst (AreRequests g.requests) (sym l.queue) p.requests;
  callback = subst (IsCallback g.callback) (sym l.callback) p.callback;
  answer = p.answer ∙ ap (λ o. option_map answer_of o) (sym l.answer);
}

-- one handler of the machine has this stack now, and the others look the same
pub record Put (h : ℕ) (st : List machine.Frame) (m n : machine.World) : Type 0 where
  pub own : Looks (record (m.handlers h) { stack = st }) (n.handlers h)
  pub others : (k : ℕ) → k ≢ h → Looks (m.handlers k) (n.handlers k)
  pub count : n.count ≡ m.count

pub m_put-own : (h : ℕ) (x : machine.Handler) (m : machine.World) → (put h x m).handlers h ≡ x
m_put-own h x m = ap (λ (b : Bool). if b then x else m.handlers h) (eq-eqb h h refl)

pub m_put-off : (h : ℕ) (x : machine.Handler) (m : machine.World) (k : ℕ) → k ≢ h → (put h x m).handlers k ≡ m.handlers k
m_put-off h x m k ne = ap (λ (b : Bool). if b then x else m.handlers k) (ne_eqb k h ne)

pub put_handler : (h : ℕ) (st : List machine.Frame) (x : machine.Handler) (m : machine.World) → Looks (record (m.handlers h) { stack = st }) x
    → Put h st m (put h x m)
put_handler h st x m l = record {
  own = subst (Looks (record (m.handlers h) { stack = st })) (sym (m_put-own h x m)) l;
  others = λ k ne. looks_by (m.handlers k) ((put h x m).handlers k) (m_put-off h x m k ne);
  count = refl;
}

pub put_stack : (h : ℕ) (st : List machine.Frame) (m : machine.World) → Put h st m (with_stack h st m)
put_stack h st m = put_handler h st (record (m.handlers h) { stack = st }) m (looks_same (record (m.handlers h) { stack = st }))

-- with other objects and another stack before it
pub put_moved : (h : ℕ) (os : List Object) (old st : List machine.Frame) (m : machine.World)
    → Put h st m (with_stack h st (put h (record (m.handlers h) { objects = os; stack = old }) m))
put_moved h os old st m =
    let x : machine.Handler = record (m.handlers h) { objects = os; stack = old } in
    let n = put h (record (m.handlers h) { objects = os; stack = old }) m in
    record {
      own = subst (Looks (record (m.handlers h) { stack = st })) (sym (m_put-own h (record (n.handlers h) { stack = st }) n))
          (subst (λ (y : machine.Handler). Looks (record (m.handlers h) { stack = st }) (record y { stack = st })) (sym (m_put-own h x m))
          (record { failure = refl; stack = refl; queue = refl; callback = refl; answer = refl }));
      others = λ k ne. looks_by (m.handlers k) ((with_stack h st n).handlers k)
          (m_put-off h (record (n.handlers h) { stack = st }) n k ne ∙ m_put-off h x m k ne);
      count = refl;
    }

-- then more looks the same
pub put_more : (h : ℕ) (st : List machine.Frame) (m n o : machine.World) → Put h st m n → ((k : ℕ) → Looks (n.handlers k) (o.handlers k))
    → o.count ≡ n.count → Put h st m o
put_more h st m n o p l c = record {
  own = looks_again (record (m.handlers h) { stack = st }) (n.handlers h) (o.handlers h) p.own (l h);
  others = λ k ne. looks_again (m.handlers k) (n.handlers k) (o.handlers k) (p.others k ne) (l k);
  count = c ∙ p.count;
}

pub at_each : (P : ℕ → Type 0) (h k : ℕ) → P h → (k ≢ h → P k) → P k
at_each P h k here there = ⊎_elim (λ e. subst P (sym e) here) there (cases_eq k h)

-- both sides have a new stack
pub stands_put : (h : ℕ) (st : List machine.Frame) (fs : List Frame) (w v : World) (m n : machine.World) → Stands w m → h < m.count
    → Restacked h fs w v → Put h st m n
    → IsStack st fs → rights_of v ≡ n.rights → ((k : ℕ) → m.count ≤ k → (v.queue k ≡ w.queue k) ⊎ (v.queue k ≡ [])) → Stands v n
stands_put h st fs w v m n s here r p is e beyond = record {
  handlers = λ k. at_each (λ y. IsHandler (v.handlers y) (n.handlers y)) h k own
      (λ ne. subst (λ g. IsHandler g (n.handlers k)) (sym (r.others k ne))
      (looks_handler (w.handlers k) (m.handlers k) (n.handlers k) (p.others k ne) (s.handlers k)));
  rights = e;
  new = λ k le. after k (subst (λ c. c ≤ k) p.count le);
}
  where
    own : IsHandler (v.handlers h) (n.handlers h)
    own =
        let old = s.handlers h in
        looks_handler (v.handlers h) (record (m.handlers h) { stack = st }) (n.handlers h) p.own
        (subst (λ g. IsHandler g (record (m.handlers h) { stack = st })) (sym r.own) (record {
          failed = old.failed;
          stack = is;
          requests = old.requests;
          callback = old.callback;
          answer = old.answer;
        }))

    after : (k : ℕ) → m.count ≤ k → IsNew (v.handlers k) × (v.queue k ≡ []) × (v.top k ≡ [])
    after k le =
        let ne : k ≢ h = λ same. omega (arith, le, here, same) in
        let was = s.new k le in
        (subst IsNew (sym (r.others k ne)) was.0, ⊎_elim (λ same. same ∙ was.1) (λ gone. gone) (beyond k le), r.top k ∙ was.2)

-- the machine alone has a new stack, of the same parts
pub stands_same : (h : ℕ) (st : List machine.Frame) (w : World) (m n : machine.World) → Stands w m → h < m.count → Put h st m n
    → IsStack st (w.handlers h).stack → n.rights ≡ m.rights → Stands w n
stands_same h st w m n s here p is e =
    stands_put h st (w.handlers h).stack w w m n s here (record { own = refl; others = λ k ne. refl; top = λ k. refl }) p is (s.rights ∙ sym e)
    (λ k le. inl refl)

-- ---- rights

pub released_rights : (h : ℕ) (f : Frame) (fs : List Frame) (ks : List ℕ) (w : World) (r : Released h f fs ks w)
    → rights_of r.world ≡ rights.release ks (rights_of w)
released_rights h f fs ks w r = same_rights (rights_of r.world) (rights.release ks (rights_of w))
    (λ k. ap holder (r.queue k) ∙ by (is_among k ks) (w.queue k))
    (λ k. ap holder (r.stack.top k))
  where
    by : (b : Bool) (t : List Grant) → holder (if b then [] else t) ≡ (if b then None else holder t)
    by true t = refl
    by false t = refl

pub released_beyond : (h : ℕ) (f : Frame) (fs : List Frame) (ks : List ℕ) (w : World) (r : Released h f fs ks w) (k : ℕ)
    → (r.world.queue k ≡ w.queue k) ⊎ (r.world.queue k ≡ [])
released_beyond h f fs ks w r k = by (is_among k ks) (r.queue k)
  where
    by : (b : Bool) → r.world.queue k ≡ (if b then [] else w.queue k) → (r.world.queue k ≡ w.queue k) ⊎ (r.world.queue k ≡ [])
    by true e = inr e
    by false e = inl e

pub reserved_rights : (h : ℕ) (f : Frame) (fs : List Frame) (ks : List ℕ) (w : World) (r : Reserved h f fs ks w)
    → rights_of r.world ≡ rights.reserve h ks (rights_of w)
reserved_rights h f fs ks w r = same_rights (rights_of r.world) (rights.reserve h ks (rights_of w))
    (λ k. by k (is_among k ks) refl)
    (λ k. ap holder (r.stack.top k))
  where
    by : (k : ℕ) (b : Bool) → is_among k ks ≡ b → holder (r.world.queue k) ≡ (if b then Some h else holder (w.queue k))
    by k true e = r.held k e
    by k false e = ap holder (r.queue k e)
