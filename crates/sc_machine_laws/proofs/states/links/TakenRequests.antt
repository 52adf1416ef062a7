-- Taking a request of the queue, or a callback.
use Rattle.std.proofs.Common.{◌≡◌, ◌≢◌, inl, ℕ, ◌<◌, ◌==◌, ◌||◌, Bool, true, false, List, [], ◌∷◌, ◌++◌, Option, Some, None, length, refl, sym, ap, ◌∙◌, subst, arith}
use Rattle.std.specs.Prelude.{nat_lt, is_some}
use Rattle.std.specs.List.{list_any}
use Rattle.sc_tree.specs.Plain as tree
use Rattle.sc_tree.specs.Plain.{System, FeatureKind}
use Rattle.sc_class.specs.Tables.Features.{DeclaredFeature}
use Rattle.sc_rules.specs.declared.entity_types.entity_type.EntityType.{EntityType}
use Rattle.sc_rules.specs.Types.{declared_type}
use Rattle.sc_lockpass.specs.Rights.{Rights}
use Rattle.sc_machine_laws.specs.states.World.{Answer, Request, Frame, Handler, World, holder, rights_of, is_waited_by, and_this, and_begun, requests_of, begun, rest_of, take_request, take_callback, pop}
use Rattle.sc_machine_laws.specs.states.Steps.{waits_for, IsActive, Step, Takes, CallsBack, Still, Then}
use Rattle.sc_machine_laws.specs.states.Consistent.{IsConsistent}
use Rattle.sc_machine_laws.specs.states.Stands.{NeedsOf, IsRequest, AreRequests, IsCallback, IsRoutine, place_of, IsStack, IsHandler, IsNew, Stands}
use Rattle.sc_machine_laws.proofs.states.links.Maps.{put-own, same_rights}
use Rattle.sc_machine_laws.proofs.states.links.Lists.{one, put-off, Restacked, restacked_same, popping}
use Rattle.sc_machine_laws.proofs.states.links.Looks.{m_put-own, m_put-off, put_handler, put_stack, stands_put, stands_same, at_each}
use Rattle.sc_machine_laws.proofs.states.links.Requests.{same_waiter, same_waiters}
use Rattle.sc_machine_laws.proofs.states.links.Failures.{Leads, fails_leads}
use Rattle.sc_machine_laws.proofs.states.links.RequestEnds.{Replied}
use Rattle.sc_machine_laws.proofs.states.links.FrameSteps.{Keeps, ended_finishes, stays}
use Rattle.sc_machine_laws.proofs.states.links.Exits.{fresh_needs, if_leads, entered_stage}
use Rattle.sc_model.specs.declared.cause.Cause.{Cause}
use Rattle.sc_model.specs.declared.cause.Cause.TheVariants as cause
use Rattle.sc_model.specs.Values.{Reference, Value}
use Rattle.sc_model.specs.Environments.{Binding, binding_named, formals_bound, separate_formals}
use Rattle.sc_model.specs.Objects.{Object, object_numbered, fresh_object}
use Rattle.sc_model.specs.Invariants.{meets_invariant}
use Rattle.sc_model.specs.Routines as routines
use Rattle.sc_model.specs.Routines.{version_of, routine_named, routine_of}
use Rattle.sc_model.specs.Limits.{max_frames}
use Rattle.sc_model.specs.Handlers as machine
use Rattle.sc_model.specs.Handlers.{Errand, Calls, Makes, with_stack, put}
use Rattle.sc_model.specs.Failures as failures
use Rattle.sc_model.specs.Failures.{requests_at, fails_with}
use Rattle.sc_model.specs.Entries.{stage_with, entry, enters, enters_bound}
use Rattle.sc_model.specs.Exits.{is_unset_value}
use Rattle.sc_model.specs.Answers.{finish}
use Rattle.sc_model.specs.Takes.{replies, takes_kind, takes_version, takes_creation, with_new_object, takes_errand, takes_next, takes_callback}

-- a request's routine that has just begun
abbrev beginning : Request → Frame
beginning r = record { origin = Some r; reserved = []; needs = []; waits = None }

-- q has left its place in the machine, and is the topmost frame of h in the world
pub record Took (v : World) (n : machine.World) (h : ℕ) (q : machine.Request) : Type 0 where
  pub request : Request
  pub is : IsRequest request q
  pub below : List Frame
  pub stack : (v.handlers h).stack ≡ record { origin = Some request; reserved = []; needs = []; waits = None } ∷ below
  pub lives : (v.handlers h).failed ≡ false
  pub here : h < n.count
  pub popped : Stands (pop h v) n

-- ---- what comes of it

took_fails : (v : World) (n : machine.World) (h : ℕ) (q : machine.Request) (why : Cause) → IsConsistent v → Took v n h q
    → Leads v (fails_with h why (q ∷ []) n)
took_fails v n h q why fine t =
    fails_leads h why (q ∷ []) v n fine (record {
      handlers = λ k ne. subst (λ g. IsHandler g (n.handlers k)) (away.others k ne) (t.popped.handlers k);
      rights = t.popped.rights;
      new = λ k le. let was = t.popped.new k le in (subst IsNew (away.others k (λ e. let i = t.here in omega (arith, le, i, e))) was.0, was.1, was.2);
    })
    t.here (record { lives = t.lives; why = inl (ap waits_for t.stack) }) same
  where
    away : Restacked h t.below v (pop h v)
    away = popping h (beginning t.request) t.below v t.stack

    or_swap : (a b c : Bool) → (a || (b || c)) ≡ (b || (a || c))
    or_swap true true c = refl
    or_swap true false c = refl
    or_swap false true c = refl
    or_swap false false c = refl

    first : (k : ℕ) (o : Option Request) (rs : List Request)
        → list_any (is_waited_by k) (and_this o (t.request ∷ rs)) ≡ (is_waited_by k t.request || list_any (is_waited_by k) (and_this o rs))
    first k None rs = refl
    first k (Some c) rs = or_swap (is_waited_by k c) (is_waited_by k t.request) (list_any (is_waited_by k) rs)

    same : (k : ℕ) → list_any (is_waited_by k) (requests_of (v.handlers h)) ≡ list_any (failures.is_waited_by k) (q ∷ requests_at (n.handlers h))
    same k =
        let x = t.popped.handlers h in
        ap (λ s. list_any (is_waited_by k) (and_this (v.handlers h).callback (and_begun s (v.handlers h).requests))) t.stack
        ∙ first k (v.handlers h).callback (and_begun t.below (v.handlers h).requests)
        ∙ ap (λ (g : Handler). is_waited_by k t.request || list_any (is_waited_by k) (requests_of g)) (sym away.own)
        ∙ ap (λ (b : Bool). b || list_any (is_waited_by k) (requests_of ((pop h v).handlers h))) (same_waiter k t.request q t.is)
        ∙ ap (λ (b : Bool). failures.is_waited_by k q || b) (same_waiters k ((pop h v).handlers h) (n.handlers h) x.stack x.requests x.callback)

took_finishes : (G : World → Type 0) (K : Keeps G) (v : World) (n : machine.World) (h : ℕ) (q : machine.Request) (o : Option Value) → G v
    → Took v n h q → Leads v (finish q (machine.Reply o) n)
took_finishes G K v n h q o good t =
    let f : Frame = record { origin = Some t.request; reserved = []; needs = []; waits = None } in
    let on : IsActive (v.handlers h) = (t.lives, ap waits_for t.stack) in
    ended_finishes G K v h f t.below n Answer.Reply (machine.Reply o) t.request q good t.here (Replied o) refl t.is
    (record {
      released = record {
        world = v;
        steps = Still v;
        needs = [];
        stack = restacked_same h (record { origin = Some t.request; reserved = []; needs = []; waits = None } ∷ t.below) v t.stack;
        queue = λ k. refl;
      };
      active = on;
      at = t.stack;
      stands = t.popped;
    })

took_enters : (v : World) (n : machine.World) (h : ℕ) (q : machine.Request) (below : List machine.Frame) (me : Reference) (r : routines.Routine)
    (bs : List Binding) → Took v n h q → (n.handlers h).stack ≡ below
    → Leads v (with_stack h (entry me r (machine.Requested q) bs ∷ below) n)
took_enters v n h q below me r bs t at =
    let f : Frame = record { origin = Some t.request; reserved = []; needs = []; waits = None } in
    let st : List machine.Frame = entry me r (machine.Requested q) bs ∷ below in
    let away : Restacked h t.below v (pop h v) = popping h f t.below v t.stack in
    let under : IsStack below t.below = subst (λ s. IsStack s t.below) at
    (subst (IsStack (n.handlers h).stack) (ap (λ (g : Handler). g.stack) away.own) (t.popped.handlers h).stack) in
    let mine : v.handlers h ≡ record ((pop h v).handlers h) { stack = f ∷ t.below } =
    ap (λ s. record (v.handlers h) { stack = s }) t.stack ∙ ap (λ (g : Handler). record g { stack = f ∷ t.below }) (sym away.own) in
    stays v (with_stack h st n) (stands_put h (entry me r (machine.Requested q) bs ∷ below)
    (record { origin = Some t.request; reserved = []; needs = []; waits = None } ∷ t.below) (pop h v) v n (with_stack h st n) t.popped t.here
    (record { own = mine; others = λ k ne. sym (away.others k ne); top = λ k. refl })
    (put_stack h st n)
    (entered_stage (separate_formals bs) (place_of (entry me r (machine.Requested q) bs) below) (IsRoutine (entry me r (machine.Requested q) bs)
    (NeedsOf (stage_with (separate_formals bs)) (entry me r (machine.Requested q) bs)) (IsStack below))
    (record { origin = Some t.request; reserved = []; needs = []; waits = None } ∷ t.below) refl
    (t.is, refl, under, fresh_needs me r (machine.Requested q) bs))
    t.popped.rights (λ k le. inl refl))

-- ---- the cases of a take

module _ (G : World → Type 0) (K : Keeps G) (s : System) (v : World) (h : ℕ) (q : machine.Request) (below : List machine.Frame) (good : G v) where
  fails : (n : machine.World) (why : Cause) → Took v n h q → Leads v (fails_with h why (q ∷ []) n)
  fails n why t = took_fails v n h q why (K.consistent v good) t

  entered : (n : machine.World) (me : Reference) (o : Option routines.Routine) (vs : List Value) → Took v n h q → (n.handlers h).stack ≡ below
      → Leads v (enters s h me o (machine.Requested q) below (q ∷ []) vs n)
  entered n me None vs t at = fails n cause.BadCode t
  entered n me (Some r) vs t at = bound (formals_bound s r.text.formals 0 r.text.formals vs)
    where
      bound : (o : Option (List Binding)) → Leads v (enters_bound h me r (machine.Requested q) below (q ∷ []) o n)
      bound None = fails n cause.BadCode t
      bound (Some bs) = if_leads v (nat_lt (length below) max_frames) _ _ (λ e. took_enters v n h q below me r bs t at)
          (λ e. fails n cause.StackFull t)

  replied : (n : machine.World) (t : Option EntityType) (b : Option Binding) → Took v n h q → Leads v (replies h q t b n)
  replied n (Some t) (Some b) took = if_leads v (is_unset_value b.value t) _ _ (λ e. fails n cause.UnsetEntity took)
      (λ e. took_finishes G K v n h q (Some b.value) good took)
  replied n (Some t) None took = fails n cause.BadCode took
  replied n None (Some b) took = fails n cause.BadCode took
  replied n None None took = fails n cause.BadCode took

  kind : (n : machine.World) (x : List ℕ) (o : Object) (f : DeclaredFeature) (k : FeatureKind) → Took v n h q → (n.handlers h).stack ≡ below
      → Leads v (takes_kind s h q x below o f k n)
  kind n x o f (tree.Attribute d) t at = replied n (declared_type s [] d) (binding_named x o.attributes) t
  kind n x o f (tree.Routine c) t at = entered n q.target (routine_of s f) q.actuals t at

  version : (n : machine.World) (x : List ℕ) (o : Option Object) (f : Option DeclaredFeature) → Took v n h q → (n.handlers h).stack ≡ below
      → Leads v (takes_version s h q x below o f n)
  version n x (Some o) (Some f) t at = kind n x o f f.feature.kind t at
  version n x (Some o) None t at = fails n cause.BadCode t
  version n x None (Some f) t at = fails n cause.BadCode t
  version n x None None t at = fails n cause.BadCode t

  creation : (n : machine.World) (k : Option (List ℕ)) → Took v n h q → (n.handlers h).stack ≡ below → Leads v (takes_creation s h q k below n)
  creation n (Some x) t at = entered n q.target (routine_named s q.target.class x) q.actuals t at
  creation n None t at = if_leads v (meets_invariant s (fresh_object s q.target.class)) _ _ (λ e. took_finishes G K v n h q None good t)
      (λ e. fails n cause.Invariant t)

  with_object : (n : machine.World) (class : ℕ) → Took v n h q → Took v (with_new_object s h class n) h q
  with_object n class t = record {
    request = t.request;
    is = t.is;
    below = t.below;
    stack = t.stack;
    lives = t.lives;
    here = t.here;
    popped = stands_same h (n.handlers h).stack (pop h v) n (with_new_object s h class n) t.popped t.here
        (put_handler h (n.handlers h).stack (record (n.handlers h) { objects = (n.handlers h).objects ++ fresh_object s class ∷ [] }) n
        (record { failure = refl; stack = refl; queue = refl; callback = refl; answer = refl }))
        (t.popped.handlers h).stack refl;
  }

  pub errand_leads : (n : machine.World) (e : Errand) → Took v n h q → (n.handlers h).stack ≡ below → Leads v (takes_errand s h q e below n)
  errand_leads n (Makes k) t at = creation (with_new_object s h q.target.class n) k (with_object n q.target.class t)
      (ap (λ (x : machine.Handler). x.stack) (m_put-own h
      (record (n.handlers h) { objects = (n.handlers h).objects ++ fresh_object s q.target.class ∷ [] }) n) ∙ at)
  errand_leads n (Calls x) t at =
      if_leads v (q.target.handler == h) _ _ (λ e. version n x (object_numbered q.target.number (n.handlers h).objects)
      (version_of s q.target.class x) t at) (λ e. fails n cause.ForeignObject t)

-- ---- the two places

at_first : (rs : List Request) (q : machine.Request) (qs : List machine.Request) → AreRequests rs (q ∷ qs)
    → (r : Request) × (ls : List Request) × (rs ≡ r ∷ ls) × IsRequest r q × AreRequests ls qs
at_first [] q qs is = absurd is
at_first (r ∷ rs) q qs is = (r, rs, refl, is.0, is.1)

empty_stack : (gs : List Frame) → IsStack [] gs → gs ≡ []
empty_stack [] is = refl
empty_stack (g ∷ gs) is = absurd is

-- h's frame is popped again, and its other parts have changed on both sides alike
taken : (w : World) (m : machine.World) (h : ℕ) (g : Handler) (x : machine.Handler) (v : World) → Stands w m → h < m.count
    → Restacked h (w.handlers h).stack v (pop h v)
    → record (v.handlers h) { stack = (w.handlers h).stack } ≡ g → ((k : ℕ) → k ≢ h → v.handlers k ≡ w.handlers k) → ((k : ℕ) → v.queue k ≡ w.queue k)
    → ((k : ℕ) → v.top k ≡ w.top k)
    → IsHandler g x → Stands (pop h v) (put h x m)
taken w m h g x v s here away own others queue top is = record {
  handlers = λ k. at_each (λ y. IsHandler ((pop h v).handlers y) ((put h x m).handlers y)) h k
      (subst (IsHandler ((pop h v).handlers h)) (sym (m_put-own h x m)) (subst (λ i. IsHandler i x) (sym (away.own ∙ own)) is))
      (λ ne. subst (IsHandler ((pop h v).handlers k)) (sym (m_put-off h x m k ne))
      (subst (λ i. IsHandler i (m.handlers k)) (sym (away.others k ne ∙ others k ne)) (s.handlers k)));
  rights = same_rights (rights_of v) m.rights (λ k. ap holder (queue k) ∙ ap (λ (r : Rights). r.queue k) s.rights)
      (λ k. ap holder (top k) ∙ ap (λ (r : Rights). r.top k) s.rights);
  new = λ k le.
      let ne : k ≢ h = λ e. omega (arith, le, here, e) in
      let was = s.new k le in
      (subst IsNew (sym (away.others k ne ∙ others k ne)) was.0, queue k ∙ was.1, top k ∙ was.2);
}

pub took_next : (w : World) (m : machine.World) (h : ℕ) (q : machine.Request) (qs : List machine.Request) → Stands w m → h < m.count
    → (m.handlers h).failure ≡ None → (m.handlers h).stack ≡ [] → (m.handlers h).queue ≡ q ∷ qs
    → (v : World) × Step w v × Took v (put h (record (m.handlers h) { queue = qs }) m) h q
took_next w m h q qs s here alive idle has =
    let x = s.handlers h in
    let a = at_first (w.handlers h).requests q qs (subst (AreRequests (w.handlers h).requests) has x.requests) in
    let r = a.0 in
    let lives : (w.handlers h).failed ≡ false = x.failed ∙ ap is_some alive in
    let empty : (w.handlers h).stack ≡ [] = empty_stack (w.handlers h).stack (subst (λ st. IsStack st (w.handlers h).stack) idle x.stack) in
    let v = take_request h r w in
    let g : Handler = record (w.handlers h) { stack = begun r (w.handlers h).stack; requests = rest_of (w.handlers h).requests } in
    let own : v.handlers h ≡ g = put-own h (record (w.handlers h)
    { stack = begun r (w.handlers h).stack; requests = rest_of (w.handlers h).requests }) w.handlers in
    let rest : rest_of (w.handlers h).requests ≡ a.1 = ap rest_of a.2 in (
      v,
      Takes h r a.1 lives empty a.2,
      record {
        request = r;
        is = a.3;
        below = (w.handlers h).stack;
        stack = ap (λ (y : Handler). y.stack) own;
        lives = ap (λ (y : Handler). y.failed) own ∙ lives;
        here = here;
        popped = taken w m h (record (w.handlers h) { requests = rest_of (w.handlers h).requests }) (record (m.handlers h) { queue = qs }) v s here
            (popping h (record { origin = Some r; reserved = []; needs = []; waits = None }) (w.handlers h).stack v
            (ap (λ (y : Handler). y.stack) own)) (ap (λ (y : Handler). record y { stack = (w.handlers h).stack }) own)
            (λ k ne. put-off h (record (w.handlers h) { stack = begun r (w.handlers h).stack; requests = rest_of (w.handlers h).requests }) w.handlers
            k ne) (λ k. refl) (λ k. refl)
            (record {
              failed = x.failed;
              stack = x.stack;
              requests = subst (λ l. AreRequests l qs) (sym rest) a.4;
              callback = x.callback;
              answer = x.answer;
            });
      },
    )

some_callback : (o : Option Request) (q : machine.Request) → IsCallback o (Some q) → (r : Request) × (o ≡ Some r) × IsRequest r q
some_callback None q is = absurd is
some_callback (Some r) q is = (r, refl, is)

pub took_callback : (w : World) (m : machine.World) (h : ℕ) (q : machine.Request) → Stands w m → h < m.count → (m.handlers h).failure ≡ None
    → (m.handlers h).callback ≡ Some q
    → (v : World) × Step w v × Took v (put h (record (m.handlers h) { callback = None }) m) h q
took_callback w m h q s here alive has =
    let x = s.handlers h in
    let a = some_callback (w.handlers h).callback q (subst (IsCallback (w.handlers h).callback) has x.callback) in
    let r = a.0 in
    let lives : (w.handlers h).failed ≡ false = x.failed ∙ ap is_some alive in
    let v = take_callback h r w in
    let g : Handler = record (w.handlers h) { stack = begun r (w.handlers h).stack; callback = None } in
    let own : v.handlers h ≡ g = put-own h (record (w.handlers h) { stack = begun r (w.handlers h).stack; callback = None }) w.handlers in (
      v,
      CallsBack h r lives a.1,
      record {
        request = r;
        is = a.2;
        below = (w.handlers h).stack;
        stack = ap (λ (y : Handler). y.stack) own;
        lives = ap (λ (y : Handler). y.failed) own ∙ lives;
        here = here;
        popped = taken w m h (record (w.handlers h) { callback = None }) (record (m.handlers h) { callback = None }) v s here
            (popping h (record { origin = Some r; reserved = []; needs = []; waits = None }) (w.handlers h).stack v
            (ap (λ (y : Handler). y.stack) own)) (ap (λ (y : Handler). record y { stack = (w.handlers h).stack }) own)
            (λ k ne. put-off h (record (w.handlers h) { stack = begun r (w.handlers h).stack; callback = None }) w.handlers k ne) (λ k. refl)
            (λ k. refl)
            (record { failed = x.failed; stack = x.stack; requests = x.requests; callback = tt; answer = x.answer });
      },
    )

-- ---- a turn that takes a request

pub then_leads : (w v : World) (m : machine.World) → Step w v → Leads v m → Leads w m
then_leads w v m step l = record { world = l.world; steps = Then w v l.world step l.steps; stands = l.stands }

pub next_leads : (G : World → Type 0) (K : Keeps G) (s : System) (w : World) (m : machine.World) (h : ℕ) → G w → Stands w m → h < m.count
    → (m.handlers h).failure ≡ None → (m.handlers h).stack ≡ []
    → Leads w (takes_next s h (m.handlers h).queue m)
next_leads G K s w m h good stands here alive idle = by (m.handlers h).queue refl
  where
    by : (qs : List machine.Request) → (m.handlers h).queue ≡ qs → Leads w (takes_next s h qs m)
    by [] e = stays w m stands
    by (q ∷ qs) e =
        let t = took_next w m h q qs stands here alive idle e in
        then_leads w t.0 (takes_next s h (q ∷ qs) m) t.1
        (errand_leads G K s t.0 h q [] (K.kept w t.0 (one w t.0 t.1) good) (put h (record (m.handlers h) { queue = qs }) m) q.errand t.2
        (ap (λ (y : machine.Handler). y.stack) (m_put-own h (record (m.handlers h) { queue = qs }) m) ∙ idle))

pub callback_leads : (G : World → Type 0) (K : Keeps G) (s : System) (w : World) (m : machine.World) (h : ℕ) (q : machine.Request)
    (stack : List machine.Frame) → G w → Stands w m → h < m.count → (m.handlers h).failure ≡ None
    → (m.handlers h).stack ≡ stack → (m.handlers h).callback ≡ Some q → Leads w (takes_callback s h q stack m)
callback_leads G K s w m h q stack good stands here alive at has =
    let t = took_callback w m h q stands here alive has in
    then_leads w t.0 (takes_callback s h q stack m) t.1
    (errand_leads G K s t.0 h q stack (K.kept w t.0 (one w t.0 t.1) good) (put h (record (m.handlers h) { callback = None }) m) q.errand t.2
    (ap (λ (y : machine.Handler). y.stack) (m_put-own h (record (m.handlers h) { callback = None }) m) ∙ at))
