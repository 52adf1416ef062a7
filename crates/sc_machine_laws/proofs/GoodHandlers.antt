-- Handlers whose objects meet their class invariants stay so where others change, are asked or are created.
use Rattle.std.proofs.Common.{ℕ, ◌≡◌, inl, inr, ◌<◌, ◌==◌, ◌&&◌, ◌||◌, not, Bool, true, false, List, [], ◌∷◌, ◌++◌, Option, Some, None, length, refl, sym, ap, subst, ◌∙◌, arith}
use Rattle.std.proofs.lemmas.Bool.{eq-eqb, eqb-true, ne_eqb}
use Rattle.std.specs.Prelude.{if◌then◌else◌, is_some, nat_lt}
use Rattle.std.specs.List.{list_any}
use Rattle.sc_tree.specs.Plain.{System}
use Rattle.sc_rules.specs.declared.entity_types.entity_type.EntityType.{EntityType}
use Rattle.sc_rules.specs.Names.{RoutineName}
use Rattle.sc_lockpass.specs.Rights.{is_among, is_handler, held}
use Rattle.sc_lockpass.specs.Passing.{Passed}
use Rattle.sc_lockpass.specs.wait_conditions.Reservations.{ends_session}
use Rattle.sc_lockpass.specs.declared.wait_conditions.session.Release.{Release}
use Rattle.sc_lockpass.specs.declared.wait_conditions.session.Release.TheVariants as release_at
use Rattle.sc_model.specs.declared.cause.Cause.{Cause}
use Rattle.sc_model.specs.declared.cause.Cause.TheVariants as cause
use Rattle.sc_model.specs.Limits.{max_frames, max_queue}
use Rattle.sc_model.specs.Values.{Reference, Value, Attached, Operand, operand}
use Rattle.sc_model.specs.Environments.{Binding, formals_bound}
use Rattle.sc_model.specs.Routines.{Routine}
use Rattle.sc_model.specs.Handlers.{Calls, Makes, Request, Answer, Origin, Stage, Awaits, Frame, Handler, World, new_handler, put, with_stack}
use Rattle.sc_model.specs.Sessions.{session_ended, release}
use Rattle.sc_model.specs.Answers.{answered, answer_to, return_rights, finish}
use Rattle.sc_model.specs.Failures.{requests_at, is_waited_by, told, fallen, fails_with}
use Rattle.sc_model.specs.Entries.{entry, enters_bound, enters}
use Rattle.sc_model.specs.Asking.{passes, placed, send, awaits_if, request_by, is_callback, asks, request, with_handler, posts_creation, passes_or_releases, created, creates_handler}
use Rattle.sc_model.specs.Preconditions.{is_creation}
use Rattle.sc_model.specs.Turns.{waits}
use Rattle.sc_machine_laws.proofs.Stacks.{Good, called_good, empty_good, queued_good}

pub no_both : {A : Type 0} (b : Bool) → b ≡ true → b ≡ false → A
no_both true e f = cc
no_both false e f = cc

same_some : {A : Type 0} {x y : A} → Some x ≡ Some y → x ≡ y
same_some e = cc

-- ---- handlers that stay good

module _ (s : System) (pure : RoutineName → Bool) where
  ended_good : (b : Bool) (x : Handler) → Good s pure x → Good s pure (session_ended b x)
  ended_good true x g = g
  ended_good false x g = g

  told_good : (b : Bool) (x : Handler) → Good s pure x → Good s pure (told b x)
  told_good true x g = g
  told_good false x g = g

  placed_good : (b : Bool) (r : Request) (x : Handler) → is_creation r.errand ≡ false → Good s pure x → Good s pure (placed b r x)
  placed_good true r x e g n = called_good s pure x.objects x.stack x.queue x.callback r e (g n)
  placed_good false r x e g n = queued_good s pure x.objects x.stack x.queue x.callback r e (g n)

  new_good : Good s pure new_handler
  new_good n = empty_good s pure [] (inl tt)

  put_good : (k j : ℕ) (x : Handler) (v : World) → Good s pure x → ((k == j) ≡ false → Good s pure (v.handlers k)) → Good s pure ((put j x v).handlers k)
  put_good k j x v g o = by (k == j) refl
    where
      by : (b : Bool) → (k == j) ≡ b → Good s pure (if b then x else v.handlers k)
      by true e = g
      by false e = o e

  pub either : (P : World → Type 0) (b : Bool) (x y : World) → (b ≡ true → P x) → (b ≡ false → P y) → P (if b then x else y)
  either P true x y t u = t refl
  either P false x y t u = u refl

  module _ (h : ℕ) where
    -- it is so of each handler
    abbrev pub AllGood : World → Type 0
    AllGood v = (k : ℕ) → Good s pure (v.handlers k)

    -- it is so of each other one
    abbrev pub Others : World → Type 0
    Others v = (k : ℕ) → (k == h) ≡ false → Good s pure (v.handlers k)

    pub put_all : (x : Handler) (v : World) → Others v → Good s pure x → AllGood (put h x v)
    put_all x v o g k = put_good k h x v g (o k)

    pub others_put : (x : Handler) (v : World) → Others v → Others (put h x v)
    others_put x v o k n = subst (λ (b : Bool). Good s pure (if b then x else v.handlers k)) (sym n) (o k n)

    pub with_own : (v : World) → Others v → Good s pure (v.handlers h) → AllGood v
    with_own v o g k = by (k == h) refl
      where
        by : (b : Bool) → (k == h) ≡ b → Good s pure (v.handlers k)
        by true e = subst (λ (j : ℕ). Good s pure (v.handlers j)) (sym (eqb-true k h e)) g
        by false e = o k e

    pub release_all : (how : Release) (ks : List ℕ) (v : World) → AllGood v → AllGood (release how ks v)
    release_all how ks v t k = ended_good (ends_session how && is_among k ks) (v.handlers k) (t k)

    rights_all : (p : Option Passed) (v : World) → AllGood v → AllGood (return_rights p v)
    rights_all None v t k = t k
    rights_all (Some p) v t k = t k

    answer_all : (b : Bool) (p : Option ℕ) (a : Answer) (v : World) → AllGood v → AllGood (answer_to b p a v)
    answer_all true (Some p) a v t k = put_good k p (answered a (v.handlers p)) v (t p) (λ e. t k)
    answer_all true None a v t k = t k
    answer_all false p a v t k = t k

    pub finish_all : (r : Request) (a : Answer) (v : World) → AllGood v → AllGood (finish r a v)
    finish_all r a v t = answer_all r.is_waited r.poster a (return_rights r.passed v) (rights_all r.passed v t)

    passes_all : (b : Bool) (j : ℕ) (v : World) → AllGood v → AllGood (passes b h j v)
    passes_all true j v t k = t k
    passes_all false j v t k = t k

    send_all : (b : Bool) (j : ℕ) (r : Request) (v : World) → is_creation r.errand ≡ false → AllGood v → AllGood (send b j r v)
    send_all b j r v e t k = put_good k j (placed b r (v.handlers j)) v (placed_good b r (v.handlers j) e (t j)) (λ i. t k)

    pub fails_all : (why : Cause) (taken : List Request) (v : World) → Others v → AllGood (fails_with h why taken v)
    fails_all why taken v o k = ended_good (ends_session release_at.Failure && is_handler h (v.rights.queue k))
        (if k == h then fallen why (v.handlers k) else told (list_any (is_waited_by k) (taken ++ requests_at (v.handlers h))) (v.handlers k)) (by (k == h) refl)
      where
        by : (b : Bool) → (k == h) ≡ b →
            Good s pure (if b then fallen why (v.handlers k) else told (list_any (is_waited_by k) (taken ++ requests_at (v.handlers h))) (v.handlers k))
        by true e = λ n. cc
        by false e = told_good (list_any (is_waited_by k) (taken ++ requests_at (v.handlers h))) (v.handlers k) (o k e)

    new_others : (j : ℕ) (v : World) → Others v → Others (with_handler j h v)
    new_others j v o k n = by (k == j)
      where
        by : (b : Bool) → Good s pure (if b then new_handler else v.handlers k)
        by true = new_good
        by false = o k n

    pub stack_all : (st : List Frame) (v : World) (x : Handler) → v.handlers h ≡ x → Others v → Good s pure (record x { stack = st }) → AllGood (with_stack h st v)
    stack_all st v x e o g = put_all (record (v.handlers h) { stack = st }) v o (subst (λ (y : Handler). Good s pure (record y { stack = st })) (sym e) g)

    -- a routine is entered
    pub enters_all : (me : Reference) (r : Option Routine) (c : Origin) (below : List Frame) (taken : List Request) (vs : List Value) (v : World) (x : Handler) →
        v.handlers h ≡ x → Others v → ((q : Routine) (bs : List Binding) → r ≡ Some q → Good s pure (record x { stack = entry me q c bs ∷ below })) →
        AllGood (enters s h me r c below taken vs v)
    enters_all me None c below taken vs v x e o g = fails_all cause.BadCode taken v o
    enters_all me (Some r) c below taken vs v x e o g = bound (formals_bound s r.text.formals 0 r.text.formals vs)
      where
        bound : (b : Option (List Binding)) → AllGood (enters_bound h me r c below taken b v)
        bound None = fails_all cause.BadCode taken v o
        bound (Some bs) = either AllGood (nat_lt (length below) max_frames) _ _
            (λ i. stack_all (entry me r c bs ∷ below) v x e o (g r bs refl)) (λ i. fails_all cause.StackFull taken v o)

    -- another handler is asked
    module _ (f : Frame) (below : List Frame) (v : World) (x : Handler) (e : v.handlers h ≡ x) (o : Others v)
        (g : (st : Stage) (us : List Operand) → Good s pure (record x { stack = record f { stage = st; values = us } ∷ below })) where
      awaits_good : (b : Bool) (k : ℕ) (gives : Option EntityType) (c : Bool) (us : List Operand) →
          Good s pure (record x { stack = awaits_if b k gives c (record f { values = us }) ∷ below })
      awaits_good true k gives c us = g (Awaits k gives c) us
      awaits_good false k gives c us = g f.stage us

      asks_all : (r : Reference) (y : List ℕ) (us : List Operand) (gives : Option EntityType) (passing waits : Bool) → AllGood (asks h r y us gives passing waits f below v)
      asks_all r y us gives passing waits =
          let req : Request = request_by h r (Calls y) us waits passing v in
          let at : World = with_stack h (awaits_if waits r.handler gives false f ∷ below) v in
          let sent : World = send (is_callback h r.handler v) r.handler req at in
          passes_all passing r.handler sent
          (send_all (is_callback h r.handler v) r.handler req at refl
          (stack_all (awaits_if waits r.handler gives false f ∷ below) v x e o (awaits_good waits r.handler gives false f.values)))

      pub request_all : (r : Reference) (y : List ℕ) (us : List Operand) (gives : Option EntityType) (passing : Bool) → AllGood (request h r y us gives passing f below v)
      request_all r y us gives passing =
          either AllGood (not (held v.rights h r.handler)) _ _ (λ i. fails_all cause.NotHeld [] v o)
          (λ i. either AllGood (is_some (v.handlers r.handler).failure) _ _ (λ i. fails_all cause.SupplierFailed [] v o)
          (λ i. either AllGood (not (is_callback h r.handler v) && not (nat_lt (length (v.handlers r.handler).queue) max_queue)) _ _ (λ i. fails_all cause.QueueFull [] v o)
          (λ i. asks_all r y us gives passing (passing || is_some gives || is_callback h r.handler v))))

      -- a handler is created, and asked first to make an object
      module _ (here : h < v.count) (k : ℕ) (procedure : Option (List ℕ)) (us : List Operand) (t : EntityType) (passing : Bool) where
        abbrev first_object : Reference
        first_object = record { handler = v.count; number = 1; class = k }

        abbrev wider : World
        wider = with_handler v.count h v

        abbrev waiting : List Frame
        waiting = awaits_if passing v.count None true (record f { values = operand (Attached first_object) t ∷ f.values }) ∷ below

        abbrev making : Request
        making = request_by h first_object (Makes procedure) us passing passing wider

        other : (h == v.count) ≡ false
        other = ne_eqb h v.count (λ e. omega (arith, here, e))

        other_way : (v.count == h) ≡ false
        other_way = ne_eqb v.count h (λ e. omega (arith, here, e))

        own : wider.handlers h ≡ x
        own = ap (λ (b : Bool). if b then new_handler else v.handlers h) other ∙ e

        fresh : (with_stack h waiting wider).handlers v.count ≡ new_handler
        fresh = ap (λ (b : Bool). if b then record (wider.handlers h) { stack = waiting } else wider.handlers v.count) other_way
            ∙ ap (λ (b : Bool). if b then new_handler else v.handlers v.count) (eq-eqb v.count v.count refl)

        asked : Good s pure (placed false making new_handler)
        asked z = empty_good s pure (making ∷ []) (inr (refl, (refl, (refl, tt))))

        posted : AllGood (posts_creation h first_object procedure us t passing f below wider)
        posted j = put_good j v.count (placed false making ((with_stack h waiting wider).handlers v.count)) (with_stack h waiting wider)
            (subst (λ (y : Handler). Good s pure (placed false making y)) (sym fresh) asked)
            (λ i. stack_all waiting wider x own (new_others v.count v o) (awaits_good passing v.count None true (operand (Attached first_object) t ∷ f.values)) j)

        released : (b : Bool) → AllGood (passes_or_releases b h v.count (posts_creation h first_object procedure us t passing f below wider))
        released true = passes_all true v.count (posts_creation h first_object procedure us t passing f below wider) posted
        released false = release_all release_at.Creation (v.count ∷ []) (posts_creation h first_object procedure us t passing f below wider) posted

        created_all : AllGood (created h first_object procedure us t passing f below v)
        created_all = released passing

      pub creates_all : (here : h < v.count) (most k : ℕ) (procedure : Option (List ℕ)) (us : List Operand) (t : EntityType) (passing : Bool) →
          AllGood (creates_handler most h k procedure us t passing f below v)
      creates_all here most k procedure us t passing =
          either AllGood (nat_lt v.count most) _ _ (λ i. created_all here k procedure us t passing) (λ i. fails_all cause.TooManyHandlers [] v o)
