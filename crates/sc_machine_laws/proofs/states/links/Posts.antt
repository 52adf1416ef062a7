-- Posts, asks, and creations of handlers.
use Rattle.std.proofs.Common.{◌≡◌, ◌≢◌, ◌⊎◌, ⊎_elim, inl, inr, ℕ, suc, ◌<◌, ◌==◌, ◌&&◌, ◌||◌, not, Bool, true, false, List, [], ◌∷◌, ◌++◌, Option, Some, None, length, refl, sym, ap, ◌∙◌, subst, arith}
use Rattle.std.specs.Prelude.{nat_lt, is_some, if◌then◌else◌}
use Rattle.std.proofs.lemmas.Bool.{ltb-true, ltb-false, eqb-true, ne_eqb}
use Rattle.sc_rules.specs.declared.entity_types.entity_type.EntityType.{EntityType}
use Rattle.sc_lockpass.specs.Rights.{Rights, held, is_handler}
use Rattle.sc_lockpass.specs.Passing.{pass, passed_by}
use Rattle.sc_machine_laws.specs.states.World as world
use Rattle.sc_machine_laws.specs.states.World.{Grant, Wait, Request, Frame, Handler, World, holder, rights_of, has, pass_all, arrive, land, begin_wait, wait, waiting, post, ask, ask_passing, enter, pop}
use Rattle.sc_machine_laws.specs.states.Steps.{Holds, MayAsk, Posts, Asks, AsksPassing}
use Rattle.sc_machine_laws.specs.states.Stands.{AsksFor, TakesAs, NeedsOf, NamesOf, IsPoster, IsRequest, AreRequests, IsRoutine, AreBlocks, left_in, place_of, LendsAs, IsStaged, IsStack, IsHandler, IsNew, Stands}
use Rattle.sc_machine_laws.proofs.states.links.Maps.{put-own, passing_rights}
use Rattle.sc_machine_laws.proofs.states.links.Lists.{one, put-off}
use Rattle.sc_machine_laws.proofs.states.links.Looks.{Put, put_stack, stands_put, stands_same}
use Rattle.sc_machine_laws.proofs.states.links.Failures.{Leads}
use Rattle.sc_machine_laws.proofs.states.links.FrameSteps.{Keeps, Going, going_active, going_fails}
use Rattle.sc_machine_laws.proofs.states.links.Exits.{if_leads}
use Rattle.sc_model.specs.declared.cause.Cause.{Cause}
use Rattle.sc_model.specs.declared.cause.Cause.TheVariants as cause
use Rattle.sc_model.specs.Values.{Reference, Operand}
use Rattle.sc_model.specs.Limits.{max_queue}
use Rattle.sc_model.specs.Handlers as machine
use Rattle.sc_model.specs.Handlers.{Errand, Calls, Makes, Runs, Awaits, with_stack, put, new_handler}
use Rattle.sc_model.specs.Asking as asking
use Rattle.sc_model.specs.Asking.{placed, send, awaits_if, request_by, is_callback, asks, request, given_to, with_handler, posts_creation, created, creates_handler}

-- ---- a request arrives

are_requests_end : (rs : List Request) (qs : List machine.Request) (r : Request) (q : machine.Request) → AreRequests rs qs → IsRequest r q
    → AreRequests (rs ++ r ∷ []) (qs ++ q ∷ [])
are_requests_end [] [] r q all is = (is, tt)
are_requests_end (x ∷ rs) (y ∷ qs) r q all is = (all.0, are_requests_end rs qs r q all.1 is)
are_requests_end [] (y ∷ qs) r q all is = absurd all
are_requests_end (x ∷ rs) [] r q all is = absurd all

is_arrived : (c : Bool) (r : Request) (q : machine.Request) (g : Handler) (x : machine.Handler) → IsRequest r q → IsHandler g x
    → IsHandler (arrive c r g) (placed c q x)
is_arrived true r q g x is h = record { failed = h.failed; stack = h.stack; requests = h.requests; callback = is; answer = h.answer }
is_arrived false r q g x is h = record {
  failed = h.failed;
  stack = h.stack;
  requests = are_requests_end g.requests x.queue r q h.requests is;
  callback = h.callback;
  answer = h.answer;
}

pub arrives_stands : (c : Bool) (k : ℕ) (r : Request) (q : machine.Request) (w : World) (m : machine.World) → Stands w m → k < m.count → IsRequest r q
    → Stands (land c k r w) (send c k q m)
arrives_stands c k r q w m s here is = record {
  handlers = λ j. by j (j == k);
  rights = s.rights;
  new = λ j le. (
    subst IsNew (sym (put-off k (arrive c r (w.handlers k)) w.handlers j (λ e. omega (arith, le, here, e)))) (s.new j le).0,
    (s.new j le).1,
    (s.new j le).2,
  );
}
  where
    by : (j : ℕ) (b : Bool) → IsHandler (if b then arrive c r (w.handlers k) else w.handlers j)
        (if b then placed c q (m.handlers k) else m.handlers j)
    by j true = is_arrived c r q (w.handlers k) (m.handlers k) is (s.handlers k)
    by j false = s.handlers j

-- the next number doesn't count
pub renumbered : (n : ℕ) (w : World) (m : machine.World) → Stands w m → Stands (record w { next = n }) m
renumbered n w m s = record { handlers = s.handlers; rights = s.rights; new = s.new }

-- ---- a handler begins to wait, and passes its rights

pub begins_stands : (w : World) (m n : machine.World) (h : ℕ) (st : List machine.Frame) (v : Wait) (g : Frame) (gs : List Frame) → Stands w m
    → h < m.count → (w.handlers h).stack ≡ g ∷ gs
    → Put h st m n → n.rights ≡ m.rights → IsStack st (record g { waits = Some v } ∷ gs) → Stands (begin_wait h v w) n
begins_stands w m n h st v g gs s here at p same is =
    stands_put h st (record g { waits = Some v } ∷ gs) w (begin_wait h v w) m n s here (record {
      own = put-own h (wait v (w.handlers h)) w.handlers ∙ ap (λ l. record (w.handlers h) { stack = waiting v l }) at;
      others = λ k ne. put-off h (wait v (w.handlers h)) w.handlers k ne;
      top = λ k. refl;
    }) p is (s.rights ∙ sym same) (λ k le. inl refl)

passed_stands : (h : ℕ) (e : Grant) (w : World) (m : machine.World) → Stands w m → h < m.count
    → Stands (pass_all h e w) (record m { rights = pass h e.holder m.rights })
passed_stands h e w m s here = record {
  handlers = s.handlers;
  rights = passing_rights h e w ∙ ap (pass h e.holder) s.rights;
  new = λ k le. (
    (s.new k le).0,
    ap (world.passed_on h e) (s.new k le).1,
    ap (λ (b : Bool). if b then e ∷ w.top k else world.passed_on h e (w.top k)) (ne_eqb k h (λ same. omega (arith, le, here, same)))
        ∙ ap (world.passed_on h e) (s.new k le).2,
  );
}

not_true : {A : Type 0} → true ≡ false → A
not_true e = cc

-- the asks of a handler whose stack is g ∷ gs: `n` is the machine's state as its frame waits
pub asked_stands : (w : World) (m n : machine.World) (h k : ℕ) (c : Bool) (st : List machine.Frame) (q : machine.Request) (g : Frame)
    (gs : List Frame) → Stands w m → h < m.count → k < m.count → (w.handlers h).stack ≡ g ∷ gs
    → Put h st m n → n.rights ≡ m.rights → has h (w.top k) ≡ c → q.poster ≡ Some h → q.is_waited ≡ true → q.passed ≡ None → AsksFor w.asks q
    → IsStack st (record g { waits = Some (record { number = w.next; target = k; passing = false; asked = w.asks }) } ∷ gs) → Stands (ask h k w) (send c k q n)
asked_stands w m n h k c st q g gs s here there at p same back poster waited passed asks is =
    let r : Request = world.request h false w in
    let v : Wait = record { number = w.next; target = k; passing = false; asked = w.asks } in
    let u = begin_wait h v w in
    subst (λ b. Stands (land b k (world.request h false w) (begin_wait h (record { number = w.next; target = k; passing = false; asked = w.asks }) w)) (send c k q n))
    (sym back)
    (arrives_stands c k (world.request h false w) q u n (begins_stands w m n h st v g gs s here at p same is)
    (let e = p.count in omega (arith, e, there))
    (record { poster = subst (IsPoster r) (sym poster) refl; waited = sym waited; passed = sym passed; plain = λ e. not_true e; asked = λ e. asks }))

pub asked_passing_stands : (w : World) (m n : machine.World) (h k : ℕ) (c : Bool) (st : List machine.Frame) (q : machine.Request) (g : Frame)
    (gs : List Frame) → Stands w m → h < m.count → k < m.count → (w.handlers h).stack ≡ g ∷ gs
    → Put h st m n → n.rights ≡ m.rights → has h (w.top k) ≡ c → q.poster ≡ Some h → q.is_waited ≡ true → q.passed ≡ Some (passed_by h m.rights) → AsksFor w.asks q
    → IsStack st (record g { waits = Some (record { number = w.next; target = k; passing = true; asked = w.asks }) } ∷ gs)
    → Stands (ask_passing h k w) (asking.passes true h k (send c k q n))
asked_passing_stands w m n h k c st q g gs s here there at p same back poster waited passed asks is =
    let r : Request = world.request h true w in
    let v : Wait = record { number = w.next; target = k; passing = true; asked = w.asks } in
    let e : Grant = record { holder = k; number = w.next } in
    let o : machine.World = record n { rights = pass h k n.rights } in
    let begun : Stands (begin_wait h v w) n = begins_stands w m n h st v g gs s here at p same is in
    subst (λ b. Stands (land b k (world.request h true w)
    (pass_all h (record { holder = k; number = w.next }) (begin_wait h (record { number = w.next; target = k; passing = true; asked = w.asks }) w)))
    (asking.passes true h k (send c k q n))) (sym back)
    (arrives_stands c k (world.request h true w) q (pass_all h e (begin_wait h v w)) o
    (passed_stands h e (begin_wait h v w) n begun (let i = p.count in omega (arith, i, here))) (let i = p.count in omega (arith, i, there))
    (record {
      poster = subst (IsPoster r) (sym poster) refl;
      waited = sym waited;
      passed = ap (λ i. Some (passed_by h i)) s.rights
          ∙ sym passed;
      plain = λ i. not_true i;
      asked = λ i. asks;
    }))

-- ---- the frame that waits

-- the topmost part may wait
waiting_parts : (C : ℕ → List ℕ → Type 0) (kss : List (List ℕ)) (f : machine.Frame) (N : List ℕ → Type 0) (B : List Frame → Type 0) (g : Frame)
    (gs : List Frame) (v : Wait)
    → AreBlocks C kss (IsRoutine f N B) (g ∷ gs) → AreBlocks C kss (IsRoutine f N B) (record g { waits = Some v } ∷ gs)
waiting_parts C [] f N B g gs v is = is
waiting_parts C (ks ∷ kss) f N B g gs v is = is

pub record HasParts (gs : List Frame) : Type 0 where
  pub frame : Frame
  pub below : List Frame
  pub is : gs ≡ frame ∷ below

pub has_parts : (C : ℕ → List ℕ → Type 0) (kss : List (List ℕ)) (f : machine.Frame) (N : List ℕ → Type 0) (B : List Frame → Type 0) (gs : List Frame)
    → AreBlocks C kss (IsRoutine f N B) gs → HasParts gs
has_parts C [] f N B [] is = absurd is
has_parts C (ks ∷ kss) f N B [] is = absurd is
has_parts C [] f N B (g ∷ gs) is = record { frame = g; below = gs; is = refl }
has_parts C (ks ∷ kss) f N B (g ∷ gs) is = record { frame = g; below = gs; is = refl }

-- ---- posts and asks

pub held_right : (h k : ℕ) (w : World) (m : machine.World) → rights_of w ≡ m.rights → k ≢ h → held m.rights h k ≡ true → Holds w h k
held_right h k w m e ne is = by (holder (w.queue k)) (holder (w.top k)) refl refl (ap (λ r. held r h k) e ∙ is)
  where
    eq_some : (j : ℕ) → (j == h) ≡ true → Some j ≡ Some h
    eq_some j i = ap Some (eqb-true j h i)

    tops : (t : Option ℕ) → is_handler h t ≡ true → t ≡ Some h
    tops None i = not_true (sym i)
    tops (Some j) i = eq_some j i

    or_case : (b c : Bool) → (b || c) ≡ true → (b ≡ true) ⊎ (c ≡ true)
    or_case true c i = inl refl
    or_case false c i = inr i

    by : (q t : Option ℕ) → holder (w.queue k) ≡ q → holder (w.top k) ≡ t → held (rights_of w) h k ≡ true → Holds w h k
    by q t eq et i = ⊎_elim
        (λ a. ⊎_elim (λ b. absurd (ne (eqb-true k h b))) (λ b. inl (tops (holder (w.queue k)) b))
        (or_case (k == h) (is_handler h (holder (w.queue k))) a))
        (λ a. inr (tops (holder (w.top k)) a))
        (or_case (k == h || is_handler h (holder (w.queue k))) (is_handler h (holder (w.top k))) i)

-- held handlers are there
held_exists : (h k : ℕ) (w : World) (m : machine.World) → Stands w m → Holds w h k → k < m.count
held_exists h k w m s holds = by (nat_lt k m.count) refl
  where
    none : None ≡ Some h → ⊥
    none e = cc

    by : (b : Bool) → nat_lt k m.count ≡ b → k < m.count
    by true e = ltb-true k m.count e
    by false e =
        let was = s.new k (ltb-false k m.count e) in
        absurd (⊎_elim (λ a. none (sym (ap holder was.1) ∙ a)) (λ a. none (sym (ap holder was.2) ∙ a)) holds)

pub asks_leads : (w : World) (m : machine.World) (h : ℕ) (f : machine.Frame) (below : List machine.Frame) (r : Reference) (x : List ℕ)
    (us : List Operand) (gives : Option EntityType) (passing : Bool)
    → w.asks ≡ Some (record { poster = h; target = r; errand = Calls x; environment = f.environment; takes = gives; lends = passing; left = left_in (f ∷ below) })
    → Going w m h machine.Runs f below → f.stage ≡ Runs → r.handler ≢ h → Holds w h r.handler → (w.handlers r.handler).failed ≡ false
    → Leads w (asks h r x us gives passing (passing || is_some gives || is_callback h r.handler m) f below m)
asks_leads w m h f below r x us gives passing named g runs ne holds lives = by passing (is_some gives) (is_callback h r.handler m) refl refl
  where
    there : r.handler < m.count
    there = held_exists h r.handler w m g.stands holds

    may : MayAsk h r.handler w
    may = record {
      active = going_active w m h machine.Runs f below g;
      other = ne;
      runs = (
        (has_parts (NamesOf machine.Runs f) f.blocks f (NeedsOf machine.Runs f) (IsStack below) (w.handlers h).stack g.parts).frame,
        (has_parts (NamesOf machine.Runs f) f.blocks f (NeedsOf machine.Runs f) (IsStack below) (w.handlers h).stack g.parts).below,
        (has_parts (NamesOf machine.Runs f) f.blocks f (NeedsOf machine.Runs f) (IsStack below) (w.handlers h).stack g.parts).is,
      );
      lives = lives;
      right = holds;
    }

    back : has h (w.top r.handler) ≡ is_callback h r.handler m
    back = ap (λ (i : Rights). is_handler h (i.top r.handler)) g.stands.rights

    asks_for : (c : Bool) → AsksFor w.asks (request_by h r (Calls x) us true c m)
    asks_for c = subst (λ o. AsksFor o (request_by h r (Calls x) us true c m)) (sym named) (refl, refl, refl)

    waiting : (v : Wait) → v.target ≡ r.handler → v.asked ≡ w.asks → passing ≡ v.passing → (p : HasParts (w.handlers h).stack)
        → IsStack (record f { stage = Awaits r.handler gives false } ∷ below) (record p.frame { waits = Some v } ∷ p.below)
    waiting v to same_asked lent p = (
      record {
        wait = v;
        waits = refl;
        target = to;
        takes = subst (λ o. TakesAs o f.environment gives) (sym (same_asked ∙ named)) (refl, refl);
        lends = subst (λ o. LendsAs o v.passing (left_in (f ∷ below))) (sym (same_asked ∙ named)) (lent, refl);
      },
      waiting_parts (NamesOf machine.Runs f) f.blocks f (NeedsOf machine.Runs f) (IsStack below) p.frame p.below v
          (subst (AreBlocks (NamesOf machine.Runs f) f.blocks (IsRoutine f (NeedsOf machine.Runs f) (IsStack below))) p.is g.parts),
    )

    asks_plain : (c : Bool) → passing ≡ false → is_callback h r.handler m ≡ c
        → Leads w (asking.passes false h r.handler (send c r.handler (request_by h r (Calls x) us true false m)
        (with_stack h (awaits_if true r.handler gives false f ∷ below) m)))
    asks_plain c lent is =
        let p = has_parts (NamesOf machine.Runs f) f.blocks f (NeedsOf machine.Runs f) (IsStack below) (w.handlers h).stack g.parts in
        let st : List machine.Frame = record f { stage = Awaits r.handler gives false } ∷ below in
        record {
          world = ask h r.handler w;
          steps = one w (ask h r.handler w) (Asks h r.handler may);
          stands = asked_stands w m (with_stack h st m) h r.handler c (record f { stage = Awaits r.handler gives false } ∷ below)
              (request_by h r (Calls x) us true false m) p.frame p.below g.stands g.here there p.is
              (put_stack h st m) refl (back ∙ is) refl refl refl (asks_for false)
              (waiting (record { number = w.next; target = r.handler; passing = false; asked = w.asks }) refl refl lent p);
        }

    asks_pass : (c : Bool) → passing ≡ true → is_callback h r.handler m ≡ c
        → Leads w (asking.passes true h r.handler (send c r.handler (request_by h r (Calls x) us true true m)
        (with_stack h (awaits_if true r.handler gives false f ∷ below) m)))
    asks_pass c lent is =
        let p = has_parts (NamesOf machine.Runs f) f.blocks f (NeedsOf machine.Runs f) (IsStack below) (w.handlers h).stack g.parts in
        let st : List machine.Frame = record f { stage = Awaits r.handler gives false } ∷ below in
        record {
          world = ask_passing h r.handler w;
          steps = one w (ask_passing h r.handler w) (AsksPassing h r.handler may);
          stands = asked_passing_stands w m (with_stack h st m) h r.handler c (record f { stage = Awaits r.handler gives false } ∷ below)
              (request_by h r (Calls x) us true true m) p.frame p.below g.stands g.here there p.is
              (put_stack h st m) refl (back ∙ is) refl refl refl (asks_for true)
              (waiting (record { number = w.next; target = r.handler; passing = true; asked = w.asks }) refl refl lent p);
        }

    posts : Leads w (asking.passes false h r.handler (send false r.handler (request_by h r (Calls x) us false false m)
        (with_stack h (awaits_if false r.handler gives false f ∷ below) m)))
    posts =
        let st : List machine.Frame = f ∷ below in
        record {
          world = post h r.handler w;
          steps = one w (post h r.handler w) (Posts h r.handler (going_active w m h machine.Runs f below g) holds lives);
          stands = renumbered (suc w.next) (land false r.handler (record { number = w.next; poster = h; waited = false; passed = None; asked = w.asks }) w) _
              (arrives_stands false r.handler (record { number = w.next; poster = h; waited = false; passed = None; asked = w.asks })
              (request_by h r (Calls x) us false false m) w (with_stack h st m)
              (stands_same h (f ∷ below) w m (with_stack h st m) g.stands g.here (put_stack h st m)
              (subst (λ t. IsStaged t (place_of f below) (AreBlocks (NamesOf t f) f.blocks (IsRoutine f (NeedsOf t f) (IsStack below))) (w.handlers h).stack) (sym runs)
              (g.quiet, g.parts)) refl)
              there (record { poster = refl; waited = refl; passed = refl; plain = λ e. refl; asked = λ e. not_true (sym e) }));
        }

    by : (p b c : Bool) → passing ≡ p → is_callback h r.handler m ≡ c
        → Leads w (asking.passes p h r.handler (send c r.handler (request_by h r (Calls x) us (p || b || c) p m)
        (with_stack h (awaits_if (p || b || c) r.handler gives false f ∷ below) m)))
    by true b c lent is = asks_pass c lent is
    by false true c lent is = asks_plain c lent is
    by false false true lent is = asks_plain true lent is
    by false false false lent is = posts

pub request_leads : (G : World → Type 0) (K : Keeps G) (w : World) (m : machine.World) (h : ℕ) (f : machine.Frame) (below : List machine.Frame)
    (r : Reference) (x : List ℕ) (us : List Operand) (gives : Option EntityType) (passing : Bool)
    → w.asks ≡ Some (record { poster = h; target = r; errand = Calls x; environment = f.environment; takes = gives; lends = passing; left = left_in (f ∷ below) })
    → G w → Going w m h machine.Runs f below → f.stage ≡ Runs → r.handler ≢ h → Leads w (request h r x us gives passing f below m)
request_leads G K w m h f below r x us gives passing named good g runs ne =
    let fails = λ (why : Cause). going_fails w m h machine.Runs f below why (K.consistent w good) g in
    if_leads w (not (held m.rights h r.handler)) _ _ (λ e. fails cause.NotHeld)
    (λ e. if_leads w (is_some (m.handlers r.handler).failure) _ _ (λ e'. fails cause.SupplierFailed)
    (λ e'. if_leads w (not (is_callback h r.handler m) && not (nat_lt (length (m.handlers r.handler).queue) max_queue)) _ _
    (λ e''. fails cause.QueueFull)
    (λ e''. asks_leads w m h f below r x us gives passing named g runs ne
    (held_right h r.handler w m g.stands.rights ne (not_not (held m.rights h r.handler) e)) ((g.stands.handlers r.handler).failed ∙ e'))))
  where
    not_not : (b : Bool) → not b ≡ false → b ≡ true
    not_not true e = refl
    not_not false e = not_true e
