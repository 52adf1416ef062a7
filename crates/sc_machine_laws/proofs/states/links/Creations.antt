-- The creation of a handler: it is reserved, its creation is posted or asked for, and it is released.
use Rattle.std.proofs.Common.{◌≡◌, ◌≢◌, inl, ℕ, suc, ◌==◌, ◌||◌, Bool, true, false, List, [], ◌∷◌, ◌++◌, Option, Some, None, refl, sym, ap, ◌∙◌, subst, arith}
use Rattle.std.specs.Prelude.{nat_lt, if◌then◌else◌}
use Rattle.std.proofs.lemmas.Bool.{eq-eqb, eqb-true, eqb-false, ne_eqb}
use Rattle.sc_rules.specs.declared.entity_types.entity_type.EntityType.{EntityType}
use Rattle.sc_lockpass.specs.Rights.{Rights, is_among}
use Rattle.sc_lockpass.specs.declared.wait_conditions.session.Release.TheVariants as release_at
use Rattle.sc_machine_laws.specs.states.World as world
use Rattle.sc_machine_laws.specs.states.World.{Grant, Wait, Request, Reservation, Frame, Handler, World, holder, rights_of, has, land, post, ask_passing, enter}
use Rattle.sc_machine_laws.specs.states.Steps.{waits_for, IsActive, Holds, IsIdle, AnswersNobody, Posts, AsksPassing, Enters, Steps, Then}
use Rattle.sc_machine_laws.specs.states.Stands.{AsksFor, TakesAs, NeedsOf, NamesOf, AreRequests, IsCallback, handlers_of, IsRoutine, AreBlocks, left_in, place_of, LendsAs, IsStaged, IsStack, IsHandler, IsNew, Stands}
use Rattle.sc_machine_laws.proofs.states.Waits.{true_false}
use Rattle.sc_machine_laws.proofs.states.Named.{asks_kept}
use Rattle.sc_machine_laws.proofs.states.links.Maps.{same_rights}
use Rattle.sc_machine_laws.proofs.states.links.Lists.{joined, one, put-off, Restacked, restacked_again, restacked_active, restacked_stack, Reserved, reserves, entering}
use Rattle.sc_machine_laws.proofs.states.links.Looks.{Looks, looks_by, m_put-own, m_put-off, Put}
use Rattle.sc_machine_laws.proofs.states.links.Failures.{Leads}
use Rattle.sc_machine_laws.proofs.states.links.FrameSteps.{no_names, Keeps, Going, going_active, going_fails, Ended, ends_part, ended_leads}
use Rattle.sc_machine_laws.proofs.states.links.Exits.{if_leads}
use Rattle.sc_machine_laws.proofs.states.links.Posts.{arrives_stands, renumbered, asked_passing_stands}
use Rattle.sc_model.specs.declared.cause.Cause.TheVariants as cause
use Rattle.sc_model.specs.Values.{Reference, Attached, Operand, operand}
use Rattle.sc_model.specs.Handlers as machine
use Rattle.sc_model.specs.Handlers.{Makes, Runs, Awaits, with_stack, put, new_handler}
use Rattle.sc_model.specs.Sessions as sessions
use Rattle.sc_model.specs.Asking as asking
use Rattle.sc_model.specs.Asking.{placed, send, awaits_if, request_by, given_to, with_handler, posts_creation, created, creates_handler}

is_new_handler : (g : Handler) → IsNew g → IsHandler g new_handler
is_new_handler g new = record {
  failed = new.failed;
  stack = subst (IsStack []) (sym new.stack) tt;
  requests = subst (λ l. AreRequests l []) (sym new.requests) tt;
  callback = subst (λ o. IsCallback o None) (sym new.callback) tt;
  answer = new.answer;
}

-- the machine's frame, where the creation of k counts as a block
abbrev with_block : ℕ → machine.Frame → machine.Frame
with_block k f = record f { blocks = (k ∷ []) ∷ f.blocks }

-- the world and the machine's state after the new handler is reserved
record Made (w : World) (m : machine.World) (h : ℕ) (f : machine.Frame) (below : List machine.Frame) : Type 0 where
  world : World
  steps : Steps w world
  frame : Frame
  origin : frame.origin ≡ None
  waits : frame.waits ≡ None
  reserved : handlers_of frame.reserved ≡ m.count ∷ []
  stack : (world.handlers h).stack ≡ frame ∷ (w.handlers h).stack
  active : IsActive (world.handlers h)
  stands : Stands world (with_stack h (record f { blocks = (m.count ∷ []) ∷ f.blocks; tasks = [] } ∷ below) (with_handler m.count h m))
  holds : Holds world h m.count
  lives : (world.handlers m.count).failed ≡ false
  top : world.top m.count ≡ []

makes : (w : World) (m : machine.World) (h : ℕ) (f : machine.Frame) (below : List machine.Frame) → Going w m h machine.Runs f below → f.stage ≡ Runs
    → Made w m h f below
makes w m h f below g runs =
    let k = m.count in
    let gs = (w.handlers h).stack in
    let e : Frame = record { origin = None; reserved = []; needs = []; waits = None } in
    let w1 = enter h w in
    let active = going_active w m h machine.Runs f below g in
    let entered : Restacked h (e ∷ gs) w w1 = entering h w in
    let on : IsActive (w1.handlers h) = restacked_active h (e ∷ gs) w w1 entered active.0 refl in
    let new = g.stands.new k (omega arith) in
    let other : k ≢ h = λ same. let i = g.here in omega (arith, i, same) in
    let same : w1.handlers k ≡ w.handlers k = entered.others k other in
    let idle : IsIdle k w1 = record {
      lives = ap (λ (x : Handler). x.failed) same ∙ new.0.failed;
      stack = ap (λ (x : Handler). x.stack) same ∙ new.0.stack;
      requests = ap (λ (x : Handler). x.requests) same ∙ new.0.requests;
      nobodys = new.1;
    } in
    let res : Reserved h e gs (k ∷ []) w1 = reserves h (k ∷ []) e gs w1 on (restacked_stack h (e ∷ gs) w w1 entered) refl
    (λ j is. only k j w1 idle is) (refl, tt) in
    let v = res.world in
    let d : Frame = record e { reserved = res.list; needs = res.needs } in
    let all : Restacked h (d ∷ gs) w v = restacked_again h (e ∷ gs) (d ∷ gs) w w1 v entered res.stack in
    let here : is_among k (k ∷ []) ≡ true = ap (λ (b : Bool). b || false) (eq-eqb k k refl) in
    record {
      world = v;
      steps = Then w w1 v (Enters h active) res.steps;
      frame = d;
      origin = refl;
      waits = refl;
      reserved = res.are;
      stack = restacked_stack h (d ∷ gs) w v all;
      active = restacked_active h (d ∷ gs) w v all active.0 refl;
      stands = stands v d res.list res.are refl refl refl all (λ j ne. res.queue j (among_not k j ne)) (res.held k here) other;
      holds = inl (res.held k here);
      lives = ap (λ (x : Handler). x.failed) (all.others k other) ∙ new.0.failed;
      top = all.top k ∙ new.2;
    }
  where
    only : (k j : ℕ) (w1 : World) → IsIdle k w1 → is_among j (k ∷ []) ≡ true → IsIdle j w1
    only k j w1 idle is = subst (λ i. IsIdle i w1) (eqb-true k j (left (k == j) is)) idle
      where
        left : (b : Bool) → (b || false) ≡ true → b ≡ true
        left true e = refl
        left false e = e

    among_not : (k j : ℕ) → j ≢ k → is_among j (k ∷ []) ≡ false
    among_not k j ne = ap (λ (b : Bool). b || false) (ne_eqb k j (λ e. ne (sym e)))

    stands : (v : World) (d : Frame) (l : List Reservation) → handlers_of l ≡ m.count ∷ [] → d.origin ≡ None → d.reserved ≡ l → d.waits ≡ None
        → Restacked h (d ∷ (w.handlers h).stack) w v
        → ((j : ℕ) → j ≢ m.count → v.queue j ≡ w.queue j) → holder (v.queue m.count) ≡ Some h → m.count ≢ h
        → Stands v (with_stack h (record f { blocks = (m.count ∷ []) ∷ f.blocks; tasks = [] } ∷ below) (with_handler m.count h m))
    stands v d l are origin has quiet all rest held other = record {
      handlers = λ j. by j (j == h) (j == m.count) refl refl;
      rights = same_rights (rights_of v) (record { queue = given_to m.count (Some h) m.rights.queue; top = given_to m.count None m.rights.top })
          (λ j. queues j (j == m.count) refl) (λ j. tops j (j == m.count) refl);
      new = λ j le.
          let was = g.stands.new j (omega (arith, le)) in
          let ne : j ≢ h = λ e. let i = g.here in omega (arith, i, le, e) in
          let nk : j ≢ m.count = λ e. omega (arith, le, e) in
          (subst IsNew (sym (all.others j ne)) was.0, rest j nk ∙ was.1, all.top j ∙ was.2);
    }
      where
        by : (j : ℕ) (b c : Bool) → (j == h) ≡ b → (j == m.count) ≡ c
            → IsHandler (v.handlers j) (if b then record (if h == m.count then new_handler else m.handlers h)
            { stack = record f { blocks = (m.count ∷ []) ∷ f.blocks; tasks = [] } ∷ below } else (if c then new_handler else m.handlers j))
        by j true c e e' =
            let old = g.stands.handlers h in
            let mine : IsHandler (record (w.handlers h) { stack = d ∷ (w.handlers h).stack })
            (record (m.handlers h) { stack = record f { blocks = (m.count ∷ []) ∷ f.blocks; tasks = [] } ∷ below }) = record {
              failed = old.failed;
              stack = subst (λ t. IsStaged t (place_of (record f { blocks = (m.count ∷ []) ∷ f.blocks; tasks = [] }) below) (AreBlocks (NamesOf t (record f { blocks = (m.count ∷ []) ∷ f.blocks; tasks = [] }))
                  ((m.count ∷ []) ∷ f.blocks)
                  (IsRoutine f (NeedsOf t (record f { blocks = (m.count ∷ []) ∷ f.blocks; tasks = [] })) (IsStack below)))
                  (d ∷ (w.handlers h).stack)) (sym runs)
                  (quiet, (origin, ap handlers_of has ∙ are, g.quiet, no_names f (IsStack below) (w.handlers h).stack g.parts, tt));
              requests = old.requests;
              callback = old.callback;
              answer = old.answer;
            } in
            subst (λ i. IsHandler (v.handlers i) (record (if h == m.count then new_handler else m.handlers h)
            { stack = record f { blocks = (m.count ∷ []) ∷ f.blocks; tasks = [] } ∷ below })) (sym (eqb-true j h e))
            (subst (λ i. IsHandler (v.handlers h) (record (if i then new_handler else m.handlers h)
            { stack = record f { blocks = (m.count ∷ []) ∷ f.blocks; tasks = [] } ∷ below })) (sym (ne_eqb h m.count (λ same. other (sym same))))
            (subst (λ i. IsHandler i (record (m.handlers h) { stack = record f { blocks = (m.count ∷ []) ∷ f.blocks; tasks = [] } ∷ below }))
            (sym all.own) mine))
        by j false true e e' =
            let is : j ≡ m.count = eqb-true j m.count e' in
            is_new_handler (v.handlers j) (subst IsNew (sym (all.others j (eqb-false j h e))) (g.stands.new j (omega (arith, is))).0)
        by j false false e e' = subst (λ i. IsHandler i (m.handlers j)) (sym (all.others j (eqb-false j h e))) (g.stands.handlers j)

        queues : (j : ℕ) (b : Bool) → (j == m.count) ≡ b → holder (v.queue j) ≡ (if b then Some h else m.rights.queue j)
        queues j true e = subst (λ i. holder (v.queue i) ≡ Some h) (sym (eqb-true j m.count e)) held
        queues j false e = ap holder (rest j (eqb-false j m.count e)) ∙ ap (λ (r : Rights). r.queue j) g.stands.rights

        tops : (j : ℕ) (b : Bool) → (j == m.count) ≡ b → holder (v.top j) ≡ (if b then None else m.rights.top j)
        tops j true e = ap holder (all.top j ∙ (g.stands.new j (let i = eqb-true j m.count e in omega (arith, i))).2)
        tops j false e = ap holder (all.top j) ∙ ap (λ (r : Rights). r.top j) g.stands.rights

-- ---- both ways

looks_placed : (c : Bool) (q : machine.Request) (x y : machine.Handler) → Looks x y → Looks (placed c q x) (placed c q y)
looks_placed true q x y l = record { failure = l.failure; stack = l.stack; queue = l.queue; callback = refl; answer = l.answer }
looks_placed false q x y l = record {
  failure = l.failure;
  stack = l.stack;
  queue = ap (λ qs. qs ++ q ∷ []) l.queue;
  callback = l.callback;
  answer = l.answer;
}

sent_put : (c : Bool) (h k : ℕ) (q : machine.Request) (st : List machine.Frame) (m n : machine.World) → k ≢ h → Put h st m n
    → Put h st (send c k q m) (send c k q n)
sent_put c h k q st m n other p = record {
  own =
      let at : (m : machine.World) → (send c k q m).handlers h ≡ m.handlers h = λ m. m_put-off k (placed c q (m.handlers k)) m h
      (λ e. other (sym e)) in
      subst (λ x. Looks (record x { stack = st }) ((send c k q n).handlers h)) (sym (at m))
      (subst (Looks (record (m.handlers h) { stack = st })) (sym (at n)) p.own);
  others = λ j ne. by j ne (j == k);
  count = p.count;
}
  where
    by : (j : ℕ) → j ≢ h → (b : Bool) → Looks (if b then placed c q (m.handlers k) else m.handlers j)
        (if b then placed c q (n.handlers k) else n.handlers j)
    by j ne true = looks_placed c q (m.handlers k) (n.handlers k) (p.others k other)
    by j ne false = p.others j ne

restacked_put : (h : ℕ) (a b : List machine.Frame) (m : machine.World) → Put h b (with_stack h a m) (with_stack h b m)
restacked_put h a b m = record {
  own = subst (λ x. Looks (record x { stack = b }) ((with_stack h b m).handlers h)) (sym (m_put-own h (record (m.handlers h) { stack = a }) m))
      (looks_by (record (m.handlers h) { stack = b }) ((with_stack h b m).handlers h) (m_put-own h (record (m.handlers h) { stack = b }) m));
  others = λ j ne. looks_by ((with_stack h a m).handlers j) ((with_stack h b m).handlers j)
      (m_put-off h (record (m.handlers h) { stack = b }) m j ne ∙ sym (m_put-off h (record (m.handlers h) { stack = a }) m j ne));
  count = refl;
}

pub created_leads : (w : World) (m : machine.World) (h class : ℕ) (procedure : Option (List ℕ)) (us : List Operand) (t : EntityType) (passing : Bool)
    (f : machine.Frame) (below : List machine.Frame)
    → w.asks ≡ Some (record {
      poster = h;
      target = record { handler = m.count; number = 1; class = class };
      errand = Makes procedure;
      environment = f.environment;
      takes = None;
      lends = passing;
      left = left_in (f ∷ below);
    })
    → Going w m h machine.Runs f below → f.stage ≡ Runs
    → Leads w (created h (record { handler = m.count; number = 1; class = class }) procedure us t passing f below m)
created_leads w m h class procedure us t passing f below named g runs = by passing refl
  where
    other : m.count ≢ h
    other same = let i = g.here in omega (arith, i, same)

    posted : Leads w (sessions.release release_at.Creation (m.count ∷ [])
        (send false m.count (request_by h (record { handler = m.count; number = 1; class = class }) (Makes procedure) us false false
        (with_handler m.count h m))
        (with_stack h (record f { values = operand (Attached (record { handler = m.count; number = 1; class = class })) t ∷ f.values } ∷ below)
        (with_handler m.count h m))))
    posted =
        let k = m.count in
        let m0 = with_handler k h m in
        let r' : Reference = record { handler = m.count; number = 1; class = class } in
        let q = request_by h r' (Makes procedure) us false false m0 in
        let f1 : machine.Frame = record f { values = operand (Attached r') t ∷ f.values } in
        let held = makes w m h f below g runs in
        let v = held.world in
        let a : List machine.Frame = record f { blocks = (m.count ∷ []) ∷ f.blocks; tasks = [] } ∷ below in
        let m1 = with_stack h a m0 in
        let u = post h k v in
        let p : Request = record { number = v.next; poster = h; waited = false; passed = None; asked = v.asks } in
        let s : Stands u (send false k q m1) = renumbered (suc v.next) (land false k p v) (send false k q m1)
        (arrives_stands false k (record { number = v.next; poster = h; waited = false; passed = None; asked = v.asks }) q v m1 held.stands (omega arith)
        (record { poster = refl; waited = refl; passed = refl; plain = λ e. refl; asked = λ e. true_false (sym e) })) in
        let same : u.handlers h ≡ v.handlers h = put-off k (world.arrive false (record { number = v.next; poster = h; waited = false; passed = None; asked = v.asks })
        (v.handlers k)) v.handlers h (λ e. other (sym e)) in
        let on : IsActive (u.handlers h) = (
          ap (λ (x : Handler). x.failed) same ∙ held.active.0,
          ap (λ (x : Handler). waits_for x.stack) same
              ∙ held.active.1,
        ) in
        let n0 = send false k q (with_stack h (f1 ∷ below) m0) in
        let ended : Ended u h held.frame (w.handlers h).stack (sessions.release release_at.Creation (k ∷ []) n0) =
        ends_part u (send false k q m1) n0 h (f1 ∷ below) release_at.Creation held.frame (w.handlers h).stack (k ∷ []) s
        (let i = g.here in omega (arith, i)) on
        (ap (λ (x : Handler). x.stack) same ∙ held.stack) held.reserved
        (sent_put false h k q (f1 ∷ below) m1 (with_stack h (f1 ∷ below) m0) other (restacked_put h a (f1 ∷ below) m0)) refl
        (subst (λ l. IsStaged l (place_of f below) (AreBlocks (NamesOf l (record f { values = operand (Attached r') t ∷ f.values })) f.blocks
        (IsRoutine f (NeedsOf l (record f { values = operand (Attached r') t ∷ f.values }))
        (IsStack below))) (w.handlers h).stack) (sym runs) (g.quiet, g.parts)) in
        let l : Leads u (sessions.release release_at.Creation (k ∷ []) n0) = ended_leads u h held.frame (w.handlers h).stack
        (sessions.release release_at.Creation (k ∷ []) n0) (subst AnswersNobody (sym held.origin) tt) ended in
        record {
          world = l.world;
          steps = joined w v l.world held.steps (Then v u l.world (Posts h k held.active held.holds held.lives) l.steps);
          stands = l.stands;
        }

    asked : passing ≡ true → Leads w (asking.passes true h m.count (send false m.count
        (request_by h (record { handler = m.count; number = 1; class = class }) (Makes procedure) us true true (with_handler m.count h m))
        (with_stack h (record f {
          values = operand (Attached (record { handler = m.count; number = 1; class = class })) t ∷ f.values;
          stage = Awaits m.count None true;
        } ∷ below) (with_handler m.count h m))))
    asked lent =
        let k = m.count in
        let m0 = with_handler k h m in
        let r' : Reference = record { handler = m.count; number = 1; class = class } in
        let q = request_by h r' (Makes procedure) us true true m0 in
        let held = makes w m h f below g runs in
        let v = held.world in
        let a : List machine.Frame = record f { blocks = (m.count ∷ []) ∷ f.blocks; tasks = [] } ∷ below in
        let st : List machine.Frame = record f { values = operand (Attached r') t ∷ f.values; stage = Awaits m.count None true } ∷ below in
        let same_asked = asks_kept w v held.steps ∙ named in
        record {
          world = ask_passing h k v;
          steps = joined w v (ask_passing h k v) held.steps (one v (ask_passing h k v) (AsksPassing h k (record {
            active = held.active;
            other = other;
            runs = (held.frame, (w.handlers h).stack, held.stack);
            lives = held.lives;
            right = held.holds;
          })));
          stands = asked_passing_stands v (with_stack h a m0) (with_stack h st m0) h k false
              (record f { values = operand (Attached r') t ∷ f.values; stage = Awaits m.count None true } ∷ below) q held.frame
              (w.handlers h).stack held.stands
              (let i = g.here in omega (arith, i)) (omega arith) held.stack (restacked_put h a st m0) refl (ap (has h) held.top) refl refl refl
              (subst (λ o. AsksFor o (request_by h r' (Makes procedure) us true true m0)) (sym same_asked) (refl, refl, refl)) (
                record {
                  wait = record { number = v.next; target = k; passing = true; asked = v.asks };
                  waits = refl;
                  target = refl;
                  takes = subst (λ o. TakesAs o f.environment None) (sym same_asked) (refl, refl);
                  lends = subst (λ o. LendsAs o true (left_in (f ∷ below))) (sym same_asked) (lent, refl);
                },
                (held.origin, held.reserved, g.quiet, g.parts),
              );
        }

    by : (b : Bool) → passing ≡ b → Leads w (created h (record { handler = m.count; number = 1; class = class }) procedure us t b f below m)
    by true lent = asked lent
    by false lent = posted

pub creates_leads : (G : World → Type 0) (K : Keeps G) (most : ℕ) (w : World) (m : machine.World) (h class : ℕ) (procedure : Option (List ℕ))
    (us : List Operand) (t : EntityType) (passing : Bool) (f : machine.Frame) (below : List machine.Frame)
    → w.asks ≡ Some (record {
      poster = h;
      target = record { handler = m.count; number = 1; class = class };
      errand = Makes procedure;
      environment = f.environment;
      takes = None;
      lends = passing;
      left = left_in (f ∷ below);
    })
    → G w → Going w m h machine.Runs f below → f.stage ≡ Runs → Leads w (creates_handler most h class procedure us t passing f below m)
creates_leads G K most w m h class procedure us t passing f below named good g runs =
    if_leads w (nat_lt m.count most) _ _ (λ e. created_leads w m h class procedure us t passing f below named g runs)
    (λ e. going_fails w m h machine.Runs f below cause.TooManyHandlers (K.consistent w good) g)
