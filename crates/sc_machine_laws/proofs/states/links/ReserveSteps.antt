-- Taking an answer, and reserve steps.
use Rattle.std.proofs.lemmas.Bool.{eq-eqb, eqb-true, eqb-false}
use Rattle.std.specs.List.{list_any}
use Rattle.std.proofs.Common.{◌≡◌, ◌≢◌, inl, ℕ, ◌<◌, ◌≤◌, ◌&&◌, ◌||◌, not, Bool, true, false, List, [], ◌∷◌, Some, None, refl, sym, ap, ◌∙◌, subst, arith, ⊎_elim, inr, ◌==◌, map, drop}
use Rattle.std.specs.Prelude.{is_some, if◌then◌else◌}
use Rattle.sc_lockpass.specs.Rights.{Rights, is_among}
use Rattle.sc_lockpass.specs.Rights as rights
use Rattle.sc_lockpass.specs.declared.wait_conditions.mark.Marked.{Marked}
use Rattle.sc_lockpass.specs.wait_conditions.Reservations as reservations
use Rattle.sc_lockpass.specs.wait_conditions.Reservations.{Standing, reserve_fails, reserve_is_enabled, is_idle}
use Rattle.sc_lockpass.specs.wait_conditions.Laws.{is_on}
use Rattle.sc_lockpass.proofs.wait_conditions.EntryLaws.{needs_unheld}
use Rattle.sc_model.specs.Values.{Value, Integer, Boolean, Void, Attached, handler_of}
use Rattle.sc_model.specs.Environments.{Binding, separate_formals, block_values}
use Rattle.sc_model.specs.Tasks.{Task}
use Rattle.sc_rules.specs.Names.{is_block}
use Rattle.sc_machine_laws.proofs.states.links.Points.{IsOpened}
use Rattle.sc_lockpass.specs.Rights.{held}
use Rattle.sc_lockpass.proofs.wait_conditions.WaitLaws.{reserves_unreserved, reserves_idle}
use Rattle.sc_machine_laws.specs.states.World as world
use Rattle.sc_machine_laws.specs.states.World.{Answer, Wait, Request, Reservation, Frame, Handler, World, holder, rights_of, is_waited_by, and_this, and_begun, requests_of, enter, resumed, take_answer}
use Rattle.sc_machine_laws.specs.states.Steps.{IsActive, Holds, EachHeld, Settles, waits_for, IsIdle, Enters, Then}
use Rattle.sc_machine_laws.specs.states.Consistent.{IsConsistent}
use Rattle.sc_machine_laws.specs.states.Stands.{AreCovered, names_in, NeedsOf, NamesOf, AreRequests, handlers_of, IsRoutine, AreBlocks, IsStack, Stands}
use Rattle.sc_machine_laws.proofs.states.links.Lists.{one, joined, relisting, AreApart, Restacked, restacked_again, restacked_active, restacked_stack, Reserved, reserves, entering}
use Rattle.sc_machine_laws.proofs.states.links.Looks.{put_stack, stands_put, reserved_rights}
use Rattle.sc_machine_laws.proofs.states.links.Failures.{Leads}
use Rattle.sc_machine_laws.proofs.states.links.FrameSteps.{Going, stays, going_active, going_fails}
use Rattle.sc_machine_laws.proofs.states.links.Exits.{if_leads, only_routine}
use Rattle.sc_machine_laws.proofs.states.links.Posts.{held_right, has_parts}
use Rattle.sc_model.specs.declared.cause.Cause.TheVariants as cause
use Rattle.sc_model.specs.Handlers as machine
use Rattle.sc_model.specs.Handlers.{Stage, Runs, Reserves, ReservesBlock, Awaits, with_stack, put}
use Rattle.sc_model.specs.Sessions as sessions
use Rattle.sc_model.specs.Sessions.{has_frames, has_requests, standing_in}
use Rattle.sc_model.specs.Entries as entries
use Rattle.sc_model.specs.Entries.{opened_in, reserves_if}

-- ---- reserve steps

not_true : {A : Type 0} → true ≡ false → A
not_true e = cc

no_requests : (rs : List Request) (qs : List machine.Request) → AreRequests rs qs → has_requests qs ≡ false → rs ≡ []
no_requests [] [] is e = refl
no_requests (r ∷ rs) (q ∷ qs) is e = not_true e
no_requests [] (q ∷ qs) is e = refl
no_requests (r ∷ rs) [] is e = absurd is

no_frames : (st : List machine.Frame) (gs : List Frame) → IsStack st gs → has_frames st ≡ false → gs ≡ []
no_frames [] [] is e = refl
no_frames [] (g ∷ gs) is e = absurd is
no_frames (f ∷ st) gs is e = not_true e

not_false : (b : Bool) → not b ≡ true → b ≡ false
not_false true e = not_true (sym e)
not_false false e = refl

and_both : (b c : Bool) → (b && c) ≡ true → (b ≡ true) × (c ≡ true)
and_both true c e = (refl, e)
and_both false c e = not_true (sym e)

no_holder : (t : List world.Grant) → holder t ≡ None → t ≡ []
no_holder [] e = refl
no_holder (g ∷ t) e = some_none e
  where
    some_none : {A : Type 0} → Some g.holder ≡ None → A
    some_none e = cc

-- what may be reserved is idle
pub may_be_idle : (w : World) (m : machine.World) (ks : List ℕ) (mark : List Marked) (k : ℕ) → Stands w m
    → reservations.may_reserve (standing_in m) m.rights ks mark ≡ true → is_among k ks ≡ true → IsIdle k w
may_be_idle w m ks mark k s may is =
    let x = s.handlers k in
    let idle = reserves_idle (standing_in m) m.rights ks mark k may is in
    let both = and_both (not (standing_in m k).has_frames) (not (standing_in m k).has_failed) idle.0 in
    record {
      lives = x.failed ∙ not_false (is_some (m.handlers k).failure) both.1;
      stack = no_frames (m.handlers k).stack (w.handlers k).stack x.stack (not_false (has_frames (m.handlers k).stack) both.0);
      requests = no_requests (w.handlers k).requests (m.handlers k).queue x.requests idle.1;
      nobodys = no_holder (w.queue k) (ap (λ (r : Rights). r.queue k) s.rights ∙ reserves_unreserved (standing_in m) m.rights ks mark may k is);
    }

none_reserved : (l : List Reservation) → handlers_of l ≡ [] → l ≡ []
none_reserved [] e = refl
none_reserved (r ∷ l) e = absurd (no e)
  where
    no : r.handler ∷ handlers_of l ≡ [] → ⊥
    no e = cc

reserved_beyond : (h : ℕ) (f : Frame) (fs : List Frame) (ks : List ℕ) (w : World) (n : ℕ) (r : Reserved h f fs ks w)
    → ((k : ℕ) → is_among k ks ≡ true → k < n) → (k : ℕ) → n ≤ k → r.world.queue k ≡ w.queue k
reserved_beyond h f fs ks w n r known k le = by (is_among k ks) refl
  where
    by : (b : Bool) → is_among k ks ≡ b → r.world.queue k ≡ w.queue k
    by true e = absurd (let lt = known k e in omega (arith, lt, le))
    by false e = r.queue k e

-- the handlers of these values but this one
abbrev pub others_of : ℕ → List Value → List ℕ
others_of h [] = []
others_of h (Attached r ∷ vs) = if r.handler == h then others_of h vs else r.handler ∷ others_of h vs
others_of h (Integer z ∷ vs) = others_of h vs
others_of h (Boolean b ∷ vs) = others_of h vs
others_of h (Void ∷ vs) = others_of h vs

or_right_true : (b : Bool) → (b || true) ≡ true
or_right_true true = refl
or_right_true false = refl

-- each of them is held
all_held : (h : ℕ) (v : World) (vs : List Value) → ((k : ℕ) → list_any (is_on k) (map handler_of vs) ≡ true → k ≢ h → Holds v h k)
    → EachHeld v h (others_of h vs)
all_held h v [] holds = tt
all_held h v (Attached r ∷ vs) holds = by (r.handler == h) refl
    (all_held h v vs (λ k e ne. holds k (ap (λ (b : Bool). (r.handler == k) || b) e ∙ or_right_true (r.handler == k)) ne))
  where
    by : (b : Bool) → (r.handler == h) ≡ b → EachHeld v h (others_of h vs) → EachHeld v h (if b then others_of h vs else r.handler ∷ others_of h vs)
    by true e rest = rest
    by false e rest = (
      holds r.handler (ap (λ (b : Bool). b || list_any (is_on r.handler) (map handler_of vs)) (eq-eqb r.handler r.handler refl))
          (eqb-false r.handler h e),
      rest,
    )
all_held h v (Integer z ∷ vs) holds = all_held h v vs holds
all_held h v (Boolean b ∷ vs) holds = all_held h v vs holds
all_held h v (Void ∷ vs) holds = all_held h v vs holds

-- and covers the values
all_covered : (h : ℕ) (vs : List Value) (ks : List ℕ) → ((k : ℕ) → is_among k (others_of h vs) ≡ true → is_among k ks ≡ true) → AreCovered h ks vs
all_covered h [] ks more = tt
all_covered h (Attached r ∷ vs) ks more = by (r.handler == h) refl more (all_covered h vs ks)
  where
    by : (b : Bool) → (r.handler == h) ≡ b → ((k : ℕ) → is_among k (if b then others_of h vs else r.handler ∷ others_of h vs) ≡ true
        → is_among k ks ≡ true)
        → (((k : ℕ) → is_among k (others_of h vs) ≡ true → is_among k ks ≡ true) → AreCovered h ks vs) → AreCovered h ks (Attached r ∷ vs)
    by true e m rest = (inl (eqb-true r.handler h e), rest m)
    by false e m rest = (
      inr (m r.handler (ap (λ (b : Bool). b || is_among r.handler (others_of h vs)) (eq-eqb r.handler r.handler refl))),
      rest (λ k i. m k (ap (λ (b : Bool). (r.handler == k) || b) i ∙ or_right_true (r.handler == k))),
    )
all_covered h (Integer z ∷ vs) ks more = (tt, all_covered h vs ks more)
all_covered h (Boolean b ∷ vs) ks more = (tt, all_covered h vs ks more)
all_covered h (Void ∷ vs) ks more = (tt, all_covered h vs ks more)

-- reserved just now, or held before
reserved_now : (w : World) (m : machine.World) (h : ℕ) (vs : List Value) (k : ℕ) (v : World) → rights_of w ≡ m.rights
    → ((j : ℕ) → is_among j (entries.needed_for h vs m) ≡ true → holder (v.queue j) ≡ Some h)
    → ((j : ℕ) → is_among j (entries.needed_for h vs m) ≡ false → v.queue j ≡ w.queue j) → ((j : ℕ) → v.top j ≡ w.top j)
    → list_any (is_on k) (map handler_of vs) ≡ true → k ≢ h → Holds v h k
reserved_now w m h vs k v same new old top is ne = by (is_among k (entries.needed_for h vs m)) refl
  where
    not_not : (b : Bool) → (true && not b) ≡ false → b ≡ true
    not_not true e = refl
    not_not false e = not_true e

    by : (b : Bool) → is_among k (entries.needed_for h vs m) ≡ b → Holds v h k
    by true e = inl (new k e)
    by false e =
        let holds = held_right h k w m same ne (not_not (held m.rights h k)
        (ap (λ (c : Bool). c && not (held m.rights h k)) (sym is) ∙ sym (needs_unheld m.rights h k (map handler_of vs)) ∙ e)) in
        ⊎_elim (λ a. inl (ap holder (old k e) ∙ a)) (λ a. inr (ap holder (top k) ∙ a)) holds

-- an entry reserves what it needs, and has it
entry_reserves : (w : World) (m : machine.World) (h : ℕ) (f : machine.Frame) (below : List machine.Frame) (mark : List Marked)
    → Going w m h machine.Reserves f below → f.blocks ≡ [] → f.reserved ≡ []
    → f.current.handler ≡ h → ((k : ℕ) → is_among k (entries.entry_needs h f m) ≡ true → k < m.count) → AreApart (entries.entry_needs h f m)
    → reservations.may_reserve (standing_in m) m.rights (entries.entry_needs h f m) mark ≡ true
    → Leads w (sessions.reserve h (entries.entry_needs h f m)
    (with_stack h (record f { stage = Runs; reserved = entries.entry_needs h f m } ∷ below) m))
entry_reserves w m h f below mark g none nothing mine known apart may =
    let ks : List ℕ = entries.entry_needs h f m in
    let vs : List Value = separate_formals f.environment in
    let at = only_routine w m h machine.Reserves f below g none in
    let active = going_active w m h machine.Reserves f below g in
    let free : at.frame.waits ≡ None = sym (ap waits_for at.is) ∙ active.1 in
    let r : Reserved h at.frame at.below ks w = reserves h ks at.frame at.below w active at.is
    (none_reserved at.frame.reserved (at.reserved ∙ nothing)) (λ k is. may_be_idle w m ks mark k g.stands may is) apart in
    let v = r.world in
    let e : Frame = record at.frame { reserved = r.list; needs = r.needs } in
    let there : (v.handlers h).stack ≡ e ∷ at.below = restacked_stack h (e ∷ at.below) w v r.stack in
    let on : IsActive (v.handlers h) = restacked_active h (e ∷ at.below) w v r.stack active.0 free in
    let held_all : EachHeld v h (others_of h vs) = all_held h v vs
    (λ k is ne. reserved_now w m h vs k v g.stands.rights (λ j i. r.held j i) (λ j i. r.queue j i) (λ j. r.stack.top j) is ne) in
    let u = world.settle h (others_of h vs) v in
    let listed : world.reservations (v.handlers h).stack ≡ r.list = ap world.reservations there in
    let new : Frame = record at.frame { reserved = r.list; needs = others_of h vs } in
    let settled : Restacked h (new ∷ at.below) v u =
    subst (λ l. Restacked h (record e { reserved = l; needs = others_of h vs } ∷ at.below) v u) listed
    (relisting h (world.reservations (v.handlers h).stack) (others_of h vs) e at.below v.next v there) in
    let f1 : machine.Frame = record f { stage = Runs; reserved = ks } in
    let n = sessions.reserve h ks (with_stack h (f1 ∷ below) m) in
    let p = put_stack h (f1 ∷ below) m in
    record {
      world = u;
      steps = joined w v u r.steps (one v u (Settles h e at.below (others_of h vs) on there held_all));
      stands = stands_put h (record f { stage = Runs; reserved = ks } ∷ below) (new ∷ at.below) w u m n g.stands g.here
          (restacked_again h (e ∷ at.below) (new ∷ at.below) w v u r.stack settled)
          (record { own = p.own; others = p.others; count = refl }) (
            free,
            subst (λ kss. AreBlocks (NamesOf machine.Runs f1) kss (IsRoutine f1 (NeedsOf machine.Runs f1) (IsStack below)) (new ∷ at.below))
                (sym none)
                (at.origin, r.are, at.rest, subst (λ i. AreCovered i (others_of h vs) vs) (sym mine) (all_covered h vs (others_of h vs) (λ k i. i))),
          )
          (reserved_rights h at.frame at.below ks w r ∙ ap (rights.reserve h ks) g.stands.rights)
          (λ k le. inl (reserved_beyond h at.frame at.below ks w m.count r known k le));
    }

block_covered : (h : ℕ) (ks : List ℕ) (bs : List Binding) → AreCovered h ks (map (λ (b : Binding). b.value) bs)
    → AreCovered h ks (block_values bs)
block_covered h ks [] is = tt
block_covered h ks (b ∷ bs) is = by (is_block b.role) (block_covered h ks bs is.1)
  where
    by : (c : Bool) → AreCovered h ks (block_values bs) → AreCovered h ks (if c then b.value ∷ block_values bs else block_values bs)
    by true rest = (is.0, rest)
    by false rest = rest

-- what a block opens with are its names
opened_covered : (h : ℕ) (ks : List ℕ) (ts : List Task) (bs : List Binding) → IsOpened ts → AreCovered h ks (opened_in bs ts)
    → AreCovered h ks (names_in ts bs 0)
opened_covered h ks ts bs o is =
    subst (λ l. AreCovered h ks (names_in l bs 0)) (sym o.is)
    (block_covered h ks (drop o.depth bs) (subst (λ l. AreCovered h ks (opened_in bs l)) o.is is))

-- a block reserves what it needs, and has it
block_reserves : (w : World) (m : machine.World) (h : ℕ) (f : machine.Frame) (below : List machine.Frame) (mark : List Marked)
    → Going w m h machine.ReservesBlock f below → f.current.handler ≡ h → IsOpened f.tasks
    → ((k : ℕ) → is_among k (entries.block_needs h f m) ≡ true → k < m.count) → AreApart (entries.block_needs h f m)
    → reservations.may_reserve (standing_in m) m.rights (entries.block_needs h f m) mark ≡ true
    → Leads w (sessions.reserve h (entries.block_needs h f m)
    (with_stack h (record f { stage = Runs; blocks = entries.block_needs h f m ∷ f.blocks } ∷ below) m))
block_reserves w m h f below mark g mine opened known apart may =
    let ks : List ℕ = entries.block_needs h f m in
    let vs : List Value = opened_in f.environment f.tasks in
    let active = going_active w m h machine.ReservesBlock f below g in
    let gs = (w.handlers h).stack in
    let e : Frame = record { origin = None; reserved = []; needs = []; waits = None } in
    let v = enter h w in
    let entered : Restacked h (e ∷ gs) w v = entering h w in
    let on = restacked_active h (e ∷ gs) w v entered active.0 refl in
    let r : Reserved h e gs ks v = reserves h ks e gs v on (restacked_stack h (e ∷ gs) w v entered) refl (λ k is. idle k is) apart in
    let u = r.world in
    let e1 : Frame = record e { reserved = r.list; needs = r.needs } in
    let there : (u.handlers h).stack ≡ e1 ∷ gs = restacked_stack h (e1 ∷ gs) v u r.stack in
    let held_all : EachHeld u h (others_of h vs) = all_held h u vs
    (λ k is ne. reserved_now w m h vs k u g.stands.rights (λ j i. r.held j i) (λ j i. r.queue j i) (λ j. r.stack.top j) is ne) in
    let t = world.settle h (others_of h vs) u in
    let listed : world.reservations (u.handlers h).stack ≡ r.list = ap world.reservations there in
    let new : Frame = record e { reserved = r.list; needs = others_of h vs } in
    let settled : Restacked h (new ∷ gs) u t =
    subst (λ l. Restacked h (record e1 { reserved = l; needs = others_of h vs } ∷ gs) u t) listed
    (relisting h (world.reservations (u.handlers h).stack) (others_of h vs) e1 gs u.next u there) in
    let f1 : machine.Frame = record f { stage = Runs; blocks = ks ∷ f.blocks } in
    let n = sessions.reserve h ks (with_stack h (f1 ∷ below) m) in
    let p = put_stack h (f1 ∷ below) m in
    record {
      world = t;
      steps = Then w v t (Enters h active)
          (joined v u t r.steps (one u t (Settles h e1 gs (others_of h vs) (restacked_active h (e1 ∷ gs) v u r.stack on.0 refl) there held_all)));
      stands = stands_put h (record f { stage = Runs; blocks = ks ∷ f.blocks } ∷ below) (new ∷ gs) w t m n g.stands g.here
          (restacked_again h (e ∷ gs) (new ∷ gs) w v t entered (restacked_again h (e1 ∷ gs) (new ∷ gs) v u t r.stack settled))
          (record { own = p.own; others = p.others; count = refl }) (
            refl,
            (
              refl,
              r.are,
              g.quiet,
              g.parts,
              opened_covered f.current.handler (others_of h vs) f.tasks f.environment opened
                  (subst (λ i. AreCovered i (others_of h vs) vs) (sym mine) (all_covered h vs (others_of h vs) (λ k i. i))),
            ),
          )
          (reserved_rights h e gs ks v r ∙ ap (rights.reserve h ks) g.stands.rights)
          (λ k le. inl (reserved_beyond h e gs ks v m.count r known k le));
    }
  where
    cons : {A : Type 0} (f : Frame) (fs : List Frame) → f ∷ fs ≡ [] → A
    cons f fs e = cc

    idle : (k : ℕ) → is_among k (entries.block_needs h f m) ≡ true → IsIdle k (enter h w)
    idle k is =
        let was = may_be_idle w m (entries.block_needs h f m) mark k g.stands may is in
        let p = has_parts (NamesOf machine.ReservesBlock f) f.blocks f (NeedsOf machine.ReservesBlock f) (IsStack below) (w.handlers h).stack
        g.parts in
        let ne : k ≢ h = λ same. cons p.frame p.below (sym p.is ∙ sym (ap (λ y. (w.handlers y).stack) same) ∙ was.stack) in
        let same : (enter h w).handlers k ≡ w.handlers k = (entering h w).others k ne in
        record {
          lives = ap (λ (x : Handler). x.failed) same ∙ was.lives;
          stack = ap (λ (x : Handler). x.stack) same ∙ was.stack;
          requests = ap (λ (x : Handler). x.requests) same ∙ was.requests;
          nobodys = was.nobodys;
        }

-- the step, where it is enabled
enabled : (w : World) (m : machine.World) (h : ℕ) (t : machine.Stage) (f g : machine.Frame) (below : List machine.Frame) (ks : List ℕ)
    (mark : List Marked) → IsConsistent w → Going w m h t f below
    → (reservations.may_reserve (standing_in m) m.rights ks mark ≡ true → Leads w (sessions.reserve h ks (with_stack h (g ∷ below) m)))
    → Leads w (reserves_if (entries.may_reserve ks mark m) h ks g below m)
enabled w m h t f g below ks mark fine going reserving = by (entries.may_reserve ks mark m) refl
  where
    or_right : (b c : Bool) → (b || c) ≡ true → b ≡ false → c ≡ true
    or_right true c e f = not_true f
    or_right false c e f = e

    by : (b : Bool) → entries.may_reserve ks mark m ≡ b → Leads w (reserves_if b h ks g below m)
    by false e = stays w m going.stands
    by true e = if_leads w (reserve_fails (standing_in m) m.rights ks) _ _ (λ lost. going_fails w m h t f below cause.SupplierFailed fine going)
        (λ kept. reserving (or_right (reserve_fails (standing_in m) m.rights ks) (reservations.may_reserve (standing_in m) m.rights ks mark) e kept))

pub entry_leads : (w : World) (m : machine.World) (h : ℕ) (f : machine.Frame) (below : List machine.Frame) → IsConsistent w
    → Going w m h machine.Reserves f below → f.blocks ≡ [] → f.reserved ≡ []
    → f.current.handler ≡ h → ((k : ℕ) → is_among k (entries.entry_needs h f m) ≡ true → k < m.count) → AreApart (entries.entry_needs h f m)
    → Leads w (entries.reserves_entry h (entries.entry_needs h f m) f below m)
entry_leads w m h f below fine g none nothing mine known apart =
    enabled w m h machine.Reserves f (record f { stage = Runs; reserved = entries.entry_needs h f m }) below (entries.entry_needs h f m) f.mark fine g
    (λ may. entry_reserves w m h f below f.mark g none nothing mine known apart may)

pub block_leads : (w : World) (m : machine.World) (h : ℕ) (f : machine.Frame) (below : List machine.Frame) → IsConsistent w
    → Going w m h machine.ReservesBlock f below → f.current.handler ≡ h → IsOpened f.tasks
    → ((k : ℕ) → is_among k (entries.block_needs h f m) ≡ true → k < m.count) → AreApart (entries.block_needs h f m)
    → Leads w (entries.reserves_block h (entries.block_needs h f m) f below m)
block_leads w m h f below fine g mine opened known apart =
    let ks : List ℕ = entries.block_needs h f m in
    enabled w m h machine.ReservesBlock f (record f { stage = Runs; blocks = ks ∷ f.blocks }) below ks [] fine g
    (λ may. block_reserves w m h f below [] g mine opened known apart may)
