-- Whoever waits and has lent nothing waits on top, for this one request.
use Rattle.std.proofs.Common.{◌≡◌, ◌≢◌, ⊎_elim, inl, ℕ, ◌<◌, Bool, true, false, List, [], ◌∷◌, ◌++◌, Option, Some, None, refl, sym, ap, ◌∙◌, subst, arith}
use Rattle.std.specs.Prelude.{Contains, is_some}
use Rattle.std.specs.Option.{option_map}
use Rattle.sc_model.specs.Handlers as machine
use Rattle.sc_model.specs.Handlers.{Requested, Runs}
use Rattle.sc_model.specs.Failures.{request_of, to_list, requests_at}
use Rattle.sc_machine_laws.specs.states.World.{Wait, Request, Frame, SupplierFailed, World, passes, popped, requests_of}
use Rattle.sc_machine_laws.specs.states.Steps.{waits_for, answered, IsTold}
use Rattle.sc_machine_laws.specs.states.Consistent.{Asks, HasWait, StackWaits, HasPassed, IsOpen, HasGrant, IsAway, Lends, Told, On, Stuck, IsOne, IsConsistent}
use Rattle.sc_machine_laws.specs.states.Lawful.{IsLawful}
use Rattle.sc_machine_laws.specs.states.Stands.{NeedsOf, NamesOf, IsPoster, IsRequest, AreRequests, IsCallback, answer_of, IsRoutine, AreBlocks, place_of, IsStaged, IsStack, Stands}
use Rattle.sc_machine_laws.specs.states.Headline.{has_reply}
use Rattle.sc_machine_laws.proofs.states.Rights.{not_some}
use Rattle.sc_machine_laws.proofs.states.Waits.{true_false, some_wait, waits_stack, stack_has, lower_older, lower_passes, same_wait}
use Rattle.sc_machine_laws.proofs.states.AwaitedEnds.{lifo, first_newest}
use Rattle.sc_machine_laws.proofs.states.HeardClients.{top_or_below}
use Rattle.sc_machine_laws.proofs.states.links.Reached.{reached_stands}
use Rattle.sc_machine_laws.specs.states.Fitting.{MayEnd, runs, next, called_back}
use Rattle.sc_machine_laws.specs.RequestLaws.{TopAwaits, IsUnlent, NoCallback, EndsTheOne, StandsOnce}
use Rattle.sc_machine_laws.proofs.StandingRequests.{PairAt, pair_one, pair_is, pair_same, pair_before, pair_behind, pair_of, apart, begun_in, begun_on, this_if, standing, callback_requests, both, standing_is, standing_one, standing_numbered, blocks_begin}
use Rattle.sc_machine_laws.proofs.Tops.{top_awaits, no_parts, there_callback, lives_there, replies_same, callback_none}

-- ---- in the world of rights

-- The wait for the request is that of the topmost frame.
pub record OnTop (w : World) (k : ℕ) (r : Request) : Type 0 where
  pub wait : Wait
  pub waits : waits_for (w.handlers r.poster).stack ≡ Some wait
  pub number : wait.number ≡ r.number
  pub target : wait.target ≡ k

-- where it has lent nothing
pub record KeepsAll (w : World) (k : ℕ) (r : Request) : Type 0 where
  pub top : OnTop w k r
  pub keeps : top.wait.passing ≡ false
  pub unanswered : answered (w.handlers r.poster).answer ≡ false

unlent_keeps : (w : World) → IsConsistent w → (k : ℕ) (r : Request) → IsOne r (requests_of (w.handlers k)) →
    r.waited ≡ true → r.passed ≡ None
    → (w.handlers r.poster).failed ≡ false → KeepsAll w k r
unlent_keeps w fine k r stands waited none lives = ⊎_elim
    (λ a. true_false (sym a.0 ∙ lives))
    (λ (a : (v : Wait) × IsOpen v (w.handlers r.poster) × (v.number ≡ r.number) × (v.target ≡ k)
    × (v.passing ≡ passes r) × (v.asked ≡ r.asked)).
    let keeps : a.0.passing ≡ false = a.4 ∙ ap is_some none in
    let not_below : StackWaits a.0 (popped (w.handlers r.poster).stack) → ⊥ = λ low.
    true_false (sym (lower_passes (w.handlers r.poster).stack (fine.ordered r.poster) a.0 low) ∙ keeps) in
    record {
      top = record {
        wait = a.0;
        waits = ⊎_elim (λ at. at) (λ low. absurd (not_below low)) (top_or_below a.0 (w.handlers r.poster).stack a.1.0);
        number = a.2;
        target = a.3;
      };
      keeps = keeps;
      unanswered = ⊎_elim (λ un. un) (λ low. absurd (not_below low)) a.1.1;
    })
    (fine.clients k r stands waited)

-- The request stands at the handler, which waits for nothing newer, and for nothing without passing its rights.
record MayEndThere (w : World) (h : ℕ) (r : Request) : Type 0 where
  stands : IsOne r (requests_of (w.handlers h))
  waited : r.waited ≡ true
  lives : (w.handlers h).failed ≡ false
  older : (m : ℕ) → HasWait m (w.handlers h).stack → m < r.number
  passes : (k lo hi : ℕ) → Asks (w.handlers h) k lo hi → ⊥

module _ (w : World) (fine : IsConsistent w) (h : ℕ) (r : Request) (c : MayEndThere w h r)
    (lives : (w.handlers r.poster).failed ≡ false)
    (none : (w.handlers r.poster).answer ≡ None) where
  not_told : {A : Type 0} → IsTold (w.handlers r.poster) → A
  not_told t = not_some SupplierFailed (sym none ∙ t)

  -- h passes no other that is stuck
  not_stuck : (v : Wait) → StackWaits v (w.handlers r.poster).stack → v.number ≡ r.number → v.target ≡ h →
      (m : ℕ) → v.number ≡ m
      → Stuck w r.poster m → ⊥
  not_stuck v s n to m is (Told t) = not_told t
  not_stuck v s n to m is (On x j o num has lt st) =
      let same = same_wait (w.handlers r.poster).stack (fine.ordered r.poster) x v o.0 s (num ∙ sym is) in
      let old = c.older j (subst (λ y. HasWait j (w.handlers y).stack) (ap (λ (i : Wait). i.target) same ∙ to) has) in
      omega (arith, old, lt, is, n)

  -- a wait below the topmost would be the newest to which the right went, and older than the topmost
  not_below : (v : Wait) → IsOpen v (w.handlers r.poster) → v.number ≡ r.number → v.target ≡ h
      → StackWaits v (popped (w.handlers r.poster).stack) → ⊥
  not_below v o n to low = ⊎_elim granted
      (λ l. ⊎_elim (λ t. not_told t) (λ s. not_stuck v o.0 n to v.number refl s.0) l)
      (fine.own_top r.poster v o (lower_passes (w.handlers r.poster).stack (fine.ordered r.poster) v low))
    where
      other : h ≢ r.poster
      other e = let lt = c.older v.number
          (subst (λ y. HasWait v.number (w.handlers y).stack) (sym e) (stack_has v (w.handlers r.poster).stack o.0)) in
          omega (arith, lt, n)

      granted : HasGrant v.target v.number (w.top r.poster) → ⊥
      granted i =
          let has : HasGrant h r.number (w.top r.poster) = subst (λ y. HasGrant y r.number (w.top r.poster)) to
          (subst (λ m. HasGrant v.target m (w.top r.poster)) n i) in
          let first = lifo w (Lends w r.poster) h r.number c.older (λ lo m l. c.passes r.poster lo m l.0) c.lives
          (w.top r.poster)
          (fine.top_trails r.poster) has in
          ⊎_elim
          (λ (away : IsAway (w.handlers r.poster)).
          let lt = lower_older (w.handlers r.poster).stack away.for v (fine.ordered r.poster) away.waits low in
          ⊎_elim
          (λ j. let le = first_newest w (Lends w r.poster) (w.top r.poster) (fine.top_trails r.poster) h r.number
          away.for.target
          away.for.number first j in omega (arith, lt, le, n))
          (λ l. ⊎_elim (λ t. not_told t) (λ s. let more = s.1 h r.number has in omega (arith, lt, more, n)) l)
          (fine.own_top r.poster away.for
          (waits_stack (w.handlers r.poster).stack away.for away.waits, inl away.unanswered) away.passing))
          (λ x. ⊎_elim (λ a. c.passes r.poster r.number w.next a) (λ f. true_false (sym f ∙ c.lives)) x)
          (fine.tops r.poster h r.number first other lives)

  ends_on_top : OnTop w h r
  ends_on_top = ⊎_elim
      (λ a. true_false (sym a.0 ∙ lives))
      (λ (a : (v : Wait) × IsOpen v (w.handlers r.poster) × (v.number ≡ r.number) × (v.target ≡ h)
      × (v.passing ≡ passes r) ×
      (v.asked ≡ r.asked)). record {
        wait = a.0;
        waits = ⊎_elim (λ at. at) (λ low. absurd (not_below a.0 a.1 a.2 a.3 low))
            (top_or_below a.0 (w.handlers r.poster).stack a.1.0);
        number = a.2;
        target = a.3;
      })
      (fine.clients h r c.stands c.waited)

waits_passing : (fs : List Frame) → HasPassed fs → (v : Wait) → waits_for fs ≡ Some v → v.passing ≡ false → ⊥
waits_passing fs p v at keeps =
    true_false (sym p.2 ∙ ap (λ (x : Wait). x.passing) (some_wait p.0 v (sym p.1 ∙ at)) ∙ keeps)

-- ---- of the machine

module _ (t : World) (m : machine.World) (law : IsLawful t) (stands : Stands t m) where
  pub paired_at : (k : ℕ) → AreRequests (standing (t.handlers k)) (requests_at (m.handlers k))
  paired_at k = standing_is (t.handlers k) (m.handlers k) (stands.handlers k)

  -- a request of the world of rights, for one that h posted and lent nothing with
  kept : (h k : ℕ) (q : machine.Request) (a : Request) → (m.handlers h).failure ≡ None →
      IsOne a (standing (t.handlers k)) → IsRequest a q
      → q.poster ≡ Some h → q.is_waited ≡ true → q.passed ≡ None → (a.poster ≡ h) × KeepsAll t k a
  kept h k q a alive one is by_h waited none =
      let mine : a.poster ≡ h = subst (IsPoster a) by_h is.poster in (
        mine,
        unlent_keeps t law.consistent k a (standing_one (t.handlers k) a one) (is.waited ∙ waited) (is.passed ∙ none)
            (ap (λ y. (t.handlers y).failed) mine ∙ lives_there t m law stands h alive),
      )

  -- two that are waited for on top of h are one
  same_top : (h k j : ℕ) (a c : Request) → a.poster ≡ h → c.poster ≡ h → OnTop t k a → OnTop t j c →
      (a.number ≡ c.number) × (k ≡ j)
  same_top h k j a c by_a by_c x y =
      let same : x.wait ≡ y.wait = some_wait x.wait y.wait
      (sym x.waits ∙ ap (λ i. waits_for (t.handlers i).stack) (by_a ∙ sym by_c) ∙ y.waits) in (
        sym x.number ∙ ap (λ (v : Wait). v.number) same ∙ y.number,
        sym x.target
            ∙ ap (λ (v : Wait). v.target) same ∙ y.target,
      )

  unlent_waits : (h k : ℕ) (q : machine.Request) → (m.handlers h).failure ≡ None → IsUnlent m h k q
      → TopAwaits (m.handlers h).stack k × ((m.handlers h).callback ≡ None) × (has_reply (m.handlers h).answer ≡ false)
  unlent_waits h k q alive u =
      let p = pair_of (standing (t.handlers k)) (requests_at (m.handlers k)) q (paired_at k) u.stands in
      let c = kept h k q p.0 alive (pair_one (standing (t.handlers k)) (requests_at (m.handlers k)) p.0 q p.1)
      (pair_is (standing (t.handlers k)) (requests_at (m.handlers k)) p.0 q (paired_at k) p.1) u.poster_is u.is_waited
      u.passed_is in
      let here : waits_for (t.handlers h).stack ≡ Some c.1.top.wait =
      subst (λ y. waits_for (t.handlers y).stack ≡ Some c.1.top.wait) c.0 c.1.top.waits in (
        subst (TopAwaits (m.handlers h).stack) c.1.top.target
            (top_awaits (m.handlers h).stack (t.handlers h).stack c.1.top.wait here (stands.handlers h).stack),
        none_there c.1.top.wait here c.1.keeps (t.handlers h).callback refl,
        sym (replies_same t m law stands h) ∙ ap (λ y. answered (t.handlers y).answer) (sym c.0) ∙ c.1.unanswered,
      )
    where
      none_there : (v : Wait) → waits_for (t.handlers h).stack ≡ Some v → v.passing ≡ false → (o : Option Request) →
          (t.handlers h).callback ≡ o
          → (m.handlers h).callback ≡ None
      none_there v at keeps None e = callback_none t m law stands h e
      none_there v at keeps (Some r) e =
          absurd (waits_passing (t.handlers h).stack (law.consistent.callbacks h r e).1 v at keeps)

  -- ---- what may end

  -- the world's request, at the same place
  pub record Ending (g : ℕ) (r : machine.Request) : Type 0 where
    pub request : Request
    pub pair : PairAt (standing (t.handlers g)) (requests_at (m.handlers g)) request r
    pub older : (n : ℕ) → HasWait n (t.handlers g).stack → n < request.number
    pub passes : (k lo hi : ℕ) → Asks (t.handlers g) k lo hi → ⊥

  first_pair : (rs : List Request) (qs : List machine.Request) (q : machine.Request) → AreRequests rs (q ∷ qs) →
      (a : Request) × PairAt rs (q ∷ qs) a q
  first_pair [] qs q is = absurd is
  first_pair (r ∷ rs) qs q is = (r, inl (refl, refl))

  in_queue : (g : ℕ) (a : Request) (q : machine.Request) → PairAt (t.handlers g).requests (m.handlers g).queue a q
      → PairAt (standing (t.handlers g)) (requests_at (m.handlers g)) a q
  in_queue g a q p = pair_before ((t.handlers g).requests ++ this_if (t.handlers g).callback)
      (begun_in (t.handlers g).stack)
      ((m.handlers g).queue ++ to_list (m.handlers g).callback) (begun_on (m.handlers g).stack) a q
      (pair_before (t.handlers g).requests (this_if (t.handlers g).callback) (m.handlers g).queue
      (to_list (m.handlers g).callback) a q p)

  as_callback : (g : ℕ) (a : Request) (q : machine.Request) → PairAt (this_if (t.handlers g).callback)
      (to_list (m.handlers g).callback) a q
      → PairAt (standing (t.handlers g)) (requests_at (m.handlers g)) a q
  as_callback g a q p = pair_before ((t.handlers g).requests ++ this_if (t.handlers g).callback)
      (begun_in (t.handlers g).stack)
      ((m.handlers g).queue ++ to_list (m.handlers g).callback) (begun_on (m.handlers g).stack) a q
      (pair_behind (t.handlers g).requests (this_if (t.handlers g).callback) (m.handlers g).queue
      (to_list (m.handlers g).callback) a q (stands.handlers g).requests p)

  on_stack : (g : ℕ) (a : Request) (q : machine.Request) → PairAt (begun_in (t.handlers g).stack)
      (begun_on (m.handlers g).stack) a q
      → PairAt (standing (t.handlers g)) (requests_at (m.handlers g)) a q
  on_stack g a q p = pair_behind ((t.handlers g).requests ++ this_if (t.handlers g).callback)
      (begun_in (t.handlers g).stack)
      ((m.handlers g).queue ++ to_list (m.handlers g).callback) (begun_on (m.handlers g).stack) a q
      (front g) p
    where
      front : (g : ℕ) → AreRequests ((t.handlers g).requests ++ this_if (t.handlers g).callback)
          ((m.handlers g).queue ++ to_list (m.handlers g).callback)
      front g = both (t.handlers g).requests (this_if (t.handlers g).callback) (m.handlers g).queue
          (to_list (m.handlers g).callback) (stands.handlers g).requests
          (callback_requests (t.handlers g).callback (m.handlers g).callback (stands.handlers g).callback)

  pub ending : (g : ℕ) (r : machine.Request) → MayEnd (m.handlers g) r → Ending g r
  ending g r (runs {f} {below} at stage begun) =
      let st = subst (λ x. IsStaged x (place_of f below)
      (AreBlocks (NamesOf f.stage f) f.blocks (IsRoutine f (NeedsOf f.stage f) (IsStack below)))
      (t.handlers g).stack) stage (subst (λ s. IsStack s (t.handlers g).stack) at (stands.handlers g).stack) in
      let b = blocks_begin (NamesOf f.stage f) f.blocks f (NeedsOf f.stage f) (IsStack below) r
      (t.handlers g).stack begun st.0 (law.consistent.ordered g) st.1 in
      let is : begun_on (m.handlers g).stack ≡ r ∷ begun_on below = ap begun_on at
      ∙ ap (λ o. request_of o ++ begun_on below) begun in
      record {
        request = b.request;
        pair = on_stack g b.request r (subst (λ rs. PairAt rs (begun_on (m.handlers g).stack) b.request r) (sym b.is)
            (subst (λ qs. PairAt (b.request ∷ b.others) qs b.request r) (sym is) (inl (refl, refl))));
        older = b.older;
        passes = λ k lo hi a. not_some a.for (sym st.0 ∙ a.waits);
      }
  ending g r (next {rs} at first) =
      let none = no_parts (m.handlers g).stack (t.handlers g).stack at (stands.handlers g).stack in
      let a = first_pair (t.handlers g).requests rs r
      (subst (AreRequests (t.handlers g).requests) first (stands.handlers g).requests) in
      record {
        request = a.0;
        pair = in_queue g a.0 r (subst (λ qs. PairAt (t.handlers g).requests qs a.0 r) (sym first) a.1);
        older = λ n has. absurd (subst (HasWait n) none has);
        passes = λ k lo hi x. not_some x.for (sym (ap waits_for none) ∙ x.waits);
      }
  ending g r (called_back at e) =
      let c = there_callback (t.handlers g).callback r
      (subst (IsCallback (t.handlers g).callback) e (stands.handlers g).callback) in
      let l = law.consistent.callbacks g c.0 c.1 in
      record {
        request = c.0;
        pair = as_callback g c.0 r (subst (λ o. PairAt (this_if o) (to_list (m.handlers g).callback) c.0 r) (sym c.1)
            (subst (λ o. PairAt (c.0 ∷ []) (to_list o) c.0 r) (sym e) (inl (refl, refl))));
        older = l.0;
        passes = λ k lo hi a. waits_passing (t.handlers g).stack l.1 a.for a.waits a.keeps;
      }

  pub still_lives : (g : ℕ) (r : Request) → IsOne r (requests_of (t.handlers g)) → (t.handlers g).failed ≡ false
  still_lives g r one = by (t.handlers g).failed refl
    where
      by : (b : Bool) → (t.handlers g).failed ≡ b → (t.handlers g).failed ≡ false
      by false i = i
      by true i = absurd (law.returnable.failures g r one i)

  ends_the_one_at : (h k g : ℕ) (q r : machine.Request) → (m.handlers h).failure ≡ None → (m.handlers h).answer ≡ None →
      IsUnlent m h k q
      → MayEnd (m.handlers g) r → r.poster ≡ Some h → r.is_waited ≡ true → (g ≡ k) × (r ≡ q)
  ends_the_one_at h k g q r alive none u may by_h waited =
      let p = pair_of (standing (t.handlers k)) (requests_at (m.handlers k)) q (paired_at k) u.stands in
      let c = kept h k q p.0 alive (pair_one (standing (t.handlers k)) (requests_at (m.handlers k)) p.0 q p.1)
      (pair_is (standing (t.handlers k)) (requests_at (m.handlers k)) p.0 q (paired_at k) p.1) u.poster_is u.is_waited
      u.passed_is in
      let e = ending g r may in
      let is = pair_is (standing (t.handlers g)) (requests_at (m.handlers g)) e.request r (paired_at g) e.pair in
      let one = standing_one (t.handlers g) e.request
      (pair_one (standing (t.handlers g)) (requests_at (m.handlers g)) e.request r e.pair) in
      let mine : e.request.poster ≡ h = subst (IsPoster e.request) by_h is.poster in
      let top = ends_on_top t law.consistent g e.request
      (record {
        stands = one;
        waited = is.waited ∙ waited;
        lives = still_lives g e.request one;
        older = e.older;
        passes = e.passes;
      })
      (ap (λ y. (t.handlers y).failed) mine ∙ lives_there t m law stands h alive)
      (ap (λ y. (t.handlers y).answer) mine ∙ (stands.handlers h).answer ∙ ap (option_map answer_of) none) in
      let same = same_top h g k e.request p.0 mine c.0 top c.1.top in (
        same.1,
        pair_same t.next (standing (t.handlers k)) (requests_at (m.handlers k)) e.request p.0 r q
            (standing_numbered t.next (t.handlers k) (law.consistent.numbered k))
            (subst (λ y. PairAt (standing (t.handlers y)) (requests_at (m.handlers y)) e.request r) same.1
            e.pair) p.1 same.0,
      )

  stands_once_at : (h k : ℕ) (q r : machine.Request) (before behind : List machine.Request) →
      (m.handlers h).failure ≡ None
      → requests_at (m.handlers k) ≡ before ++ q ∷ behind → q.poster ≡ Some h → q.is_waited ≡ true → q.passed ≡ None
      → r.poster ≡ Some h → r.is_waited ≡ true → r.passed ≡ None
      → (Contains (before ++ behind) r → ⊥) × ((j : ℕ) → j ≢ k → Contains (requests_at (m.handlers j)) r → ⊥)
  stands_once_at h k q r before behind alive at by_q waits_q none_q by_r waits_r none_r =
      let a = apart t.next (standing (t.handlers k)) before behind q
      (standing_numbered t.next (t.handlers k) (law.consistent.numbered k))
      (subst (AreRequests (standing (t.handlers k))) at (paired_at k)) in
      let x = kept h k q a.request alive a.stands a.is by_q waits_q none_q in (
        (λ i.
            let c = a.others r i in
            let y = kept h k r c.0 alive c.2 c.1 by_r waits_r none_r in
            c.3 (same_top h k k c.0 a.request y.0 x.0 y.1.top x.1.top).0),
        (λ j ne i.
            let p = pair_of (standing (t.handlers j)) (requests_at (m.handlers j)) r (paired_at j) i in
            let y = kept h j r p.0 alive (pair_one (standing (t.handlers j)) (requests_at (m.handlers j)) p.0 r p.1)
            (pair_is (standing (t.handlers j)) (requests_at (m.handlers j)) p.0 r (paired_at j) p.1) by_r
            waits_r none_r in
            ne (same_top h j k p.0 a.request y.0 x.0 y.1.top x.1.top).1),
      )

-- ---- the laws

pub no_callback_there : NoCallback
no_callback_there most s root w reached = let r = reached_stands most s root w reached in unlent_waits r.0 w r.1 r.2

pub ends_the_one : EndsTheOne
ends_the_one most s root w reached = let r = reached_stands most s root w reached in ends_the_one_at r.0 w r.1 r.2

pub stands_once : StandsOnce
stands_once most s root w reached = let r = reached_stands most s root w reached in stands_once_at r.0 w r.1 r.2
