-- What a turn gives back or releases is its handler's.
use Rattle.std.proofs.Common.{◌≡◌, ⊎_elim, inl, ℕ, suc, ◌==◌, ◌||◌, Bool, true, false, List, [], ◌∷◌, Option, Some, None, refl, sym, ap, ◌∙◌, subst, arith}
use Rattle.std.specs.Prelude.{Contains}
use Rattle.std.proofs.lemmas.Bool.{eqb-true}
use Rattle.sc_rules.specs.declared.entity_types.entity_type.EntityType.{EntityType}
use Rattle.sc_lockpass.specs.Rights.{Rights, is_among}
use Rattle.sc_lockpass.specs.Passing.{Passed}
use Rattle.sc_model.specs.Values.{Value}
use Rattle.sc_model.specs.Handlers as machine
use Rattle.sc_model.specs.Handlers.{Runs, Awaits, Reply}
use Rattle.sc_model.specs.Failures.{requests_at}
use Rattle.sc_machine_laws.specs.states.World.{Grant, Reservation, Wait, Request, Frame, Handler, World, holder, resumed, take_answer, requests_of}
use Rattle.sc_machine_laws.specs.states.Steps.{waits_for, answered, Answers}
use Rattle.sc_machine_laws.specs.states.Consistent.{IsOpen, HasGrant, IsFirst, Nobody, Lends, IsOne, IsStuckFrom}
use Rattle.sc_machine_laws.specs.states.Returns.{ReturnsTo, IsListed}
use Rattle.sc_machine_laws.specs.states.Laws.{RunsIn, EachGranted}
use Rattle.sc_machine_laws.specs.states.Lawful.{IsLawful}
use Rattle.sc_machine_laws.specs.states.Stands.{NeedsOf, NamesOf, handlers_of, IsRoutine, AreBlocks, place_of, IsCreation, IsStaged, IsStack, Stands}
use Rattle.sc_machine_laws.specs.states.Headline.{has_reply, is_awaiting}
use Rattle.sc_machine_laws.proofs.states.Rights.{put-same, not_some}
use Rattle.sc_machine_laws.proofs.states.Waits.{true_false}
use Rattle.sc_machine_laws.proofs.states.AwaitedEnds.{lifo}
use Rattle.sc_machine_laws.proofs.states.ReturningSteps.{grant_of, returns_granted}
use Rattle.sc_machine_laws.proofs.states.LawProofs.{steps_are_lawful, reserved_while_it_runs}
use Rattle.sc_machine_laws.proofs.states.MachineFrames.{contains_none, contains_first, contains_later, contains_cases}
use Rattle.sc_machine_laws.proofs.states.MachineHolders.{machine_reserved_are_held}
use Rattle.sc_machine_laws.specs.states.Fitting.{MayEnd}
use Rattle.sc_machine_laws.proofs.StandingRequests.{pair_one, pair_is, standing, standing_one}
use Rattle.sc_machine_laws.proofs.Tops.{lives_there, queue_is, top_is, replies_same}
use Rattle.sc_machine_laws.proofs.Unlent.{Ending, ending, paired_at, still_lives}

-- ---- what was passed

-- what is listed is the handler's
pub record IsHere (r : Rights) (g : ℕ) (p : Passed) : Type 0 where
  pub queue : (k : ℕ) (o : Option ℕ) → p.queue k ≡ Some o → r.queue k ≡ Some g
  pub top : (k : ℕ) (o : Option ℕ) → p.top k ≡ Some o → r.top k ≡ Some g

first_holder : (g n : ℕ) (t : List Grant) → IsFirst g n t → holder t ≡ Some g
first_holder g n [] i = absurd i
first_holder g n (e ∷ t) i = ap Some i.0

module _ (t : World) (m : machine.World) (law : IsLawful t) (stands : Stands t m) (g : ℕ) where
  -- who has a grant of the request is its target
  granted_here : (r : Request) → IsOne r (requests_of (t.handlers g)) → r.waited ≡ true → (k x : ℕ)
      → (HasGrant x r.number (t.queue k) → x ≡ g) × (HasGrant x r.number (t.top k) → x ≡ g)
  granted_here r one waited k x = ⊎_elim
      (λ a. a.2 k x)
      (λ (a : (v : Wait) × IsOpen v (t.handlers r.poster) × (v.number ≡ r.number) × (v.target ≡ g) × (v.passing ≡ _)
      × (v.asked ≡ r.asked)). (
        (λ i. law.consistent.queue_grants k r.poster x a.0 a.1.0
            (subst (λ n. HasGrant x n (t.queue k)) (sym a.2) i) ∙ a.3),
        (λ i. law.consistent.top_grants k r.poster x a.0 a.1.0 (subst (λ n. HasGrant x n (t.top k)) (sym a.2) i) ∙ a.3),
      ))
      (law.consistent.clients g r one waited)

  -- the request ends, and this was passed with it
  module _ (q : machine.Request) (p : Passed) (e : Ending t m law stands g q) (passed : q.passed ≡ Some p) where
    stands_here : IsOne e.request (requests_of (t.handlers g))
    stands_here = standing_one (t.handlers g) e.request
        (pair_one (standing (t.handlers g)) (requests_at (m.handlers g)) e.request q e.pair)

    was_passed : e.request.passed ≡ Some p
    was_passed = (pair_is (standing (t.handlers g)) (requests_at (m.handlers g)) e.request q
        (paired_at t m law stands g) e.pair).passed ∙ passed

    is_waited : e.request.waited ≡ true
    is_waited = by e.request.waited refl
      where
        by : (b : Bool) → e.request.waited ≡ b → e.request.waited ≡ true
        by true i = i
        by false i = not_some p (sym (law.returnable.waited g e.request stands_here i) ∙ was_passed)

    not_stuck : {A : Type 0} → IsStuckFrom t g (suc e.request.number) → A
    not_stuck s = absurd (let lt = e.older s.0 s.2 in let le = s.1 in omega (arith, lt, le))

    queue_first : (k : ℕ) (o : Option ℕ) → ReturnsTo e.request.number o (t.queue k) → holder (t.queue k) ≡ Some g
    queue_first k o l =
        let n = e.request.number in
        let h = grant_of n (t.queue k) (returns_granted n o (t.queue k) l) in
        let mine = (granted_here e.request stands_here is_waited k h.0).0 h.1 in
        first_holder g n (t.queue k)
        (lifo t Nobody g n e.older (λ lo i a. a) (still_lives t m law stands g e.request stands_here)
        (t.queue k) (law.consistent.queue_trails k) (subst (λ y. HasGrant y n (t.queue k)) mine h.1))

    top_first : (k : ℕ) (o : Option ℕ) → ReturnsTo e.request.number o (t.top k) → holder (t.top k) ≡ Some g
    top_first k o l =
        let n = e.request.number in
        let h = grant_of n (t.top k) (returns_granted n o (t.top k) l) in
        let mine = (granted_here e.request stands_here is_waited k h.0).1 h.1 in
        first_holder g n (t.top k) (lifo t (Lends t k) g n e.older (λ lo i a. e.passes k lo i a.0)
        (still_lives t m law stands g e.request stands_here) (t.top k) (law.consistent.top_trails k)
        (subst (λ y. HasGrant y n (t.top k)) mine h.1))

    passed_here : IsHere m.rights g p
    passed_here =
        let listed = law.returnable.listed g e.request p stands_here was_passed in
        record {
          queue = λ k o i. sym (queue_is t m law stands k) ∙ ⊎_elim
              (λ l. queue_first k o (subst (λ x. IsListed e.request.number x (t.queue k)) i l)) (λ s. not_stuck s)
              (listed.queues k);
          top = λ k o i. sym (top_is t m law stands k) ∙ ⊎_elim
              (λ l. top_first k o (subst (λ x. IsListed e.request.number x (t.top k)) i l)) (λ s. not_stuck s)
              (listed.tops k);
        }

  pub listed_here : (q : machine.Request) (p : Passed) → MayEnd (m.handlers g) q → q.passed ≡ Some p →
      IsHere m.rights g p
  listed_here q p may passed = passed_here q p (ending t m law stands g q may) passed

  -- ---- the creation of a handler, whose answer has come

  granted_each : (w : World) (k : ℕ) (rs : List Reservation) → EachGranted w g rs → Contains (handlers_of rs) k →
      holder (w.queue k) ≡ Some g
  granted_each w k [] is i = contains_none k i
  granted_each w k (r ∷ rs) is i = ⊎_elim
      (λ e. ap (λ j. holder (w.queue j)) (sym e) ∙ is.0)
      (λ later. granted_each w k rs is.1 later)
      (contains_cases r.handler (handlers_of rs) k i)

  created_here : (k : ℕ) (v : Wait) (B : List Frame → Type 0) (gs : List Frame) → (t.handlers g).stack ≡ gs →
      (t.handlers g).failed ≡ false
      → answered (t.handlers g).answer ≡ true → waits_for gs ≡ Some v → IsCreation k B gs → holder (t.queue k) ≡ Some g
  created_here k v B [] at lives over waits is = absurd is
  created_here k v B (c ∷ gs) at lives over waits is =
      let u = take_answer g t in
      let law_u = steps_are_lawful t u law (Answers g v lives (ap waits_for at ∙ waits) over) in
      let here : u.handlers g ≡ record (t.handlers g) { stack = resumed (t.handlers g).stack; answer = None } =
      put-same g (record (t.handlers g) { stack = resumed (t.handlers g).stack; answer = None }) t.handlers in
      let top : (u.handlers g).stack ≡ record c { waits = None } ∷ gs = ap (λ (x : Handler). x.stack) here
      ∙ ap resumed at in
      granted_each u k c.reserved
      (reserved_while_it_runs u law_u g (record c { waits = None })
      (ap (λ (x : Handler). x.failed) here ∙ lives, ap waits_for top)
      (subst (RunsIn (record c { waits = None })) (sym top) (inl refl)))
      (subst (λ ks. Contains ks k) (sym is.1) (contains_first k []))

  pub creation_here : (f : machine.Frame) (below : List machine.Frame) (k : ℕ) (gives : Option EntityType)
      (v : Option Value) → (m.handlers g).failure ≡ None
      → (m.handlers g).stack ≡ f ∷ below → f.stage ≡ Awaits k gives true → (m.handlers g).answer ≡ Some (Reply v) →
      m.rights.queue k ≡ Some g
  creation_here f below k gives v alive at stage answer =
      let st = subst (λ x. IsStaged x (place_of f below)
      (AreBlocks (NamesOf f.stage f) f.blocks (IsRoutine f (NeedsOf f.stage f) (IsStack below)))
      (t.handlers g).stack) stage (subst (λ s. IsStack s (t.handlers g).stack) at (stands.handlers g).stack) in
      sym (queue_is t m law stands k)
      ∙ created_here k st.0.wait
      (AreBlocks (NamesOf f.stage f) f.blocks (IsRoutine f (NeedsOf f.stage f) (IsStack below)))
      (t.handlers g).stack refl
      (lives_there t m law stands g alive) (replies_same t m law stands g ∙ ap has_reply answer) st.0.waits st.1

  -- ---- what was reserved

  among_contains : (k : ℕ) (ks : List ℕ) → is_among k ks ≡ true → Contains ks k
  among_contains k [] e = true_false (sym e)
  among_contains k (j ∷ ks) e = by (j == k) refl e (λ i. among_contains k ks i)
    where
      by : (b : Bool) → (j == k) ≡ b → (b || is_among k ks) ≡ true → (is_among k ks ≡ true → Contains ks k) →
          Contains (j ∷ ks) k
      by true i e rest = subst (Contains (j ∷ ks)) (eqb-true j k i) (contains_first j ks)
      by false i e rest = contains_later j ks k (rest e)

  pub reserved_here : (f : machine.Frame) (below : List machine.Frame) → (m.handlers g).failure ≡ None →
      (m.handlers g).stack ≡ f ∷ below → f.stage ≡ Runs
      → (ks : List ℕ) → Contains (f.reserved ∷ f.blocks) ks → (k : ℕ) → is_among k ks ≡ true → m.rights.queue k ≡ Some g
  reserved_here f below alive at stage ks i k e = machine_reserved_are_held t m law stands g k f below ks alive at
      (ap is_awaiting stage) i (among_contains k ks e)
