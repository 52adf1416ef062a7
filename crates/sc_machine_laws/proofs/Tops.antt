-- Who waits, where another handler may push on its waiting stack, or nothing has come.
use Rattle.std.proofs.Common.{◌≡◌, ◌≢◌, ◌⊎◌, ⊎_elim, ℕ, ◌≤◌, Bool, true, false, List, [], ◌∷◌, Option, Some, None, refl, sym, ap, ◌∙◌, subst}
use Rattle.std.specs.Prelude.{is_some}
use Rattle.std.specs.Option.{option_map}
use Rattle.sc_rules.specs.declared.entity_types.entity_type.EntityType.{EntityType}
use Rattle.sc_lockpass.specs.Rights.{Rights}
use Rattle.sc_model.specs.declared.cause.Cause.{Cause}
use Rattle.sc_model.specs.Handlers as machine
use Rattle.sc_model.specs.Handlers.{Runs, Reserves, ReservesBlock, InCall, Awaits, Reply, Failed, Refused}
use Rattle.sc_machine_laws.specs.states.World.{Grant, Wait, Request, Frame, World, holder}
use Rattle.sc_machine_laws.specs.states.Steps.{waits_for, answered}
use Rattle.sc_machine_laws.specs.states.Consistent.{HasWait, HasPassed, Asks, IsFirst, IsBased}
use Rattle.sc_machine_laws.specs.states.Consistent as consistent
use Rattle.sc_machine_laws.specs.states.Lawful.{IsLawful}
use Rattle.sc_machine_laws.specs.states.Stands.{NeedsOf, NamesOf, IsRequest, AreRequests, IsCallback, answer_of, IsRoutine, AreBlocks, Place, place_of, Awaited, IsStaged, IsStack, Stands}
use Rattle.sc_machine_laws.specs.states.Headline.{has_reply}
use Rattle.sc_machine_laws.proofs.states.Asks.{holder_first}
use Rattle.sc_machine_laws.proofs.states.Rights.{not_some}
use Rattle.sc_machine_laws.proofs.states.Waits.{true_false, some_wait}
use Rattle.sc_machine_laws.proofs.states.links.Reached.{reached_stands}
use Rattle.sc_machine_laws.specs.RequestLaws.{TopAwaits, IsAway, IdleHasNoTop, CalledBackWaits, CallbacksMeetWaiters, RunningIsClear, IsUnused, BeyondIsUnused}

-- ---- stacks

-- whose answer the topmost awaits, for whom the world of rights says that it waits
staged_top : (f : machine.Frame) (below : List machine.Frame) (B : List Frame → Type 0) (gs : List Frame) (v : Wait) →
    waits_for gs ≡ Some v
    → (x : machine.Stage) → f.stage ≡ x → IsStaged x (place_of f below) B gs → TopAwaits (f ∷ below) v.target
staged_top f below B gs v waits x e is = by x e is
  where
    same : (k : ℕ) (gives : Option EntityType) (c : Bool) → f.stage ≡ Awaits k gives c →
        Awaited k gives (place_of f below) gs → TopAwaits (f ∷ below) v.target
    same k gives c e a = subst (TopAwaits (f ∷ below))
        (sym a.target ∙ ap (λ (y : Wait). y.target) (some_wait a.wait v (sym a.waits ∙ waits)))
        (record { frame = f; below = below; gives = gives; is_creation = c; stack_is = refl; stage_is = e })

    by : (x : machine.Stage) → f.stage ≡ x → IsStaged x (place_of f below) B gs → TopAwaits (f ∷ below) v.target
    by Runs e is = not_some v (sym is.0 ∙ waits)
    by Reserves e is = not_some v (sym is.0 ∙ waits)
    by ReservesBlock e is = not_some v (sym is.0 ∙ waits)
    by (InCall gives) e is = not_some v (sym is.0 ∙ waits)
    by (Awaits k gives true) e is = same k gives true e is.0
    by (Awaits k gives false) e is = same k gives false e is.0

pub top_awaits : (st : List machine.Frame) (gs : List Frame) (v : Wait) → waits_for gs ≡ Some v → IsStack st gs →
    TopAwaits st v.target
top_awaits [] [] v waits is = not_some v waits
top_awaits [] (g ∷ gs) v waits is = absurd is
top_awaits (f ∷ below) gs v waits is =
    staged_top f below (AreBlocks (NamesOf f.stage f) f.blocks (IsRoutine f (NeedsOf f.stage f) (IsStack below))) gs v
    waits f.stage refl is

pub no_parts : (st : List machine.Frame) (gs : List Frame) → st ≡ [] → IsStack st gs → gs ≡ []
no_parts [] [] e is = refl
no_parts [] (g ∷ gs) e is = absurd is
no_parts (f ∷ st) gs e is = cc

blocks_none : {A : Type 0} (C : ℕ → List ℕ → Type 0) (kss : List (List ℕ)) (f : machine.Frame) (N : List ℕ → Type 0)
    (B : List Frame → Type 0)
    → AreBlocks C kss (IsRoutine f N B) [] → A
blocks_none C [] f N B is = absurd is
blocks_none C (ks ∷ kss) f N B is = absurd is

staged_none : {A : Type 0} (x : machine.Stage) (at : Place) (C : ℕ → List ℕ → Type 0) (f : machine.Frame)
    (N : List ℕ → Type 0) (B : List Frame → Type 0)
    → IsStaged x at (AreBlocks C f.blocks (IsRoutine f N B)) [] → A
staged_none Runs at C f N B is = blocks_none C f.blocks f N B is.1
staged_none Reserves at C f N B is = blocks_none C f.blocks f N B is.1
staged_none ReservesBlock at C f N B is = blocks_none C f.blocks f N B is.1
staged_none (InCall gives) at C f N B is = blocks_none C f.blocks f N B is.1
staged_none (Awaits k gives true) at C f N B is = not_some is.0.wait is.0.waits
staged_none (Awaits k gives false) at C f N B is = not_some is.0.wait is.0.waits

pub no_frames : (st : List machine.Frame) → IsStack st [] → st ≡ []
no_frames [] is = refl
no_frames (f ∷ st) is = staged_none f.stage (place_of f st) (NamesOf f.stage f) f (NeedsOf f.stage f) (IsStack st) is

-- ---- callbacks and answers

pub there_callback : (o : Option Request) (q : machine.Request) → IsCallback o (Some q) → (r : Request) × (o ≡ Some r)
    × IsRequest r q
there_callback None q is = absurd is
there_callback (Some r) q is = (r, refl, is)

pub no_callback : (c : Option machine.Request) → IsCallback None c → c ≡ None
no_callback None is = refl
no_callback (Some q) is = absurd is

pub reply_same : (a : Option machine.Answer) → answered (option_map answer_of a) ≡ has_reply a
reply_same None = refl
reply_same (Some (Reply v)) = refl
reply_same (Some Failed) = refl
reply_same (Some Refused) = refl

no_answer : (a : Option machine.Answer) → None ≡ option_map answer_of a → a ≡ None
no_answer None e = refl
no_answer (Some a) e = not_some (answer_of a) e

no_requests : (qs : List machine.Request) → AreRequests [] qs → qs ≡ []
no_requests [] is = refl
no_requests (q ∷ qs) is = absurd is

no_failure : (o : Option Cause) → false ≡ is_some o → o ≡ None
no_failure None e = refl
no_failure (Some why) e = true_false (sym e)

-- ---- rights

-- who waits for nothing has lent its waiting stack to nobody
based_none : (t : List Grant) → IsBased [] t → holder t ≡ None
based_none [] is = refl
based_none (e ∷ []) is = absurd is
based_none (e ∷ d ∷ t) is = not_some d.holder (sym (based_none (d ∷ t) is))

module _ (t : World) (m : machine.World) (law : IsLawful t) (stands : Stands t m) where
  pub lives_there : (h : ℕ) → (m.handlers h).failure ≡ None → (t.handlers h).failed ≡ false
  lives_there h e = (stands.handlers h).failed ∙ ap is_some e

  pub queue_is : (k : ℕ) → holder (t.queue k) ≡ m.rights.queue k
  queue_is k = ap (λ (r : Rights). r.queue k) stands.rights

  pub top_is : (k : ℕ) → holder (t.top k) ≡ m.rights.top k
  top_is k = ap (λ (r : Rights). r.top k) stands.rights

  pub replies_same : (h : ℕ) → answered (t.handlers h).answer ≡ has_reply (m.handlers h).answer
  replies_same h = ap answered (stands.handlers h).answer ∙ reply_same (m.handlers h).answer

  pub callback_none : (h : ℕ) → (t.handlers h).callback ≡ None → (m.handlers h).callback ≡ None
  callback_none h e = no_callback (m.handlers h).callback
      (subst (λ o. IsCallback o (m.handlers h).callback) e (stands.handlers h).callback)

  idle_no_top : (k : ℕ) → (m.handlers k).failure ≡ None → (m.handlers k).stack ≡ [] → m.rights.top k ≡ None
  idle_no_top k alive empty = sym (top_is k) ∙ based_none (t.top k)
      (subst (λ fs. IsBased fs (t.top k))
      (no_parts (m.handlers k).stack (t.handlers k).stack empty (stands.handlers k).stack)
      (law.consistent.based k (lives_there k alive)))

  is_away : (k : ℕ) → consistent.IsAway (t.handlers k) → IsAway (m.handlers k)
  is_away k a = record {
    supplier = a.for.target;
    awaits = top_awaits (m.handlers k).stack (t.handlers k).stack a.for a.waits (stands.handlers k).stack;
    no_callback = callback_none k a.no_callback;
    no_reply = sym (replies_same k) ∙ a.unanswered;
  }

  called_waits : (k h : ℕ) → m.rights.top k ≡ Some h → k ≢ h → (m.handlers k).failure ≡ None →
      (m.handlers h).failure ≡ None
      → (has_reply (m.handlers h).answer ≡ true) ⊎ (TopAwaits (m.handlers h).stack k → ⊥) → IsAway (m.handlers k)
  called_waits k h has ne lives alive other =
      let first = holder_first h (t.top k) (top_is k ∙ has) in
      ⊎_elim (λ a. is_away k a)
      (λ o. ⊎_elim (λ asks. absurd (not_asks first.0 asks)) (λ f. true_false (sym f ∙ lives_there h alive)) o)
      (law.consistent.tops k h first.0 first.1 (λ e. ne (sym e)) (lives_there k lives))
    where
      not_asks : (i : ℕ) → Asks (t.handlers h) k i t.next → ⊥
      not_asks i a = ⊎_elim
          (λ e. true_false (sym e ∙ sym (replies_same h) ∙ a.unanswered))
          (λ none. none (subst (TopAwaits (m.handlers h).stack) a.target
          (top_awaits (m.handlers h).stack (t.handlers h).stack a.for a.waits (stands.handlers h).stack)))
          other

  callback_meets : (k : ℕ) (r : machine.Request) → (m.handlers k).callback ≡ Some r → (j : ℕ)
      × TopAwaits (m.handlers k).stack j
  callback_meets k r e =
      let c = there_callback (t.handlers k).callback r
      (subst (IsCallback (t.handlers k).callback) e (stands.handlers k).callback) in
      let p = (law.consistent.callbacks k c.0 c.1).1 in
      (p.0.target, top_awaits (m.handlers k).stack (t.handlers k).stack p.0 p.1 (stands.handlers k).stack)

  running_clear : (h : ℕ) → (m.handlers h).failure ≡ None → ((j : ℕ) → TopAwaits (m.handlers h).stack j → ⊥)
      → (has_reply (m.handlers h).answer ≡ false) × ((m.handlers h).callback ≡ None)
  running_clear h alive quiet = by (waits_for (t.handlers h).stack) refl
    where
      by : (o : Option Wait) → waits_for (t.handlers h).stack ≡ o → (has_reply (m.handlers h).answer ≡ false)
          × ((m.handlers h).callback ≡ None)
      by None e = let c = law.consistent.clear h (lives_there h alive, e) in
          (sym (replies_same h) ∙ c.0, callback_none h c.1)
      by (Some v) e = absurd (quiet v.target
          (top_awaits (m.handlers h).stack (t.handlers h).stack v e (stands.handlers h).stack))

  unused : (k : ℕ) → m.count ≤ k → IsUnused m k
  unused k le =
      let n = stands.new k le in
      let x = stands.handlers k in
      record {
        stack_is = no_frames (m.handlers k).stack (subst (IsStack (m.handlers k).stack) n.0.stack x.stack);
        queue_is = no_requests (m.handlers k).queue
            (subst (λ rs. AreRequests rs (m.handlers k).queue) n.0.requests x.requests);
        callback_is = callback_none k n.0.callback;
        answer_is = no_answer (m.handlers k).answer (sym n.0.answer ∙ x.answer);
        failure_is = no_failure (m.handlers k).failure (sym n.0.failed ∙ x.failed);
        queue_right = sym (queue_is k) ∙ ap holder n.1;
        top_right = sym (top_is k) ∙ ap holder n.2;
      }

-- ---- the laws

pub idle_has_no_top : IdleHasNoTop
idle_has_no_top most s root w reached = let r = reached_stands most s root w reached in idle_no_top r.0 w r.1 r.2

pub called_back_waits : CalledBackWaits
called_back_waits most s root w reached = let r = reached_stands most s root w reached in called_waits r.0 w r.1 r.2

pub callbacks_meet_waiters : CallbacksMeetWaiters
callbacks_meet_waiters most s root w reached = let r = reached_stands most s root w reached in
    callback_meets r.0 w r.1 r.2

pub running_is_clear : RunningIsClear
running_is_clear most s root w reached = let r = reached_stands most s root w reached in running_clear r.0 w r.1 r.2

pub beyond_is_unused : BeyondIsUnused
beyond_is_unused most s root w reached = let r = reached_stands most s root w reached in unused r.0 w r.1 r.2
