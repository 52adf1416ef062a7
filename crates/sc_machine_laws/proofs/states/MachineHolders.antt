-- What a routine of the machine has reserved is held while it runs, and who waits for a failed one is told.
use Rattle.std.proofs.Common.{◌≡◌, ⊎_elim, inl, inr, ℕ, suc, List, [], ◌∷◌, Option, Some, None, true, false, refl, sym, ap, ◌∙◌, subst}
use Rattle.std.specs.Prelude.{Contains, is_some}
use Rattle.std.specs.Option.{option_map}
use Rattle.sc_model.specs.Handlers as machine
use Rattle.sc_model.specs.Handlers.{Runs, Reserves, ReservesBlock, InCall, Awaits, Reply, Failed, Refused}
use Rattle.sc_machine_laws.specs.states.World.{Wait, Request, Reservation, Frame, Answer, SupplierFailed, World, holder}
use Rattle.sc_machine_laws.specs.states.Steps.{waits_for, answered, IsActive}
use Rattle.sc_machine_laws.specs.states.Consistent.{StackWaits, IsOpen}
use Rattle.sc_machine_laws.specs.states.Lawful.{IsLawful}
use Rattle.sc_machine_laws.specs.states.Laws.{RunsIn, EachGranted}
use Rattle.sc_machine_laws.specs.states.Stands.{NeedsOf, NamesOf, IsPoster, IsRequest, IsCallback, answer_of, handlers_of, IsOrigin, IsRoutine, AreBlocks, Place, place_of, IsStaged, IsStack, Stands}
use Rattle.sc_machine_laws.specs.states.Headline.{is_awaiting, ReservedAreHeld, has_reply, topmost, lower, WaitersAreTold, OnlyWaitersAreTold, CallbacksComeFirst, RepliesMeetNone}
use Rattle.sc_machine_laws.proofs.states.Waits.{true_false, popped_stack}
use Rattle.sc_machine_laws.proofs.states.LawProofs.{reserved_while_it_runs, told, one_answer, callback_first}
use Rattle.sc_machine_laws.proofs.states.MachineFrames.{contains_cases, contains_first, contains_later, contains_none, none_some, none_waits, staged_awaits, staged_parted}
use Rattle.sc_machine_laws.proofs.states.MachineChains.{lives_there, queue_is, the_callback, waits_for_it, waits_there}

-- ---- held while it runs

staged_quiet : (stage : machine.Stage) (at : Place) (B : List Frame → Type 0) (gs : List Frame) → is_awaiting stage ≡ false
    → IsStaged stage at B gs → (waits_for gs ≡ None) × B gs
staged_quiet Runs at B gs e is = is
staged_quiet Reserves at B gs e is = is
staged_quiet ReservesBlock at B gs e is = is
staged_quiet (InCall gives) at B gs e is = is
staged_quiet (Awaits k gives c) at B gs e is = true_false e

-- a frame that has reserved these
record Runs_with (ks : List ℕ) (gs : List Frame) : Type 0 where
  frame : Frame
  runs : RunsIn frame gs
  reserved : handlers_of frame.reserved ≡ ks

blocks_run : (C : ℕ → List ℕ → Type 0) (kss : List (List ℕ)) (f : machine.Frame) (N : List ℕ → Type 0) (B : List Frame → Type 0) (gs : List Frame)
    (ks : List ℕ)
    → AreBlocks C kss (IsRoutine f N B) gs → Contains (f.reserved ∷ kss) ks → Runs_with ks gs
blocks_run C [] f N B [] ks is i = absurd is
blocks_run C [] f N B (g ∷ gs) ks is i = ⊎_elim
    (λ e. record { frame = g; runs = inl refl; reserved = is.1 ∙ e })
    (λ none. contains_none ks none)
    (contains_cases f.reserved [] ks i)
blocks_run C (js ∷ kss) f N B [] ks is i = absurd is
blocks_run C (js ∷ kss) f N B (g ∷ gs) ks is i = ⊎_elim
    (λ e. under (blocks_run (λ i. C (suc i)) kss f N B gs ks is.3
    (subst (λ x. Contains (f.reserved ∷ kss) x) e (contains_first f.reserved kss))))
    (λ o. ⊎_elim
    (λ e. record { frame = g; runs = inl refl; reserved = is.1 ∙ e })
    (λ later. under (blocks_run (λ i. C (suc i)) kss f N B gs ks is.3 (contains_later f.reserved kss ks later)))
    (contains_cases js kss ks o))
    (contains_cases f.reserved (js ∷ kss) ks i)
  where
    under : Runs_with ks gs → Runs_with ks (g ∷ gs)
    under r = record { frame = r.frame; runs = inr (is.0, r.runs); reserved = r.reserved }

granted_each : (t : World) (h k : ℕ) (rs : List Reservation) → EachGranted t h rs → Contains (handlers_of rs) k
    → holder (t.queue k) ≡ Some h
granted_each t h k [] is i = contains_none k i
granted_each t h k (r ∷ rs) is i = ⊎_elim
    (λ e. ap (λ j. holder (t.queue j)) (sym e) ∙ is.0)
    (λ later. granted_each t h k rs is.1 later)
    (contains_cases r.handler (handlers_of rs) k i)

-- ---- told, and one answer

reply_same : (a : Option machine.Answer) → answered (option_map answer_of a) ≡ has_reply a
reply_same None = refl
reply_same (Some (Reply v)) = refl
reply_same (Some Failed) = refl
reply_same (Some Refused) = refl

told_same : (a : Option machine.Answer) → option_map answer_of a ≡ Some SupplierFailed → a ≡ Some Failed
told_same None e = none_some SupplierFailed e
told_same (Some (Reply v)) e = by e
  where
    by : {A : Type 0} → Some Answer.Reply ≡ Some SupplierFailed → A
    by e = cc
told_same (Some Failed) e = refl
told_same (Some Refused) e = by e
  where
    by : {A : Type 0} → Some Answer.Refused ≡ Some SupplierFailed → A
    by e = cc

some_origin : (o : Option Request) (q : machine.Request) → IsOrigin o (machine.Requested q) → (r : Request) ×
    (o ≡ Some r) × IsRequest r q
some_origin None q is = absurd is
some_origin (Some r) q is = (r, refl, is)

module _ (t : World) (m : machine.World) (law : IsLawful t) (stands : Stands t m) where
  -- its topmost frame doesn't wait
  runs_on : (h : ℕ) (f : machine.Frame) (below : List machine.Frame) → (m.handlers h).failure ≡ None
      → (m.handlers h).stack ≡ f ∷ below → is_awaiting f.stage ≡ false
      → IsActive (t.handlers h) × AreBlocks (NamesOf f.stage f) f.blocks (IsRoutine f (NeedsOf f.stage f) (IsStack below)) (t.handlers h).stack
  runs_on h f below lives at quiet =
      let q = staged_quiet f.stage (place_of f below) (AreBlocks (NamesOf f.stage f) f.blocks (IsRoutine f (NeedsOf f.stage f) (IsStack below))) (t.handlers h).stack
      quiet
      (subst (λ st. IsStack st (t.handlers h).stack) at (stands.handlers h).stack) in
      ((lives_there t m law stands h lives, q.0), q.1)

  pub machine_reserved_are_held : ReservedAreHeld m
  machine_reserved_are_held h k f below ks lives at quiet i j =
      let a = runs_on h f below lives at quiet in
      let r = blocks_run (NamesOf f.stage f) f.blocks f (NeedsOf f.stage f) (IsStack below) (t.handlers h).stack ks a.1 i in
      sym (queue_is t m law stands k) ∙ granted_each t h k r.frame.reserved
      (reserved_while_it_runs t law h r.frame a.0 r.runs) (subst (λ x. Contains x k) (sym r.reserved) j)

  no_reply : (p : ℕ) → has_reply (m.handlers p).answer ≡ false → answered (t.handlers p).answer ≡ false
  no_reply p e = ap answered (stands.handlers p).answer ∙ reply_same (m.handlers p).answer ∙ e

  no_reply_there : (p : ℕ) → answered (t.handlers p).answer ≡ false → has_reply (m.handlers p).answer ≡ false
  no_reply_there p e = sym (reply_same (m.handlers p).answer) ∙ ap answered (sym (stands.handlers p).answer) ∙ e

  failed_there : (k : ℕ) → is_some (m.handlers k).failure ≡ true → (t.handlers k).failed ≡ true
  failed_there k e = (stands.handlers k).failed ∙ e

  is_told : (p k : ℕ) (v : Wait) → IsOpen v (t.handlers p) → v.target ≡ k → is_some (m.handlers k).failure ≡ true
      → (m.handlers p).answer ≡ Some Failed
  is_told p k v still to dead =
      told_same (m.handlers p).answer
      (sym (stands.handlers p).answer ∙ (told t law p).0 v still
      (ap (λ j. (t.handlers j).failed) to ∙ failed_there k dead))

  pub machine_waiters_are_told : WaitersAreTold m
  machine_waiters_are_told p k (topmost {f} {below} {gives} {is_creation} at stage none) dead =
      let a = staged_awaits k gives is_creation f.stage (place_of f below) (AreBlocks (NamesOf f.stage f) f.blocks (IsRoutine f (NeedsOf f.stage f) (IsStack below)))
      (t.handlers p).stack stage (subst (λ st. IsStack st (t.handlers p).stack) at (stands.handlers p).stack) in
      is_told p k a.wait (first (t.handlers p).stack a.wait a.waits, inl (no_reply p none)) a.target dead
    where
      first : (gs : List Frame) (v : Wait) → waits_for gs ≡ Some v → StackWaits v gs
      first [] v e = absurd (none_waits v [] refl e)
      first (g ∷ gs) v e = inl e
  machine_waiters_are_told p k (lower {f} {g} {below} {gives} {is_creation} at i stage) dead =
      let q = staged_parted (NamesOf g.stage g) g.stage (place_of g below) g (NeedsOf g.stage g) (IsStack below) (t.handlers p).stack
      (subst (λ st. IsStack st (t.handlers p).stack) at (stands.handlers p).stack) in
      let r = waits_there k below q.rest f q.below i
      (record { gives = gives; is_creation = is_creation; stage = stage }) in
      let low = q.more r.0 r.1 in
      is_told p k r.0 (popped_stack r.0 (t.handlers p).stack low, inr low) r.2 dead

  pub machine_only_waiters_are_told : OnlyWaitersAreTold m
  machine_only_waiters_are_told p e =
      let r = (told t law p).1 ((stands.handlers p).answer ∙ ap (option_map answer_of) e) in (
        r.0.target,
        waits_for_it t m law stands p r.0.target (r.0, r.1, refl),
        sym (stands.handlers r.0.target).failed
            ∙ r.2,
      )

  pub machine_callbacks_come_first : CallbacksComeFirst m
  machine_callbacks_come_first k r e =
      let d = the_callback (t.handlers k).callback r
      (subst (IsCallback (t.handlers k).callback) e (stands.handlers k).callback) in
      no_reply_there k (callback_first t law k d.0 d.1)

  pub machine_replies_meet_none : RepliesMeetNone m
  machine_replies_meet_none h p f below r lives at quiet none begun waited by_p alive =
      let a = runs_on h f below lives at quiet in
      meets (t.handlers h).stack refl a.0
      (subst (λ kss. AreBlocks (NamesOf f.stage f) kss (IsRoutine f (NeedsOf f.stage f) (IsStack below)) (t.handlers h).stack) none a.1)
    where
      meets : (gs : List Frame) → (t.handlers h).stack ≡ gs → IsActive (t.handlers h) → IsRoutine f (NeedsOf f.stage f) (IsStack below) gs
          → has_reply (m.handlers p).answer ≡ false
      meets [] e active is = absurd is
      meets (g ∷ gs) e active is =
          let o = some_origin g.origin r (subst (IsOrigin g.origin) begun is.0) in
          let mine : o.0.poster ≡ p = subst (IsPoster o.0) by_p o.2.poster in
          let one = one_answer t law h o.0
          (record {
            active = active;
            frame = g;
            below = gs;
            stack = e;
            begun = o.1;
            waited = o.2.waited
                ∙ waited;
          })
          (ap (λ y. (t.handlers y).failed) mine ∙ lives_there t m law stands p alive) in
          no_reply_there p (ap (λ y. answered (t.handlers y).answer) (sym mine) ∙ ⊎_elim (λ x. ap answered x)
          (λ x. ap answered x) one)
