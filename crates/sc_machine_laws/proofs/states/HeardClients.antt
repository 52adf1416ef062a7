-- Who waits for a request that ends, and what is left where it is answered.
use Rattle.std.proofs.Common.{◌≡◌, ◌≢◌, ◌⊎◌, ⊎_elim, inl, inr, ℕ, List, [], ◌∷◌, Some, None, true, false, sym, ap, ◌∙◌, subst, arith}
use Rattle.sc_machine_laws.specs.states.World.{Grant, Wait, Request, Frame, Answer, SupplierFailed, Handler, World, popped, put, requests_of, passes}
use Rattle.sc_machine_laws.specs.states.Steps.{answered, waits_for, IsTold}
use Rattle.sc_machine_laws.specs.states.Consistent.{TopsAreAway, HasWait, StackWaits, IsOpen, HasGrant, Lends, Nobody, IsTrail, IsBased, IsOrdered, HadBefore, IsOne, AreNumbered, IsConsistent}
use Rattle.sc_machine_laws.proofs.states.Forms.{given_answer}
use Rattle.sc_machine_laws.proofs.states.Rights.{not_some, put-same, put-other}
use Rattle.sc_machine_laws.proofs.states.Waits.{true_false, some_wait}
use Rattle.sc_machine_laws.proofs.states.Shrinks.{CallbackAt, Shrinks, at_each, shrinking_keeps}
use Rattle.sc_machine_laws.proofs.states.PostedRequests.{no_request}
use Rattle.sc_machine_laws.proofs.states.AwaitedEnds.{Ended, number_of}

-- the poster waits for it
pub record Client (h : ℕ) (r : Request) (u : World) : Type 0 where
  pub wait : Wait
  pub still : IsOpen wait (u.handlers r.poster)
  pub number : wait.number ≡ r.number
  pub target : wait.target ≡ h
  pub passing : wait.passing ≡ passes r

pub the_client : (h : ℕ) (r : Request) (u : World) → Ended h r u → (u.handlers r.poster).failed ≡ false → Client h r u
the_client h r u e alive = ⊎_elim
    (λ a. true_false (sym a.0 ∙ alive))
    (λ (a : (v : Wait) × IsOpen v (u.handlers r.poster) × (v.number ≡ r.number) × (v.target ≡ h) ×
    (v.passing ≡ passes r) × (v.asked ≡ r.asked)). record { wait = a.0; still = a.1; number = a.2; target = a.3; passing = a.4 })
    e.client

-- .. with its top frame, and has no answer yet
pub record Heard (h : ℕ) (r : Request) (u : World) : Type 0 where
  pub lives : (u.handlers r.poster).failed ≡ false
  pub none : (u.handlers r.poster).answer ≡ None
  pub no_callback : (u.handlers r.poster).callback ≡ None
  pub wait : Wait
  pub waits : waits_for (u.handlers r.poster).stack ≡ Some wait
  pub number : wait.number ≡ r.number
  pub target : wait.target ≡ h

pub top_or_below : (v : Wait) (fs : List Frame) → StackWaits v fs → (waits_for fs ≡ Some v) ⊎ StackWaits v (popped fs)
top_or_below v [] s = absurd s
top_or_below v (f ∷ fs) (inl e) = inl e
top_or_below v (f ∷ fs) (inr s) = inr s

pub some_answer : {A : Type 0} (a : Answer) → None ≡ Some a → A
some_answer a e = cc

-- what of the invariant speaks of rights
pub record Rest (u v : World) : Type 0 where
  pub tops : TopsAreAway v
  pub queue_trails : (k : ℕ) → IsTrail v Nobody (v.queue k)
  pub top_trails : (k : ℕ) → IsTrail v (Lends v k) (v.top k)
  pub based : (k : ℕ) → (v.handlers k).failed ≡ false → IsBased (v.handlers k).stack (v.top k)
  pub queue_less : (k x m : ℕ) → HasGrant x m (v.queue k) → HasGrant x m (u.queue k)
  pub top_less : (k x m : ℕ) → HasGrant x m (v.top k) → HasGrant x m (u.top k)
  pub own : (k : ℕ) (x : Wait) → IsOpen x (v.handlers k) → x.passing ≡ true → HasGrant x.target x.number (u.top k)
      → HasGrant x.target x.number (v.top k) ⊎ IsTold (v.handlers k)
  pub had_queue : (q : ℕ) (x : Wait) → StackWaits x (v.handlers q).stack → HadBefore q x.number (u.queue x.target)
      → HadBefore q x.number (v.queue x.target)
  pub had_top : (q : ℕ) (x : Wait) → StackWaits x (v.handlers q).stack → HadBefore q x.number (u.top x.target)
      → HadBefore q x.number (v.top x.target)
  pub spent : (q : ℕ) (x : Wait) → waits_for (v.handlers q).stack ≡ Some x → answered (v.handlers q).answer ≡ true
      → (k y : ℕ) → (HasGrant y x.number (v.queue k) → ⊥) × (HasGrant y x.number (v.top k) → ⊥)

abbrev pub heard_by : Answer → Request → World → (ℕ → List Grant) → (ℕ → List Grant) → World
heard_by a r u q t = record u {
  handlers = put r.poster (given_answer a (u.handlers r.poster)) u.handlers;
  queue =
      q;
  top = t;
}

pub hearing_shrinks : (a : Answer) (h : ℕ) (r : Request) (u : World) (q t : ℕ → List Grant) → answered (Some a) ≡ true
    → IsConsistent u → Ended h r u → Heard h r u → Rest u (heard_by a r u q t) → Shrinks u
    (heard_by a r u q t) r.poster
hearing_shrinks a h r u q t reply fine e b rest =
    let p = r.poster in
    let g = u.handlers r.poster in
    let on : put p (given_answer a g) u.handlers p ≡ given_answer a g = put-same p (given_answer a g) u.handlers in
    let is_wait : (x : Wait) → waits_for g.stack ≡ Some x → b.wait ≡ x = λ x at. some_wait b.wait x
    (sym b.waits ∙ at) in
    let low_open : (x : Wait) → StackWaits x g.stack → (b.wait ≡ x → ⊥) → IsOpen x (given_answer a g) = λ x s not.
    (s, inr (⊎_elim (λ at. absurd (not (is_wait x at))) (λ low. low) (top_or_below x g.stack s))) in
    (record {
      lives = b.lives;
      lives_on = ap (λ (f : Handler). f.failed) on ∙ b.lives;
      other = λ k ne. put-other p (given_answer a g) u.handlers k ne;
      later = omega arith;
      fewer = λ x s. subst (λ f. StackWaits x f.stack) on s;
      stuck_kept = λ j has st. subst (λ f. HasWait j f.stack) (sym on) has;
      told = λ is. some_answer SupplierFailed (sym b.none ∙ is);
      told_back = λ is. true_false (sym reply ∙ ap answered (subst IsTold on is));
      stays = λ x j o has lt. subst (IsOpen x) (sym on) (low_open x o.0 (λ same.
          let to : h ≡ x.target = sym b.target ∙ ap (λ (i : Wait). i.target) same in
          let old = e.older j (subst (λ y. HasWait j (u.handlers y).stack) (sym to) has) in
          let n : r.number ≡ x.number = sym b.number ∙ ap (λ (i : Wait). i.number) same in
          absurd (omega (arith, old, n, lt))));
      was = λ x o. (subst (λ f. StackWaits x f.stack) on o.0, inl (ap answered b.none));
      clear = λ active. not_some b.wait (sym (ap (λ (f : Handler). waits_for f.stack) (sym on) ∙ active.1) ∙ b.waits);
      ordered = subst (λ f. IsOrdered f.stack) (sym on) (fine.ordered p);
      callbacks = subst CallbackAt (sym on) (λ i is. no_request i (sym b.no_callback ∙ is));
      tops = rest.tops;
      queue_trails = rest.queue_trails;
      top_trails = rest.top_trails;
      based = rest.based;
      queue_less = rest.queue_less;
      top_less = rest.top_less;
      own = rest.own;
      had_queue = rest.had_queue;
      had_top = rest.had_top;
      spent = rest.spent;
      requests = λ i one waited. inl (subst (λ f. IsOne i (requests_of f)) on one);
      client = λ k i x one o num to. subst (IsOpen x) (sym on) (low_open x o.0 (λ same.
          let kh : k ≡ h = sym to ∙ ap (λ (y : Wait). y.target) (sym same) ∙ b.target in
          let n : i.number ≡ r.number = sym num ∙ ap (λ (y : Wait). y.number) (sym same) ∙ b.number in
          e.once (number_of i r.number (requests_of (u.handlers h)) n
          (subst (λ f. IsOne i (requests_of f)) (put-other p (given_answer a g) u.handlers h (λ hp. e.other (sym hp)))
          (subst (λ y. IsOne i (requests_of (put p (given_answer a g) u.handlers y))) kh one)))));
      numbered = subst (λ f. AreNumbered u.next (requests_of f)) (sym on) (fine.numbered p);
    })

pub hearing_keeps : (a : Answer) (h : ℕ) (r : Request) (u : World) (q t : ℕ → List Grant) → answered (Some a) ≡ true
    → IsConsistent u → Ended h r u → Heard h r u → Rest u (heard_by a r u q t) → IsConsistent (heard_by a r u q t)
hearing_keeps a h r u q t reply fine e b rest = shrinking_keeps u (heard_by a r u q t) r.poster
    (hearing_shrinks a h r u q t reply fine e b rest) fine

module _ (a : Answer) (h : ℕ) (r : Request) (u : World) (b : Heard h r u) where
  pub same_stack : (k : ℕ) → (put r.poster (given_answer a (u.handlers r.poster)) u.handlers k).stack ≡
      (u.handlers k).stack
  same_stack k = at_each (λ y. (put r.poster (given_answer a (u.handlers r.poster)) u.handlers y).stack ≡
      (u.handlers y).stack) r.poster k
      (ap (λ (f : Handler). f.stack) (put-same r.poster (given_answer a (u.handlers r.poster)) u.handlers))
      (λ ne. ap (λ (f : Handler). f.stack)
      (put-other r.poster (given_answer a (u.handlers r.poster)) u.handlers k ne))

  pub same_failed : (k : ℕ) → (put r.poster (given_answer a (u.handlers r.poster)) u.handlers k).failed ≡
      (u.handlers k).failed
  same_failed k = at_each (λ y. (put r.poster (given_answer a (u.handlers r.poster)) u.handlers y).failed ≡
      (u.handlers y).failed) r.poster k
      (ap (λ (f : Handler). f.failed) (put-same r.poster (given_answer a (u.handlers r.poster)) u.handlers))
      (λ ne. ap (λ (f : Handler). f.failed)
      (put-other r.poster (given_answer a (u.handlers r.poster)) u.handlers k ne))

  pub off : (k : ℕ) → k ≢ r.poster → u.handlers k ≡ put r.poster (given_answer a (u.handlers r.poster)) u.handlers k
  off k ne = sym (put-other r.poster (given_answer a (u.handlers r.poster)) u.handlers k ne)

  -- who was answered before
  pub spent_before : (q : ℕ) (x : Wait) → q ≢ r.poster → IsConsistent u → waits_for
      (put r.poster (given_answer a (u.handlers r.poster)) u.handlers q).stack ≡ Some x → answered
      (put r.poster (given_answer a (u.handlers r.poster)) u.handlers q).answer ≡ true → (k y : ℕ)
      → (HasGrant y x.number (u.queue k) → ⊥) × (HasGrant y x.number (u.top k) → ⊥)
  spent_before q x ne fine at over = fine.spent q x (ap (λ (f : Handler). waits_for f.stack) (off q ne) ∙ at)
      (ap (λ (f : Handler). answered f.answer) (off q ne) ∙ over)

  pub its_wait : (x : Wait) → waits_for (put r.poster (given_answer a (u.handlers r.poster)) u.handlers r.poster).stack ≡
      Some x → b.wait ≡ x
  its_wait x at = some_wait b.wait x (sym b.waits ∙ ap waits_for (sym (same_stack r.poster)) ∙ at)
