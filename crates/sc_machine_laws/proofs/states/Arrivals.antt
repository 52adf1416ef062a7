-- A request that its poster waits for comes to its place: the queue's end, or the callback.
use Rattle.std.proofs.Common.{◌≡◌, ◌≢◌, ◌⊎◌, ⊎_elim, inl, inr, ℕ, ◌<◌, Some, Bool, true, false, refl, sym, ap, ◌∙◌, subst, arith}
use Rattle.sc_machine_laws.specs.states.World.{Request, World, arrive, land, requests_of, and_this, and_begun}
use Rattle.sc_machine_laws.specs.states.Consistent.{IsAway, Asks, IsFirst, HasWait, IsOne, HasNumber, AreNumbered, IsConsistent}
use Rattle.sc_machine_laws.proofs.states.Rights.{not_some}
use Rattle.sc_machine_laws.proofs.states.Simple.{Simple, IsPosted, simple_keeps}
use Rattle.sc_machine_laws.proofs.states.PostedRequests.{requests_end, one_end, numbered_end}

pub record Lands (k : ℕ) (r : Request) (u : World) : Type 0 where
  pub lives : (u.handlers k).failed ≡ false
  pub posted : IsPosted u k r
  pub old : r.number < u.next
  pub once : HasNumber r.number (requests_of (u.handlers k)) → ⊥

some_request : (q r : Request) → Some q ≡ Some r → q ≡ r
some_request q r e = cc

pub landing_queue_simple : (k : ℕ) (r : Request) (u : World) → Lands k r u → IsConsistent u → Simple u k
    (arrive false r (u.handlers k)) u.next
landing_queue_simple k r u l fine = (record {
  lives = l.lives;
  lives_on = l.lives;
  later = omega arith;
  fewer = λ x i. i;
  kept = λ j i. inl i;
  told = λ t. t;
  told_back = λ t. (t, λ x i. i);
  stays = λ x o. o;
  was = λ x o. o;
  clear = fine.clear k;
  ordered = fine.ordered k;
  callbacks = fine.callbacks k;
  away = λ a. inl (record {
    for = a.for;
    waits = a.waits;
    passing = a.passing;
    unanswered =
        a.unanswered;
    no_callback = a.no_callback;
  });
  asks = λ j lo hi a. record {
    for = a.for;
    waits = a.waits;
    target = a.target;
    keeps = a.keeps;
    unanswered =
        a.unanswered;
    after = a.after;
    before = a.before;
  };
  spent = λ x at over. (at, over);
  requests = λ q i. ⊎_elim (λ a. inl a) (λ e. inr (inl (subst (IsPosted u k) e l.posted)))
      (one_end q r (requests_of (u.handlers k)) (subst (IsOne q) (requests_end (u.handlers k) r) i));
  numbered = subst (AreNumbered u.next) (sym (requests_end (u.handlers k) r))
      (numbered_end u.next u.next r (requests_of (u.handlers k)) (fine.numbered k) l.once (omega arith) l.old);
})

landing_queue : (k : ℕ) (r : Request) (u : World) → Lands k r u → IsConsistent u → IsConsistent (land false k r u)
landing_queue k r u l fine = simple_keeps u k (arrive false r (u.handlers k)) u.next fine
    (landing_queue_simple k r u l fine)

-- the poster has top (k)
pub record CallsBack (k : ℕ) (r : Request) (u : World) : Type 0 where
  pub away : IsAway (u.handlers k)
  pub older : (m : ℕ) → HasWait m (u.handlers k).stack → m < r.number
  pub all : (x i : ℕ) → IsFirst x i (u.top k) → x ≢ k → Asks (u.handlers x) k i u.next ⊎
      ((u.handlers x).failed ≡ true)

pub landing_callback_simple : (k : ℕ) (r : Request) (u : World) → Lands k r u → CallsBack k r u → IsConsistent u
    → Simple u k (arrive true r (u.handlers k)) u.next
landing_callback_simple k r u l c fine =
    let same : requests_of (u.handlers k) ≡ and_begun (u.handlers k).stack (u.handlers k).requests = ap
    (λ o. and_this o (and_begun (u.handlers k).stack (u.handlers k).requests)) c.away.no_callback in
    (record {
      lives = l.lives;
      lives_on = l.lives;
      later = omega arith;
      fewer = λ x i. i;
      kept = λ j i. inl i;
      told = λ t. t;
      told_back = λ t. (t, λ x i. i);
      stays = λ x o. o;
      was = λ x o. o;
      clear = λ active. not_some c.away.for (sym active.1 ∙ c.away.waits);
      ordered = fine.ordered k;
      callbacks = λ q is.
          let e : r ≡ q = some_request r q is in (
            (λ m has. subst (λ (i : Request). m < i.number) e (c.older m has)),
            (c.away.for, c.away.waits, c.away.passing),
            c.away.unanswered,
          );
      away = λ a. inr c.all;
      asks = λ j lo hi a. record {
        for = a.for;
        waits = a.waits;
        target = a.target;
        keeps = a.keeps;
        unanswered =
            a.unanswered;
        after = a.after;
        before = a.before;
      };
      spent = λ x at over. (at, over);
      requests = λ q i. ⊎_elim (λ e. inr (inl (subst (IsPosted u k) e l.posted)))
          (λ a. inl (subst (IsOne q) (sym same) a)) i;
      numbered = (
        l.old,
        (λ i. l.once (subst (HasNumber r.number) (sym same) i)),
        subst (AreNumbered u.next) same
            (fine.numbered k),
      );
    })

landing_callback : (k : ℕ) (r : Request) (u : World) → Lands k r u → CallsBack k r u → IsConsistent u → IsConsistent
    (land true k r u)
landing_callback k r u l c fine = simple_keeps u k (arrive true r (u.handlers k)) u.next fine
    (landing_callback_simple k r u l c fine)

pub landing_keeps : (b : Bool) (k : ℕ) (r : Request) (u : World) → Lands k r u → (b ≡ true → CallsBack k r u)
    → IsConsistent u → IsConsistent (land b k r u)
landing_keeps true k r u l c fine = landing_callback k r u l (c refl) fine
landing_keeps false k r u l c fine = landing_queue k r u l fine
