-- A handler begins to wait: what the ask does to the poster.
use Rattle.std.proofs.Common.{◌≡◌, ◌≢◌, ◌⊎◌, ⊎_elim, inl, inr, ℕ, suc, ◌<◌, ◌≤◌, List, [], ◌∷◌, Some, None, Bool, true, false, refl, sym, ap, ◌∙◌, subst, arith}
use Rattle.sc_machine_laws.specs.states.World.{passes, Grant, Wait, Request, Frame, Handler, World, put, waiting, wait, requests_of, and_this, and_begun}
use Rattle.sc_machine_laws.specs.states.Steps.{answered, waits_for, IsActive, IsTold, MayAsk}
use Rattle.sc_machine_laws.specs.states.Consistent.{Asks, TopsAreAway, HasWait, StackWaits, IsOpen, HasGrant, Lends, Nobody, IsTrail, IsBased, IsOrdered, HadBefore, Stuck, Told, On, IsStuckFrom, IsOne, AreNumbered, HasClient, HasLost, IsConsistent}
use Rattle.sc_machine_laws.proofs.states.Rights.{not_some, put-same, put-other}
use Rattle.sc_machine_laws.proofs.states.Waits.{true_false, some_wait, waits_has, stack_has, wait_of}
use Rattle.sc_machine_laws.proofs.states.Shrinks.{CallbackAt, at_each, numbered_later}
use Rattle.sc_machine_laws.proofs.states.PostedRequests.{no_request, not_numbered}
use Rattle.sc_machine_laws.proofs.states.AwaitedEnds.{number_of}

abbrev pub new_wait : ℕ → Bool → World → Wait
new_wait k b w = record { number = w.next; target = k; passing = b; asked = w.asks }

abbrev pub began : ℕ → ℕ → Bool → (ℕ → List Grant) → (ℕ → List Grant) → World → World
began h k b q t w = record w {
  handlers = put h
      (wait (record { number = w.next; target = k; passing = b; asked = w.asks }) (w.handlers h)) w.handlers;
  queue = q;
  top = t;
  next =
      suc w.next;
}

shrink_stack : (u x : Wait) (fs : List Frame) → StackWaits x (waiting u fs) → (u ≡ x) ⊎ StackWaits x fs
shrink_stack u x [] i = absurd i
shrink_stack u x (f ∷ fs) (inl i) = inl (some_wait u x i)
shrink_stack u x (f ∷ fs) (inr i) = inr (inr i)

grow_stack : (u x : Wait) (fs : List Frame) → waits_for fs ≡ None → StackWaits x fs → StackWaits x (waiting u fs)
grow_stack u x [] free s = absurd s
grow_stack u x (f ∷ fs) free (inl i) = not_some x (sym free ∙ i)
grow_stack u x (f ∷ fs) free (inr i) = inr i

waiting_requests : (u : Wait) (fs : List Frame) (rs : List Request) → and_begun (waiting u fs) rs ≡ and_begun fs rs
waiting_requests u [] rs = refl
waiting_requests u (f ∷ fs) rs = refl

waiting_ordered : (u : Wait) (n : ℕ) (fs : List Frame) → u.number ≡ n → ((m : ℕ) → HasWait m fs → m < n)
    → IsOrdered fs → IsOrdered (waiting u fs)
waiting_ordered u n [] num old is = tt
waiting_ordered u n (f ∷ fs) num old is = (
  is.0,
  is.1,
  λ x eq m s.
      let same : u ≡ x = some_wait u x eq in
      subst (λ (q : Wait). m < q.number) same (subst (λ i. m < i) (sym num) (old m (inr s))),
)

-- what of the invariant speaks of rights
pub record Moves (w v : World) (h k : ℕ) (b : Bool) : Type 0 where
  pub tops : TopsAreAway v
  pub queue_trails : (j : ℕ) → IsTrail v Nobody (v.queue j)
  pub top_trails : (j : ℕ) → IsTrail v (Lends v j) (v.top j)
  pub based : (j : ℕ) → (v.handlers j).failed ≡ false → IsBased (v.handlers j).stack (v.top j)
  pub queue_new : (j x m : ℕ) → HasGrant x m (v.queue j) → ((x ≡ k) × (m ≡ w.next) × (b ≡ true)) ⊎ HasGrant x m
      (w.queue j)
  pub top_new : (j x m : ℕ) → HasGrant x m (v.top j) → ((x ≡ k) × (m ≡ w.next) × (b ≡ true)) ⊎ HasGrant x m (w.top j)
  pub top_has : (j x m : ℕ) → HasGrant x m (w.top j) → HasGrant x m (v.top j)
  pub had_queue : (p n j : ℕ) → n ≤ w.next → HadBefore p n (w.queue j) → HadBefore p n (v.queue j)
  pub had_top : (p n j : ℕ) → n ≤ w.next → HadBefore p n (w.top j) → HadBefore p n (v.top j)
  pub own_new : b ≡ true → HasGrant k w.next (v.top h)

module _ (h k : ℕ) (b : Bool) (q t : ℕ → List Grant) (w : World) (may : MayAsk h k w) where
  pub began_on : put h (wait (new_wait k b w) (w.handlers h)) w.handlers h ≡ wait (new_wait k b w) (w.handlers h)
  began_on = put-same h (wait (new_wait k b w) (w.handlers h)) w.handlers

  pub began_off : (j : ℕ) → j ≢ h → put h (wait (new_wait k b w) (w.handlers h)) w.handlers j ≡ w.handlers j
  began_off j ne = put-other h (wait (new_wait k b w) (w.handlers h)) w.handlers j ne

  began_moved : (P : Handler → Handler → Type 0) → P (w.handlers h) (wait (new_wait k b w) (w.handlers h))
      → ((f : Handler) → P f f) → (j : ℕ) → P (w.handlers j)
      (put h (wait (new_wait k b w) (w.handlers h)) w.handlers j)
  began_moved P here same j = at_each
      (λ y. P (w.handlers y) (put h (wait (new_wait k b w) (w.handlers h)) w.handlers y)) h j
      (subst (P (w.handlers h)) (sym began_on) here)
      (λ ne. subst (P (w.handlers j)) (sym (began_off j ne)) (same (w.handlers j)))

  pub began_failed : (j : ℕ) → (put h (wait (new_wait k b w) (w.handlers h)) w.handlers j).failed ≡
      (w.handlers j).failed
  began_failed j = began_moved (λ a c. c.failed ≡ a.failed) refl (λ f. refl) j

  began_answer : (j : ℕ) → (put h (wait (new_wait k b w) (w.handlers h)) w.handlers j).answer ≡ (w.handlers j).answer
  began_answer j = began_moved (λ a c. c.answer ≡ a.answer) refl (λ f. refl) j

  began_callback : (j : ℕ) → (put h (wait (new_wait k b w) (w.handlers h)) w.handlers j).callback ≡
      (w.handlers j).callback
  began_callback j = began_moved (λ a c. c.callback ≡ a.callback) refl (λ f. refl) j

  pub began_requests : (j : ℕ) → requests_of (put h (wait (new_wait k b w) (w.handlers h)) w.handlers j) ≡ requests_of
      (w.handlers j)
  began_requests j = began_moved (λ a c. requests_of c ≡ requests_of a)
      (ap (and_this (w.handlers h).callback)
      (waiting_requests (new_wait k b w) (w.handlers h).stack (w.handlers h).requests)) (λ f. refl) j

  pub more_stack : (j : ℕ) (x : Wait) → StackWaits x (w.handlers j).stack → StackWaits x
      (put h (wait (new_wait k b w) (w.handlers h)) w.handlers j).stack
  more_stack j x = began_moved (λ a c. StackWaits x a.stack → StackWaits x c.stack)
      (grow_stack (new_wait k b w) x (w.handlers h).stack may.active.1) (λ f s. s) j

  pub more_has : (j m : ℕ) → HasWait m (w.handlers j).stack → HasWait m
      (put h (wait (new_wait k b w) (w.handlers h)) w.handlers j).stack
  more_has j m has =
      let r = wait_of m (w.handlers j).stack has in
      subst (λ i. HasWait i (put h (wait (new_wait k b w) (w.handlers h)) w.handlers j).stack) r.2
      (stack_has r.0 (put h (wait (new_wait k b w) (w.handlers h)) w.handlers j).stack (more_stack j r.0 r.1))

  less_stack : (j : ℕ) (x : Wait) → StackWaits x (put h (wait (new_wait k b w) (w.handlers h)) w.handlers j).stack
      → ((j ≡ h) × (new_wait k b w ≡ x)) ⊎ StackWaits x (w.handlers j).stack
  less_stack j x = at_each (λ y. StackWaits x (put h (wait (new_wait k b w) (w.handlers h)) w.handlers y).stack
      → ((y ≡ h) × (new_wait k b w ≡ x)) ⊎ StackWaits x (w.handlers y).stack) h j
      (λ s. ⊎_elim (λ e. inl (refl, e)) (λ a. inr a)
      (shrink_stack (new_wait k b w) x (w.handlers h).stack (subst (λ f. StackWaits x f.stack) began_on s)))
      (λ ne s. inr (subst (λ f. StackWaits x f.stack) (began_off j ne) s))

  less_has : (j m : ℕ) → HasWait m (put h (wait (new_wait k b w) (w.handlers h)) w.handlers j).stack
      → ((j ≡ h) × (w.next ≡ m)) ⊎ HasWait m (w.handlers j).stack
  less_has j m has =
      let r = wait_of m (put h (wait (new_wait k b w) (w.handlers h)) w.handlers j).stack has in
      ⊎_elim
      (λ a. inl (a.0, ap (λ (x : Wait). x.number) a.1 ∙ r.2))
      (λ s. inr (subst (λ i. HasWait i (w.handlers j).stack) r.2 (stack_has r.0 (w.handlers j).stack s)))
      (less_stack j r.0 r.1)

  pub at_new : waits_for (put h (wait (new_wait k b w) (w.handlers h)) w.handlers h).stack ≡ Some (new_wait k b w)
  at_new = ap (λ (f : Handler). waits_for f.stack) began_on ∙ ap
      (λ s. waits_for (waiting (new_wait k b w) s)) may.runs.2

  pub has_new : HasWait w.next (put h (wait (new_wait k b w) (w.handlers h)) w.handlers h).stack
  has_new = waits_has (put h (wait (new_wait k b w) (w.handlers h)) w.handlers h).stack (new_wait k b w) at_new

  pub began_asks : IsConsistent w → (x j lo hi : ℕ) → Asks (w.handlers x) j lo hi → Asks
      (put h (wait (new_wait k b w) (w.handlers h)) w.handlers x) j lo hi
  began_asks fine x j lo hi a = subst (λ f. Asks f j lo hi)
      (sym (began_off x (λ xh. not_some a.for
      (sym may.active.1 ∙ ap (λ y. waits_for (w.handlers y).stack) (sym xh) ∙ a.waits)))) a

  more_open : IsConsistent w → (j : ℕ) (x : Wait) → IsOpen x (w.handlers j) → IsOpen x
      (put h (wait (new_wait k b w) (w.handlers h)) w.handlers j)
  more_open fine j x = began_moved (λ a c. IsOpen x a → IsOpen x c)
      (λ o. (grow_stack (new_wait k b w) x (w.handlers h).stack may.active.1 o.0, inl (fine.clear h may.active).0))
      (λ f o. o) j

  pub less_open : IsConsistent w → (j : ℕ) (x : Wait) → IsOpen x
      (put h (wait (new_wait k b w) (w.handlers h)) w.handlers j) → ((j ≡ h) × (new_wait k b w ≡ x)) ⊎ IsOpen x
      (w.handlers j)
  less_open fine j x = at_each (λ y. IsOpen x (put h (wait (new_wait k b w) (w.handlers h)) w.handlers y)
      → ((y ≡ h) × (new_wait k b w ≡ x)) ⊎ IsOpen x (w.handlers y)) h j
      (λ o. ⊎_elim (λ a. inl a) (λ s. inr (s, inl (fine.clear h may.active).0)) (less_stack h x o.0))
      (λ ne o. inr (subst (IsOpen x) (began_off j ne) o))

  pub more_told : (j : ℕ) → IsTold (w.handlers j) → IsTold (put h (wait (new_wait k b w) (w.handlers h)) w.handlers j)
  more_told j is = began_answer j ∙ is

pub more_stuck : (h k : ℕ) (b : Bool) (q t : ℕ → List Grant) (w : World) → MayAsk h k w → IsConsistent w → (j m : ℕ)
    → Stuck w j m → Stuck (began h k b q t w) j m
more_stuck h k b q t w may fine j m (Told is) = Told (more_told h k b q t w may j is)
more_stuck h k b q t w may fine j m (On x o still is has lt s) =
    On x o (more_open h k b q t w may fine j x still) is (more_has h k b q t w may x.target o has) lt
    (more_stuck h k b q t w may fine x.target o s)

new_number : (k : ℕ) (b : Bool) (w : World) (x : Wait) → new_wait k b w ≡ x → w.next ≡ x.number
new_number k b w x e = ap (λ (i : Wait). i.number) e

module _ (h k : ℕ) (b : Bool) (q t : ℕ → List Grant) (w : World) (may : MayAsk h k w) (fine : IsConsistent w)
    (moves : Moves w (began h k b q t w) h k b) where
  began_own : (j : ℕ) (x : Wait) → IsOpen x ((began h k b q t w).handlers j) → x.passing ≡ true
      → HasGrant x.target x.number (t j) ⊎ HasLost (began h k b q t w) j x
  began_own j x o passing = ⊎_elim
      (λ a. inl (subst (λ (i : Wait). HasGrant i.target i.number (t j)) a.1
      (subst (λ y. HasGrant k w.next (t y)) (sym a.0)
      (moves.own_new (ap (λ (i : Wait). i.passing) a.1 ∙ passing)))))
      (λ old. ⊎_elim
      (λ i. inl (moves.top_has j x.target x.number i))
      (λ l. inr (⊎_elim
      (λ told. inl (more_told h k b q t w may j told))
      (λ s. inr (
        more_stuck h k b q t w may fine j x.number s.0,
        λ y m i. ⊎_elim
            (λ a. let e = a.1 in let lt = fine.waits_old j x.number (stack_has x (w.handlers j).stack old.0) in omega
            (arith, e, lt))
            (λ c. s.1 y m c)
            (moves.top_new j y m i),
      ))
      l))
      (fine.own_top j x old passing))
      (less_open h k b q t w may fine j x o)

  began_grants : (r : ℕ → List Grant) (s : ℕ → List Grant)
      → ((j x m : ℕ) → HasGrant x m (s j) → ((x ≡ k) × (m ≡ w.next) × (b ≡ true)) ⊎ HasGrant x m (r j))
      → ((j x m : ℕ) → HasGrant x m (r j) → m < w.next)
      → ((j p x : ℕ) (v : Wait) → StackWaits v (w.handlers p).stack → HasGrant x v.number (r j) → x ≡ v.target)
      → (j p x : ℕ) (v : Wait) → StackWaits v ((began h k b q t w).handlers p).stack → HasGrant x v.number (s j)
      → x ≡ v.target
  began_grants r s new old only j p x v at i = ⊎_elim
      (λ a. ⊎_elim
      (λ c. c.0 ∙ ap (λ (y : Wait). y.target) a.1)
      (λ c. absurd (let lt = old j x v.number c in let e = new_number k b w v a.1 in omega (arith, lt, e)))
      (new j x v.number i))
      (λ stack. ⊎_elim
      (λ c. absurd (let lt = fine.waits_old p v.number (stack_has v (w.handlers p).stack stack) in let e =
      c.1 in omega (arith, lt, e)))
      (λ c. only j p x v stack c)
      (new j x v.number i))
      (less_stack h k b q t w may p v at)

  -- the top_grants of an older number are old
  old_grant : (j x m : ℕ) → m < w.next → (HasGrant x m (q j) → HasGrant x m (w.queue j)) ×
      (HasGrant x m (t j) → HasGrant x m (w.top j))
  old_grant j x m lt = (
    (λ i. ⊎_elim (λ a. absurd (let e = a.1 in omega (arith, lt, e))) (λ c. c) (moves.queue_new j x m i)),
    (λ i. ⊎_elim (λ a. absurd (let e = a.1 in omega (arith, lt, e))) (λ c. c) (moves.top_new j x m i)),
  )

  began_held : HadBefore h w.next (q k) ⊎ HadBefore h w.next (t k) → (p : ℕ) (x : Wait) → StackWaits x
      ((began h k b q t w).handlers p).stack → HadBefore p x.number (q x.target) ⊎
      (HadBefore p x.number (t x.target) ⊎ IsStuckFrom (began h k b q t w) p x.number)
  began_held now p x s = ⊎_elim
      (λ a. subst (λ (i : Wait). HadBefore p i.number (q i.target) ⊎
      (HadBefore p i.number (t i.target) ⊎ IsStuckFrom (began h k b q t w) p i.number)) a.1
      (subst (λ y. HadBefore y w.next (q k) ⊎ (HadBefore y w.next (t k) ⊎ IsStuckFrom (began h k b q t w) y w.next))
      (sym a.0) (⊎_elim (λ i. inl i) (λ i. inr (inl i)) now)))
      (λ old.
      let lt = fine.waits_old p x.number (stack_has x (w.handlers p).stack old) in
      ⊎_elim
      (λ i. inl (moves.had_queue p x.number x.target (omega (arith, lt)) i))
      (λ o. inr (⊎_elim
      (λ i. inl (moves.had_top p x.number x.target (omega (arith, lt)) i))
      (λ c. inr (c.0, c.1, more_has h k b q t w may p c.0 c.2, more_stuck h k b q t w may fine p c.0 c.3))
      o))
      (fine.held p x old))
      (less_stack h k b q t w may p x s)

  request_old : (j : ℕ) (r : Request) → IsOne r (requests_of (w.handlers j)) → w.next ≤ r.number → ⊥
  request_old j r one le = not_numbered w.next r.number (requests_of (w.handlers j)) (fine.numbered j) le
      (number_of r r.number (requests_of (w.handlers j)) refl one)

  began_clients : (j : ℕ) (r : Request) → IsOne r (requests_of ((began h k b q t w).handlers j)) → r.waited ≡ true
      → HasClient (began h k b q t w) j r
  began_clients j r one waited =
      let old = subst (IsOne r) (began_requests h k b q t w may j) one in
      let number : r.number < w.next = below r.number w.next (request_old j r old) in
      ⊎_elim
      (λ a. inl (
        began_failed h k b q t w may r.poster ∙ a.0,
        (λ p i. ⊎_elim (λ c. let e = c.1 in omega (arith, number, e)) (λ c. a.1 p c)
            (less_has h k b q t w may p r.number i)),
        λ i x. (
          (λ c. (a.2 i x).0 ((old_grant i x r.number number).0 c)),
          (λ c. (a.2 i x).1 ((old_grant i x r.number number).1 c)),
        ),
      ))
      (λ (a : (v : Wait) × IsOpen v (w.handlers r.poster) × (v.number ≡ r.number) × (v.target ≡ j) ×
      (v.passing ≡ passes r) × (v.asked ≡ r.asked)). inr (a.0, more_open h k b q t w may fine r.poster a.0 a.1, a.2, a.3, a.4, a.5))
      (fine.clients j r old waited)
    where
      below : (m n : ℕ) → (n ≤ m → ⊥) → m < n
      below m n not = omega (arith, not)

  pub beginning_keeps : HadBefore h w.next (q k) ⊎ HadBefore h w.next (t k) → IsConsistent (began h k b q t w)
  beginning_keeps now = record {
    tops = moves.tops;
    clear = λ j. at_each (λ y. IsActive ((began h k b q t w).handlers y)
        → (answered ((began h k b q t w).handlers y).answer ≡ false) ×
        (((began h k b q t w).handlers y).callback ≡ None)) h j
        (λ a. not_some (new_wait k b w) (sym a.1 ∙ at_new h k b q t w may))
        (λ ne. subst (λ g. IsActive g → (answered g.answer ≡ false) × (g.callback ≡ None))
        (sym (began_off h k b q t w may j ne)) (fine.clear j));
    ordered = λ j. at_each (λ y. IsOrdered ((began h k b q t w).handlers y).stack) h j
        (subst (λ g. IsOrdered g.stack) (sym (began_on h k b q t w may))
        (waiting_ordered (new_wait k b w) w.next (w.handlers h).stack refl (fine.waits_old h) (fine.ordered h)))
        (λ ne. subst (λ g. IsOrdered g.stack) (sym (began_off h k b q t w may j ne)) (fine.ordered j));
    callbacks = λ j. at_each (λ y. CallbackAt ((began h k b q t w).handlers y)) h j
        (subst CallbackAt (sym (began_on h k b q t w may))
        (λ r is. no_request r (sym (fine.clear h may.active).1 ∙ is)))
        (λ ne. subst CallbackAt (sym (began_off h k b q t w may j ne)) (fine.callbacks j));
    queue_trails = moves.queue_trails;
    top_trails = moves.top_trails;
    based = moves.based;
    own_top = began_own;
    queue_grants = began_grants w.queue q moves.queue_new fine.queue_old fine.queue_grants;
    top_grants = began_grants w.top t moves.top_new fine.top_old fine.top_grants;
    held = began_held now;
    one_poster = λ a c n i j. ⊎_elim
        (λ x. ⊎_elim (λ y. x.0 ∙ sym y.0)
        (λ s. absurd (let lt = fine.waits_old c n s in let e = x.1 in omega (arith, lt, e)))
        (less_has h k b q t w may c n j))
        (λ r. ⊎_elim (λ y. absurd (let lt = fine.waits_old a n r in let e = y.1 in omega (arith, lt, e)))
        (λ s. fine.one_poster a c n r s) (less_has h k b q t w may c n j))
        (less_has h k b q t w may a n i);
    waits_old = λ j n i. ⊎_elim (λ x. let e = x.1 in omega (arith, e))
        (λ s. let lt = fine.waits_old j n s in omega (arith, lt)) (less_has h k b q t w may j n i);
    queue_old = λ j x n i. ⊎_elim (λ a. let e = a.1 in omega (arith, e))
        (λ s. let lt = fine.queue_old j x n s in omega (arith, lt)) (moves.queue_new j x n i);
    top_old = λ j x n i. ⊎_elim (λ a. let e = a.1 in omega (arith, e))
        (λ s. let lt = fine.top_old j x n s in omega (arith, lt)) (moves.top_new j x n i);
    spent = λ p x at over j y.
        let ne : p ≢ h = λ ph. true_false
        (sym over ∙ ap (λ i. answered ((began h k b q t w).handlers i).answer) ph ∙ ap answered
        (began_answer h k b q t w may h) ∙ (fine.clear h may.active).0) in
        let same = began_off h k b q t w may p ne in
        let was = ap (λ (g : Handler). waits_for g.stack) (sym same) ∙ at in
        let s = fine.spent p x was (ap (λ (g : Handler). answered g.answer) (sym same) ∙ over) j y in
        let old = old_grant j y x.number (fine.waits_old p x.number (waits_has (w.handlers p).stack x was)) in
        ((λ i. s.0 (old.0 i)), (λ i. s.1 (old.1 i)));
    plain = λ p x s np j y. ⊎_elim
        (λ a.
        let e = new_number k b w x a.1 in
        let not : b ≡ false = ap (λ (i : Wait). i.passing) a.1 ∙ np in (
          (λ i. ⊎_elim (λ c. true_false (sym c.2 ∙ not))
              (λ c. let lt = fine.queue_old j y x.number c in omega (arith, lt, e)) (moves.queue_new j y x.number i)),
          (λ i. ⊎_elim (λ c. true_false (sym c.2 ∙ not))
              (λ c. let lt = fine.top_old j y x.number c in omega (arith, lt, e)) (moves.top_new j y x.number i)),
        ))
        (λ old.
        let a = fine.plain p x old np j y in
        let o = old_grant j y x.number (fine.waits_old p x.number (stack_has x (w.handlers p).stack old)) in
        ((λ i. a.0 (o.0 i)), (λ i. a.1 (o.1 i))))
        (less_stack h k b q t w may p x s);
    dead = λ j x o f. ⊎_elim
        (λ a. true_false (sym f ∙ began_failed h k b q t w may x.target ∙ ap
        (λ (i : Wait). (w.handlers i.target).failed) (sym a.1) ∙ may.lives))
        (λ old. more_told h k b q t w may j (fine.dead j x old (sym (began_failed h k b q t w may x.target) ∙ f)))
        (less_open h k b q t w may fine j x o);
    failures = λ j. at_each (λ y. ((began h k b q t w).handlers y).failed ≡ true
        → ((began h k b q t w).handlers y).stack ≡ []) h j
        (λ f. true_false (sym f ∙ began_failed h k b q t w may h ∙ may.active.0))
        (λ ne. subst (λ g. g.failed ≡ true → g.stack ≡ []) (sym (began_off h k b q t w may j ne)) (fine.failures j));
    why_told = λ j is.
        let r = fine.why_told j (sym (began_answer h k b q t w may j) ∙ is) in
        (r.0, more_stack h k b q t w may j r.0 r.1, began_failed h k b q t w may r.0.target ∙ r.2);
    clients = began_clients;
    numbered = λ j. subst (AreNumbered (suc w.next)) (sym (began_requests h k b q t w may j))
        (numbered_later w.next (suc w.next) (requests_of (w.handlers j)) (omega arith) (fine.numbered j));
  }
