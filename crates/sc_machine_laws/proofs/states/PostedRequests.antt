-- A post changes no right, and keeps all.
use Rattle.std.proofs.Common.{◌≡◌, ◌⊎◌, ⊎_elim, inl, inr, ℕ, suc, ◌<◌, ◌≤◌, List, [], ◌∷◌, ◌++◌, Option, Some, None, false, refl, sym, ap, ◌∙◌, subst, arith}
use Rattle.sc_machine_laws.specs.states.World.{Request, Frame, Handler, World, post, requests_of, and_this, and_begun}
use Rattle.sc_machine_laws.specs.states.Steps.{IsActive}
use Rattle.sc_machine_laws.specs.states.Consistent.{IsAway, Asks, IsOne, HasNumber, AreNumbered, IsConsistent}
use Rattle.sc_machine_laws.proofs.states.Rights.{not_some}
use Rattle.sc_machine_laws.proofs.states.Simple.{Simple, simple_keeps}

pub no_request : {A : Type 0} (r : Request) → None ≡ Some r → A
no_request r e = cc

pub idle_asks : {A : Type 0} (g : Handler) (k lo hi : ℕ) → IsActive g → Asks g k lo hi → A
idle_asks g k lo hi active a = not_some a.for (sym active.1 ∙ a.waits)

pub idle_away : {A : Type 0} (g : Handler) → IsActive g → IsAway g → A
idle_away g active a = not_some a.for (sym active.1 ∙ a.waits)

-- one more request at the end
and_this_end : (o : Option Request) (rs : List Request) (r : Request) → and_this o
    (rs ++ r ∷ []) ≡ and_this o rs ++ r ∷ []
and_this_end None rs r = refl
and_this_end (Some q) rs r = refl

and_asked_end : (fs : List Frame) (rs : List Request) (r : Request) → and_begun fs
    (rs ++ r ∷ []) ≡ and_begun fs rs ++ r ∷ []
and_asked_end [] rs r = refl
and_asked_end (f ∷ fs) rs r = ap (and_this f.origin) (and_asked_end fs rs r) ∙ and_this_end f.origin
    (and_begun fs rs) r

pub requests_end : (g : Handler) (r : Request) → requests_of
    (record g { requests = g.requests ++ r ∷ [] }) ≡ requests_of g ++ r ∷ []
requests_end g r = ap (and_this g.callback) (and_asked_end g.stack g.requests r) ∙ and_this_end g.callback
    (and_begun g.stack g.requests) r

pub one_end : (q r : Request) (rs : List Request) → IsOne q (rs ++ r ∷ []) → IsOne q rs ⊎ (r ≡ q)
one_end q r [] (inl e) = inr e
one_end q r [] (inr i) = absurd i
one_end q r (x ∷ rs) (inl e) = inl (inl e)
one_end q r (x ∷ rs) (inr i) = ⊎_elim (λ a. inl (inr a)) (λ e. inr e) (one_end q r rs i)

number_end : (m : ℕ) (r : Request) (rs : List Request) → HasNumber m (rs ++ r ∷ []) → HasNumber m rs ⊎ (r.number ≡ m)
number_end m r [] (inl e) = inr e
number_end m r [] (inr i) = absurd i
number_end m r (x ∷ rs) (inl e) = inl (inl e)
number_end m r (x ∷ rs) (inr i) = ⊎_elim (λ a. inl (inr a)) (λ e. inr e) (number_end m r rs i)

-- no request has a number that is not below n
pub not_numbered : (n m : ℕ) (rs : List Request) → AreNumbered n rs → n ≤ m → HasNumber m rs → ⊥
not_numbered n m [] is le i = i
not_numbered n m (r ∷ rs) is le (inl e) = absurd (let lt = is.0 in omega (arith, lt, le, e))
not_numbered n m (r ∷ rs) is le (inr i) = not_numbered n m rs is.2 le i

pub numbered_end : (n m : ℕ) (r : Request) (rs : List Request) → AreNumbered n rs → (HasNumber r.number rs → ⊥)
    → n ≤ m → r.number < m → AreNumbered m (rs ++ r ∷ [])
numbered_end n m r [] is new le lt = (lt, (λ i. i), tt)
numbered_end n m r (q ∷ rs) is new le lt = (
  let b = is.0 in omega (arith, b, le),
  (λ i. ⊎_elim (λ a. is.1 a) (λ e. new (inl (sym e))) (number_end q.number r rs i)),
  numbered_end n m r rs is.2 (λ i. new (inr i)) le lt,
)

pub posting_simple : (h k : ℕ) (w : World) → (w.handlers k).failed ≡ false → IsConsistent w → Simple w k
    (record (w.handlers k) {
      requests =
          (w.handlers k).requests ++ record { number = w.next; poster = h; waited = false; passed = None; asked = w.asks } ∷ [];
    })
    (suc w.next)
posting_simple h k w alive fine =
    let r : Request = record { number = w.next; poster = h; waited = false; passed = None; asked = w.asks } in
    let g : Handler = record (w.handlers k) { requests = (w.handlers k).requests ++ r ∷ [] } in
    (record {
      lives = alive;
      lives_on = alive;
      later = omega arith;
      fewer = λ u i. i;
      kept = λ j i. inl i;
      told = λ t. t;
      told_back = λ t. (t, λ u i. i);
      stays = λ u o. o;
      was = λ u o. o;
      clear = fine.clear k;
      ordered = fine.ordered k;
      callbacks = fine.callbacks k;
      away = λ a. inl (record {
        for = a.for;
        waits = a.waits;
        passing = a.passing;
        unanswered =
            a.unanswered;
        no_callback = a.no_callback;
      });
      asks = λ j lo hi a. record {
        for = a.for;
        waits = a.waits;
        target = a.target;
        keeps = a.keeps;
        unanswered =
            a.unanswered;
        after = a.after;
        before = a.before;
      };
      spent = λ u at over. (at, over);
      requests = λ q i. ⊎_elim (λ a. inl a)
          (λ e. inr (inr (ap (λ (x : Request). x.waited) (sym e), ap (λ (x : Request). x.passed) (sym e))))
          (one_end q r (requests_of (w.handlers k)) (subst (IsOne q) (requests_end (w.handlers k) r) i));
      numbered = subst (AreNumbered (suc w.next)) (sym (requests_end (w.handlers k) r))
          (numbered_end w.next (suc w.next) r (requests_of (w.handlers k)) (fine.numbered k)
          (λ i. not_numbered w.next w.next (requests_of (w.handlers k)) (fine.numbered k) (omega arith) i)
          (omega arith) (omega arith));
    })

pub posting_keeps : (h k : ℕ) (w : World) → (w.handlers k).failed ≡ false → IsConsistent w → IsConsistent (post h k w)
posting_keeps h k w alive fine = simple_keeps w k
    (record (w.handlers k) {
      requests =
          (w.handlers k).requests ++ record { number = w.next; poster = h; waited = false; passed = None; asked = w.asks } ∷ [];
    })
    (suc w.next) fine (posting_simple h k w alive fine)
