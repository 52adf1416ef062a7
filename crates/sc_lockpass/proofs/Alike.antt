-- What was passed, compared handler by handler.
use Rattle.std.proofs.Common.{◌≡◌, ◌∙◌, ℕ, ◌+◌, ◌≤◌, ◌<◌, None, inl, inr, refl, sym, subst, ap, arith}
use Rattle.std.proofs.lemmas.Bool.{cases_lt, ne_eqb}
use Rattle.std.proofs.Math.Path.{fun_ext}
use Rattle.sc_lockpass.specs.Passing.{Passed, AreListedAlike}
use Rattle.sc_lockpass.specs.Tables.{Listing, IsBelow, passed_of}

-- what is listed alike of each handler is the same
pub alike_same : (p q : Passed) → ((k : ℕ) → AreListedAlike k p q) → p ≡ q
alike_same p q alike =
    let queue : p.queue ≡ q.queue = fun_ext (λ k. (alike k).0) in
    let top : p.top ≡ q.top = fun_ext (λ k. (alike k).1) in
    λ i. record { queue = queue i; top = top i }

pub same_alike : (p q : Passed) (k : ℕ) → p ≡ q → AreListedAlike k p q
same_alike p q k e = (ap (λ (r : Passed). r.queue k) e, ap (λ (r : Passed). r.top k) e)

-- No right over a handler from this number on is listed.
pub record IsWithin (reach : ℕ) (p : Listing) : Type 0 where
  pub client : p.client < reach
  pub queues : IsBelow reach p.queues
  pub tops : IsBelow reach p.tops

unlisted : (p : Listing) (reach k : ℕ) → IsWithin reach p → reach ≤ k → ((passed_of p).queue k ≡ None) × ((passed_of p).top k ≡ None)
unlisted p reach k within beyond = (
  rw (within.queues k beyond) refl,
  rw (ne_eqb k p.client (λ e. omega (arith, within.client, beyond, e)), within.tops k beyond) refl,
)

-- what is listed alike of each handler below a number that neither listing reaches is the same
pub alike_below_same : (p q : Listing) (reach its_reach n : ℕ) → IsWithin reach p → IsWithin its_reach q → reach ≤ n → its_reach ≤ n →
    ((k : ℕ) → k < n → AreListedAlike k (passed_of p) (passed_of q)) → passed_of p ≡ passed_of q
alike_below_same p q reach its_reach n within its_within least its_least alike = alike_same (passed_of p) (passed_of q) (λ k. elim (cases_lt k n) [
  | inl below ↦ alike k below
  | inr beyond ↦
      let none = unlisted p reach k within (omega (arith, beyond, least)) in
      let its_none = unlisted q its_reach k its_within (omega (arith, beyond, its_least)) in
      (none.0 ∙ sym its_none.0, none.1 ∙ sym its_none.1)
])

-- what is listed alike of each handler below a number, and of that, is so below the next
pub alike_next : (p q : Passed) (n k : ℕ) → ((j : ℕ) → j < n → AreListedAlike j p q) → AreListedAlike n p q → k < n + 1 → AreListedAlike k p q
alike_next p q n k alike last within = elim (cases_lt k n) [
  | inl below ↦ alike k below
  | inr beyond ↦ let is : n ≡ k = omega (arith, beyond, within) in subst (λ j. AreListedAlike j p q) is last
]
