-- A handler that has failed stays so.
use Rattle.std.proofs.Common.{◌≡◌, ◌⊎◌, inl, inr, ◌<◌, ◌||◌, ℕ, zero, suc, Bool, true, false, Some, None, Option, refl, sym, ap, subst, ◌∙◌, arith}
use Rattle.std.specs.Prelude.{is_some}
use Rattle.std.proofs.lemmas.Bool.{cases_lt}
use Rattle.sc_model.specs.declared.cause.Cause.{Cause}
use Rattle.sc_region.specs.declared.job.Job.{Job}
use Rattle.sc_region.specs.declared.job.Want.{Want}
use Rattle.sc_handler.specs.Handlers.{State}
use Rattle.sc_handler.specs.Picking.{job_of}
use Rattle.sc_request.specs.Settling.{settled}
use Rattle.sc_refines_world.proofs.OtherStages.{has_job, others_stay}
use Rattle.sc_movers.specs.Kept.{some_below}

either : (m n : ℕ) → (m ≡ n) ⊎ (m ≡ n → ⊥)
either m n = elim (cases_lt m n) [
  | inl less ↦ inr (λ e. omega (arith, less, e))
  | inr more ↦ elim (cases_lt n m) [
    | inl less ↦ inr (λ e. omega (arith, less, e))
    | inr most ↦ inl (omega (arith, more, most))
  ]
]

-- one of the first numbers that passes
abbrev pub SomeBelow : ℕ → (ℕ → Bool) → Type 0
SomeBelow n f = (i : ℕ) × (i < n) × (f i ≡ true)

either_of : (b c : Bool) → (b || c) ≡ true → (b ≡ true) ⊎ (c ≡ true)
either_of true c e = inl refl
either_of false c e = inr e

or_left : (b c : Bool) → b ≡ true → (b || c) ≡ true
or_left true c e = refl
or_left false c e = cc

or_right : (b c : Bool) → c ≡ true → (b || c) ≡ true
or_right true c e = refl
or_right false c e = e

pub found_below : (n : ℕ) (f : ℕ → Bool) → some_below n f ≡ true → SomeBelow n f
found_below zero f e = cc
found_below (suc n) f e = elim (either_of (f n) (some_below n f) e) [
  | inl here ↦ (n, omega arith, here)
  | inr below ↦ let rest = found_below n f below in let within = rest.1 in (rest.0, omega (arith, within), rest.2)
]

pub is_below : (n i : ℕ) (f : ℕ → Bool) → i < n → f i ≡ true → some_below n f ≡ true
is_below zero i f within e = absurd (omega (arith, within))
is_below (suc n) i f within e = elim (either i n) [
  | inl same ↦ or_left (f n) (some_below n f) (subst (λ (k : ℕ). f k ≡ true) same e)
  | inr differ ↦ or_right (f n) (some_below n f) (is_below n i f (omega (arith, within, differ)) e)
]

-- whether it has failed
abbrev pub fails_at : State → ℕ → Bool
fails_at s k = is_some (s.handlers k).failure

none_some : (o : Option Cause) → o ≡ None → is_some o ≡ true → ⊥
none_some o e t = let no : true ≡ false = sym t ∙ ap is_some e in cc

-- Whatever the turn of a handler comes to, who has failed before has failed after it.
pub failed_stays : (most h turns : ℕ) (j i : Job) (w : Want) (s t : State) → job_of h t ≡ Some i → t.count ≡ s.count → t.handlers ≡ s.handlers →
    some_below s.count (fails_at s) ≡ true → some_below (settled most h j turns w s).count (fails_at (settled most h j turns w s)) ≡ true
failed_stays most h turns j i w s t due count same e =
    let found = found_below s.count (fails_at s) e in
    let k = found.0 in
    let within = found.1 in
    let later = settled most h j turns w s in
    let still = others_stay h most turns j w s in
    let more = still.more in
    let apart : k ≡ h → ⊥ = λ is.
    none_some (s.handlers k).failure (ap (λ (n : ℕ). (s.handlers n).failure) is ∙ ap (λ (hs : ℕ → _). (hs h).failure) (sym same) ∙ (has_job h t i due).stands) found.2 in
    is_below later.count k (fails_at later) (omega (arith, within, more)) (ap is_some (still.others k apart within).1 ∙ found.2)
