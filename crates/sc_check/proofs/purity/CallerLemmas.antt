-- Callers of features, as the search for impure ones makes them.
use Rattle.std.proofs.Common.{◌≡◌, ◌+◌, ℕ, zero, suc, List, [], ◌∷◌, ◌++◌, length, refl, ap, ◌∙◌, length-append}
use Rattle.std.specs.declared.vec.Vec.{Vec}
use Rattle.std.specs.declared.alloc.Global.{Global}
use Rattle.sc_check.specs.purity.Internal.Callers.{callers_in}

none_pushed : (lists : List (Vec ℕ Global)) (v : Vec ℕ Global) → v.items ≡ [] → ((k : ℕ) → callers_in lists k ≡ []) → (k : ℕ) → callers_in (lists ++ v ∷ []) k ≡ []
none_pushed [] v e f zero = e
none_pushed [] v e f (suc k) = refl
none_pushed (l ∷ lists) v e f zero = f zero
none_pushed (l ∷ lists) v e f (suc k) = none_pushed lists v e (λ k. f (suc k)) k

-- one more feature without callers
pub callers_more : (lists lists' : List (Vec ℕ Global)) (v : Vec ℕ Global) (n : ℕ) → lists' ≡ lists ++ v ∷ [] → v.items ≡ [] →
    (length lists ≡ n) × ((k : ℕ) → callers_in lists k ≡ []) → (length lists' ≡ n + 1) × ((k : ℕ) → callers_in lists' k ≡ [])
callers_more lists lists' v n e i (l, f) =
    (ap length e ∙ length-append lists (v ∷ []) ∙ ap (λ (m : ℕ). m + 1) l, λ k. ap (λ ls. callers_in ls k) e ∙ none_pushed lists v i f k)
