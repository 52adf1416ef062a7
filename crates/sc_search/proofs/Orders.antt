-- Orders that go on from a state.
use Rattle.std.proofs.Common.{◌≡◌, ◌≤◌, ◌++◌, ◌∷◌, [], ◌∙◌, ℕ, List, Option, Some, None, get_or, length, sym, ap, arith, append_assoc, length-append}
use Rattle.sc_search.specs.Stored.{order_after}

-- one turn more
pub order_more : (os : List (List ℕ)) (parent : Option ℕ) (turns more : List ℕ) (h : ℕ) → more ≡ turns ++ h ∷ [] →
    order_after os parent more ≡ order_after os parent turns ++ h ∷ []
order_more os None turns more h e = e
order_more os (Some n) turns more h e = ap (λ (hs : List ℕ). get_or os n [] ++ hs) e ∙ sym (append_assoc (get_or os n []) turns (h ∷ []))

-- further turns
pub order_join : (os : List (List ℕ)) (parent : Option ℕ) (turns more all : List ℕ) → all ≡ turns ++ more →
    order_after os parent all ≡ order_after os parent turns ++ more
order_join os None turns more all e = e
order_join os (Some n) turns more all e = ap (λ (hs : List ℕ). get_or os n [] ++ hs) e ∙ sym (append_assoc (get_or os n []) turns more)

-- an order has all turns from the state
pub order_long : (os : List (List ℕ)) (parent : Option ℕ) (turns : List ℕ) → length turns ≤ length (order_after os parent turns)
order_long os None turns = omega arith
order_long os (Some n) turns = omega (arith, length-append (get_or os n []) turns)
