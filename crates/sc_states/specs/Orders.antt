-- The turns that lead to each state: those to the state before it, and those between them.
use Rattle.std.specs.Prelude.{◌<◌, ◌++◌, ℕ, List, [], ◌∷◌, length, get_or}

-- the turns to each state, after those to the states of `orders`
abbrev pub orders_on : List (List ℕ) → List ℕ → List (List ℕ) → List (List ℕ)
orders_on orders [] steps = orders
orders_on orders (p ∷ parents) [] = orders
orders_on orders (p ∷ parents) (step ∷ steps) = orders_on (orders ++ (get_or orders p [] ++ step) ∷ []) parents steps

-- the turns to each state, by the number of the state before it and the turns from there; there is none before the first
abbrev pub orders_in : List ℕ → List (List ℕ) → List (List ℕ)
orders_in parents steps = orders_on [] parents steps

-- The state before each but the first is an earlier one.
abbrev pub AreEarlier : List ℕ → Type 0
AreEarlier parents = (i : ℕ) → 0 < i → i < length parents → get_or parents i 0 < i
