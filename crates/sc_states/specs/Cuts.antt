-- Lists that lie one after the other.
use Rattle.std.specs.Prelude.{◌≤◌, ℕ, zero, suc, List, [], ◌∷◌, slice_range}
use Rattle.std.specs.Coded.{×_prop, le_prop}

-- the lists that end at these places of one list; the first of them begins at `from`
abbrev pub cut : {A : Type 0} → ℕ → List ℕ → List A → List (List A)
cut from [] flat = []
cut from (end ∷ ends) flat = slice_range flat from end ∷ cut end ends flat

-- No place is before the one before it, and the last one is `len`.
abbrev pub IsCut : ℕ → List ℕ → ℕ → Type 0
IsCut from [] len = (from ≤ len) × (len ≤ from)
IsCut from (end ∷ ends) len = (from ≤ end) × IsCut end ends len

pub IsCut-prop : (from : ℕ) (ends : List ℕ) (len : ℕ) → IsProp (IsCut from ends len)
IsCut-prop from [] len = ×_prop le_prop le_prop
IsCut-prop from (end ∷ ends) len = ×_prop le_prop (IsCut-prop end ends len)

-- the place where the list of the number begins
abbrev pub start_at : ℕ → List ℕ → ℕ → ℕ
start_at from [] i = from
start_at from (end ∷ ends) zero = from
start_at from (end ∷ ends) (suc i) = start_at end ends i
