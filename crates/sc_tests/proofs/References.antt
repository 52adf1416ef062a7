-- Which references are equal.
use Rattle.std.proofs.Common.{ℕ, ◌≡◌, true, false, [], ◌∷◌, refl}
use Rattle.sc_model.specs.Values.{Reference}
use Rattle.sc_model.specs.Expressions.{is_same_object}

-- the object of a number on a handler
abbrev object : ℕ → ℕ → Reference
object h n = record { handler = h; number = n; class = 0 }

pub one_object : is_same_object (object 1 1) (object 1 1) ∷ is_same_object (object 511 65536) (object 511 65536) ∷ [] ≡ true ∷ true ∷ []
one_object = refl

-- also the first object of each
pub other_handlers : is_same_object (object 1 1) (object 2 1) ∷ is_same_object (object 0 2) (object 2 2) ∷ [] ≡ false ∷ false ∷ []
other_handlers = refl

pub other_numbers : is_same_object (object 1 1) (object 1 2) ∷ is_same_object (object 0 2) (object 0 1) ∷ [] ≡ false ∷ false ∷ []
other_numbers = refl
