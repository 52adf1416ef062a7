-- What runs by chance are asked for by.
use Rattle.std.proofs.Common.{◌≡◌, ℕ, List, Option, Some, None, refl}
use Rattle.sc_arguments.specs.Asked.{IsLimitBy}

-- an option without a number isn't used
pub unused : (value : Option (List ℕ)) (limit : Option ℕ) → IsLimitBy value limit → limit ≡ None → value ≡ None
unused None limit is none = refl
unused (Some text) None is none = let bad : None ≡ Some is.0 = is.1 in cc
unused (Some text) (Some n) is none = cc
