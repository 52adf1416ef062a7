-- The callers of features, as the search for impure ones holds them.
use Rattle.std.specs.Prelude.{ℕ, List, [], slice_get}
use Rattle.std.specs.Option.{option_map_or}
use Rattle.std.specs.declared.vec.Vec.{Vec}
use Rattle.std.specs.declared.alloc.Global.{Global}

-- the numbers of those that call the feature at the number
abbrev pub callers_in : List (Vec ℕ Global) → ℕ → List ℕ
callers_in lists k = option_map_or (λ (v : Vec ℕ Global). v.items) (slice_get lists k) []
