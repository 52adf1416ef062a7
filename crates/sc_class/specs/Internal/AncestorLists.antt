-- The ancestors of each class, as the code holds them.
use Rattle.std.specs.Prelude.{ℕ, List, [], slice_get}
use Rattle.std.specs.Option.{option_map_or}
use Rattle.std.specs.declared.vec.Vec.{Vec}
use Rattle.std.specs.declared.alloc.Global.{Global}

-- those at this number
abbrev pub ancestors_in : List (Vec ℕ Global) → ℕ → List ℕ
ancestors_in lists k = option_map_or (λ (v : Vec ℕ Global). v.items) (slice_get lists k) []
