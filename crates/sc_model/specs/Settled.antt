-- Settled objects, and free handlers.
use Rattle.std.specs.Prelude.{ℕ, ◌≡◌, ◌<◌, List, [], Some, None, All}
use Rattle.sc_tree.specs.Plain.{System}
use Rattle.sc_model.specs.Objects.{Object, object_numbered}
use Rattle.sc_model.specs.Invariants.{MeetsInvariant}
use Rattle.sc_model.specs.Handlers.{Frame, Handler, World}

-- no frame has the object of the number as Current
abbrev pub IsNoCurrent : ℕ → List Frame → Type 0
IsNoCurrent number stack = All (λ (f : Frame). f.current.number ≡ number → ⊥) stack

-- The object of the number is settled: its handler has not failed, and no frame has it as Current.
pub record IsSettled (x : Handler) (number : ℕ) : Type 0 where
  pub stands : x.failure ≡ None
  pub at_rest : IsNoCurrent number x.stack

-- The handler has not failed, and runs nothing.
pub record IsFree (x : Handler) : Type 0 where
  pub stands : x.failure ≡ None
  pub idle : x.stack ≡ []

-- each settled object meets its class invariant (ECMA-367, 8.9.16)
abbrev pub SettledObjectsMeet : System → World → Type 0
SettledObjectsMeet s w =
    (h number : ℕ) (o : Object) → h < w.count → IsSettled (w.handlers h) number →
    object_numbered number (w.handlers h).objects ≡ Some o → MeetsInvariant s o

-- each object of a free handler does
abbrev pub FreeObjectsMeet : System → World → Type 0
FreeObjectsMeet s w = (h : ℕ) → h < w.count → IsFree (w.handlers h) → All (MeetsInvariant s) (w.handlers h).objects
