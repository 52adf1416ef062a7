-- Runs join.
use Rattle.std.proofs.Common.{◌≡◌, ℕ, List, [], ◌∷◌, ◌++◌, refl}
use Rattle.sc_tree.specs.Plain.{System}
use Rattle.sc_model.specs.Handlers.{World}
use Rattle.sc_model.specs.Turns.{turn}
use Rattle.sc_model.specs.Runs.{run}

pub run_append : (most : ℕ) (s : System) (first second : List ℕ) (w : World) → run most s (first ++ second) w ≡ run most s second (run most s first w)
run_append most s [] second w = refl
run_append most s (h ∷ hs) second w = run_append most s hs second (turn most s h w)
