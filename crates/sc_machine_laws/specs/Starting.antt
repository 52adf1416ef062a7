-- When a body starts, the clauses of its precondition hold.
use Rattle.std.specs.Prelude.{ℕ, ◌≡◌, ◌<◌, List, ◌∷◌, None, Contains}
use Rattle.sc_tree.specs.Plain.{System, Clause}
use Rattle.sc_model.specs.Clauses.{Holds}
use Rattle.sc_model.specs.Handlers.{Runs, Frame, World, point_of, frame_at}
use Rattle.sc_model.specs.Moves.{moves}
use Rattle.sc_model.specs.Runs.{IsReached}
use Rattle.sc_model.specs.Steps.{Point, Starts, Does}
use Rattle.sc_model.specs.Turns.{turn}
use Rattle.sc_machine_laws.specs.states.Values.{WhereAccepted}

-- In this turn of the handler `h` the body of its topmost frame `f` starts, and `f` is then at the point `p`.
pub record IsVerdict (s : System) (w : World) (h : ℕ) (f : Frame) (below : List Frame) (p : Point) : Type 0 where
  pub is_there : h < w.count
  pub lives : (w.handlers h).failure ≡ None
  pub stack_is : (w.handlers h).stack ≡ f ∷ below
  pub runs : f.stage ≡ Runs
  pub starts : moves s f.current (point_of f (w.handlers h).objects) ≡ Does Starts p

-- Right after this turn each clause of the precondition holds, whether it is a wait condition or not.
abbrev pub StartsWhereTheyHold : System → ℕ → World → Type 0
StartsWhereTheyHold s most w = (h : ℕ) (f : Frame) (below : List Frame) (p : Point) → IsVerdict s w h f below p →
    (k : Clause) → Contains f.routine.require k → Holds s (turn most s h w) (frame_at f p) k

-- This holds in each state that an accepted system reaches.
abbrev pub BodiesStartWhereTheyHold : Type 0
BodiesStartWhereTheyHold = WhereAccepted λ s root. (most : ℕ) (w : World) → IsReached most s root w →
    StartsWhereTheyHold s most w
