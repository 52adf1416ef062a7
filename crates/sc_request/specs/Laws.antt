-- Laws of the core.
use Rattle.std.specs.Prelude.{◌≡◌, ℕ, is_some}
use Rattle.std.specs.Option.{option_map_or}
use Rattle.sc_tree.specs.Plain.{System}
use Rattle.sc_class.specs.ClassNames.{Root, number_of}
use Rattle.sc_model.specs.Handlers as machine
use Rattle.sc_model.specs.Runs as runs
use Rattle.sc_model.specs.Runs.{has_turn, root_request}
use Rattle.sc_handler.specs.Handlers.{State}
use Rattle.sc_handler.specs.Picking.{job_of}
use Rattle.sc_request.specs.Asked.{Numbering, request_of}
use Rattle.sc_request.specs.Halves.{IsHalfOf}
use Rattle.sc_request.specs.Logs.{opening}

-- The core opens as the half of the machine's opening.
abbrev pub OpensAsHalf : Type 0
OpensAsHalf = (n : Numbering) (s : System) (root : Root) →
    IsHalfOf n (runs.opening s root)
    (opening (request_of n (root_request (option_map_or (λ k. k) (number_of s root.class) 0) root.procedure)))

-- A handler has something to do exactly where the machine gives it a turn.
abbrev pub PicksWhereTurns : Type 0
PicksWhereTurns = (n : Numbering) (w : machine.World) (s : State) (h : ℕ) → IsHalfOf n w s →
    is_some (job_of h s) ≡ has_turn h w
