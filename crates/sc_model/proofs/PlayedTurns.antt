-- What rows compare: how a world stands after a list of turns.
use Rattle.std.proofs.Common.{ℕ, zero, suc, Bool, List, [], ◌∷◌, ◌++◌}
use Rattle.std.specs.Prelude.{map}
use Rattle.sc_tree.specs.Plain.{System, Clause}
use Rattle.sc_model.specs.declared.status.Status.{Status}
use Rattle.sc_model.specs.Handlers.{World, Frame}
use Rattle.sc_model.specs.Clauses.{EvaluationState, after, begun}
use Rattle.sc_model.specs.Runs.{opening, run}
use Rattle.sc_model.specs.Reports.{status_of, some_has_turn}
use Rattle.sc_model.proofs.Texts.{root}

-- the world after these turns, where there may be 64 handlers
abbrev pub played : System → List ℕ → World
played s hs = run 64 s hs (opening s root)

-- each handler's status, how many requests it refused, and its output
abbrev pub summary : ℕ → World → List (Status × ℕ × List ℕ)
summary zero w = []
summary (suc n) w = summary n w ++ (status_of n w, (w.handlers n).refused, (w.handlers n).output) ∷ []

-- whether something is left to do, and how each handler stands
abbrev pub outcome : World → Bool × List (Status × ℕ × List ℕ)
outcome w = (some_has_turn w.count w, summary w.count w)

-- so many times these numbers
abbrev pub rounds : ℕ → List ℕ → List ℕ
rounds zero hs = []
rounds (suc n) hs = hs ++ rounds n hs

-- what the clauses of the precondition of a handler's topmost frame come to in so many steps
abbrev pub clauses_of : ℕ → System → World → List Frame → List EvaluationState
clauses_of n s w [] = []
clauses_of n s w (f ∷ below) = map (λ (k : Clause). after n s w (begun w f k)) f.routine.require
