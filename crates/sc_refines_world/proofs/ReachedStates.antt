-- States that are reached.
use Rattle.std.proofs.Common.{ℕ, ◌≡◌, List, [], ◌∷◌, ◌++◌, Bool, refl, ap, subst, ◌∙◌}
use Rattle.sc_tree.specs.Plain.{System}
use Rattle.sc_class.specs.ClassNames.{Root}
use Rattle.sc_class.specs.Faults.ClassRules.{IsFaultless}
use Rattle.sc_rules.specs.Names.{RoutineName}
use Rattle.sc_rules.specs.Purity.{IsPurity}
use Rattle.sc_rules.specs.SystemRules.{WellFormed}
use Rattle.sc_model.specs.Handlers as machine
use Rattle.sc_model.specs.Runs.{IsReached, opening, run}
use Rattle.sc_model.specs.Turns.{turn}
use Rattle.sc_machine_laws.specs.states.Fitting.{WorldFits}
use Rattle.sc_machine_laws.proofs.states.ValueAwaitedEnds.{turns_keep_it}
use Rattle.sc_machine_laws.proofs.states.ValueOpening.{opening_fits}

one_more : (most : ℕ) (s : System) (hs : List ℕ) (h : ℕ) (w : machine.World) → run most s (hs ++ h ∷ []) w ≡ turn most s h (run most s hs w)
one_more most s [] h w = refl
one_more most s (k ∷ hs) h w = one_more most s hs h (turn most s k w)

-- the next state is reached
pub one_further : (most : ℕ) (s : System) (root : Root) (h : ℕ) (w : machine.World) → IsReached most s root w → IsReached most s root (turn most s h w)
one_further most s root h w r =
    record { numbers = r.numbers ++ h ∷ []; run_is = one_more most s r.numbers h (opening s root) ∙ ap (turn most s h) r.run_is }

-- what holds of the opening, and is kept by each turn of a state that is reached, holds of each such state
module _ (s : System) (root : Root) (most : ℕ) (P : machine.World → Type 0) (kept : (h : ℕ) (w : machine.World) → IsReached most s root w → P w → P (turn most s h w)) where
  along : (hs : List ℕ) (w : machine.World) → IsReached most s root w → P w → P (run most s hs w)
  along [] w r is = is
  along (h ∷ hs) w r is = along hs (turn most s h w) (one_further most s root h w r) (kept h w r is)

  pub in_each : P (opening s root) → (w : machine.World) → IsReached most s root w → P w
  in_each first w r = subst P r.run_is (along r.numbers (opening s root) (record { numbers = []; run_is = refl }) first)

-- the invariant on values holds of each
pub reached_fits : (s : System) (root : Root) (pure : RoutineName → Bool) → IsFaultless s root → WellFormed s → IsPurity s pure → (most : ℕ) (w : machine.World) →
    IsReached most s root w → WorldFits s pure w
reached_fits s root pure faultless well tells most w r =
    in_each s root most (WorldFits s pure) (λ h w r fits. turns_keep_it s root pure faultless well tells most h w r fits) (opening_fits s root pure faultless) w r
