-- Where each turn keeps the invariant, each value fits in every state that is reached.
use Rattle.std.proofs.Common.{◌≡◌, ◌⊎◌, ℕ, Bool, true, List, [], ◌∷◌, ◌++◌, refl, ap, ◌∙◌, subst}
use Rattle.sc_tree.specs.Plain.{System}
use Rattle.sc_class.specs.ClassNames.{Root}
use Rattle.sc_class.specs.Faults.ClassRules.{IsFaultless}
use Rattle.sc_rules.specs.Names.{RoutineName}
use Rattle.sc_rules.specs.SystemRules.{WellFormed}
use Rattle.sc_rules.specs.Purity.{IsPurity}
use Rattle.sc_model.specs.Handlers.{World}
use Rattle.sc_model.specs.Fits.{Fits, IsUnset}
use Rattle.sc_model.specs.Runs.{opening, run, IsReached}
use Rattle.sc_model.specs.Turns.{turn}
use Rattle.sc_machine_laws.specs.states.Fitting.{WorldFits}
use Rattle.sc_machine_laws.specs.states.Values.{TurnsKeepIt, FromTurns}
use Rattle.sc_machine_laws.proofs.states.ValueOpening.{opening_fits}
use Rattle.sc_machine_laws.proofs.states.ValuesFit.{fit_where_world_fits}

pub one_more : (most : ℕ) (s : System) (hs : List ℕ) (h : ℕ) (w : World) → run most s (hs ++ h ∷ []) w ≡ turn most s h (run most s hs w)
one_more most s [] h w = refl
one_more most s (k ∷ hs) h w = one_more most s hs h (turn most s k w)

module _ (kept : TurnsKeepIt) (s : System) (root : Root) (pure : RoutineName → Bool) (faultless : IsFaultless s root) (well : WellFormed s) (tells : IsPurity s pure) (most : ℕ) where
  along : (hs : List ℕ) (w : World) → IsReached most s root w → WorldFits s pure w → WorldFits s pure (run most s hs w)
  along [] w r f = f
  along (h ∷ hs) w r f =
      along hs (turn most s h w)
      (record { numbers = r.numbers ++ h ∷ []; run_is = one_more most s r.numbers h (opening s root) ∙ ap (turn most s h) r.run_is })
      (kept s root pure faultless well tells most h w r f)

  reached_fits : (w : World) → IsReached most s root w → WorldFits s pure w
  reached_fits w r =
      subst (WorldFits s pure) r.run_is
      (along r.numbers (opening s root) (record { numbers = []; run_is = refl }) (opening_fits s root pure faultless))

pub from_turns : FromTurns
from_turns kept some s root faultless well most w r h of v t u p = at (some s)
  where
    at : (pure : RoutineName → Bool) × IsPurity s pure → Fits s h of v t ⊎ ((u ≡ true) × IsUnset v t)
    at (pure, tells) = fit_where_world_fits s pure w (reached_fits kept s root pure faultless well tells most w r) h of v t u p
