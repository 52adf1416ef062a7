-- In each state that an accepted system reaches, a routine that its own handler called stands on the one that is in the call.
use Rattle.std.proofs.Common.{ℕ, ◌≡◌, List, [], ◌∷◌, ◌++◌, Bool, refl, sym, ap, subst, ◌∙◌}
use Rattle.sc_tree.specs.Plain.{System}
use Rattle.sc_class.specs.ClassNames.{Root}
use Rattle.sc_class.specs.Faults.ClassRules.{IsFaultless}
use Rattle.sc_rules.specs.Names.{RoutineName}
use Rattle.sc_rules.specs.SystemRules.{WellFormed}
use Rattle.sc_rules.specs.Purity.{IsPurity}
use Rattle.sc_model.specs.Handlers as machine
use Rattle.sc_model.specs.Runs.{opening, run, IsReached}
use Rattle.sc_model.specs.Turns.{turn}
use Rattle.sc_request.specs.Steps.{IsInCall, IsCalledFrom, StandsOnCall}
use Rattle.sc_machine_laws.specs.states.Fitting.{WorldFits, Linked, alone, called, empty}
use Rattle.sc_machine_laws.proofs.states.ValueAwaitedEnds.{turns_keep_it}
use Rattle.sc_machine_laws.proofs.states.ValueOpening.{opening_fits}

one_more : (most : ℕ) (s : System) (hs : List ℕ) (h : ℕ) (w : machine.World) → run most s (hs ++ h ∷ []) w ≡ turn most s h (run most s hs w)
one_more most s [] h w = refl
one_more most s (k ∷ hs) h w = one_more most s hs h (turn most s k w)

pub one_further : (most : ℕ) (s : System) (root : Root) (h : ℕ) (w : machine.World) → IsReached most s root w → IsReached most s root (turn most s h w)
one_further most s root h w r =
    record { numbers = r.numbers ++ h ∷ []; run_is = one_more most s r.numbers h (opening s root) ∙ ap (turn most s h) r.run_is }

module _ (s : System) (root : Root) (pure : RoutineName → Bool) (faultless : IsFaultless s root) (well : WellFormed s) (tells : IsPurity s pure) (most : ℕ) where
  along : (hs : List ℕ) (w : machine.World) → IsReached most s root w → WorldFits s pure w → WorldFits s pure (run most s hs w)
  along [] w r fits = fits
  along (h ∷ hs) w r fits =
      along hs (turn most s h w)
      (one_further most s root h w r)
      (turns_keep_it s root pure faultless well tells most h w r fits)

  pub reached_fits : (w : machine.World) → IsReached most s root w → WorldFits s pure w
  reached_fits w r =
      subst (WorldFits s pure) r.run_is
      (along r.numbers (opening s root) (record { numbers = []; run_is = refl }) (opening_fits s root pure faultless))

-- the frames of a stack are linked so
pub stands_on_call : (s : System) (h : ℕ) (stack : List machine.Frame) → Linked s h stack → StandsOnCall stack
stands_on_call s h _ (alone {f} {r} {below} is result more) = subst (λ (o : machine.Origin). IsCalledFrom o below) (sym is) tt
stands_on_call s h _ (called {f} {g} {below} {c} {t} is calls gives more) =
    subst (λ (o : machine.Origin). IsCalledFrom o (g ∷ below)) (sym is) (subst (λ (st : machine.Stage). IsInCall st) (sym calls) tt)
stands_on_call s h _ empty = tt
