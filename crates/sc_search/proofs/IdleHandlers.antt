-- Handlers that have no turn in a state.
use Rattle.std.proofs.Common.{◌≡◌, ◌≤◌, ◌<◌, ◌∙◌, ℕ, false, List, Some, None, get_or, length, slice_get, sym, ap, arith}
use Rattle.std.proofs.lemmas.List.{get_or_past}
use Rattle.sc_lockpass.specs.declared.version.Version.{Version}
use Rattle.sc_model.specs.declared.status.Status.{Status}
use Rattle.sc_model.specs.declared.status.Status.TheVariants.{Free}
use Rattle.sc_code.specs.declared.program.Image.{Image}
use Rattle.sc_request.specs.Logs.{pick_for}
use Rattle.sc_world.specs.Kept.{PlainKept}
use Rattle.sc_world.specs.Reports.{statuses}
use Rattle.sc_search.specs.declared.aims.Aim.{Aim}
use Rattle.sc_search.specs.declared.judging.Kind.TheVariants as kind
use Rattle.sc_search.specs.Aims.{is_of}
use Rattle.sc_search.specs.Steps.{Stands, Tries, TriesAll}
use Rattle.sc_search.specs.Stops.{AreReached, IsReached}
use Rattle.sc_search.specs.Views.{Met}
use Rattle.sc_search.proofs.KeptStates.{same_some}
use Rattle.sc_search.proofs.Reasons.{there_is}
use Rattle.sc_search.proofs.TriedTurns.{TriesBelow, tries_all, tries_none}
use Rattle.sc_search.proofs.Waits.{idle_job}

module _ (p : Image) (v : Version) (a : Aim) (joined : ℕ) (x : Met) (os : List (List ℕ)) (ts : List (List Status)) (turns number : ℕ) (row : List Status)
    (so : AreReached p v a x.states os ts turns) (there : number < length x.states) (at : slice_get ts number ≡ Some row) where
  state : (k : PlainKept) × (slice_get x.states number ≡ Some k)
  state = there_is x.states number there

  was : IsReached p v a os ts number state.0
  was = so.each number state.0 state.1

  stands : Stands p v x.states number was.order was.world
  stands = record { runs = was.runs; stands = state.1 ∙ ap (λ (k : PlainKept). Some k) (sym was.kept_is) }

  same_row : statuses was.world ≡ row
  same_row = same_some (statuses was.world) row (sym was.told_is ∙ at)

  none : (h : ℕ) → is_of kind.IsBusy (get_or row h Free) ≡ false → pick_for h was.world.center ≡ None
  none h idle = idle_job p v a was.world h (ap (λ (ss : List Status). is_of kind.IsBusy (get_or ss h Free)) same_row ∙ idle)

  -- the turn of one that isn't busy leads nowhere
  pub tries_idle : (h : ℕ) → is_of kind.IsBusy (get_or row h Free) ≡ false → Tries p v a joined x x number h
  tries_idle h idle = tries_none p v a joined number h was.order was.world x stands (none h idle)

  -- nor does that of one that there isn't
  pub tries_rest : (y : Met) (below : ℕ) → TriesBelow p v a joined x y number below → length row ≤ below → TriesAll p v a joined x y number
  tries_rest y below so_far all =
      tries_all p v a joined x y number was.order was.world below so_far stands
      (λ h past. none h (ap (is_of kind.IsBusy) (get_or_past row h Free (omega (arith, all, past)))))
