-- Each turn keeps what fits, where whoever waits for what may end takes its result.
use Rattle.std.specs.Prelude.{if◌then◌else◌, nat_lt}
use Rattle.std.proofs.Common.{Bool, List, None, Option, Some, [], ap, false, refl, subst, sym, true, ℕ, ◌<◌, ◌∙◌, ◌∷◌, ◌≡◌}
use Rattle.std.proofs.lemmas.Bool.{ltb-true}
use Rattle.sc_tree.specs.Plain.{System}
use Rattle.sc_class.specs.ClassNames.{Root}
use Rattle.sc_class.specs.Faults.ClassRules.{IsFaultless}
use Rattle.sc_rules.specs.declared.entity_types.entity_type.EntityType.{EntityType}
use Rattle.sc_rules.specs.Names.{RoutineName}
use Rattle.sc_rules.specs.Purity.{IsPurity}
use Rattle.sc_rules.specs.SystemRules.{WellFormed}
use Rattle.sc_model.specs.Entries.{block_needs, entry_needs}
use Rattle.sc_model.specs.Handlers.{Answer, Awaits, Frame, InCall, Request, Reserves, ReservesBlock, Runs, Stage, World, point_of}
use Rattle.sc_model.specs.Moves.{moves}
use Rattle.sc_model.specs.Steps as act
use Rattle.sc_model.specs.Steps.{Act, Does, Goes, Point, Step}
use Rattle.sc_model.specs.Takes.{takes_next}
use Rattle.sc_model.specs.Turns.{goes_on, settles, turn_with, waits}
use Rattle.sc_model.specs.declared.cause.Cause.{Cause}
use Rattle.sc_model.specs.declared.cause.Cause.TheVariants as cause
use Rattle.sc_machine_laws.specs.states.Fitting.{CallbacksStandAlone, EndsAreAwaited, FrameFits, WorldFits, called_back, next, runs}
use Rattle.sc_machine_laws.specs.states.Points.{Each}
use Rattle.sc_machine_laws.specs.states.Values.{EachStandsAlone, TurnsFromEnds, TurnsKeepWhereAwaited}
use Rattle.sc_machine_laws.specs.states.Headline.{has_reply}
use Rattle.sc_machine_laws.proofs.states.MachineHolders.{machine_callbacks_come_first}
use Rattle.sc_machine_laws.proofs.states.links.Reached.{reached_stands}
use Rattle.sc_machine_laws.proofs.states.OwnTurns.{own_acts_keep_it}
use Rattle.sc_machine_laws.proofs.states.CallTurns.{entries_keep_it}
use Rattle.sc_machine_laws.proofs.states.Remains.{failures_keep_it}
use Rattle.sc_machine_laws.proofs.states.CreationTurns.{creations_keep_it}
use Rattle.sc_machine_laws.proofs.states.ExitTurns.{exits_keep_it}
use Rattle.sc_machine_laws.proofs.states.ValueArrivals.{answers_keep_it}
use Rattle.sc_machine_laws.proofs.states.Refusals.{refusals_keep_it}
use Rattle.sc_machine_laws.proofs.states.TakeTurns.{callbacks_keep_it, next_keep_it}
use Rattle.sc_machine_laws.proofs.states.RequestTurns.{requests_keep_it}
use Rattle.sc_machine_laws.proofs.states.ValueReservations.{reservations_keep_it}

module _ (s : System) (root : Root) (pure : RoutineName → Bool) (faultless : IsFaultless s root) (well : WellFormed s) (tells : IsPurity s pure) (most h : ℕ) (w : World) (fits : WorldFits s pure w)
    (alone : CallbacksStandAlone w) (awaited : EndsAreAwaited s w) (l : h < w.count) where
  module _ (f : Frame) (below : List Frame) (is : (w.handlers h).stack ≡ f ∷ below) where
    -- a move is made
    moves_on : f.stage ≡ Runs → (x : Step) → moves s f.current (point_of f (w.handlers h).objects) ≡ x → WorldFits s pure (settles most s h x f below w)
    moves_on e (Goes p) move = fits
    moves_on e (Does (act.Prints text) p) move = own_acts_keep_it s root pure faultless well tells most w fits h l f below is e (act.Prints text) p move refl
    moves_on e (Does act.Until p) move = own_acts_keep_it s root pure faultless well tells most w fits h l f below is e act.Until p move refl
    moves_on e (Does act.Creates p) move = own_acts_keep_it s root pure faultless well tells most w fits h l f below is e act.Creates p move refl
    moves_on e (Does act.Starts p) move = own_acts_keep_it s root pure faultless well tells most w fits h l f below is e act.Starts p move refl
    moves_on e (Does act.Opens p) move = own_acts_keep_it s root pure faultless well tells most w fits h l f below is e act.Opens p move refl
    moves_on e (Does act.Leaves p) move = own_acts_keep_it s root pure faultless well tells most w fits h l f below is e act.Leaves p move refl
    moves_on e (Does (act.Fails why) p) move = own_acts_keep_it s root pure faultless well tells most w fits h l f below is e (act.Fails why) p move refl
    moves_on e (Does (act.CreatesHandler k x us t b) p) move = creations_keep_it s root pure faultless well tells most w fits h l f below is e (act.CreatesHandler k x us t b) p move refl
    moves_on e (Does (act.Enters c o x us t) p) move = entries_keep_it s root pure faultless well tells most w fits h l f below is e (act.Enters c o x us t) p move refl
    moves_on e (Does (act.Requests o x us t b) p) move = requests_keep_it s root pure faultless well tells most w fits h l f below is e (act.Requests o x us t b) p move refl
    moves_on e (Does (act.Refuses k) p) move = refusals_keep_it s root pure faultless well tells most w fits h l f below is e (act.Refuses k) p move refl
    moves_on e (Does act.Exits p) move = exits_keep_it s root pure faultless well tells most w fits h l f below is e p move
        (λ r i. awaited h r l (runs {f = f} {below = below} is e i))

    -- a callback or an answer is taken
    waits_on : (k : ℕ) (t : Option EntityType) (c : Bool) → f.stage ≡ Awaits k t c → (q : Option Request) (a : Option Answer) → (w.handlers h).callback ≡ q → (w.handlers h).answer ≡ a →
        WorldFits s pure (waits s h q a k t c f below w)
    waits_on k t c e (Some r) a i j = callbacks_keep_it s root pure faultless well tells w fits h l r f below is i (λ v m. alone h r v l i m) (awaited h r l (called_back {f = f} {below = below} is i))
    waits_on k t c e None (Some a) i j = answers_keep_it s pure w fits h l f below is k t c e a j
    waits_on k t c e None None i j = fits

    on : (x : Stage) → f.stage ≡ x → WorldFits s pure (goes_on most s h x f below w)
    on Runs e = moves_on e (moves s f.current (point_of f (w.handlers h).objects)) refl
    on Reserves e = (reservations_keep_it s pure w h f below (entry_needs h f w) fits l is).0 e
    on ReservesBlock e = (reservations_keep_it s pure w h f below (block_needs h f w) fits l is).1 e
    on (InCall t) e = failures_keep_it s pure w h cause.BadCode [] f.current (subst (Each (FrameFits s pure w h)) is (fits h l).frames_fit).0.is_there fits
    on (Awaits k t c) e = waits_on k t c e (w.handlers h).callback (w.handlers h).answer refl refl

  taken_next : (rs : List Request) → (w.handlers h).stack ≡ [] → (w.handlers h).queue ≡ rs → WorldFits s pure (takes_next s h rs w)
  taken_next [] i e = fits
  taken_next (r ∷ rs) i e = next_keep_it s root pure faultless well tells w fits h l r rs i e (awaited h r l (next {rs = rs} i e))

  turned : (why : Option Cause) (fs : List Frame) → (w.handlers h).stack ≡ fs → WorldFits s pure (turn_with most s h why fs w)
  turned (Some why) fs e = fits
  turned None [] e = taken_next (w.handlers h).queue e refl
  turned None (f ∷ below) e = on f below e f.stage refl

pub turns_keep_where_awaited : TurnsKeepWhereAwaited
turns_keep_where_awaited s root pure faultless well tells most h w fits alone awaited = by (nat_lt h w.count) refl
  where
    by : (b : Bool) → nat_lt h w.count ≡ b → WorldFits s pure (if b then turn_with most s h (w.handlers h).failure (w.handlers h).stack w else w)
    by true e = turned s root pure faultless well tells most h w fits alone awaited (ltb-true h w.count e) (w.handlers h).failure (w.handlers h).stack refl
    by false e = fits

pub callbacks_stand_alone : EachStandsAlone
callbacks_stand_alone s root most w reached h r v l e i =
    let t = reached_stands most s root w reached in none (sym (ap has_reply i) ∙ machine_callbacks_come_first t.0 w t.1 t.2 h r e)
  where
    none : true ≡ false → ⊥
    none e = cc

pub turns_from_ends : TurnsFromEnds
turns_from_ends each s root pure faultless well tells most h w reached fits =
    turns_keep_where_awaited s root pure faultless well tells most h w fits (callbacks_stand_alone s root most w reached) (each s root faultless well most w reached)
