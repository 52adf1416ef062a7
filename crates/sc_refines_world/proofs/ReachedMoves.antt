-- In each state that an accepted system reaches, frames and requests come and go in a turn as they may.
use Rattle.std.proofs.Common.{ℕ, ◌≡◌, ◌⊎◌, ◌<◌, Bool, true, false, List, [], ◌∷◌, None, refl, sym, subst, inl, inr}
use Rattle.std.proofs.lemmas.Bool.{lt-ltb}
use Rattle.std.specs.Prelude.{if◌then◌else◌}
use Rattle.sc_tree.specs.Plain.{System}
use Rattle.sc_class.specs.ClassNames.{Root}
use Rattle.sc_class.specs.Faults.ClassRules.{IsFaultless}
use Rattle.sc_rules.specs.declared.entity_types.entity_type.EntityType.{EntityType}
use Rattle.sc_rules.specs.Names.{Entities, RoutineName, formals_known}
use Rattle.sc_rules.specs.Purity.{IsPurity}
use Rattle.sc_rules.specs.SystemRules.{WellFormed}
use Rattle.sc_rules.proofs.PurityStands.{purity_stands}
use Rattle.sc_model.specs.Handlers.{Frame, Runs, World, point_of}
use Rattle.sc_model.specs.Moves.{moves}
use Rattle.sc_model.specs.Routines.{Text}
use Rattle.sc_model.specs.Runs.{IsReached}
use Rattle.sc_model.specs.Steps.{Act, Creates, CreatesHandler, Does, Enters, Exits, Fails, Leaves, Opens, Point, Prints, Refuses, Requests, Starts, Until}
use Rattle.sc_model.specs.Tasks.{Task}
use Rattle.sc_model.specs.Turns.{turn_with}
use Rattle.sc_machine_laws.proofs.states.links.Reached.{reached_linked}
use Rattle.sc_machine_laws.proofs.states.links.FittingActs.{stack_fits}
use Rattle.sc_machine_laws.proofs.states.links.Turns as rights
use Rattle.sc_machine_laws.specs.states.Fitting.{FrameFits, WorldFits, coming_to}
use Rattle.sc_machine_laws.specs.states.Points.{Each, PointFits}
use Rattle.sc_machine_laws.specs.states.ValueSteps.{IsThereIfOwn, StandsSo, ValuesDo}
use Rattle.sc_machine_laws.proofs.states.Frames.{store_fits, values_there}
use Rattle.sc_machine_laws.specs.settlements.Clauses.{ClauseAct, ClauseStep, HasStartedOrStands, InClauses, StandsInClauses}
use Rattle.sc_machine_laws.specs.settlements.Clauses as clauses
use Rattle.sc_machine_laws.specs.settlements.Entries.{HasStarted}
use Rattle.sc_machine_laws.proofs.settlements.Clausal.{clauses_call_pure}
use Rattle.sc_machine_laws.proofs.settlements.Unstarted.{each_stands}
use Rattle.sc_machine_laws.proofs.Turned as kept
use Rattle.sc_machine_laws.specs.Starting.{IsVerdict}
use Rattle.sc_refines_world.specs.Moving.{FramesMove, TurnsMoveRequests, is_plain}
use Rattle.sc_refines_world.proofs.FrameMoves.{AsksAnother}
use Rattle.sc_refines_world.proofs.TurnMoves.{turn_moves}
use Rattle.sc_refines_world.proofs.ReachedStates.{reached_fits}

-- where a clause of a precondition is left a routine has not started
unstarted : {s : System} {pure : RoutineName → Bool} {t : Text} {n : Entities} {ts : List Task} {as' : List EntityType} → InClauses s pure t n ts as' → HasStarted ts → ⊥
unstarted (clauses.require k c) z = let no : true ≡ false = z.0 in cc
unstarted (clauses.required c) z = let no : true ≡ false = z.0 in cc
unstarted (clauses.eval q k d c) z = unstarted c z.1
unstarted (clauses.apply_unary k c) z = unstarted c z.1
unstarted (clauses.eval_right q k d e c) z = unstarted c z.1
unstarted (clauses.apply_binary k c) z = unstarted c z.1
unstarted (clauses.conclude k c) z = unstarted c z.1
unstarted (clauses.call_unqualified ts i p g m e c) z = unstarted c z.1
unstarted (clauses.call_qualified ts a i p g l m e c) z = unstarted c z.1

module _ (s : System) (root : Root) (pure : RoutineName → Bool) (faultless : IsFaultless s root) (well : WellFormed s) (tells : IsPurity s pure) (most : ℕ) (w : World)
    (reached : IsReached most s root w) (h : ℕ) (here : h < w.count) (f : Frame) (below : List Frame) (lives : (w.handlers h).failure ≡ None) (at : (w.handlers h).stack ≡ f ∷ below)
    (runs : f.stage ≡ Runs) where
  fits : WorldFits s pure w
  fits = reached_fits s root pure faultless well tells most w reached

  frame : FrameFits s pure w h f
  frame = (subst (Each (FrameFits s pure w h)) at (fits h here).frames_fit).0

  was : HasStartedOrStands s pure f
  was = (subst (Each (HasStartedOrStands s pure)) at (each_stands s root pure faultless well tells most w reached h here)).0

  stands_so : StandsSo s pure f.routine f.current [] (point_of f (w.handlers h).objects)
  stands_so = (
    subst (λ k. PointFits s pure f.routine k [] (point_of f (w.handlers h).objects)) (sym frame.is_own)
        (subst (λ g. PointFits s pure f.routine h (coming_to g) (point_of f (w.handlers h).objects)) runs frame.point_fits),
    store_fits s pure w h f frame (fits h here).objects_fit,
  )

  -- in its precondition it does no more than start
  in_clauses : StandsInClauses s pure f.routine.contract (formals_known s f.routine.text.formals) (coming_to f.stage) (point_of f []) →
      ClauseStep s pure f.routine.contract (formals_known s f.routine.text.formals) (moves s f.current (point_of f (w.handlers h).objects))
  in_clauses z =
      let y = subst (λ st. StandsInClauses s pure f.routine.contract (formals_known s f.routine.text.formals) (coming_to st) (point_of f [])) runs z in
      clauses_call_pure s root pure faultless well tells f.routine f.current frame.is_version (formals_known s f.routine.text.formals)
      (point_of f (w.handlers h).objects) stands_so
      (subst (λ k. ValuesDo (IsThereIfOwn k (w.handlers h).objects) (point_of f (w.handlers h).objects)) (sym frame.is_own)
      (values_there s pure w h f frame (fits h here).objects_fit))
      (record { types = y.types; text_is = y.text_is; names_are = y.names_are; left = y.left; values = y.values })

  starting : (a : Act) (p : Point) → moves s f.current (point_of f (w.handlers h).objects) ≡ Does a p → is_plain a ≡ true → HasStarted p.tasks →
      HasStarted f.tasks ⊎ ((p : Point) × IsVerdict s w h f below p)
  starting a p move plain z = by was
    where
      verdict : moves s f.current (point_of f (w.handlers h).objects) ≡ Does Starts p → HasStarted f.tasks ⊎ ((p : Point) × IsVerdict s w h f below p)
      verdict e = inr (p, record { is_there = here; lives = lives; stack_is = at; runs = runs; starts = e })

      of_act : (a : Act) → moves s f.current (point_of f (w.handlers h).objects) ≡ Does a p → is_plain a ≡ true →
          ClauseAct s pure f.routine.contract (formals_known s f.routine.text.formals) a p → HasStarted f.tasks ⊎ ((p : Point) × IsVerdict s w h f below p)
      of_act Starts e plain i = verdict e
      of_act (Enters c o x us t) e plain i = absurd (unstarted i.1.2.left z)
      of_act (Requests o x us t b) e plain i = absurd (unstarted i.1.2.left z)
      of_act (Refuses k) e plain i = let no : false ≡ true = plain in cc
      of_act (Fails why) e plain i = let no : false ≡ true = plain in cc
      of_act (Prints text) e plain i = absurd i
      of_act Until e plain i = absurd i
      of_act Creates e plain i = absurd i
      of_act (CreatesHandler class k us t b) e plain i = absurd i
      of_act Opens e plain i = absurd i
      of_act Leaves e plain i = absurd i
      of_act Exits e plain i = absurd i

      by : HasStartedOrStands s pure f → HasStarted f.tasks ⊎ ((p : Point) × IsVerdict s w h f below p)
      by (inl i) = inl i
      by (inr y) = of_act a move plain (subst (ClauseStep s pure f.routine.contract (formals_known s f.routine.text.formals)) move (in_clauses y))

-- whoever is asked is another handler
asks_another : (s : System) (root : Root) (most : ℕ) (w : World) → IsReached most s root w → (h : ℕ) → h < w.count → (f : Frame) (below : List Frame) →
    (w.handlers h).stack ≡ f ∷ below → f.stage ≡ Runs → AsksAnother s w h f
asks_another s root most w reached h here f below at runs r x us t b p move =
    let top : rights.FrameFits s h w f f.stage = subst (rights.StackFits s h w) at (stack_fits s h w (reached_linked most s root w reached).sound here) in
    let run : rights.StepFits h f (moves s f.current (point_of f (w.handlers h).objects)) = subst (rights.FrameFits s h w f) runs top in
    let act : rights.StepFits h f (Does (Requests r x us t b) p) = subst (rights.StepFits h f) move run in
    λ same. act.0 (sym same)

pub reached_turns_move : (s : System) (root : Root) → IsFaultless s root → WellFormed s → (most : ℕ) (w : World) → IsReached most s root w → TurnsMoveRequests most s w
reached_turns_move s root faultless well most w reached h here =
    let p = purity_stands s in (
      subst (λ (b : Bool). FramesMove s w h (w.handlers h) ((if b then turn_with most s h (w.handlers h).failure (w.handlers h).stack w else w).handlers h)) (sym (lt-ltb h w.count here))
          (turn_moves most s h w here
          (λ f below lives at runs. (starting s root p.0 faultless well p.1 most w reached h here f below lives at runs, asks_another s root most w reached h here f below at runs))
          (w.handlers h).failure refl (w.handlers h).stack refl),
      kept.own_queue_shrinks most s root w reached h,
      λ k there other. kept.others_stay most s w h k there other,
    )
