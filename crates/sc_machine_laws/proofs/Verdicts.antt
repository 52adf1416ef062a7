-- Right after the turn in which a body starts, the clauses of its precondition hold.
use Rattle.std.proofs.Common.{ℕ, ◌≡◌, ◌<◌, inl, inr, Bool, true, false, List, ◌∷◌, None, refl, sym, ap, subst, ◌∙◌}
use Rattle.std.specs.Prelude.{◌⊎◌, ◌==◌, if◌then◌else◌, Contains}
use Rattle.std.proofs.lemmas.Bool.{eqb-true, lt-ltb}
use Rattle.sc_tree.specs.Plain.{System, Clause}
use Rattle.sc_class.specs.ClassNames.{Root}
use Rattle.sc_class.specs.Faults.ClassRules.{IsFaultless}
use Rattle.sc_rules.specs.Names.{RoutineName}
use Rattle.sc_rules.specs.Purity.{IsPurity}
use Rattle.sc_rules.specs.SystemRules.{WellFormed}
use Rattle.sc_rules.proofs.PurityStands.{purity_stands}
use Rattle.sc_model.specs.Clauses.{Holds}
use Rattle.sc_model.specs.Entries.{result_of}
use Rattle.sc_model.specs.Handlers.{Stage, Runs, Frame, World, point_of, frame_at}
use Rattle.sc_model.specs.Objects.{Object}
use Rattle.sc_model.specs.Runs.{IsReached}
use Rattle.sc_model.specs.Steps.{Point, Starts, Step, Does}
use Rattle.sc_model.specs.Turns.{goes_on, settles, turn, turn_with}
use Rattle.sc_machine_laws.specs.states.Fitting.{FrameFits}
use Rattle.sc_machine_laws.specs.states.Points.{Each}
use Rattle.sc_machine_laws.specs.states.Headline.{is_awaiting}
use Rattle.sc_machine_laws.specs.Evaluating.{EndsTrue, clause_point}
use Rattle.sc_machine_laws.proofs.TrueClauses.{ends_true_holds}
use Rattle.sc_machine_laws.proofs.Locally.{ends_true_locally}
use Rattle.sc_machine_laws.specs.settlements.Entries.{HasStarted}
use Rattle.sc_machine_laws.proofs.settlements.FrameLinks.{reached_fits}
use Rattle.sc_machine_laws.specs.RequestLaws.{NewIsIdle}
use Rattle.sc_machine_laws.proofs.states.Lists.{each_in}
use Rattle.sc_machine_laws.specs.Following.{AboveIsPure, FrameFollows, IsLost, Hold, InPrecondition, MayAsk, StackFollows, StandsByStage, bound_in, clause_of, objects_of}
use Rattle.sc_machine_laws.specs.Points.{ClauseMoves, ClauseSteps, started_point}
use Rattle.sc_machine_laws.specs.Starting.{BodiesStartWhereTheyHold, IsVerdict}
use Rattle.sc_machine_laws.specs.Turns.{OwnFollows, OthersFollow}
use Rattle.sc_machine_laws.proofs.ReachedFrames.{reached_follows}
use Rattle.sc_machine_laws.proofs.StartedRoutines.{starts_once}
use Rattle.sc_machine_laws.proofs.OwnMoves.{moved_in}

not_awaiting : (stage : Stage) → stage ≡ Runs → is_awaiting stage ≡ true → ⊥
not_awaiting stage e i = cc

-- ---- the turn

verdict_turn : (s : System) (most : ℕ) (w : World) (h : ℕ) (f : Frame) (below : List Frame) (p : Point) →
    IsVerdict s w h f below p →
    turn most s h w ≡ moved_in w h f below p
verdict_turn s most w h f below p v =
    ap (λ (b : Bool). if b then turn_with most s h (w.handlers h).failure (w.handlers h).stack w else w)
    (lt-ltb h w.count v.is_there)
    ∙ ap (λ why. turn_with most s h why (w.handlers h).stack w) v.lives
    ∙ ap (λ fs. turn_with most s h None fs w) v.stack_is
    ∙ ap (λ (x : Stage). goes_on most s h x f below w) v.runs
    ∙ ap (λ (x : Step). settles most s h x f below w) v.starts

module _ (w : World) (h : ℕ) (f : Frame) (below : List Frame) (p : Point)
    (same : p.objects ≡ (w.handlers h).objects) where
  -- no objects change
  objects_stay : (k : ℕ) → objects_of w k ≡ objects_of (moved_in w h f below p) k
  objects_stay k = by (k == h) refl
    where
      by : (b : Bool) → (k == h) ≡ b →
          objects_of w k ≡ (if b then record (w.handlers h) {
            objects = p.objects;
            stack = frame_at f p ∷ below;
          } else w.handlers k).objects
      by true e = ap (λ (j : ℕ). (w.handlers j).objects) (eqb-true k h e) ∙ sym same
      by false e = refl

-- ---- the clauses

module _ (clause_moves : ClauseMoves) (s : System) (root : Root) (pure : RoutineName → Bool)
    (faultless : IsFaultless s root)
    (well : WellFormed s) (tells : IsPurity s pure) (most : ℕ) (w : World) (reached : IsReached most s root w)
    (h : ℕ) (f : Frame) (below : List Frame) (p : Point) (v : IsVerdict s w h f below p) where
  abbrev at : Point
  at = point_of f (w.handlers h).objects

  -- the clauses hold over the objects of the state before the turn, which starts the body
  pub record HasStartedSo : Type 1 where
    pub asked : ℕ → Type 0
    pub hold : Hold s asked (objects_of w) f.current f.routine (bound_in f) f.routine.require
    pub point_is : p ≡ started_point (objects_of w) f.current f.routine (bound_in f)

  starts_so : (asked : List ℕ) → StandsByStage s pure w h asked None f f.stage → HasStartedSo
  starts_so asked stands =
      let c : ClauseSteps s pure (MayAsk h asked) (objects_of w) f.current f.routine (bound_in f) (Does Starts p) =
      subst (ClauseSteps s pure (MayAsk h asked) (objects_of w) f.current f.routine (bound_in f)) v.starts
      (clause_moves s root pure faultless well tells most w reached h f below
      (record { is_there = v.is_there; lives = v.lives; stack_is = v.stack_is; runs = v.runs })
      (MayAsk h asked) (bound_in f)
      (subst (StandsByStage s pure w h asked None f) v.runs stands)) in
      record { asked = MayAsk h asked; hold = c.0; point_is = c.2 }

  by_frame : FrameFollows s pure w h None f → HasStartedSo
  by_frame follows = by follows.in_precondition
    where
      by : HasStarted f.tasks ⊎ (IsLost w h f
          ⊎ (AboveIsPure pure None × InPrecondition s pure w h None f)) → HasStartedSo
      by (inl started) = absurd (starts_once s f.current at p started v.starts)
      by (inr (inl lost)) = absurd (not_awaiting f.stage v.runs lost.0)
      by (inr (inr i)) = starts_so i.1.asked i.1.stands

  each_holds : HasStartedSo → f.current.handler ≡ h → (k : Clause) → Contains f.routine.require k →
      Holds s (moved_in w h f below p) (frame_at f p) k
  each_holds so own k among =
      let O : ℕ → List Object = objects_of w in
      let y : World = moved_in w h f below p in
      let same : p.objects ≡ (w.handlers h).objects = ap (λ (q : Point). q.objects) so.point_is ∙ ap O own in
      let stay = objects_stay w h f below p same in
      let ends : EndsTrue s so.asked (objects_of y) f.current (clause_of O f.current f.routine (bound_in f) k) =
      ends_true_locally s so.asked O (objects_of y) (λ j m. stay j) f.current
      (clause_of O f.current f.routine (bound_in f) k)
      (each_in (λ (k : Clause). EndsTrue s so.asked O f.current (clause_of O f.current f.routine (bound_in f) k))
      f.routine.require k so.hold among) in
      ends_true_holds s y (frame_at f p) k so.asked (ap (λ (q : Point). q.olds) so.point_is)
      (subst (λ (q : Point). EndsTrue s so.asked (objects_of y) f.current
      (clause_point (objects_of y f.current.handler) f.routine.contract q.environment q.result k))
      (sym so.point_is)
      (subst (λ (os : List Object). EndsTrue s so.asked (objects_of y) f.current
      (clause_point os f.routine.contract (bound_in f) (result_of f.routine.text.result) k))
      (stay f.current.handler) ends))

-- ---- in each state that is reached

-- a frame lies on its handler
is_own : (s : System) (root : Root) (pure : RoutineName → Bool) → IsFaultless s root → WellFormed s → IsPurity s pure →
    (most : ℕ) (w : World) →
    IsReached most s root w → (h : ℕ) (f : Frame) (below : List Frame) → h < w.count →
    (w.handlers h).stack ≡ f ∷ below → f.current.handler ≡ h
is_own s root pure faultless well tells most w reached h f below here stack =
    (subst (Each (FrameFits s pure w h)) stack
    (reached_fits s root pure faultless well tells most w reached h here).frames_fit).0.is_own

pub bodies_start : (clause_moves : ClauseMoves) → OwnFollows → OthersFollow → NewIsIdle → BodiesStartWhereTheyHold
bodies_start clause_moves own others new_is_idle s root faultless well most w reached h f below p v k among =
    by (purity_stands s)
  where
    by : (pure : RoutineName → Bool) × IsPurity s pure → Holds s (turn most s h w) (frame_at f p) k
    by (pure, tells) =
        let follows : StackFollows s pure w h None (f ∷ below) = subst (StackFollows s pure w h None) v.stack_is
        (reached_follows own others new_is_idle s root pure faultless well tells most w reached h v.is_there v.lives) in
        subst (λ (y : World). Holds s y (frame_at f p) k) (sym (verdict_turn s most w h f below p v))
        (each_holds clause_moves s root pure faultless well tells most w reached h f below p v
        (by_frame clause_moves s root pure faultless well tells most w reached h f below p v follows.0)
        (is_own s root pure faultless well tells most w reached h f below v.is_there v.stack_is) k among)
