-- What a turn makes of the topmost frame of a state that is reached, beside the evaluation by the definition.
use Rattle.std.proofs.Common.{ℕ, ◌≡◌, Bool, true, List, [], ◌∷◌, ◌++◌, refl, sym, ap, subst, ◌∙◌, inl, inr}
use Rattle.sc_tree.specs.Plain.{System}
use Rattle.sc_class.specs.ClassNames.{Root}
use Rattle.sc_class.specs.Faults.ClassRules.{IsFaultless}
use Rattle.sc_rules.specs.declared.entity_types.entity_type.EntityType.{EntityType}
use Rattle.sc_rules.specs.Names.{RoutineName, formals_known}
use Rattle.sc_rules.specs.Purity.{IsPurity}
use Rattle.sc_rules.specs.SystemRules.{WellFormed}
use Rattle.sc_model.specs.Environments.{Binding}
use Rattle.sc_model.specs.Handlers.{Frame, Stage, World, point_of}
use Rattle.sc_model.specs.Objects.{Object}
use Rattle.sc_model.specs.Routines.{Routine}
use Rattle.sc_model.specs.Runs.{IsReached}
use Rattle.sc_model.specs.Steps.{Point}
use Rattle.sc_model.specs.Tasks.{Task, Required}
use Rattle.sc_model.specs.Values.{Reference}
use Rattle.sc_machine_laws.specs.states.Fitting.{FrameFits, WorldFits, coming_to}
use Rattle.sc_machine_laws.specs.states.Points.{Each, PointFits}
use Rattle.sc_machine_laws.specs.states.ValueSteps.{IsThereIfOwn, StandsSo, ValuesDo}
use Rattle.sc_machine_laws.proofs.states.Frames.{store_fits, values_there}
use Rattle.sc_machine_laws.specs.settlements.Calm.{name_of}
use Rattle.sc_machine_laws.specs.settlements.Clauses.{HasStartedOrStands, StandsInClauses}
use Rattle.sc_machine_laws.specs.settlements.Entries.{HasStarted}
use Rattle.sc_machine_laws.proofs.settlements.FrameLinks.{reached_fits}
use Rattle.sc_machine_laws.proofs.settlements.Purely.{each_pure_is_calm}
use Rattle.sc_machine_laws.proofs.settlements.Unstarted.{each_stands}
use Rattle.sc_machine_laws.proofs.Modes.{RunsPure, StandsAs}
use Rattle.sc_machine_laws.proofs.Stacks.{Stands}
use Rattle.sc_machine_laws.proofs.ReachedStates.{reached_good}
use Rattle.sc_machine_laws.proofs.Bodies.{texts_are_without_old}
use Rattle.sc_machine_laws.proofs.Contracts.{step_of_contract}
use Rattle.sc_machine_laws.proofs.Extensions.{step_extends}
use Rattle.sc_machine_laws.proofs.WithoutOld.{step_keeps_no_old}
use Rattle.sc_machine_laws.proofs.WithoutTests.{texts_are_without_tests}
use Rattle.sc_machine_laws.specs.Following.{ClausesAt, behind_clause, between_point, bound_in, objects_of}
use Rattle.sc_machine_laws.specs.Following as at
use Rattle.sc_machine_laws.specs.Points.{ClauseMoves, EntryFollows, GoesOn, PureMoves}
use Rattle.sc_machine_laws.proofs.PointsClauses.{clauses_move}
use Rattle.sc_machine_laws.proofs.PointsEntries as entries
use Rattle.sc_machine_laws.proofs.PointsPure.{functions_move}
use Rattle.sc_machine_laws.proofs.Lists.{false_is_true}

-- ---- a routine that has started stands in no clause

started_behind : (xs ys : List Task) → HasStarted (xs ++ ys) → HasStarted ys
started_behind [] ys is = is
started_behind (x ∷ xs) ys is = started_behind xs ys is.1

pub not_started : (s : System) (M : ℕ → Type 0) (O : ℕ → List Object) (me : Reference) (r : Routine) (bs : List Binding)
    (p : Point) → ClausesAt s M O me r bs p →
    HasStarted p.tasks → ⊥
not_started s M O me r bs p (at.between done ks e holds i) is =
    false_is_true (sym (subst (λ (p : Point). HasStarted p.tasks) i is).0)
not_started s M O me r bs p (at.inside done ks k e holds none a) is =
    false_is_true (sym (started_behind a.at.tasks (Required k ∷ behind_clause r ks)
    (subst (λ (p : Point). HasStarted p.tasks) a.stands is)).0)

-- ---- how routines stand in their runs

module _ (s : System) (root : Root) (pure : RoutineName → Bool) (faultless : IsFaultless s root) (well : WellFormed s)
    (tells : IsPurity s pure) (most : ℕ) where
  -- ---- the topmost frame

  module _ (w : World) (reached : IsReached most s root w) (h : ℕ) (f : Frame) (below : List Frame)
      (g : GoesOn w h f below) where
    abbrev Here : Point
    Here = point_of f (w.handlers h).objects

    fits : WorldFits s pure w
    fits = reached_fits s root pure faultless well tells most w reached

    frame : FrameFits s pure w h f
    frame = (subst (Each (FrameFits s pure w h)) g.stack_is (fits h g.is_there).frames_fit).0

    stands_so : StandsSo s pure f.routine f.current [] Here
    stands_so = (
      subst (λ k. PointFits s pure f.routine k [] Here) (sym frame.is_own)
          (subst (λ g. PointFits s pure f.routine h (coming_to g) Here) g.runs frame.point_fits),
      store_fits s pure w h f frame (fits h g.is_there).objects_fit,
    )

    values_do : ValuesDo (IsThereIfOwn f.current.handler (w.handlers h).objects) Here
    values_do = subst (λ k. ValuesDo (IsThereIfOwn k (w.handlers h).objects) Here) (sym frame.is_own)
        (values_there s pure w h f frame (fits h g.is_there).objects_fit)

    abbrev InClauses : List EntityType → Point → Type 0
    InClauses coming p = StandsInClauses s pure f.routine.contract (formals_known s f.routine.text.formals) coming p

    -- it stands in its clauses
    in_clauses : (HasStarted f.tasks → ⊥) → InClauses [] Here
    in_clauses not = by (subst (Each (HasStartedOrStands s pure)) g.stack_is
        (each_stands s root pure faultless well tells most w reached h g.is_there)).0
      where
        by : HasStartedOrStands s pure f → InClauses [] Here
        by (inl is) = absurd (not is)
        by (inr z) =
            let y = subst (λ (st : Stage). InClauses (coming_to st) (point_of f [])) g.runs z in
            record { types = y.types; text_is = y.text_is; names_are = y.names_are; left = y.left; values = y.values }

    -- what is left of it calls what is pure
    left_pure : pure (name_of f.routine) ≡ true → RunsPure s pure f.text.class f.tasks
    left_pure is = by (subst (Each (Stands s pure)) g.stack_is
        (reached_good s root pure faultless well tells most w reached h g.lives).stand).0
      where
        by : StandsAs s pure f.routine f.text.class f.tasks → RunsPure s pure f.text.class f.tasks
        by (inl l) = l.1
        by (inr l) = false_is_true (sym l.0 ∙ is)

pub clause_moves : ClauseMoves
clause_moves s root pure faultless well tells most w reached h f below g M bs a =
    clauses_move step_extends step_keeps_no_old step_of_contract texts_are_without_old texts_are_without_tests s root pure faultless
    well tells f.routine f.current
    (frame s root pure faultless well tells most w reached h f below g).is_version
    (formals_known s f.routine.text.formals) M (objects_of w) bs
    (point_of f (w.handlers h).objects) a (stands_so s root pure faultless well tells most w reached h f below g)
    (values_do s root pure faultless well tells most w reached h f below g)
    (in_clauses s root pure faultless well tells most w reached h f below g
    (not_started s M (objects_of w) f.current f.routine bs (point_of f (w.handlers h).objects) a))

pub pure_moves : PureMoves
pure_moves s root pure faultless well tells most w reached h f below g is bound a =
    functions_move step_extends step_keeps_no_old step_of_contract texts_are_without_old texts_are_without_tests s root pure faultless
    well tells f.routine f.current
    (frame s root pure faultless well tells most w reached h f below g).is_version is (objects_of w) (bound_in f) bound
    (point_of f (w.handlers h).objects) a
    (ap (objects_of w) (sym (frame s root pure faultless well tells most w reached h f below g).is_own)) refl
    (stands_so s root pure faultless well tells most w reached h f below g)
    (values_do s root pure faultless well tells most w reached h f below g)
    (left_pure s root pure faultless well tells most w reached h f below g is)
    (each_pure_is_calm s root pure faultless well tells most w reached h g.is_there f below g.stack_is g.runs is)

pub entry_follows : EntryFollows
entry_follows = entries.entry_follows texts_are_without_tests
