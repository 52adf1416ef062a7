-- What the topmost frame of a handler that evaluates leaves of its stack, whether it runs a pure function or stands in
-- its precondition.
use Rattle.std.proofs.Common.{ℕ, ◌≡◌, ◌≢◌, ◌⊎◌, Bool, true, false, List, [], ◌∷◌, Option, Some, None, refl, sym, ap, subst, ◌∙◌, inl, inr}
use Rattle.std.specs.Prelude.{if◌then◌else◌, Contains, length, nat_lt, take}
use Rattle.sc_tree.specs.Plain.{System}
use Rattle.sc_class.specs.ClassNames.{Root}
use Rattle.sc_class.specs.Faults.ClassRules.{IsFaultless}
use Rattle.sc_rules.specs.declared.entity_types.entity_type.EntityType.{EntityType}
use Rattle.sc_rules.specs.Names.{RoutineName}
use Rattle.sc_rules.specs.Purity.{IsPurity}
use Rattle.sc_rules.specs.SystemRules.{WellFormed}
use Rattle.sc_model.specs.declared.cause.Cause.{Cause}
use Rattle.sc_model.specs.declared.cause.Cause.TheVariants as cause
use Rattle.sc_model.specs.Limits.{max_frames}
use Rattle.sc_model.specs.Values.{Reference, Operand, values_of}
use Rattle.sc_model.specs.Environments.{Binding, formals_bound}
use Rattle.sc_model.specs.Objects.{Object}
use Rattle.sc_model.specs.Routines.{Routine, routine_named}
use Rattle.sc_model.specs.Steps.{Calling, Act, Enters, Step, Does, Point}
use Rattle.sc_model.specs.Moves.{moves}
use Rattle.sc_model.specs.Handlers.{Request, Called, Stage, InCall, Frame, Handler, World, point_of, frame_at, put, with_stack}
use Rattle.sc_model.specs.Failures.{fails_with}
use Rattle.sc_model.specs.Entries.{entry, enters_bound, enters}
use Rattle.sc_model.specs.Runs.{IsReached}
use Rattle.sc_machine_laws.specs.states.Headline.{is_awaiting}
use Rattle.sc_machine_laws.proofs.states.links.Looks.{m_put-own}
use Rattle.sc_machine_laws.specs.settlements.Clauses.{RunsPure}
use Rattle.sc_machine_laws.specs.settlements.Entries.{HasStarted, RefusesNone}
use Rattle.sc_machine_laws.proofs.settlements.CalmSteps.{moves_calm}
use Rattle.sc_machine_laws.specs.Following.{objects_of, MayAsk, bound_in, ClauseDone, IsFor, IsQuiet, IsCalledPure, IsLost, AboveIsPure, StandsByStage, InPrecondition, FrameFollows, StackFollows}
use Rattle.sc_machine_laws.specs.Points.{ClauseSteps, ClauseMoves, GoesOn}
use Rattle.sc_machine_laws.proofs.PointsEntries.{takes_bound}
use Rattle.sc_machine_laws.proofs.OwnWorlds.{IsSame, same_put, stack_again, stack_once}
use Rattle.sc_machine_laws.proofs.OwnKept.{not_awaited}
use Rattle.sc_machine_laws.proofs.OwnPlain.{fails_good}
use Rattle.sc_machine_laws.proofs.OwnCalm.{IsCalm, IsEntry}
use Rattle.sc_machine_laws.proofs.OwnEntries.{runs_pure}

-- ---- what is left

module _ (s : System) (pure : RoutineName → Bool) (h : ℕ) where
  -- The frames follow, or none evaluates but one that is entered.
  abbrev pub Follow : World → Type 0
  Follow v = StackFollows s pure v h None (v.handlers h).stack
      ⊎ IsCalm s pure (v.handlers h).answer (v.handlers h).stack

  pub either_follow : (b : Bool) (x y : World) → Follow x → Follow y → Follow (if b then x else y)
  either_follow true x y t u = t
  either_follow false x y t u = u

  pub fails_follow : (why : Cause) (taken : List Request) (v : World) → Follow (fails_with h why taken v)
  fails_follow why taken v = inr (fails_good s pure h why taken v)

  pub stack_follows : (st : List Frame) (w : World) → StackFollows s pure (with_stack h st w) h None st →
      Follow (with_stack h st w)
  stack_follows st w z =
      inl (subst (λ (x : Handler). StackFollows s pure (with_stack h st w) h None x.stack)
      (sym (m_put-own h (record (w.handlers h) { stack = st }) w)) z)

-- another stack of the handler changes nothing that frames rest on
pub same_stack : (h : ℕ) (st : List Frame) (w : World) → IsSame h w (with_stack h st w)
same_stack h st w = same_put h (record (w.handlers h) { stack = st }) w refl (λ n. n)

-- ---- before the move

module _ (s : System) (pure : RoutineName → Bool) (w : World) (h : ℕ) (f : Frame) where
  -- It has started, or stands in its precondition, where it has asked these.
  abbrev pub Before : Step → Type 0
  Before st = RefusesNone st
      ⊎ ((asked : List ℕ) × ((k : ℕ) → Contains asked k → (k ≢ h) × IsQuiet w h k) × (f.environment ≡ bound_in f)
      × ClauseSteps s pure (MayAsk h asked) (objects_of w) f.current f.routine (bound_in f) st)

  abbrev pub Ahead : Step
  Ahead = moves s f.current (point_of f (w.handlers h).objects)

module _ (s : System) (root : Root) (pure : RoutineName → Bool) (faultless : IsFaultless s root) (well : WellFormed s)
    (tells : IsPurity s pure) (most : ℕ) where
  pub stands_before : ClauseMoves → (w : World) → IsReached most s root w → (h : ℕ) (f : Frame) (below : List Frame) →
      GoesOn w h f below →
      FrameFollows s pure w h None f → Before s pure w h f (Ahead s pure w h f)
  stands_before moved w reached h f below g z = by z.in_precondition
    where
      running : is_awaiting f.stage ≡ false
      running = ap is_awaiting g.runs

      lost : is_awaiting f.stage ≡ true → ⊥
      lost e = let both : true ≡ false = sym e ∙ running in cc

      by : HasStarted f.tasks ⊎ (IsLost w h f ⊎ (AboveIsPure pure None × InPrecondition s pure w h None f)) →
          Before s pure w h f (Ahead s pure w h f)
      by (inl i) = inl (moves_calm s f.current (point_of f (w.handlers h).objects) i)
      by (inr (inl i)) = absurd (lost i.0)
      by (inr (inr (p, i))) = inr (
        i.asked,
        (λ k c. let q = i.quiet k c in (q.0, not_awaited f.stage k (IsQuiet w h k) running q.1)),
        i.environment_is,
        moved s root pure faultless well tells most w reached h f below g (MayAsk h i.asked) (bound_in f)
            (subst (λ (st : Stage). StandsByStage s pure w h i.asked None f st) g.runs i.stands),
      )

-- ---- a routine of the own handler is entered

-- the frame at the point, in this stage
abbrev pub at_stage : Frame → Point → Stage → Frame
at_stage f p g = record (frame_at f p) { stage = g }

-- the world in which the frame has moved to the point
abbrev pub moved_in : World → ℕ → Frame → List Frame → Point → World
moved_in w h f below p = put h (record (w.handlers h) { objects = p.objects; stack = frame_at f p ∷ below }) w

module _ (s : System) (pure : RoutineName → Bool) (w : World) (h : ℕ) (f : Frame) (below : List Frame) (p : Point)
    (same : p.objects ≡ (w.handlers h).objects) where
  abbrev Moved : World
  Moved = moved_in w h f below p

  pub moved_stack : (st : List Frame) → with_stack h st Moved ≡ with_stack h st w
  moved_stack st = stack_again h p.objects (frame_at f p ∷ below) st w same

  pub moved_alone : Moved ≡ with_stack h (frame_at f p ∷ below) w
  moved_alone = stack_once h p.objects (frame_at f p ∷ below) w same

  pub enters_follow : (o : Reference) (x : List ℕ) (c : Calling) (us : List Operand) (gives : Option EntityType) →
      ((r : Routine) (bs : List Binding) → routine_named s o.class x ≡ Some r →
      formals_bound s r.text.formals 0 r.text.formals (values_of us) ≡ Some bs →
      StackFollows s pure (with_stack h (entry o r (Called c) bs ∷ at_stage f p (InCall gives) ∷ below) w) h None
      (entry o r (Called c) bs ∷ at_stage f p (InCall gives) ∷ below)) →
      Follow s pure h (enters s h o (routine_named s o.class x) (Called c) (at_stage f p (InCall gives) ∷ below) []
      (values_of us) Moved)
  enters_follow o x c us gives follow = by (routine_named s o.class x) refl
    where
      bound : (r : Routine) → routine_named s o.class x ≡ Some r → (b : Option (List Binding)) →
          formals_bound s r.text.formals 0 r.text.formals (values_of us) ≡ b →
          Follow s pure h (enters_bound h o r (Called c) (at_stage f p (InCall gives) ∷ below) [] b Moved)
      bound r e None i = fails_follow s pure h cause.BadCode [] Moved
      bound r e (Some bs) i = either_follow s pure h (nat_lt (length (at_stage f p (InCall gives) ∷ below)) max_frames)
          (with_stack h (entry o r (Called c) bs ∷ at_stage f p (InCall gives) ∷ below) Moved)
          (fails_with h cause.StackFull [] Moved)
          (subst (Follow s pure h) (sym (moved_stack (entry o r (Called c) bs ∷ at_stage f p (InCall gives) ∷ below)))
          (stack_follows s pure h (entry o r (Called c) bs ∷ at_stage f p (InCall gives) ∷ below) w (follow r bs e i)))
          (fails_follow s pure h cause.StackFull [] Moved)

      by : (r : Option Routine) → routine_named s o.class x ≡ r →
          Follow s pure h (enters s h o r (Called c) (at_stage f p (InCall gives) ∷ below) [] (values_of us) Moved)
      by None e = fails_follow s pure h cause.BadCode [] Moved
      by (Some r) e = bound r e (formals_bound s r.text.formals 0 r.text.formals (values_of us)) refl

  -- the frame that is entered is for this call
  pub entry_for : (o : Reference) (x : List ℕ) (c : Calling) (us : List Operand) (r : Routine) (bs : List Binding) →
      routine_named s o.class x ≡ Some r →
      formals_bound s r.text.formals 0 r.text.formals (values_of us) ≡ Some bs →
      IsFor s o x (values_of us) (entry o r (Called c) bs)
  entry_for o x c us r bs e i = record {
    current_is = refl;
    routine_is = e;
    bound_is = i ∙ ap (λ (cs : List Binding). Some cs) (sym (takes_bound s r bs (values_of us, i)));
  }

  pub entry_pure : (o : Reference) (x : List ℕ) (c : Calling) (r : Routine) (bs : List Binding) →
      routine_named s o.class x ≡ Some r → RunsPure s pure o x →
      IsCalledPure pure (entry o r (Called c) bs)
  entry_pure o x c r bs e runs = (refl, runs_pure s pure o x r runs e)

  pub entered_so : (o : Reference) (x : List ℕ) (c : Calling) (us : List Operand) (r : Routine) (bs : List Binding) →
      routine_named s o.class x ≡ Some r →
      formals_bound s r.text.formals 0 r.text.formals (values_of us) ≡ Some bs → IsEntry s (entry o r (Called c) bs)
  entered_so o x c us r bs e i = record {
    current = o;
    routine = r;
    origin = Called c;
    bindings = bs;
    name = x;
    is_named = e;
    are_bound = (values_of us, i);
    frame_is = refl;
  }

  -- ---- in its precondition

  -- it stands there again, in the world with another stack
  module _ (st : List Frame) (own : f.current.handler ≡ h) where
    abbrev U : World
    U = with_stack h st w

    pub point_there : (z : Stage) → point_of (at_stage f p z) (U.handlers h).objects ≡ p
    point_there z = ap (λ (os : List Object). record p { objects = os })
        (ap (λ (x : Handler). x.objects) (m_put-own h (record (w.handlers h) { stack = st }) w) ∙ sym same)

    pub bound_there : p.environment ≡ bound_in f → f.environment ≡ bound_in f → (z : Stage) →
        bound_in (at_stage f p z) ≡ bound_in f
    bound_there e i z = ap (λ (bs : List Binding). take (length f.routine.text.formals) bs) (e ∙ sym i)

    pub done_there : (M : ℕ → Type 0) (a : Act) (z : Stage) → p.environment ≡ bound_in f → f.environment ≡ bound_in f →
        ClauseDone s M (objects_of w) f.current f.routine (bound_in f) a p →
        ClauseDone s M (objects_of U) f.current f.routine (bound_in (at_stage f p z)) a
        (point_of (at_stage f p z) (U.handlers h).objects)
    done_there M a z e i d = subst (ClauseDone s M (objects_of U) f.current f.routine (bound_in (at_stage f p z)) a)
        (sym (point_there z))
        (subst (λ (bs : List Binding). ClauseDone s M (objects_of U) f.current f.routine bs a p)
        (sym (bound_there e i z))
        (subst (λ (O : ℕ → List Object). ClauseDone s M O f.current f.routine (bound_in f) a p)
        (sym (same_stack h st w).objects_are) d))

    pub calls_there : (above : Frame) (o : Reference) (x : List ℕ) (c : Calling) (us : List Operand)
        (gives : Option EntityType) → IsCalledPure pure above →
        IsFor s o x (values_of us) above → Before s pure w h f (Does (Enters c o x us gives) p) →
        HasStarted p.tasks ⊎ (IsLost U h (at_stage f p (InCall gives))
        ⊎ (AboveIsPure pure (Some above) × InPrecondition s pure U h (Some above) (at_stage f p (InCall gives))))
    calls_there above o x c us gives is for (inl i) = inl i
    calls_there above o x c us gives is for (inr (asked, quiet, env, (t, e, at, runs, done, there))) = inr (inr (
      is,
      record {
        asked = asked;
        quiet = λ k i. let q = quiet k i in (q.0, inl ((same_stack h st w).quiet k q.0 q.1));
        environment_is = there.environment_is ∙ sym (bound_there there.environment_is env (InCall gives));
        stands = subst (λ (g : Option EntityType). StandsByStage s pure U h asked (Some above)
            (at_stage f p (InCall gives)) (InCall g)) (sym e) (
              c,
              o,
              x,
              us,
              done_there (MayAsk h asked) (Enters c o x us (Some t))
                  (InCall gives) there.environment_is env done,
              at ∙ own,
              for,
            );
      },
    ))
