-- The turn of a handler whose topmost frame runs a function that contracts may call.
use Rattle.std.proofs.Common.{ℕ, ◌≡◌, ◌⊎◌, ◌||◌, Bool, true, false, List, [], ◌∷◌, Option, Some, None, refl, sym, ap, subst, ◌∙◌, inl, inr}
use Rattle.std.specs.Prelude.{if◌then◌else◌}
use Rattle.std.specs.Option.{option_map}
use Rattle.sc_tree.specs.Plain.{System, Clause}
use Rattle.sc_class.specs.ClassNames.{Root}
use Rattle.sc_class.specs.Faults.ClassRules.{IsFaultless}
use Rattle.sc_rules.specs.declared.entity_types.entity_type.EntityType.{EntityType}
use Rattle.sc_rules.specs.Names.{RoutineName}
use Rattle.sc_rules.specs.Purity.{IsPurity}
use Rattle.sc_rules.specs.SystemRules.{WellFormed}
use Rattle.sc_lockpass.specs.declared.wait_conditions.condition.EntryVerdict.{EntryVerdict}
use Rattle.sc_lockpass.specs.declared.wait_conditions.condition.EntryVerdict.TheVariants as verdict
use Rattle.sc_lockpass.specs.declared.wait_conditions.session.Release.TheVariants as release_at
use Rattle.sc_model.specs.declared.cause.Cause.TheVariants as cause
use Rattle.sc_model.specs.Values.{Reference, Value, Operand, operand, values_of}
use Rattle.sc_model.specs.Environments.{Binding, formals_bound}
use Rattle.sc_model.specs.Objects.{Object, object_numbered}
use Rattle.sc_model.specs.Routines.{Routine, routine_named}
use Rattle.sc_model.specs.Steps.{Calling, Act, Prints, Until, Creates, CreatesHandler, Enters, Requests, Starts, Refuses, Opens, Leaves, Exits, Fails, Step, Goes, Does, Point}
use Rattle.sc_model.specs.Moves.{moves}
use Rattle.sc_model.specs.Handlers.{Request, Reply, Origin, Called, Requested, Stage, Runs, InCall, Frame, Handler, World, point_of, frame_at, with_stack}
use Rattle.sc_model.specs.Sessions.{release}
use Rattle.sc_model.specs.Failures.{fail}
use Rattle.sc_model.specs.Entries.{entry}
use Rattle.sc_model.specs.Preconditions.{object_meets, verdict_on, correctness_fails, false_clause}
use Rattle.sc_model.specs.Exits.{is_unset_value, is_unset, is_untested, handed_at, handed, leaves_to, exits}
use Rattle.sc_model.specs.Turns.{effect, settles}
use Rattle.sc_model.specs.Runs.{IsReached}
use Rattle.sc_machine_laws.specs.states.Headline.{is_awaiting}
use Rattle.sc_machine_laws.proofs.states.links.Looks.{m_put-own}
use Rattle.sc_machine_laws.specs.states.Fitting.{FrameFits, Linked}
use Rattle.sc_machine_laws.specs.states.Points.{Each}
use Rattle.sc_machine_laws.specs.settlements.Calm.{name_of}
use Rattle.sc_machine_laws.specs.settlements.Entries.{HasStarted}
use Rattle.sc_machine_laws.proofs.settlements.GuardedSteps.{pure_waits_not}
use Rattle.sc_machine_laws.specs.Evaluating.{Answers}
use Rattle.sc_machine_laws.specs.ClauseLaws.{AnswersMore, TextsAreWithoutTests}
use Rattle.sc_machine_laws.specs.Following.{objects_of, MayAsk, Own, AreBound, bound_in, PureAt, PureCalls, ClausesAt, IsFor, AboveIsFor, FollowsPure, IsLost, AboveIsPure, StandsByStage, InPrecondition, FrameFollows, StackFollows}
use Rattle.sc_machine_laws.specs.Points.{ClauseMoves, GoesOn, KeepsActuals, HasRun, IsThisCall, PureActs, PureSteps, PureMoves}
use Rattle.sc_machine_laws.proofs.PointsEntries.{clause_goes_on, pure_calls_more, pure_goes_on, pure_answers}
use Rattle.sc_machine_laws.proofs.OwnWorlds.{IsNoReply, none_released}
use Rattle.sc_machine_laws.proofs.OwnKept.{IsAlike, AllPlain, below_kept, not_awaited, plain_below, plain_kept}
use Rattle.sc_machine_laws.proofs.OwnPlain.{finish_good, release_good, stack_good, refuses_good}
use Rattle.sc_machine_laws.proofs.OwnCalm.{plain}
use Rattle.sc_machine_laws.proofs.OwnEntries.{entry_follows_there}
use Rattle.sc_machine_laws.proofs.OwnMoves.{Follow, Before, moved_in, at_stage, either_follow, fails_follow, stack_follows, same_stack, stands_before, moved_stack, moved_alone, enters_follow, entry_for, entry_pure, entered_so, calls_there}
use Rattle.sc_machine_laws.proofs.OwnCalled.{not_requested, in_call, started}

module _ (without_tests : TextsAreWithoutTests) (clauses_moved : ClauseMoves) (pures_moved : PureMoves)
    (answers_more : AnswersMore)
    (s : System) (root : Root) (pure : RoutineName → Bool) (faultless : IsFaultless s root) (well : WellFormed s)
    (tells : IsPurity s pure) (most : ℕ)
    (w : World) (reached : IsReached most s root w) (h : ℕ) (f : Frame) (below : List Frame) (goes : GoesOn w h f below)
    (z : FrameFollows s pure w h None f)
    (y : StackFollows s pure w h (Some f) below) (fits : Each (FrameFits s pure w h) (f ∷ below))
    (linked : Linked s h (f ∷ below))
    (is : pure (name_of f.routine) ≡ true) where
  abbrev O : ℕ → List Object
  O = objects_of w

  abbrev Keeps : Point → Type 0
  Keeps p = KeepsActuals O f.current f.routine (bound_in f) p

  own : f.current.handler ≡ h
  own = fits.0.is_own

  objects_same : (p : Point) → Keeps p → p.objects ≡ (w.handlers h).objects
  objects_same p k = k.objects_are ∙ ap O own

  -- ---- the frame at the point follows, in the world with another stack

  module _ (p : Point) (keeps : Keeps p) (st : List Frame) (g : Stage) where
    abbrev U : World
    U = with_stack h st w

    abbrev F : Frame
    F = at_stage f p g

    alike : IsAlike f F
    alike = record { current_is = refl; routine_is = refl; origin_is = refl; bound_is = keeps.bound_are }

    there : (P : (ℕ → List Object) → List Binding → Point → Type 0) → P O (bound_in f) p →
        P (objects_of U) (bound_in F) (point_of F (objects_of U f.current.handler))
    there P i = subst (P (objects_of U) (bound_in F)) (sym point_is)
        (subst (λ (bs : List Binding). P (objects_of U) bs p) (sym keeps.bound_are)
        (subst (λ (N : ℕ → List Object). P N (bound_in f) p) (sym (same_stack h st w).objects_are) i))
      where
        point_is : point_of F (objects_of U f.current.handler) ≡ p
        point_is = ap (λ (os : List Object). record p { objects = os })
            (ap (λ (N : ℕ → List Object). N f.current.handler) (same_stack h st w).objects_are ∙ sym keeps.objects_are)

    frame_follows : (above : Option Frame) →
        HasStarted p.tasks ⊎ (IsLost U h F ⊎ (AboveIsPure pure above × InPrecondition s pure U h above F)) →
        AboveIsPure pure above × FollowsPure s (objects_of U) above F g →
        FrameFollows s pure U h above F
    frame_follows above i j = record {
      in_precondition = i;
      in_pure = λ e. j;
      is_bound = λ e. subst (AreBound s f.routine) (sym keeps.bound_are) (z.is_bound e);
      reserves_nothing = z.reserves_nothing;
    }

  -- ---- it goes on

  runs_on : (p : Point) (keeps : Keeps p) → PureAt s O f.current f.routine (bound_in f) p → HasStarted p.tasks →
      Follow s pure h (moved_in w h f below p)
  runs_on p keeps i j = subst (Follow s pure h) (sym (moved_alone s pure w h f below p (objects_same p keeps)))
      (subst (λ (g : Stage). Follow s pure h (with_stack h (at_stage f p g ∷ below) w)) (sym goes.runs)
      (stack_follows s pure h (at_stage f p Runs ∷ below) w (
        frame_follows p keeps (at_stage f p Runs ∷ below) Runs None (inl j)
            (tt, there p keeps (at_stage f p Runs ∷ below) Runs (λ N bs q. PureAt s N f.current f.routine bs q) i),
        below_kept s pure h w (with_stack h (at_stage f p Runs ∷ below) w)
            (same_stack h (at_stage f p Runs ∷ below) w) f (at_stage f p Runs) below
            (alike p keeps (at_stage f p Runs ∷ below) Runs) y,
      )))

  -- ---- it calls

  calls_on : (c : Calling) (o : Reference) (x : List ℕ) (us : List Operand) (gives : Option EntityType) (p : Point) →
      PureActs s pure O f.current f.routine (bound_in f) (Enters c o x us gives) p →
      Before s pure w h f (Does (Enters c o x us gives) p) → (same : p.objects ≡ (w.handlers h).objects) →
      Follow s pure h (effect most s h (Enters c o x us gives) (frame_at f p) below (moved_in w h f below p))
  calls_on c o x us gives p (t, e, at, runs, calls, keeps) b same =
      enters_follow s pure w h f below p same o x c us gives (λ r bs i j. (
        entry_follows_there without_tests s root pure faultless well tells (Now r bs) h (entry o r (Called c) bs) (at ∙ own)
            (entered_so s pure w h f below p same o x c us r bs i j),
        (
          frame_follows p keeps (New r bs) (InCall gives) (Some (entry o r (Called c) bs))
              (calls_there s pure w h f below p same (New r bs) own (entry o r (Called c) bs) o x c us gives
              (entry_pure s pure w h f below p same o x c r bs i runs)
              (entry_for s pure w h f below p same o x c us r bs i j) b)
              (entry_pure s pure w h f below p same o x c r bs i runs, pure_calls r bs i j),
          below_kept s pure h w (Now r bs) (same_stack h (New r bs) w) f (at_stage f p (InCall gives)) below
              (alike p keeps (New r bs) (InCall gives)) y,
        ),
      ))
    where
      New : Routine → List Binding → List Frame
      New r bs = entry o r (Called c) bs ∷ at_stage f p (InCall gives) ∷ below

      Now : Routine → List Binding → World
      Now r bs = with_stack h (New r bs) w

      this_one : (r : Routine) (bs : List Binding) → IsFor s o x (values_of us) (entry o r (Called c) bs) →
          (k : Reference) (l : List ℕ) (vs : List Operand) →
          IsThisCall o x us k l vs → IsFor s k l (values_of vs) (entry o r (Called c) bs)
      this_one r bs i k l vs j =
          subst (λ (k : Reference). IsFor s k l (values_of vs) (entry o r (Called c) bs)) (sym j.0)
          (subst (λ (l : List ℕ). IsFor s o l (values_of vs) (entry o r (Called c) bs)) (sym j.1)
          (subst (λ (vs : List Operand). IsFor s o x (values_of vs) (entry o r (Called c) bs)) (sym j.2) i))

      pure_calls : (r : Routine) (bs : List Binding) → routine_named s o.class x ≡ Some r →
          formals_bound s r.text.formals 0 r.text.formals (values_of us) ≡ Some bs →
          FollowsPure s (objects_of (Now r bs)) (Some (entry o r (Called c) bs)) (at_stage f p (InCall gives))
          (InCall gives)
      pure_calls r bs i j =
          subst (λ (g : Option EntityType). FollowsPure s (objects_of (Now r bs)) (Some (entry o r (Called c) bs))
          (at_stage f p (InCall gives)) (InCall g)) (sym e)
          (there p keeps (New r bs) (InCall gives)
          (λ N cs q. PureCalls s N f.current f.routine cs t (AboveIsFor s (Some (entry o r (Called c) bs))) q)
          (pure_calls_more s O f.current f.routine (bound_in f) p t (IsThisCall o x us)
          (AboveIsFor s (Some (entry o r (Called c) bs)))
          (λ k l vs m. this_one r bs (entry_for s pure w h f below p same o x c us r bs i j) k l vs m) calls))

  -- ---- it ends

  -- what it gives is what the call gives
  answers : (p : Point) (u : Operand) → HasRun s O f.current f.routine (bound_in f) p → p.result ≡ Some u →
      is_unset_value u.value u.type ≡ false →
      (o : Reference) (x : List ℕ) (us : List Operand) → IsFor s o x (values_of us) f →
      Answers s (Own h) O o x us u.value
  answers p u run result set o x us for =
      subst (λ (o : Reference). routine_named s o.class x ≡ Some f.routine → Answers s (Own h) O o x us u.value)
      for.current_is here for.routine_is
    where
      object_is : object_numbered f.current.number (O f.current.handler) ≡ Some fits.0.is_there.object
      object_is = ap (λ (k : ℕ). object_numbered f.current.number (O k)) own ∙ fits.0.is_there.is_there

      here : routine_named s f.current.class x ≡ Some f.routine → Answers s (Own h) O f.current x us u.value
      here named = subst (λ (k : ℕ). Answers s (Own k) O f.current x us u.value) own
          (pure_answers s O f.current x us f.routine
          (bound_in f) fits.0.is_there.object p u named object_is for.bound_is run result set)

  -- the frame below takes it
  module _ (v : Value) (given : (o : Reference) (x : List ℕ) (us : List Operand) → IsFor s o x (values_of us) f →
      Answers s (Own h) O o x us v) where
    module _ (g : Frame) (more : List Frame) (on : StackFollows s pure w h (Some f) (g ∷ more))
        (own_g : g.current.handler ≡ h) where
      abbrev Taking : EntityType → Frame
      Taking t = record g { stage = Runs; values = operand v t ∷ g.values }

      abbrev V : List Frame → World
      V st = with_stack h st w

      module _ (t : EntityType) (e : g.stage ≡ InCall (Some t)) where
        abbrev St : List Frame
        St = Taking t ∷ more

        in_call_now : is_awaiting g.stage ≡ true → ⊥
        in_call_now i = let both : true ≡ false = sym i ∙ ap is_awaiting e in cc

        taken : InPrecondition s pure w h (Some f) g → InPrecondition s pure (V St) h None (Taking t)
        taken i = record {
          asked = i.asked;
          quiet = λ k c. let q = i.quiet k c in
              (q.0, inl ((same_stack h St w).quiet k q.0 (not_awaited g.stage k _ (ap is_awaiting e) q.1)));
          environment_is = i.environment_is;
          stands = by (subst (λ (st : Stage). StandsByStage s pure w h i.asked (Some f) g st) e i.stands);
        }
          where
            by : StandsByStage s pure w h i.asked (Some f) g (InCall (Some t)) →
                ClausesAt s (MayAsk h i.asked) (objects_of (V St)) g.current g.routine (bound_in g)
                (point_of (Taking t) ((V St).handlers h).objects)
            by (c, o, x, us, done, at, for) =
                subst (λ (N : ℕ → List Object). ClausesAt s (MayAsk h i.asked) N g.current g.routine (bound_in g)
                (point_of (Taking t) (N h))) (sym (same_stack h St w).objects_are)
                (clause_goes_on s (MayAsk h i.asked) O g.current g.routine (bound_in g)
                (point_of g (w.handlers h).objects) c o x us t v done
                (answers_more s (Own h) (MayAsk h i.asked) O (λ k j. inl j) o x us v (given o x us for)))

        taking : FrameFollows s pure (V St) h None (Taking t)
        taking = record {
          in_precondition = by on.0.in_precondition;
          in_pure = λ j. (tt, pure_takes (on.0.in_pure j).1);
          is_bound = on.0.is_bound;
          reserves_nothing = on.0.reserves_nothing;
        }
          where
            by : HasStarted g.tasks ⊎ (IsLost w h g
                ⊎ (AboveIsPure pure (Some f) × InPrecondition s pure w h (Some f) g)) →
                HasStarted g.tasks ⊎ (IsLost (V St) h (Taking t)
                ⊎ (AboveIsPure pure None × InPrecondition s pure (V St) h None (Taking t)))
            by (inl i) = inl i
            by (inr (inl i)) = absurd (in_call_now i.0)
            by (inr (inr (p, i))) = inr (inr (tt, taken i))

            pure_takes : FollowsPure s O (Some f) g g.stage → FollowsPure s (objects_of (V St)) None (Taking t) Runs
            pure_takes i = subst (λ (N : ℕ → List Object). PureAt s N g.current g.routine (bound_in g)
                (point_of (Taking t) (N g.current.handler))) (sym (same_stack h St w).objects_are)
                (pure_goes_on s O g.current g.routine (bound_in g) (point_of g (O g.current.handler)) t
                (AboveIsFor s (Some f)) v
                (subst (λ (st : Stage). FollowsPure s O (Some f) g st) e i)
                (λ o x us for. subst (λ (k : ℕ). Answers s (Own k) O o x us v) (sym own_g) (given o x us for)))

        taken_on : Follow s pure h (V St)
        taken_on = stack_follows s pure h St w (
          taking,
          below_kept s pure h w (V St) (same_stack h St w) g (Taking t) more
              (record { current_is = refl; routine_is = refl; origin_is = refl; bound_is = refl }) on.1,
        )

      -- a procedure's call gives nothing
      module _ (e : g.stage ≡ InCall None) where
        abbrev Rest : List Frame
        Rest = record g { stage = Runs } ∷ more

        going : FrameFollows s pure (V Rest) h None (record g { stage = Runs })
        going = record {
          in_precondition = by on.0.in_precondition;
          in_pure = λ j. absurd (subst (λ (st : Stage). FollowsPure s O (Some f) g st) e (on.0.in_pure j).1);
          is_bound = on.0.is_bound;
          reserves_nothing = on.0.reserves_nothing;
        }
          where
            waits : is_awaiting g.stage ≡ true → ⊥
            waits i = let both : true ≡ false = sym i ∙ ap is_awaiting e in cc

            none : InPrecondition s pure w h (Some f) g → ⊥
            none i = subst (λ (st : Stage). StandsByStage s pure w h i.asked (Some f) g st) e i.stands

            by : HasStarted g.tasks ⊎ (IsLost w h g
                ⊎ (AboveIsPure pure (Some f) × InPrecondition s pure w h (Some f) g)) →
                HasStarted g.tasks ⊎ (IsLost (V Rest) h (record g { stage = Runs })
                ⊎ (AboveIsPure pure None × InPrecondition s pure (V Rest) h None (record g { stage = Runs })))
            by (inl i) = inl i
            by (inr (inl i)) = absurd (waits i.0)
            by (inr (inr (p, i))) = absurd (none i)

        gone_on : Follow s pure h (V Rest)
        gone_on = stack_follows s pure h Rest w (
          going,
          below_kept s pure h w (V Rest) (same_stack h Rest w) g (record g { stage = Runs }) more
              (record { current_is = refl; routine_is = refl; origin_is = refl; bound_is = refl }) on.1,
        )

      handed_on : (t : Option EntityType) → g.stage ≡ InCall t →
          Follow s pure h (V (handed_at g.stage (Some v) g ∷ more))
      handed_on (Some t) e = subst (λ (st : Stage). Follow s pure h (V (handed_at st (Some v) g ∷ more))) (sym e)
          (taken_on t e)
      handed_on None e = subst (λ (st : Stage). Follow s pure h (V (handed_at st (Some v) g ∷ more)))
          (sym e) (gone_on e)

    returned : (c : Calling) → f.origin ≡ Called c → (st : List Frame) → StackFollows s pure w h (Some f) st →
        Each (FrameFits s pure w h) st → Linked s h (f ∷ st) →
        Follow s pure h (with_stack h (handed (Some v) st) w)
    returned c origin_is [] on there_fits linked = stack_follows s pure h [] w tt
    returned c origin_is (g ∷ more) on there_fits linked = let j = in_call s h f g more c origin_is linked in
        handed_on g more on there_fits.0.is_own j.0 j.1

  -- below a frame that a request began none evaluates
  below_plain : (r : Request) → f.origin ≡ Requested r → (p : Point) →
      AllPlain pure ((moved_in w h f below p).handlers h).answer below
  below_plain r e p = plain_kept pure (w.handlers h).answer ((moved_in w h f below p).handlers h).answer below
      (λ n. subst (λ (x : Handler). IsNoReply x.answer)
      (sym (m_put-own h (record (w.handlers h) { objects = p.objects; stack = frame_at f p ∷ below }) w)) n)
      (plain_below s pure w h f below y (not_requested f pure r e))

  ends_on : (p : Point) → PureActs s pure O f.current f.routine (bound_in f) Exits p →
      Follow s pure h (exits s h (frame_at f p) below (moved_in w h f below p))
  ends_on p (run, (u, result), keeps) = by (is_unset p.result) refl
    where
      set : is_unset p.result ≡ false → is_unset_value u.value u.type ≡ false
      set e = subst (λ (r : Option Operand). is_unset r ≡ false) result e

      leaves : is_unset p.result ≡ false → (o : Origin) → f.origin ≡ o →
          Follow s pure h (leaves_to h o f.reserved (option_map (λ (u : Operand). u.value) p.result) below
          (moved_in w h f below p))
      leaves e (Called c) i = subst (Follow s pure h) (sym (
          ap (λ (ks : List ℕ). release release_at.Exit ks
          (with_stack h (handed (option_map (λ (u : Operand). u.value) p.result) below) (moved_in w h f below p)))
          (z.reserves_nothing is)
          ∙ none_released release_at.Exit
          (with_stack h (handed (option_map (λ (u : Operand). u.value) p.result) below) (moved_in w h f below p))
          ∙ moved_stack s pure w h f below p (objects_same p keeps)
          (handed (option_map (λ (u : Operand). u.value) p.result) below)
          ∙ ap (λ (r : Option Operand). with_stack h (handed (option_map (λ (u : Operand). u.value) r) below) w) result
          )) (returned u.value (answers p u run result (set e)) c i below y fits.1 linked)
      leaves e (Requested r) i = inr
          (finish_good s pure h r (Reply (option_map (λ (u : Operand). u.value) p.result))
          (release release_at.Exit f.reserved (with_stack h below (moved_in w h f below p)))
          (release_good s pure h release_at.Exit f.reserved (with_stack h below (moved_in w h f below p))
          (stack_good s pure h below (moved_in w h f below p) (plain (below_plain r i p)))))

      by : (b : Bool) → is_unset p.result ≡ b → Follow s pure h (
          if b then fail h cause.UnsetEntity (moved_in w h f below p)
          else if is_untested f.origin || object_meets s
          (object_numbered f.current.number ((moved_in w h f below p).handlers h).objects)
          then leaves_to h f.origin f.reserved (option_map (λ (u : Operand). u.value) p.result) below
          (moved_in w h f below p)
          else fail h cause.Invariant (moved_in w h f below p)
          )
      by true e = fails_follow s pure h cause.UnsetEntity [] (moved_in w h f below p)
      by false e = either_follow s pure h
          (is_untested f.origin || object_meets s
          (object_numbered f.current.number ((moved_in w h f below p).handlers h).objects))
          (leaves_to h f.origin f.reserved (option_map (λ (u : Operand). u.value) p.result) below
          (moved_in w h f below p)) (fail h cause.Invariant (moved_in w h f below p))
          (leaves e f.origin refl) (fails_follow s pure h cause.Invariant [] (moved_in w h f below p))

  -- ---- its precondition is false

  refused_on : (k : Clause) (p : Point) →
      Follow s pure h (false_clause (verdict_on (frame_at f p) k) s h (frame_at f p) below (moved_in w h f below p))
  refused_on k p = by (verdict_on (frame_at f p) k) refl
    where
      correctness : (o : Origin) → f.origin ≡ o →
          Follow s pure h (correctness_fails s h o (frame_at f p) below (moved_in w h f below p))
      correctness (Called c) e = fails_follow s pure h cause.Precondition [] (moved_in w h f below p)
      correctness (Requested r) e =
          inr (refuses_good s pure h r (frame_at f p) below (moved_in w h f below p) (below_plain r e p))

      by : (d : EntryVerdict) → verdict_on (frame_at f p) k ≡ d →
          Follow s pure h (false_clause d s h (frame_at f p) below (moved_in w h f below p))
      by verdict.Wait e = absurd (pure_waits_not (frame_at f p) k (z.reserves_nothing is) e)
      by verdict.Refuse e = correctness f.origin refl
      by verdict.Start e = fails_follow s pure h cause.BadCode [] (moved_in w h f below p)

  -- ---- its move

  acts_on : (a : Act) (p : Point) → PureActs s pure O f.current f.routine (bound_in f) a p →
      Before s pure w h f (Does a p) →
      Follow s pure h (effect most s h a (frame_at f p) below (moved_in w h f below p))
  acts_on (Prints text) p m b = absurd m
  acts_on Until p m b = runs_on p m.1 m.0 (started s pure w h f Until p (inl refl) b)
  acts_on Creates p m b = absurd m
  acts_on Starts p m b = runs_on p m.1 m.0 (started s pure w h f Starts p (inr refl) b)
  acts_on (CreatesHandler class procedure us t passing) p m b = absurd m
  acts_on (Enters c o x us gives) p m b = calls_on c o x us gives p m b (objects_same p m.5)
  acts_on (Requests o x us gives passing) p m b = absurd m
  acts_on (Refuses k) p m b = refused_on k p
  acts_on Opens p m b = absurd m
  acts_on Leaves p m b = absurd m
  acts_on Exits p m b = ends_on p m
  acts_on (Fails why) p m b = fails_follow s pure h why [] (moved_in w h f below p)

  settles_on : (st : Step) → PureSteps s pure O f.current f.routine (bound_in f) st → Before s pure w h f st →
      Follow s pure h (settles most s h st f below w)
  settles_on (Goes p) m b = inl (subst (StackFollows s pure w h None) (sym goes.stack_is) (z, y))
  settles_on (Does a p) m b = acts_on a p m b

  pub pure_follows : Follow s pure h
      (settles most s h (moves s f.current (point_of f (w.handlers h).objects)) f below w)
  pure_follows = settles_on (moves s f.current (point_of f (w.handlers h).objects))
      (pures_moved s root pure faultless well tells most w reached h f below goes is (z.is_bound is)
      (subst (λ (k : ℕ). PureAt s O f.current f.routine (bound_in f) (point_of f (O k))) own
      (subst (λ (st : Stage). FollowsPure s O None f st) goes.runs (z.in_pure is).1)))
      (stands_before s root pure faultless well tells most clauses_moved w reached h f below goes z)
