-- The turn of a handler whose topmost frame stands in its precondition and runs no pure function.
use Rattle.std.proofs.Common.{ℕ, ◌≡◌, ◌≢◌, ◌⊎◌, ◌<◌, ◌&&◌, Bool, true, List, [], ◌∷◌, Option, Some, None, refl, sym, ap, subst, ◌∙◌, inl, inr}
use Rattle.std.proofs.Math.Path.{fun_ext}
use Rattle.std.specs.Prelude.{Contains, length, take}
use Rattle.sc_tree.specs.Plain.{System, Clause}
use Rattle.sc_class.specs.ClassNames.{Root}
use Rattle.sc_class.specs.Faults.ClassRules.{IsFaultless}
use Rattle.sc_rules.specs.declared.entity_types.entity_type.EntityType.{EntityType}
use Rattle.sc_rules.specs.Names.{RoutineName}
use Rattle.sc_rules.specs.Purity.{IsPurity}
use Rattle.sc_rules.specs.SystemRules.{WellFormed}
use Rattle.sc_lockpass.specs.Rights.{is_among}
use Rattle.sc_lockpass.specs.wait_conditions.Reservations.{ends_session, mark_of}
use Rattle.sc_lockpass.specs.declared.wait_conditions.condition.EntryVerdict.{EntryVerdict}
use Rattle.sc_lockpass.specs.declared.wait_conditions.condition.EntryVerdict.TheVariants as verdict
use Rattle.sc_lockpass.specs.declared.wait_conditions.session.Release.TheVariants as release_at
use Rattle.sc_model.specs.declared.cause.Cause.TheVariants as cause
use Rattle.sc_model.specs.Values.{Reference, Value, Operand}
use Rattle.sc_model.specs.Environments.{Binding}
use Rattle.sc_model.specs.Objects.{Object}
use Rattle.sc_model.specs.Routines.{Routine}
use Rattle.sc_model.specs.Steps.{Calling, Act, Prints, Until, Creates, CreatesHandler, Enters, Requests, Starts, Refuses, Opens, Leaves, Exits, Fails, Step, Goes, Does, Point}
use Rattle.sc_model.specs.Tasks.{tasks_of}
use Rattle.sc_model.specs.Handlers.{Reply, Origin, Called, Requested, Stage, Runs, Reserves, InCall, Awaits, Frame, Handler, World, point_of, frame_at, with_stack}
use Rattle.sc_model.specs.Sessions.{release}
use Rattle.sc_model.specs.Entries.{entry}
use Rattle.sc_model.specs.Asking.{request}
use Rattle.sc_model.specs.Preconditions.{verdict_on, waits_again, correctness_fails, false_clause}
use Rattle.sc_model.specs.Turns.{effect, settles}
use Rattle.sc_model.specs.Runs.{IsReached}
use Rattle.sc_machine_laws.specs.states.Headline.{is_awaiting}
use Rattle.sc_machine_laws.proofs.states.links.Reached.{reached_linked}
use Rattle.sc_machine_laws.proofs.states.links.FittingActs.{stack_fits}
use Rattle.sc_machine_laws.proofs.states.links.Looks.{m_put-own}
use Rattle.sc_machine_laws.proofs.states.links.Turns.{StackFits, StepFits}
use Rattle.sc_machine_laws.proofs.states.links.Turns as turning
use Rattle.sc_machine_laws.specs.states.Fitting.{AnswerFits, ReplyFits}
use Rattle.sc_machine_laws.proofs.states.Lists.{none_in}
use Rattle.sc_machine_laws.specs.settlements.Calm.{name_of}
use Rattle.sc_machine_laws.specs.settlements.Entries.{HasStarted}
use Rattle.sc_machine_laws.specs.ClauseLaws.{AnswersMore, EndsTrueMore, ReachesMore, TextsAreWithoutTests}
use Rattle.sc_machine_laws.proofs.RestingHandlers.{ended_rests, ended_answer}
use Rattle.sc_machine_laws.specs.Following.{objects_of, MayAsk, bound_in, between_point, IsQuiet, IsLost, AboveIsPure, StandsByStage, InPrecondition, FrameFollows, StackFollows}
use Rattle.sc_machine_laws.specs.Points.{InContract, ClauseActs, ClauseSteps, ClauseMoves, GoesOn}
use Rattle.sc_machine_laws.proofs.PointsEntries.{entry_is_between}
use Rattle.sc_machine_laws.proofs.OwnWorlds.{IsNoReply}
use Rattle.sc_machine_laws.proofs.OwnKept.{AllPlain, not_awaited, plain_follows, plain_kept}
use Rattle.sc_machine_laws.proofs.OwnPlain.{stays, refuses_good}
use Rattle.sc_machine_laws.proofs.OwnEntries.{begins_or_starts, entry_follows_there}
use Rattle.sc_machine_laws.proofs.OwnMoves.{Follow, Ahead, moved_in, at_stage, fails_follow, same_stack, moved_stack, enters_follow, entry_for, entry_pure, entered_so, calls_there}
use Rattle.sc_machine_laws.proofs.OwnAsks.{request_follows}
use Rattle.sc_machine_laws.proofs.Lists.{first_of}

module _ (without_tests : TextsAreWithoutTests) (clauses_moved : ClauseMoves) (answers_more : AnswersMore)
    (reaches_more : ReachesMore) (ends_true_more : EndsTrueMore)
    (s : System) (root : Root) (pure : RoutineName → Bool) (faultless : IsFaultless s root) (well : WellFormed s)
    (tells : IsPurity s pure) (most : ℕ)
    (w : World) (reached : IsReached most s root w) (h : ℕ) (here : h < w.count) (lives : (w.handlers h).failure ≡ None)
    (f : Frame) (below : List Frame) (at : (w.handlers h).stack ≡ f ∷ below) (i : InPrecondition s pure w h None f)
    (own : f.current.handler ≡ h) (rest : AllPlain pure (w.handlers h).answer below)
    (impure : pure (name_of f.routine) ≡ true → ⊥) (replies : AnswerFits s w h) where
  abbrev O : ℕ → List Object
  O = objects_of w

  -- a frame of the routine follows where it stands in its precondition, or is done with it
  pub impure_frame : (v : World) (above : Option Frame) (g : Frame) → g.routine ≡ f.routine →
      HasStarted g.tasks ⊎ (IsLost v h g ⊎ (AboveIsPure pure above × InPrecondition s pure v h above g)) →
      FrameFollows s pure v h above g
  impure_frame v above g e z =
      record {
        in_precondition = z;
        in_pure = λ j. absurd (not_pure j);
        is_bound = λ j. absurd (not_pure j);
        reserves_nothing = λ j. absurd (not_pure j);
      }
    where
      not_pure : pure (name_of g.routine) ≡ true → ⊥
      not_pure j = impure (ap (λ (r : Routine). pure (name_of r)) (sym e) ∙ j)

  pub rest_follows : (v : World) (above : Option Frame) →
      (IsNoReply (w.handlers h).answer → IsNoReply (v.handlers h).answer) → StackFollows s pure v h above below
  rest_follows v above n =
      plain_follows s pure v h above below (plain_kept pure (w.handlers h).answer (v.handlers h).answer below n rest)

  moved_plain : (p : Point) → AllPlain pure ((moved_in w h f below p).handlers h).answer below
  moved_plain p = plain_kept pure (w.handlers h).answer ((moved_in w h f below p).handlers h).answer below
      (λ n. subst (λ (x : Handler). IsNoReply x.answer)
      (sym (m_put-own h (record (w.handlers h) { objects = p.objects; stack = frame_at f p ∷ below }) w)) n) rest

  pub unchanged : Follow s pure h w
  unchanged = inl (subst (StackFollows s pure w h None) (sym at)
      (impure_frame w None f refl (inr (inr (tt, i))), rest_follows w (Some f) (λ n. n)))

  -- ---- it runs

  module _ (runs_now : f.stage ≡ Runs) where
    quiet_now : (k : ℕ) → Contains i.asked k → (k ≢ h) × IsQuiet w h k
    quiet_now k c = let q = i.quiet k c in (q.0, not_awaited f.stage k (IsQuiet w h k) (ap is_awaiting runs_now) q.1)

    goes : GoesOn w h f below
    goes = record { is_there = here; lives = lives; stack_is = at; runs = runs_now }

    abbrev There : Point → Type 0
    There p = InContract O f.current f.routine (bound_in f) p

    objects_same : (p : Point) → There p → p.objects ≡ (w.handlers h).objects
    objects_same p c = c.objects_are ∙ ap O own

    env_there : (p : Point) (c : There p) (g : Stage) → bound_in (at_stage f p g) ≡ bound_in f
    env_there p c g = ap (λ (bs : List Binding). take (length f.routine.text.formals) bs)
        (c.environment_is ∙ sym i.environment_is)

    -- ---- it calls

    calls_on : (c : Calling) (o : Reference) (x : List ℕ) (us : List Operand) (gives : Option EntityType) (p : Point) →
        ClauseActs s pure (MayAsk h i.asked) O f.current f.routine (bound_in f) (Enters c o x us gives) p →
        Follow s pure h (effect most s h (Enters c o x us gives) (frame_at f p) below (moved_in w h f below p))
    calls_on c o x us gives p (t, e, to, pures, done, there) =
        enters_follow s pure w h f below p (objects_same p there) o x c us gives (λ r bs j k. (
          entry_follows_there without_tests s root pure faultless well tells (Now r bs) h
              (entry o r (Called c) bs) (to ∙ own)
              (entered_so s pure w h f below p (objects_same p there) o x c us r bs j k),
          (
            impure_frame (Now r bs) (Some (entry o r (Called c) bs)) (at_stage f p (InCall gives)) refl
                (calls_there s pure w h f below p (objects_same p there) (New r bs) own
                (entry o r (Called c) bs) o x c us gives
                (entry_pure s pure w h f below p (objects_same p there) o x c r bs j pures)
                (entry_for s pure w h f below p (objects_same p there) o x c us r bs j k)
                (inr (i.asked, quiet_now, i.environment_is, (t, e, to, pures, done, there)))),
            rest_follows (Now r bs) (Some (at_stage f p (InCall gives))) (same_stack h (New r bs) w).no_reply,
          ),
        ))
      where
        New : Routine → List Binding → List Frame
        New r bs = entry o r (Called c) bs ∷ at_stage f p (InCall gives) ∷ below

        Now : Routine → List Binding → World
        Now r bs = with_stack h (New r bs) w

    -- ---- its precondition is false

    -- it begins anew
    module _ (p : Point) (c : There p) where
      abbrev Anew : Frame
      Anew = record (frame_at f p) {
        stage = Reserves;
        tasks = tasks_of f.routine;
        values = [];
        reserved = [];
        mark = mark_of (λ k. ((moved_in w h f below p).handlers k).sessions) f.reserved;
      }

      abbrev St : List Frame
      St = Anew ∷ below

      abbrev Ended : World
      Ended = release release_at.FalseWaitCondition f.reserved (with_stack h St w)

      abbrev Ends : ℕ → Bool
      Ends k = ends_session release_at.FalseWaitCondition && is_among k f.reserved

      objects_ended : objects_of Ended ≡ O
      objects_ended = fun_ext (λ k. (ended_rests (Ends k) ((with_stack h St w).handlers k)).objects)
          ∙ (same_stack h St w).objects_are

      bound_anew : bound_in Anew ≡ bound_in f
      bound_anew = ap (λ (bs : List Binding). take (length f.routine.text.formals) bs)
          (c.environment_is ∙ sym i.environment_is)

      stands_anew : (f.routine.require ≡ [] → ⊥) →
          point_of Anew (Ended.handlers h).objects ≡ between_point (objects_of Ended) f.current f.routine
          (bound_in Anew) f.routine.require
      stands_anew some = λ j. record {
        objects = ap (objects_of Ended) (sym own) j;
        text = c.text_is j;
        environment = (c.environment_is ∙ sym bound_anew) j;
        result = c.result_is j;
        olds = c.olds_are j;
        tasks = ap (λ (q : Point). q.tasks) (entry_is_between O f.current f.routine (bound_in f) f.origin some) j;
        values = [];
      }

      anew : FrameFollows s pure Ended h None Anew
      anew = impure_frame Ended None Anew refl (by (begins_or_starts f.routine))
        where
          by : HasStarted (tasks_of f.routine) ⊎ (f.routine.require ≡ [] → ⊥) →
              HasStarted (tasks_of f.routine)
              ⊎ (IsLost Ended h Anew ⊎ (AboveIsPure pure None × InPrecondition s pure Ended h None Anew))
          by (inl j) = inl j
          by (inr some) = inr (inr (
            tt,
            record {
              asked = [];
              quiet = λ k j. absurd (none_in k j);
              environment_is = c.environment_is ∙ sym bound_anew;
              stands = (refl, stands_anew some);
            },
          ))

      begins_again : Follow s pure h (waits_again h (frame_at f p) below (moved_in w h f below p))
      begins_again = subst (λ (v : World). Follow s pure h (release release_at.FalseWaitCondition f.reserved v))
          (sym (moved_stack s pure w h f below p (objects_same p c) St))
          (inl (subst (StackFollows s pure Ended h None) (sym stack_is)
          (anew, rest_follows Ended (Some Anew) no_reply)))
        where
          stack_is : (Ended.handlers h).stack ≡ St
          stack_is = (ended_rests (Ends h) ((with_stack h St w).handlers h)).stack
              ∙ ap (λ (x : Handler). x.stack) (m_put-own h (record (w.handlers h) { stack = St }) w)

          no_reply : IsNoReply (w.handlers h).answer → IsNoReply (Ended.handlers h).answer
          no_reply n = subst IsNoReply (sym (ended_answer (Ends h) ((with_stack h St w).handlers h)))
              ((same_stack h St w).no_reply n)

    refused_on : (k : Clause) (p : Point) → There p →
        Follow s pure h (false_clause (verdict_on (frame_at f p) k) s h (frame_at f p) below (moved_in w h f below p))
    refused_on k p c = by (verdict_on (frame_at f p) k)
      where
        correctness : (o : Origin) →
            Follow s pure h (correctness_fails s h o (frame_at f p) below (moved_in w h f below p))
        correctness (Called j) = fails_follow s pure h cause.Precondition [] (moved_in w h f below p)
        correctness (Requested r) =
            inr (refuses_good s pure h r (frame_at f p) below (moved_in w h f below p) (moved_plain p))

        by : (d : EntryVerdict) → Follow s pure h (false_clause d s h (frame_at f p) below (moved_in w h f below p))
        by verdict.Wait = begins_again p c
        by verdict.Refuse = correctness f.origin
        by verdict.Start = fails_follow s pure h cause.BadCode [] (moved_in w h f below p)

    -- ---- it asks another handler

    never : (v : Option Value) → (w.handlers h).answer ≡ Some (Reply v) → ⊥
    never v e =
        let z : ReplyFits s w h v = replies v e in
        let waits : Runs ≡ Awaits z.supplier z.takes z.is_creation =
        sym runs_now ∙ ap (λ (g : Frame). g.stage) (first_of (sym at ∙ z.stack_is)) ∙ z.stage_is in
        cc

    apart : (o : Reference) (x : List ℕ) (us : List Operand) (gives : Option EntityType) (passing : Bool) (p : Point) →
        Ahead s pure w h f ≡ Does (Requests o x us gives passing) p → o.handler ≢ h
    apart o x us gives passing p e =
        let stack : StackFits s h w (f ∷ below) =
        subst (StackFits s h w) at (stack_fits s h w (reached_linked most s root w reached).sound here) in
        (subst (StepFits h f) e (subst (turning.FrameFits s h w f) runs_now stack)).0

    asks_on : (o : Reference) (x : List ℕ) (us : List Operand) (gives : Option EntityType)
        (passing : Bool) (p : Point) →
        Ahead s pure w h f ≡ Does (Requests o x us gives passing) p →
        ClauseActs s pure (MayAsk h i.asked) O f.current f.routine (bound_in f) (Requests o x us gives passing) p →
        Follow s pure h (request h o x us gives passing (frame_at f p) below (moved_in w h f below p))
    asks_on o x us gives passing p a (t, e, lends, pures, done, there) =
        subst (λ (g : Option EntityType). Follow s pure h
        (request h o x us g passing (frame_at f p) below (moved_in w h f below p))) (sym e)
        (subst (λ (b : Bool). Follow s pure h
        (request h o x us (Some t) b (frame_at f p) below (moved_in w h f below p))) (sym lends)
        (request_follows s pure w h f below i own rest impure quiet_now never o x us t p
        (apart o x us gives passing p a) pures done there))

    -- ---- its move

    acts_on : (a : Act) (p : Point) → Ahead s pure w h f ≡ Does a p →
        ClauseActs s pure (MayAsk h i.asked) O f.current f.routine (bound_in f) a p →
        Follow s pure h (effect most s h a (frame_at f p) below (moved_in w h f below p))
    acts_on (Prints text) p e m = absurd m
    acts_on Until p e m = absurd m
    acts_on Creates p e m = absurd m
    acts_on Starts p e m = inr (stays s pure h (moved_in w h f below p) (frame_at f p ∷ below)
        (ap (λ (y : Handler). y.stack)
        (m_put-own h (record (w.handlers h) { objects = p.objects; stack = frame_at f p ∷ below }) w))
        ((inl m.1, impure), moved_plain p))
    acts_on (CreatesHandler class procedure us t passing) p e m = absurd m
    acts_on (Enters c o x us gives) p e m = calls_on c o x us gives p m
    acts_on (Requests o x us gives passing) p e m = asks_on o x us gives passing p e m
    acts_on (Refuses k) p e m = refused_on k p m
    acts_on Opens p e m = absurd m
    acts_on Leaves p e m = absurd m
    acts_on Exits p e m = absurd m
    acts_on (Fails why) p e m = fails_follow s pure h why [] (moved_in w h f below p)

    settles_on : (st : Step) → Ahead s pure w h f ≡ st → ClauseSteps s pure (MayAsk h i.asked) O f.current f.routine
        (bound_in f) st →
        Follow s pure h (settles most s h st f below w)
    settles_on (Goes p) e m = unchanged
    settles_on (Does a p) e m = acts_on a p e m

    pub runs_on : Follow s pure h (settles most s h (Ahead s pure w h f) f below w)
    runs_on = settles_on (Ahead s pure w h f) refl
        (clauses_moved s root pure faultless well tells most w reached h f below goes (MayAsk h i.asked) (bound_in f)
        (subst (λ (st : Stage). StandsByStage s pure w h i.asked None f st) runs_now i.stands))
