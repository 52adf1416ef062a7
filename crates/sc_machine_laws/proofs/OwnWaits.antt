-- The turn of a handler whose topmost frame stands in its precondition, and reserves or waits.
use Rattle.std.proofs.Common.{ℕ, ◌≡◌, ◌≢◌, ◌⊎◌, ◌<◌, Bool, true, false, List, [], ◌∷◌, Option, Some, None, refl, sym, ap, subst, ◌∙◌, inl, inr}
use Rattle.std.specs.Prelude.{Contains}
use Rattle.sc_tree.specs.Plain.{System}
use Rattle.sc_class.specs.ClassNames.{Root}
use Rattle.sc_class.specs.Faults.ClassRules.{IsFaultless}
use Rattle.sc_rules.specs.declared.entity_types.entity_type.EntityType.{EntityType}
use Rattle.sc_rules.specs.Names.{RoutineName}
use Rattle.sc_rules.specs.Purity.{IsPurity}
use Rattle.sc_rules.specs.SystemRules.{WellFormed}
use Rattle.sc_lockpass.specs.wait_conditions.Reservations.{reserve_fails}
use Rattle.sc_model.specs.declared.cause.Cause.TheVariants as cause
use Rattle.sc_model.specs.Values.{Reference, Value, Operand, operand}
use Rattle.sc_model.specs.Objects.{Object}
use Rattle.sc_model.specs.Steps.{Requests}
use Rattle.sc_model.specs.Handlers.{Request, Answer, Reply, Stage, Runs, Reserves, ReservesBlock, InCall, Awaits, Frame, Handler, World, point_of, put, with_stack}
use Rattle.sc_model.specs.Sessions.{standing_in, reserve}
use Rattle.sc_model.specs.Failures.{fail, requests_at}
use Rattle.sc_model.specs.Entries.{entry_needs, may_reserve, reserves_if}
use Rattle.sc_model.specs.Turns.{waits, goes_on}
use Rattle.sc_model.specs.Runs.{IsReached}
use Rattle.sc_machine_laws.proofs.states.MachineFrames.{contains_cases, contains_first, contains_later}
use Rattle.sc_machine_laws.proofs.states.links.Looks.{m_put-own}
use Rattle.sc_machine_laws.specs.states.Fitting.{AnswerFits}
use Rattle.sc_machine_laws.proofs.states.Lists.{none_in}
use Rattle.sc_machine_laws.specs.settlements.Calm.{name_of}
use Rattle.sc_machine_laws.specs.Evaluating.{Answers}
use Rattle.sc_machine_laws.specs.ClauseLaws.{AnswersMore, EndsTrueMore, ReachesMore, TextsAreWithoutTests}
use Rattle.sc_machine_laws.specs.Following.{objects_of, MayAsk, Own, bound_in, between_point, ClausesAt, ClauseDone, IsQuiet, clause_request, IsPending, AwaitsOf, StandsByStage, InPrecondition, FrameFollows, StackFollows}
use Rattle.sc_machine_laws.specs.Following as following
use Rattle.sc_machine_laws.specs.Points.{ClauseMoves}
use Rattle.sc_machine_laws.proofs.PointsEntries.{clause_goes_on_answered}
use Rattle.sc_machine_laws.proofs.OwnWorlds.{IsNoReply, IsSame, same_put}
use Rattle.sc_machine_laws.proofs.OwnKept.{AllPlain}
use Rattle.sc_machine_laws.proofs.OwnCalm.{reply_none}
use Rattle.sc_machine_laws.proofs.OwnMoves.{Follow, either_follow, fails_follow, same_stack}
use Rattle.sc_machine_laws.proofs.OwnMore.{clause_done_more, stands_at}
use Rattle.sc_machine_laws.proofs.OwnClauses.{impure_frame, rest_follows, unchanged, runs_on}

module _ (without_tests : TextsAreWithoutTests) (clauses_moved : ClauseMoves) (answers_more : AnswersMore)
    (reaches_more : ReachesMore) (ends_true_more : EndsTrueMore)
    (s : System) (root : Root) (pure : RoutineName → Bool) (faultless : IsFaultless s root) (well : WellFormed s)
    (tells : IsPurity s pure) (most : ℕ)
    (w : World) (reached : IsReached most s root w) (h : ℕ) (here : h < w.count) (lives : (w.handlers h).failure ≡ None)
    (f : Frame) (below : List Frame) (at : (w.handlers h).stack ≡ f ∷ below) (i : InPrecondition s pure w h None f)
    (own : f.current.handler ≡ h) (rest : AllPlain pure (w.handlers h).answer below)
    (impure : pure (name_of f.routine) ≡ true → ⊥) (replies : AnswerFits s w h) where
  abbrev O : ℕ → List Object
  O = objects_of w

  -- ---- it reserves

  module _ (reserving : f.stage ≡ Reserves) (ks : List ℕ) where
    abbrev Past : Frame
    Past = record f { stage = Runs; reserved = ks }

    abbrev Reserved : World
    Reserved = reserve h ks (with_stack h (Past ∷ below) w)

    past : FrameFollows s pure Reserved h None Past
    past = impure_frame without_tests clauses_moved answers_more reaches_more ends_true_more s root pure faultless well tells most w reached h here lives f below at i own rest impure replies Reserved None Past refl (inr (inr (
      tt,
      record {
        asked = [];
        quiet = λ k j. absurd (none_in k j);
        environment_is = i.environment_is;
        stands = following.between [] f.routine.require refl tt
            (subst (λ (N : ℕ → List Object). point_of f (N h) ≡ between_point N f.current f.routine
            (bound_in f) f.routine.require) (sym (same_stack h (Past ∷ below) w).objects_are)
            (subst (λ (st : Stage). StandsByStage s pure w h i.asked None f st) reserving i.stands).1);
      },
    )))

    reserves_on : (b : Bool) → Follow s pure h (reserves_if b h ks Past below w)
    reserves_on true = either_follow s pure h (reserve_fails (standing_in w) w.rights ks)
        (fail h cause.SupplierFailed w) Reserved
        (fails_follow s pure h cause.SupplierFailed [] w)
        (inl (subst (StackFollows s pure Reserved h None)
        (sym (ap (λ (y : Handler). y.stack) (m_put-own h (record (w.handlers h) { stack = Past ∷ below }) w)))
        (past, rest_follows without_tests clauses_moved answers_more reaches_more ends_true_more s root pure faultless well tells most w reached h here lives f below at i own rest impure replies Reserved (Some Past) (same_stack h (Past ∷ below) w).no_reply)))
    reserves_on false = unchanged without_tests clauses_moved answers_more reaches_more ends_true_more s root pure faultless well tells most w reached h here lives f below at i own rest impure replies

  -- ---- it waits

  module _ (alone : (k : ℕ) (q : Request) → Contains (requests_at (w.handlers k)) q → q.poster ≡ Some h →
      q.is_waited ≡ true → q.passed ≡ None → (w.handlers h).callback ≡ None)
      (no_callback : (r : Request) (v : Option Value) → (w.handlers h).callback ≡ Some r →
      (w.handlers h).answer ≡ Some (Reply v) → ⊥) where
    module _ (k : ℕ) (t : EntityType) (waiting : f.stage ≡ Awaits k (Some t) false) (o : Reference) (x : List ℕ)
        (us : List Operand)
        (done : ClauseDone s (MayAsk h i.asked) O f.current f.routine (bound_in f) (Requests o x us (Some t) false)
        (point_of f (w.handlers h).objects))
        (to : o.handler ≡ k) (other : k ≢ h) (v : Value) (came : (w.handlers h).answer ≡ Some (Reply (Some v)))
        (given : Answers s (Own o.handler) O o x us v)
        (still : IsQuiet w h o.handler) where
      abbrev Taken : Frame
      Taken = record f { stage = Runs; values = operand v t ∷ f.values }

      abbrev Asked : List ℕ
      Asked = o.handler ∷ i.asked

      abbrev T : World
      T = put h (record (w.handlers h) { stack = Taken ∷ below; answer = None }) w

      same : IsSame h w T
      same = same_put h (record (w.handlers h) { stack = Taken ∷ below; answer = None }) w refl
          (λ n. reply_none (Some v) (IsNoReply None) (subst IsNoReply came n))

      all_quiet : (j : ℕ) → Contains Asked j → (j ≢ h) × (IsQuiet T h j ⊎ AwaitsOf Taken.stage j)
      all_quiet j c = by (contains_cases o.handler i.asked j c)
        where
          this : (j : ℕ) → o.handler ≡ j → (j ≢ h) × IsQuiet w h j
          this j e = (λ m. other (sym to ∙ e ∙ m), subst (IsQuiet w h) e still)

          before : IsQuiet w h j ⊎ AwaitsOf f.stage j → IsQuiet w h j
          before (inl q) = q
          before (inr a) = (this j (to ∙ subst (λ (st : Stage). AwaitsOf st j) waiting a)).1

          by : (o.handler ≡ j) ⊎ Contains i.asked j → (j ≢ h) × (IsQuiet T h j ⊎ AwaitsOf Taken.stage j)
          by (inl e) = let q = this j e in (q.0, inl (same.quiet j q.0 q.1))
          by (inr m) = let q = i.quiet j m in (q.0, inl (same.quiet j q.0 (before q.1)))

      more : (j : ℕ) → MayAsk h i.asked j → MayAsk h Asked j
      more j (inl e) = inl e
      more j (inr c) = inr (contains_later o.handler i.asked j c)

      this_more : (j : ℕ) → Own o.handler j → MayAsk h Asked j
      this_more j e = inr (subst (Contains Asked) (sym e) (contains_first o.handler i.asked))

      stands_taken : ClausesAt s (MayAsk h Asked) O f.current f.routine (bound_in f) (point_of Taken (O h))
      stands_taken = clause_goes_on_answered s (MayAsk h Asked) O f.current f.routine (bound_in f)
          (point_of f (w.handlers h).objects) o x us t false v
          (clause_done_more reaches_more ends_true_more s (MayAsk h i.asked) (MayAsk h Asked) more O f.current f.routine
          (bound_in f) (Requests o x us (Some t) false)
          (point_of f (w.handlers h).objects) done)
          (answers_more s (Own o.handler) (MayAsk h Asked) O this_more o x us v given)

      taken : FrameFollows s pure T h None Taken
      taken = impure_frame without_tests clauses_moved answers_more reaches_more ends_true_more s root pure faultless well tells most w reached h here lives f below at i own rest impure replies T None Taken refl (inr (inr (
        tt,
        record {
          asked = Asked;
          quiet = all_quiet;
          environment_is = i.environment_is;
          stands = subst (λ (N : ℕ → List Object). ClausesAt s (MayAsk h Asked) N f.current f.routine (bound_in f)
              (point_of Taken (N h))) (sym same.objects_are) stands_taken;
        },
      )))

      takes_on : Follow s pure h T
      takes_on = inl (subst (StackFollows s pure T h None)
          (sym (ap (λ (y : Handler). y.stack)
          (m_put-own h (record (w.handlers h) { stack = Taken ∷ below; answer = None }) w)))
          (taken, rest_follows without_tests clauses_moved answers_more reaches_more ends_true_more s root pure faultless well tells most w reached h here lives f below at i own rest impure replies T (Some Taken) same.no_reply))

    waits_on : (k : ℕ) (gives : Option EntityType) (c : Bool) → f.stage ≡ Awaits k gives c →
        StandsByStage s pure w h i.asked None f (Awaits k gives c) →
        Follow s pure h (waits s h (w.handlers h).callback (w.handlers h).answer k gives c f below w)
    waits_on k None c e z = absurd z
    waits_on k (Some t) true e z = absurd z
    waits_on k (Some t) false e (o, x, us, done, to, other, top, pures, pending) = by pending
      where
        took : (r : Option Request) → (w.handlers h).callback ≡ r → (v : Value) →
            (w.handlers h).answer ≡ Some (Reply (Some v)) → Answers s (Own o.handler) O o x us v →
            IsQuiet w h o.handler → Follow s pure h (waits s h r (Some (Reply (Some v))) k (Some t) false f below w)
        took (Some r) j v came given still = absurd (no_callback r (Some v) j came)
        took None j v came given still = takes_on k t e o x us done to other v came given still

        by : IsPending s pure w h i.asked o x us →
            Follow s pure h (waits s h (w.handlers h).callback (w.handlers h).answer k (Some t) false f below w)
        by (following.stands none there) =
            subst (λ (r : Option Request). Follow s pure h
            (waits s h r (w.handlers h).answer k (Some t) false f below w))
            (sym (alone o.handler (clause_request h o x us) (stands_at s pure w h i.asked o x us there) refl refl refl))
            (subst (λ (a : Option Answer). Follow s pure h (waits s h None a k (Some t) false f below w))
            (sym none) (unchanged without_tests clauses_moved answers_more reaches_more ends_true_more s root pure faultless well tells most w reached h here lives f below at i own rest impure replies))
        by (following.replied {v} came given still) =
            subst (λ (a : Option Answer). Follow s pure h
            (waits s h (w.handlers h).callback a k (Some t) false f below w)) (sym came)
            (took (w.handlers h).callback refl v came given still)

    -- Its turn, whatever it does.
    pub clause_follows : (st : Stage) → f.stage ≡ st → Follow s pure h (goes_on most s h st f below w)
    clause_follows Runs e = runs_on without_tests clauses_moved answers_more reaches_more ends_true_more s root pure faultless well tells most w reached h here lives f below at i own rest impure replies e
    clause_follows Reserves e = reserves_on e (entry_needs h f w) (may_reserve (entry_needs h f w) f.mark w)
    clause_follows ReservesBlock e =
        absurd (subst (λ (st : Stage). StandsByStage s pure w h i.asked None f st) e i.stands)
    clause_follows (InCall gives) e = fails_follow s pure h cause.BadCode [] w
    clause_follows (Awaits k gives c) e =
        waits_on k gives c e (subst (λ (st : Stage). StandsByStage s pure w h i.asked None f st) e i.stands)
