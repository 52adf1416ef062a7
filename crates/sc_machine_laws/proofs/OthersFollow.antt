-- After the turn of another handler the frames of a handler follow the evaluation by the definition again.
use Rattle.std.proofs.Common.{ℕ, ◌≡◌, ◌≢◌, ◌⊎◌, ◌<◌, ◌==◌, Bool, true, false, List, [], ◌∷◌, Option, Some, None, refl, sym, ap, subst, ◌∙◌, inl, inr}
use Rattle.std.proofs.lemmas.Bool.{eq-eqb, eqb-true}
use Rattle.std.specs.Prelude.{Contains}
use Rattle.sc_tree.specs.Plain.{System}
use Rattle.sc_class.specs.ClassNames.{Root}
use Rattle.sc_class.specs.Faults.ClassRules.{IsFaultless}
use Rattle.sc_rules.specs.Names.{RoutineName}
use Rattle.sc_rules.specs.Purity.{IsPurity}
use Rattle.sc_rules.specs.SystemRules.{WellFormed}
use Rattle.sc_model.specs.declared.cause.Cause.{Cause}
use Rattle.sc_model.specs.Answers.{heard}
use Rattle.sc_model.specs.Handlers.{Answer, Reply, Failed, Refused, Stage, Runs, Reserves, ReservesBlock, InCall, Awaits, Frame, World, point_of}
use Rattle.sc_model.specs.Objects.{Object}
use Rattle.sc_model.specs.Runs.{IsReached}
use Rattle.sc_model.specs.Steps.{Point, Enters, Requests}
use Rattle.sc_model.specs.Turns.{turn}
use Rattle.sc_machine_laws.specs.states.Fitting.{FrameFits, WorldFits}
use Rattle.sc_machine_laws.specs.states.Points.{Each}
use Rattle.sc_machine_laws.specs.states.Headline.{is_awaiting}
use Rattle.sc_machine_laws.specs.settlements.Entries.{HasStarted}
use Rattle.sc_machine_laws.proofs.settlements.FrameLinks.{reached_fits}
use Rattle.sc_machine_laws.proofs.Locally.{answers_locally, ends_true_locally, reaches_locally}
use Rattle.sc_machine_laws.proofs.Rights.{rights_stay}
use Rattle.sc_machine_laws.proofs.Tops.{beyond_is_unused, callbacks_meet_waiters, called_back_waits}
use Rattle.sc_machine_laws.proofs.Turned.{answers_come, others_stay, own_queue_shrinks}
use Rattle.sc_machine_laws.proofs.Unlent.{ends_the_one, stands_once}
use Rattle.sc_machine_laws.specs.RequestLaws.{AnswerComes, Stays, TopAwaits}
use Rattle.sc_machine_laws.specs.Following.{AboveIsPure, AwaitsOf, ClauseDone, ClausesAt, FollowsPure, FrameFollows, InPrecondition, IsLost, IsQuiet, MayAsk, StackFollows, StandsByStage, WorldFollows, between_point, bound_in, objects_of}
use Rattle.sc_machine_laws.specs.Turns.{OthersFollow}
use Rattle.sc_machine_laws.proofs.OthersAsked.{IsToldNone, Known, Onward, refusal_no_failure, reply_no_failure}
use Rattle.sc_machine_laws.proofs.OthersTarget.{asked_onward}
use Rattle.sc_machine_laws.proofs.OthersLocal.{clause_done_local, clauses_local, follows_local}
use Rattle.sc_machine_laws.proofs.PointsEntries.{pure_answers}
use Rattle.sc_machine_laws.proofs.PointsReached.{entry_follows, pure_moves}
use Rattle.sc_machine_laws.proofs.OthersQuiet.{StaysQuiet, quiet_stays}
use Rattle.sc_machine_laws.proofs.Lists.{first_of, false_is_true, some_is_none}

-- ---- who waits on top

-- the frame awaits an answer of k
awaits_of : (f : Frame) (below st : List Frame) (k : ℕ) → st ≡ f ∷ below → TopAwaits st k → AwaitsOf f.stage k
awaits_of f below st k e a =
    subst (λ (z : Stage). AwaitsOf z k)
    (sym (ap (λ (g : Frame). g.stage) (first_of (sym e ∙ a.stack_is)) ∙ a.stage_is)) refl

-- a pure function awaits nobody
pure_awaits_none : (s : System) (O : ℕ → List Object) (above : Option Frame) (f : Frame) (z : Stage) (k : ℕ) →
    FollowsPure s O above f z → AwaitsOf z k → ⊥
pure_awaits_none s O above f Runs k i a = a
pure_awaits_none s O above f Reserves k i a = a
pure_awaits_none s O above f ReservesBlock k i a = a
pure_awaits_none s O above f (InCall t) k i a = a
pure_awaits_none s O above f (Awaits j t c) k i a = i

-- whether the stage awaits k
awaits_or_not : (k : ℕ) (z : Stage) → AwaitsOf z k ⊎ (AwaitsOf z k → ⊥)
awaits_or_not k (Awaits j t c) = by (j == k) refl
  where
    by : (b : Bool) → (j == k) ≡ b → (j ≡ k) ⊎ (j ≡ k → ⊥)
    by true i = inl (eqb-true j k i)
    by false i = inr (λ e. false_is_true (sym i ∙ eq-eqb j k e))
awaits_or_not k Runs = inr (λ e. e)
awaits_or_not k Reserves = inr (λ e. e)
awaits_or_not k ReservesBlock = inr (λ e. e)
awaits_or_not k (InCall t) = inr (λ e. e)

-- Frames with none above them are the whole stack; below a pure function they are not, and then nobody is awaited on
-- top.
record IsTop (pure : RoutineName → Bool) (st : List Frame) (above : Option Frame) (rest : List Frame) : Type 0 where
  is_all : above ≡ None → st ≡ rest
  or_none : AboveIsPure pure above → (st ≡ rest) ⊎ ((k : ℕ) → TopAwaits st k → ⊥)

module _ (known : Known) (s : System) (root : Root) (pure : RoutineName → Bool) (faultless : IsFaultless s root)
    (well : WellFormed s) (tells : IsPurity s pure)
    (most : ℕ) (w : World) (reached : IsReached most s root w) (fits : WorldFits s pure w)
    (follows : WorldFollows s pure w)
    (g h : ℕ) (here : h < w.count) (lives : (w.handlers h).failure ≡ None) (apart : h ≢ g) where
  abbrev after : World
  after = turn most s g w

  stay : Stays w g h (after.handlers h)
  stay = known.others_stay most s w g h here apart

  -- the objects of h
  own_same : objects_of w h ≡ objects_of after h
  own_same = sym stay.objects_stay

  -- ---- what no reply comes to

  hears_so : (a b : Answer) → (b ≡ Failed → ⊥) → heard b (w.handlers h).failure (Some a) ≡ Some a
  hears_so a (Reply v) n = ap (λ (c : Option Cause). heard (Reply v) c (Some a)) lives
  hears_so a Failed n = absurd (n refl)
  hears_so a Refused n = ap (λ (c : Option Cause). heard Refused c (Some a)) lives

  keeps_answer : (a : Answer) → (w.handlers h).answer ≡ Some a → ((after.handlers h).answer ≡ Some a)
      ⊎ ((after.handlers h).answer ≡ Some Failed)
  keeps_answer a e = by (known.answers_come most s w g h here apart)
    where
      old : {b : Answer} → (b ≡ Failed → ⊥) → (after.handlers h).answer ≡ heard b (w.handlers h).failure
          (w.handlers h).answer → (after.handlers h).answer ≡ Some a
      old {b} n i = i ∙ ap (heard b (w.handlers h).failure) e ∙ hears_so a b n

      by : AnswerComes s w g h after → ((after.handlers h).answer ≡ Some a) ⊎ ((after.handlers h).answer ≡ Some Failed)
      by (AnswerComes.stays i) = inl (i ∙ e)
      by (AnswerComes.told f i) = inr (i ∙ ap (λ (c : Option Cause). heard Failed c (w.handlers h).answer) lives)
      by (AnswerComes.exits m z i) = inl (old reply_no_failure i)
      by (AnswerComes.refused m z i) = inl (old refusal_no_failure i)
      by (AnswerComes.attribute m z i) = inl (old reply_no_failure i)
      by (AnswerComes.made m z i) = inl (old reply_no_failure i)

  told_on : IsToldNone w h → IsToldNone after h
  told_on (inl e) = by (keeps_answer Failed e)
    where
      by : ((after.handlers h).answer ≡ Some Failed) ⊎ ((after.handlers h).answer ≡ Some Failed) → IsToldNone after h
      by (inl i) = inl i
      by (inr i) = inl i
  told_on (inr e) = by (keeps_answer Refused e)
    where
      by : ((after.handlers h).answer ≡ Some Refused) ⊎ ((after.handlers h).answer ≡ Some Failed) → IsToldNone after h
      by (inl i) = inr i
      by (inr i) = inl i

  -- ---- a frame of h

  module _ (f : Frame) (below : List Frame) (above : Option Frame) (mine : f.current.handler ≡ h)
      (top : IsTop pure (w.handlers h).stack above (f ∷ below))
      (above_is : AboveIsPure pure above) where
    current_same : objects_of w f.current.handler ≡ objects_of after f.current.handler
    current_same = subst (λ (k : ℕ). objects_of w k ≡ objects_of after k) (sym mine) own_same

    -- ---- whom it has asked

    -- this frame awaits k, or h doesn't
    awaited_here : (k : ℕ) → AwaitsOf f.stage k ⊎ (TopAwaits (w.handlers h).stack k → ⊥)
    awaited_here k = by (top.or_none above_is)
      where
        at : (w.handlers h).stack ≡ f ∷ below → AwaitsOf f.stage k ⊎ (AwaitsOf f.stage k → ⊥) → AwaitsOf f.stage k
            ⊎ (TopAwaits (w.handlers h).stack k → ⊥)
        at i (inl z) = inl z
        at i (inr n) = inr (λ a. n (awaits_of f below (w.handlers h).stack k i a))

        by : ((w.handlers h).stack ≡ f ∷ below) ⊎ ((k : ℕ) → TopAwaits (w.handlers h).stack k → ⊥) → AwaitsOf f.stage k
            ⊎ (TopAwaits (w.handlers h).stack k → ⊥)
        by (inr n) = inr (n k)
        by (inl i) = at i (awaits_or_not k f.stage)

    quiet_on : (k : ℕ) → IsQuiet w h k → AwaitsOf f.stage k ⊎ StaysQuiet w after h k
    quiet_on k q = by (awaited_here k)
      where
        by : AwaitsOf f.stage k ⊎ (TopAwaits (w.handlers h).stack k → ⊥) → AwaitsOf f.stage k ⊎ StaysQuiet w after h k
        by (inl a) = inl a
        by (inr n) = inr (quiet_stays known.called_back_waits known.others_stay known.rights_stay known.beyond_is_unused
            most s root w reached g h apart lives k (inr n) q)

    module _ (z : InPrecondition s pure w h above f) where
      asked_quiet : (k : ℕ) → Contains z.asked k → (k ≢ h) × (IsQuiet after h k ⊎ AwaitsOf f.stage k)
      asked_quiet k i = ((z.quiet k i).0, by (z.quiet k i).1)
        where
          at : AwaitsOf f.stage k ⊎ StaysQuiet w after h k → IsQuiet after h k ⊎ AwaitsOf f.stage k
          at (inl a) = inr a
          at (inr q) = inl q.quiet

          by : IsQuiet w h k ⊎ AwaitsOf f.stage k → IsQuiet after h k ⊎ AwaitsOf f.stage k
          by (inl q) = at (quiet_on k q)
          by (inr a) = inr a

      -- the objects of all that it has asked stay, if those of whom it awaits do
      asked_same : ((k : ℕ) → AwaitsOf f.stage k → Contains z.asked k → objects_of w k ≡ objects_of after k) → (k : ℕ) →
          MayAsk h z.asked k →
          objects_of w k ≡ objects_of after k
      asked_same awaited k (inl e) = subst (λ (k : ℕ). objects_of w k ≡ objects_of after k) (sym e) own_same
      asked_same awaited k (inr i) = by (z.quiet k i).1
        where
          at : AwaitsOf f.stage k ⊎ StaysQuiet w after h k → objects_of w k ≡ objects_of after k
          at (inl a) = awaited k a i
          at (inr q) = sym q.objects_stay

          by : IsQuiet w h k ⊎ AwaitsOf f.stage k → objects_of w k ≡ objects_of after k
          by (inl q) = at (quiet_on k q)
          by (inr a) = awaited k a i

      -- it awaits nobody
      none_awaited : (st : Stage) → f.stage ≡ st → ((k : ℕ) → AwaitsOf st k → ⊥) → (k : ℕ) → AwaitsOf f.stage k →
          Contains z.asked k → objects_of w k ≡ objects_of after k
      none_awaited st e n k a i = absurd (n k (subst (λ (x : Stage). AwaitsOf x k) e a))

      again : StandsByStage s pure after h z.asked above f f.stage → InPrecondition s pure after h above f
      again i = record { asked = z.asked; quiet = asked_quiet; environment_is = z.environment_is; stands = i }

      abbrev Next : Type 0
      Next = IsLost after h f ⊎ InPrecondition s pure after h above f

      -- with the same objects
      at_objects : (P : Point → Type 0) → P (point_of f (w.handlers h).objects) →
          P (point_of f (after.handlers h).objects)
      at_objects P i = subst (λ (os : List Object). P (point_of f os)) own_same i

      by_stage : (st : Stage) → f.stage ≡ st → StandsByStage s pure w h z.asked above f st → Next
      by_stage Runs e i = inr (again (subst (StandsByStage s pure after h z.asked above f) (sym e)
          (at_objects (ClausesAt s (MayAsk h z.asked) (objects_of after) f.current f.routine (bound_in f))
          (clauses_local known.reaches_locally known.ends_true_locally s (MayAsk h z.asked) (objects_of w)
          (objects_of after)
          (asked_same (none_awaited Runs e (λ k a. a))) f.current current_same f.routine (bound_in f)
          (point_of f (w.handlers h).objects) i))))
      by_stage Reserves e i = inr (again (subst (StandsByStage s pure after h z.asked above f) (sym e) (
        i.0,
        at_objects (λ (p : Point). p ≡ between_point (objects_of after) f.current f.routine
            (bound_in f) f.routine.require)
            (i.1 ∙ ap (λ (os : List Object).
            record (between_point (objects_of w) f.current f.routine (bound_in f) f.routine.require) {
              objects = os;
            }) current_same),
      )))
      by_stage ReservesBlock e i = absurd i
      by_stage (InCall None) e i = absurd i
      by_stage (InCall (Some t)) e (c, o, x, us, done, same, above_for) =
          inr (again (subst (StandsByStage s pure after h z.asked above f) (sym e) (
            c,
            o,
            x,
            us,
            at_objects (ClauseDone s (MayAsk h z.asked) (objects_of after) f.current f.routine (bound_in f)
                (Enters c o x us (Some t)))
                (clause_done_local known.reaches_locally known.ends_true_locally s (MayAsk h z.asked) (objects_of w)
                (objects_of after)
                (asked_same (none_awaited (InCall (Some t)) e (λ k a. a))) f.current current_same f.routine (bound_in f)
                (Enters c o x us (Some t))
                (point_of f (w.handlers h).objects) done),
            same,
            above_for,
          )))
      by_stage (Awaits k None c) e i = absurd i
      by_stage (Awaits k (Some t) true) e i = absurd i
      by_stage (Awaits k (Some t) false) e (o, x, us, done, same, not_own, alone, runs_pure, pending) = by onward
        where
          onward : Onward s pure w after h z.asked o x us
          onward = asked_onward known s root pure faultless well tells most w reached fits follows h here lives
              z.asked o x us
              (record {
                frame = f;
                below = below;
                gives = Some t;
                stack_is = top.is_all alone;
                stage_is = e
                    ∙ ap (λ (j : ℕ). Awaits j (Some t) false) (sym same);
              })
              g apart runs_pure pending

          by : Onward s pure w after h z.asked o x us → Next
          by (Onward.lost n) = inl (ap is_awaiting e, n)
          by (Onward.goes objects now) = inr (again (subst (StandsByStage s pure after h z.asked above f) (sym e) (
            o,
            x,
            us,
            at_objects (ClauseDone s (MayAsk h z.asked) (objects_of after) f.current f.routine (bound_in f)
                (Requests o x us (Some t) false))
                (clause_done_local known.reaches_locally known.ends_true_locally s (MayAsk h z.asked) (objects_of w)
                (objects_of after)
                (asked_same (λ j a i.
                let is_o : o.handler ≡ j = same ∙ subst (λ (x : Stage). AwaitsOf x j) e a in
                subst (λ (j : ℕ). objects_of w j ≡ objects_of after j) is_o
                (sym (objects (subst (Contains z.asked) (sym is_o) i)))))
                f.current current_same f.routine (bound_in f) (Requests o x us (Some t) false)
                (point_of f (w.handlers h).objects) done),
            same,
            not_own,
            alone,
            runs_pure,
            now,
          )))

      precondition_next : Next
      precondition_next = by_stage f.stage refl z.stands

  -- ---- the stack of h

  frame_on : (f : Frame) (below : List Frame) (above : Option Frame) → f.current.handler ≡ h →
      IsTop pure (w.handlers h).stack above (f ∷ below) →
      FrameFollows s pure w h above f → FrameFollows s pure after h above f
  frame_on f below above mine top z = record {
    in_precondition = by z.in_precondition;
    in_pure = λ p. (
      (z.in_pure p).0,
      follows_local known.reaches_locally known.ends_true_locally s (objects_of w) (objects_of after) above f
          (subst (λ (k : ℕ). objects_of w k ≡ objects_of after k) (sym mine) own_same) f.stage (z.in_pure p).1,
    );
    reserves_nothing = z.reserves_nothing;
    is_bound = z.is_bound;
  }
    where
      next : AboveIsPure pure above → IsLost after h f ⊎ InPrecondition s pure after h above f →
          HasStarted f.tasks ⊎ (IsLost after h f ⊎ (AboveIsPure pure above × InPrecondition s pure after h above f))
      next a (inl n) = inr (inl n)
      next a (inr i) = inr (inr (a, i))

      by : HasStarted f.tasks ⊎ (IsLost w h f ⊎ (AboveIsPure pure above × InPrecondition s pure w h above f)) →
          HasStarted f.tasks ⊎ (IsLost after h f ⊎ (AboveIsPure pure above × InPrecondition s pure after h above f))
      by (inl i) = inl i
      by (inr (inl n)) = inr (inl (n.0, told_on n.1))
      by (inr (inr i)) = next i.0 (precondition_next f below above mine top i.0 i.1)

  -- below a frame
  top_below : (f : Frame) (below : List Frame) (above : Option Frame) →
      IsTop pure (w.handlers h).stack above (f ∷ below) → FrameFollows s pure w h above f →
      IsTop pure (w.handlers h).stack (Some f) below
  top_below f below above top z =
      record { is_all = λ e. some_is_none e; or_none = λ i. inr (by (top.or_none (z.in_pure i.1).0) (z.in_pure i.1).1) }
    where
      by : ((w.handlers h).stack ≡ f ∷ below) ⊎ ((k : ℕ) → TopAwaits (w.handlers h).stack k → ⊥) →
          FollowsPure s (objects_of w) above f f.stage →
          (k : ℕ) → TopAwaits (w.handlers h).stack k → ⊥
      by (inl e) p k a = pure_awaits_none s (objects_of w) above f f.stage k p
          (awaits_of f below (w.handlers h).stack k e a)
      by (inr n) p k a = n k a

  stack_on : (st : List Frame) (above : Option Frame) → Each (FrameFits s pure w h) st →
      IsTop pure (w.handlers h).stack above st → StackFollows s pure w h above st →
      StackFollows s pure after h above st
  stack_on [] above fit top z = tt
  stack_on (f ∷ below) above fit top z =
      (frame_on f below above fit.0.is_own top z.0, stack_on below (Some f) fit.1 (top_below f below above top z.0) z.1)

  pub stack_follows : StackFollows s pure after h None (after.handlers h).stack
  stack_follows = subst (StackFollows s pure after h None) (sym stay.stack_stays)
      (stack_on (w.handlers h).stack None (fits h here).frames_fit
      (record { is_all = λ e. refl; or_none = λ i. inl refl }) (follows h here lives))

-- ---- all of it

known_laws : Known
known_laws = record {
  called_back_waits = called_back_waits;
  callbacks_meet_waiters = callbacks_meet_waiters;
  ends_the_one = ends_the_one;
  stands_once = stands_once;
  beyond_is_unused = beyond_is_unused;
  rights_stay = rights_stay;
  others_stay = others_stay;
  own_queue_shrinks = own_queue_shrinks;
  answers_come = answers_come;
  answers_locally = answers_locally;
  reaches_locally = reaches_locally;
  ends_true_locally = ends_true_locally;
  pure_moves = pure_moves;
  pure_answers = pure_answers;
  entry_follows = entry_follows;
}

pub others_follow : OthersFollow
others_follow s root pure faultless well tells most g h w reached follows here apart lives =
    stack_follows known_laws s root pure faultless well tells most w reached
    (reached_fits s root pure faultless well tells most w reached) follows g h here
    (sym (others_stay most s w g h here apart).failure_stays ∙ lives) apart
