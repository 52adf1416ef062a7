-- After its own turn each frame of a handler follows again.
use Rattle.std.proofs.Common.{ℕ, ◌≡◌, ◌⊎◌, ◌<◌, ◌≤◌, Bool, true, false, List, [], ◌∷◌, Option, Some, None, refl, sym, ap, subst, ◌∙◌, inl, inr, arith}
use Rattle.std.proofs.lemmas.Bool.{lt-ltb}
use Rattle.std.specs.Prelude.{if◌then◌else◌, Contains}
use Rattle.sc_tree.specs.Plain.{System}
use Rattle.sc_class.specs.ClassNames.{Root}
use Rattle.sc_class.specs.Faults.ClassRules.{IsFaultless}
use Rattle.sc_rules.specs.Names.{RoutineName}
use Rattle.sc_rules.specs.Purity.{IsPurity}
use Rattle.sc_rules.specs.SystemRules.{WellFormed}
use Rattle.sc_model.specs.declared.cause.Cause.{Cause}
use Rattle.sc_model.specs.declared.cause.Cause.TheVariants as cause
use Rattle.sc_model.specs.Failures.{requests_at}
use Rattle.sc_model.specs.Handlers.{Request, Stage, Runs, Reserves, ReservesBlock, InCall, Awaits, Frame, World}
use Rattle.sc_model.specs.Runs.{IsReached}
use Rattle.sc_model.specs.Turns.{goes_on, turn_with, turn}
use Rattle.sc_machine_laws.specs.states.Fitting.{FrameFits, HandlerFits, Linked}
use Rattle.sc_machine_laws.specs.states.Points.{Each}
use Rattle.sc_machine_laws.proofs.states.Turns.{callbacks_stand_alone}
use Rattle.sc_machine_laws.specs.settlements.Calm.{name_of}
use Rattle.sc_machine_laws.specs.settlements.Entries.{HasStarted}
use Rattle.sc_machine_laws.proofs.settlements.FrameLinks.{one_further, reached_fits}
use Rattle.sc_machine_laws.proofs.Locally.{answers_more, ends_true_more, reaches_more}
use Rattle.sc_machine_laws.proofs.WithoutTests.{texts_are_without_tests}
use Rattle.sc_machine_laws.proofs.Turned.{count_grows}
use Rattle.sc_machine_laws.proofs.Unlent.{no_callback_there}
use Rattle.sc_machine_laws.specs.Following.{objects_of, FollowsPure, IsLost, AboveIsPure, InPrecondition, StackFollows, WorldFollows}
use Rattle.sc_machine_laws.specs.Turns.{OwnFollows}
use Rattle.sc_machine_laws.proofs.PointsReached.{clause_moves, pure_moves}
use Rattle.sc_machine_laws.proofs.OwnKept.{AllPlain, plain_below}
use Rattle.sc_machine_laws.proofs.OwnPlain.{next_good}
use Rattle.sc_machine_laws.proofs.OwnTurns.{goes_good}
use Rattle.sc_machine_laws.proofs.OwnEntries.{calm_follows}
use Rattle.sc_machine_laws.proofs.OwnMoves.{Follow, fails_follow}
use Rattle.sc_machine_laws.proofs.OwnPure.{pure_follows}
use Rattle.sc_machine_laws.proofs.OwnWaits.{clause_follows}
use Rattle.sc_machine_laws.proofs.Lists.{some_is_none}

module _ (s : System) (root : Root) (pure : RoutineName → Bool) (faultless : IsFaultless s root) (well : WellFormed s)
    (tells : IsPurity s pure) (most h : ℕ)
    (w : World) (reached : IsReached most s root w) (follows : WorldFollows s pure w) (here : h < w.count) where
  fits : HandlerFits s pure w h
  fits = reached_fits s root pure faultless well tells most w reached h here

  -- ---- the topmost frame goes on

  module _ (lives : (w.handlers h).failure ≡ None) (f : Frame) (below : List Frame)
      (at : (w.handlers h).stack ≡ f ∷ below) where
    stack_follows : StackFollows s pure w h None (f ∷ below)
    stack_follows = subst (StackFollows s pure w h None) at (follows h here lives)

    stack_fits : Each (FrameFits s pure w h) (f ∷ below)
    stack_fits = subst (Each (FrameFits s pure w h)) at fits.frames_fit

    linked : Linked s h (f ∷ below)
    linked = subst (Linked s h) at fits.frames_are_linked

    -- a function that contracts may call runs, or is in a call
    as_pure : pure (name_of f.routine) ≡ true → (st : Stage) → f.stage ≡ st → FollowsPure s (objects_of w) None f st →
        Follow s pure h (goes_on most s h st f below w)
    as_pure is Runs e z = pure_follows texts_are_without_tests clause_moves pure_moves answers_more s root pure faultless
        well tells most w reached h f below
        (record { is_there = here; lives = lives; stack_is = at; runs = e }) stack_follows.0 stack_follows.1
        stack_fits linked is
    as_pure is Reserves e z = absurd z
    as_pure is ReservesBlock e z = absurd z
    as_pure is (InCall gives) e z = fails_follow s pure h cause.BadCode [] w
    as_pure is (Awaits k gives c) e z = absurd z

    module _ (impure : pure (name_of f.routine) ≡ true → ⊥) where
      rest : AllPlain pure (w.handlers h).answer below
      rest = plain_below s pure w h f below stack_follows.1 (λ c. impure c.1)

      alone : (k : ℕ) (q : Request) → Contains (requests_at (w.handlers k)) q → q.poster ≡ Some h → q.is_waited ≡ true →
          q.passed ≡ None →
          (w.handlers h).callback ≡ None
      alone k q c p i n = (no_callback_there most s root w reached h k q lives
          (record { stands = c; poster_is = p; is_waited = i; passed_is = n })).1

      by_place : HasStarted f.tasks ⊎ (IsLost w h f ⊎ (AboveIsPure pure None × InPrecondition s pure w h None f)) →
          Follow s pure h (goes_on most s h f.stage f below w)
      by_place (inl i) = inr (goes_good s pure h w f below at (inl i, impure) rest most f.stage here refl)
      by_place (inr (inl i)) = inr (goes_good s pure h w f below at (inr i, impure) rest most f.stage here refl)
      by_place (inr (inr (p, i))) =
          clause_follows texts_are_without_tests clause_moves answers_more reaches_more ends_true_more s root pure faultless
          well tells most w reached h here lives
          f below at i stack_fits.0.is_own rest impure fits.answer_fits alone
          (λ r v. callbacks_stand_alone s root most w reached h r v here) f.stage refl

    goes_follow : Follow s pure h (goes_on most s h f.stage f below w)
    goes_follow = by (pure (name_of f.routine)) refl
      where
        by : (b : Bool) → pure (name_of f.routine) ≡ b → Follow s pure h (goes_on most s h f.stage f below w)
        by true e = as_pure e f.stage refl (stack_follows.0.in_pure e).1
        by false e = by_place (λ i. let both : true ≡ false = sym i ∙ e in cc) stack_follows.0.in_precondition

  -- ---- the turn

  there : (why : Option Cause) (st : List Frame) → (w.handlers h).failure ≡ why → (w.handlers h).stack ≡ st →
      ((turn_with most s h why st w).handlers h).failure ≡ None →
      Follow s pure h (turn_with most s h why st w)
  there (Some why) st e at lives = some_is_none (sym e ∙ lives)
  there None [] e at lives = inr (next_good s pure h w (w.handlers h).queue at)
  there None (f ∷ below) e at lives = goes_follow e f below at

  abbrev V : World
  V = turn most s h w

  turn_is : V ≡ turn_with most s h (w.handlers h).failure (w.handlers h).stack w
  turn_is = ap (λ (b : Bool). if b then turn_with most s h (w.handlers h).failure (w.handlers h).stack w else w)
      (lt-ltb h w.count here)

  turned : (V.handlers h).failure ≡ None → Follow s pure h V
  turned lives = subst (Follow s pure h) (sym turn_is) (there (w.handlers h).failure (w.handlers h).stack refl refl
      (subst (λ (v : World). (v.handlers h).failure ≡ None) turn_is lives))

  still_here : h < V.count
  still_here = let more : w.count ≤ V.count = count_grows most s w h in omega (arith, more, here)

  own : Follow s pure h V → StackFollows s pure V h None (V.handlers h).stack
  own (inl z) = z
  own (inr calm) = calm_follows texts_are_without_tests s root pure faultless well tells V h (V.handlers h).stack
      (reached_fits s root pure faultless well tells most V
      (one_further most s root h w reached) h still_here).frames_fit calm

pub own_follows : OwnFollows
own_follows s root pure faultless well tells most h w reached follows here lives =
    own s root pure faultless well tells most h w reached follows here
    (turned s root pure faultless well tells most h w reached follows here lives)
