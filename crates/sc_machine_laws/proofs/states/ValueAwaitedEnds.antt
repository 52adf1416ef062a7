-- In each state that is reached, whoever waits for what may end takes what it asks for. So each turn keeps what fits, and each value fits.
use Rattle.std.specs.List.{flat_map}
use Rattle.std.specs.Option.{option_and_then}
use Rattle.std.specs.Prelude.{if◌then◌else◌, nat_lt}
use Rattle.std.proofs.Common.{Bool, List, None, Option, Some, [], ap, false, refl, subst, sym, true, ℕ, ◌++◌, ◌<◌, ◌∙◌, ◌∷◌, ◌≡◌}
use Rattle.std.proofs.lemmas.Bool.{ltb-true}
use Rattle.sc_tree.specs.Plain.{System}
use Rattle.sc_class.specs.ClassNames.{Root}
use Rattle.sc_class.specs.Faults.ClassRules.{IsFaultless}
use Rattle.sc_rules.specs.Names.{RoutineName}
use Rattle.sc_rules.specs.Purity.{IsPurity}
use Rattle.sc_rules.specs.SystemRules.{WellFormed}
use Rattle.sc_rules.proofs.PurityStands.{purity_stands}
use Rattle.sc_model.specs.Failures.{request_of, to_list}
use Rattle.sc_model.specs.Handlers.{Awaits, Frame, InCall, Request, Reserves, ReservesBlock, Runs, Stage, World, point_of}
use Rattle.sc_model.specs.Moves.{moves}
use Rattle.sc_model.specs.Routines.{version_of}
use Rattle.sc_model.specs.Runs.{IsReached, opening, run}
use Rattle.sc_model.specs.Steps as act
use Rattle.sc_model.specs.Steps.{Does, Goes, Step}
use Rattle.sc_model.specs.Turns.{turn, turn_with}
use Rattle.sc_model.specs.Values.{Reference}
use Rattle.sc_machine_laws.specs.states.World.{Asked}
use Rattle.sc_machine_laws.specs.states.Headline.{has_reply}
use Rattle.sc_machine_laws.proofs.states.MachineHolders.{machine_callbacks_come_first}
use Rattle.sc_machine_laws.proofs.states.AwaitedResults.{Ends, Met, begun_ends, callback_ends, meets, next_ends}
use Rattle.sc_machine_laws.proofs.states.links.Reached.{Paired, opening_paired, turn_paired}
use Rattle.sc_machine_laws.proofs.states.links.Turns.{asked_at, asked_in, asked_on}
use Rattle.sc_machine_laws.specs.states.Fitting.{CallbacksStandAlone, EndsAreAwaited, Gives, IsAwaited, RequestFits, TakesResult, WorldFits, called_back, next, runs}
use Rattle.sc_machine_laws.specs.states.Places.{called_name, result_if_any, result_of_request}
use Rattle.sc_machine_laws.specs.states.Points.{Each}
use Rattle.sc_machine_laws.specs.states.Values.{EachEndIsAwaited, NonSeparateIsOwn, TurnsKeepIt, ValuesFit}
use Rattle.sc_machine_laws.proofs.states.Lists.{each_before, each_behind, same_some}
use Rattle.sc_machine_laws.proofs.states.Matches.{requests_are_matched}
use Rattle.sc_machine_laws.proofs.states.ValueOpening.{opening_fits}
use Rattle.sc_machine_laws.proofs.states.Reached.{from_turns}
use Rattle.sc_machine_laws.proofs.states.Turns.{turns_keep_where_awaited}
use Rattle.sc_machine_laws.proofs.states.ValuesFit.{own_where_world_fits}

-- what was asked gives what its poster takes
abbrev pub IsMatched : System → Option Asked → Type 0
IsMatched s None = Unit {0}
IsMatched s (Some a) = Gives s a.target.handler (result_if_any s (option_and_then (version_of s a.target.class) (called_name a.errand))) a.poster a.environment a.takes

-- what fits, and what is matched
pub record Both (s : System) (pure : RoutineName → Bool) (w : World) : Type 0 where
  pub fits : WorldFits s pure w
  pub paired : Paired (IsMatched s) w

-- ---- what may end is awaited

module _ (s : System) (pure : RoutineName → Bool) (w : World) (fits : WorldFits s pure w) (paired : Paired (IsMatched s) w) where
  -- what was asked is what the request asks for, and what the frame takes that waits
  met_takes : (h p : ℕ) (q : Request) → q.target.handler ≡ h → q.poster ≡ Some p → Met (IsMatched s) w p q → TakesResult s w p h (result_of_request s q)
  met_takes h p q here poster t = record {
    frame = t.frame;
    below = t.below;
    supplier = t.supplier;
    takes = t.takes;
    is_creation = t.is_creation;
    stack_is = t.stack_is;
    stage_is = t.stage_is;
    gives = subst (λ u. Gives s h (result_of_request s q) p t.frame.environment u) t.takes_is
        (subst (λ cs. Gives s h (result_of_request s q) p cs t.asked.takes) t.environment
        (subst (λ k. Gives s h (result_of_request s q) k t.asked.environment t.asked.takes) (same_some (sym t.poster ∙ poster))
        (subst (λ k. Gives s k (result_of_request s q) t.asked.poster t.asked.environment t.asked.takes) here
        (subst (λ e. Gives s q.target.handler (result_if_any s (option_and_then (version_of s q.target.class) (called_name e))) t.asked.poster t.asked.environment t.asked.takes) (sym t.errand)
        (subst (λ (o : Reference). Gives s o.handler (result_if_any s (option_and_then (version_of s o.class) (called_name t.asked.errand))) t.asked.poster t.asked.environment t.asked.takes)
        (sym t.target) t.holds)))));
  }

  awaited_by : (h : ℕ) (q : Request) → RequestFits s w h q → Ends paired.linked.world h q → IsAwaited s w h q (result_of_request s q)
  awaited_by h q z e = λ p m waited poster alive none. met_takes h p q z.is_here poster (meets (IsMatched s) w paired h p q e waited poster alive none)

  pub waiting_fit : (h : ℕ) → h < w.count → Each (RequestFits s w h) ((w.handlers h).queue ++ to_list (w.handlers h).callback)
  waiting_fit h l = each_before (RequestFits s w h) ((w.handlers h).queue ++ to_list (w.handlers h).callback)
      (flat_map (λ (f : Frame). request_of f.origin) (w.handlers h).stack) (fits h l).requests_fit

  stacked_fit : (h : ℕ) → h < w.count → Each (RequestFits s w h) (flat_map (λ (f : Frame). request_of f.origin) (w.handlers h).stack)
  stacked_fit h l = each_behind (RequestFits s w h) ((w.handlers h).queue ++ to_list (w.handlers h).callback)
      (flat_map (λ (f : Frame). request_of f.origin) (w.handlers h).stack) (fits h l).requests_fit

  pub ends_are_awaited : EndsAreAwaited s w
  ends_are_awaited h q l (runs {f} {below} is e i) = awaited_by h q
      (subst (λ o. Each (RequestFits s w h) (request_of o)) i
      (each_before (RequestFits s w h) (request_of f.origin) (flat_map (λ (g : Frame). request_of g.origin) below)
      (subst (λ fs. Each (RequestFits s w h) (flat_map (λ (g : Frame). request_of g.origin) fs)) is (stacked_fit h l)))).0
      (begun_ends paired.linked.world w paired.linked.law paired.linked.stands h q f below is e i)
  ends_are_awaited h q l (next {rs} is e) = awaited_by h q
      (subst (Each (RequestFits s w h)) e
      (each_before (RequestFits s w h) (w.handlers h).queue (to_list (w.handlers h).callback) (waiting_fit h l))).0
      (next_ends paired.linked.world w paired.linked.law paired.linked.stands h q rs is e)
  ends_are_awaited h q l (called_back {f} {below} is e) = awaited_by h q
      (subst (λ o. Each (RequestFits s w h) (to_list o)) e
      (each_behind (RequestFits s w h) (w.handlers h).queue (to_list (w.handlers h).callback) (waiting_fit h l))).0
      (callback_ends paired.linked.world w paired.linked.law paired.linked.stands h q e)

  -- a reply stands beside no callback
  pub stand_alone : CallbacksStandAlone w
  stand_alone h r v l e i = none (sym (ap has_reply i) ∙ machine_callbacks_come_first paired.linked.world w paired.linked.law paired.linked.stands h r e)
    where
      none : true ≡ false → ⊥
      none e = cc

-- ---- what a turn asks for is matched

module _ (s : System) (root : Root) (pure : RoutineName → Bool) (faultless : IsFaultless s root) (well : WellFormed s) (tells : IsPurity s pure) where
  module _ (w : World) (fits : WorldFits s pure w) (h : ℕ) (l : h < w.count) where
    act_matched : (f : Frame) (below : List Frame) → (w.handlers h).stack ≡ f ∷ below → f.stage ≡ Runs → (x : Step) →
        moves s f.current (point_of f (w.handlers h).objects) ≡ x → IsMatched s (asked_in h w.count below x)
    act_matched f below is e (Goes p) i = tt
    act_matched f below is e (Does (act.Prints text) p) i = tt
    act_matched f below is e (Does act.Until p) i = tt
    act_matched f below is e (Does act.Creates p) i = tt
    act_matched f below is e (Does act.Starts p) i = tt
    act_matched f below is e (Does act.Opens p) i = tt
    act_matched f below is e (Does act.Leaves p) i = tt
    act_matched f below is e (Does act.Exits p) i = tt
    act_matched f below is e (Does (act.Fails why) p) i = tt
    act_matched f below is e (Does (act.Refuses k) p) i = tt
    act_matched f below is e (Does (act.Enters c o x us t) p) i = tt
    act_matched f below is e (Does (act.Requests o x us t b) p) i = (requests_are_matched s root pure faultless well tells w fits h l f below is e p).0 o x us t b i
    act_matched f below is e (Does (act.CreatesHandler c x us t b) p) i = (requests_are_matched s root pure faultless well tells w fits h l f below is e p).1 c x us t b i w.count

    stage_matched : (f : Frame) (below : List Frame) → (w.handlers h).stack ≡ f ∷ below → (x : Stage) → f.stage ≡ x → IsMatched s (asked_at s h w f below x)
    stage_matched f below is Runs e = act_matched f below is e (moves s f.current (point_of f (w.handlers h).objects)) refl
    stage_matched f below is Reserves e = tt
    stage_matched f below is ReservesBlock e = tt
    stage_matched f below is (InCall t) e = tt
    stage_matched f below is (Awaits k t c) e = tt

    stack_matched : (fs : List Frame) → (w.handlers h).stack ≡ fs → IsMatched s (asked_on s h w fs)
    stack_matched [] e = tt
    stack_matched (f ∷ below) e = stage_matched f below e f.stage refl

  -- ---- along a run

  module _ (most : ℕ) where
    pub turn_both : (h : ℕ) (w : World) → Both s pure w → Both s pure (turn most s h w)
    turn_both h w b = record {
      fits = turns_keep_where_awaited s root pure faultless well tells most h w b.fits (stand_alone s pure w b.fits b.paired) (ends_are_awaited s pure w b.fits b.paired);
      paired = by (nat_lt h w.count) refl;
    }
      where
        by : (c : Bool) → nat_lt h w.count ≡ c → Paired (IsMatched s) (turn most s h w)
        by true e = turn_paired (IsMatched s) most s h w (stack_matched w b.fits h (ltb-true h w.count e) (w.handlers h).stack refl) b.paired
        by false e = subst (Paired (IsMatched s)) (sym (ap (λ (c : Bool). if c then turn_with most s h (w.handlers h).failure (w.handlers h).stack w else w) e)) b.paired

    run_both : (hs : List ℕ) (w : World) → Both s pure w → Both s pure (run most s hs w)
    run_both [] w b = b
    run_both (h ∷ hs) w b = run_both hs (turn most s h w) (turn_both h w b)

    pub opening_both : Both s pure (opening s root)
    opening_both = record { fits = opening_fits s root pure faultless; paired = opening_paired (IsMatched s) s root }

    reached_both : (w : World) → IsReached most s root w → Both s pure w
    reached_both w r = subst (Both s pure) r.run_is (run_both r.numbers (opening s root) opening_both)

-- ---- of each state that is reached

pub each_end_is_awaited : EachEndIsAwaited
each_end_is_awaited s root faultless well most w reached = at (purity_stands s)
  where
    at : (pure : RoutineName → Bool) × IsPurity s pure → EndsAreAwaited s w
    at (pure, tells) = let b = reached_both s root pure faultless well tells most w reached in ends_are_awaited s pure w b.fits b.paired

pub turns_keep_it : TurnsKeepIt
turns_keep_it s root pure faultless well tells most h w reached fits =
    (turn_both s root pure faultless well tells most h w (reached_both s root pure faultless well tells most w reached)).fits

pub each_value_fits : ValuesFit
each_value_fits = from_turns turns_keep_it purity_stands

pub each_non_separate_is_own : NonSeparateIsOwn
each_non_separate_is_own s root faultless well most w reached h of r t u stands own = at (purity_stands s)
  where
    at : (pure : RoutineName → Bool) × IsPurity s pure → r.handler ≡ h
    at (pure, tells) = own_where_world_fits s pure w (reached_both s root pure faultless well tells most w reached).fits h of r t u stands own
