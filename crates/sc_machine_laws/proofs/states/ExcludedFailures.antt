-- No handler of an accepted system fails for one that it does not hold, a foreign object, a Void target or a missing case.
use Rattle.std.specs.Option.{option_and_then, option_map, option_map_or}
use Rattle.std.specs.Prelude.{if◌then◌else◌, nat_lt}
use Rattle.std.proofs.Common.{◌++◌, ◌<◌, Bool, List, None, Option, Some, [], ap, false, refl, subst, sym, true, ℕ, ◌∙◌, ◌∷◌, ◌≡◌}
use Rattle.std.proofs.lemmas.Bool.{ltb-true}
use Rattle.sc_tree.specs.Plain.{FeatureKind, System}
use Rattle.sc_class.specs.ClassNames.{Root, number_of}
use Rattle.sc_class.specs.Faults.ClassRules.{IsFaultless}
use Rattle.sc_rules.specs.declared.entity_types.entity_type.EntityType.{EntityType}
use Rattle.sc_rules.specs.declared.entity_types.tag.Reserved.{Reserved}
use Rattle.sc_rules.specs.Names.{RoutineName}
use Rattle.sc_rules.specs.Purity.{IsPurity}
use Rattle.sc_rules.specs.SystemRules.{WellFormed}
use Rattle.sc_rules.proofs.PurityStands.{purity_stands}
use Rattle.sc_lockpass.specs.wait_conditions.Conditions.{clause_kind, verdict_of_false}
use Rattle.sc_lockpass.specs.declared.wait_conditions.condition.ClauseKind.{ClauseKind}
use Rattle.sc_lockpass.specs.declared.wait_conditions.condition.ClauseKind.TheVariants.{CorrectnessCondition, WaitCondition}
use Rattle.sc_lockpass.specs.declared.wait_conditions.session.Release.TheVariants as release_at
use Rattle.sc_machine_laws.specs.states.Formals.{FormalsAreHeld, NamesAreHeld}
use Rattle.sc_machine_laws.proofs.states.links.Held.{reached_formals_are_held, reached_names_are_held}
use Rattle.sc_machine_laws.proofs.states.links.FittingActs.{stack_fits}
use Rattle.sc_machine_laws.proofs.states.links.Turns as sound
use Rattle.sc_model.specs.Entries.{block_needs, enters, entry_needs, may_reserve}
use Rattle.sc_model.specs.Exits.{exits, handed, handed_as, handed_at, leaves_block, leaves_to}
use Rattle.sc_model.specs.Environments.{handler_named}
use Rattle.sc_model.specs.Failures.{to_list}
use Rattle.sc_model.specs.Handlers.{Answer, Awaits, Called, Calls, Errand, Failed, Frame, Handler, InCall, Makes, Origin, Refused, Reply, Request, Requested, Reserves, ReservesBlock, Runs, Stage, World, frame_at, new_handler, point_of, put, with_stack}
use Rattle.sc_model.specs.Moves.{moves}
use Rattle.sc_model.specs.Objects.{fresh_object, object_numbered}
use Rattle.sc_model.specs.Preconditions.{correctness_fails, counted_refusal, false_clause, formals_among, names_in, refuses}
use Rattle.sc_model.specs.Routines.{routine_named, routine_of}
use Rattle.sc_model.specs.Runs.{IsReached, opening, root_request, run}
use Rattle.sc_model.specs.Sessions.{release}
use Rattle.sc_model.specs.Steps as act
use Rattle.sc_model.specs.Steps.{Act, Calling, Does, Goes, Point, Step}
use Rattle.sc_model.specs.Takes.{released_if, takes, takes_answer, takes_callback, takes_errand, takes_next, with_new_object}
use Rattle.sc_model.specs.Turns.{effect, goes_on, settles, turn, turn_with, waits}
use Rattle.sc_model.specs.Values.{Operand, Reference, Value, values_of}
use Rattle.sc_model.specs.declared.cause.Cause.{Cause}
use Rattle.sc_model.specs.declared.cause.Cause.TheVariants as cause
use Rattle.sc_machine_laws.specs.states.Fitting.{FrameFits, IsThere, Linked, ObjectFits, RequestFits, alone, called, is_due, is_made}
use Rattle.sc_machine_laws.specs.states.Places.{is_routine}
use Rattle.sc_machine_laws.specs.states.Points.{AttributesFit, Each, IsAmong}
use Rattle.sc_machine_laws.specs.states.ValueSteps.{ActFits, EntryFits, KindFits, StepFits, a_routine, an_attribute, is_excluded}
use Rattle.sc_machine_laws.specs.states.Values.{NoneIsExcluded}
use Rattle.sc_machine_laws.proofs.states.ValueAwaitedEnds.{Both, opening_both, turn_both, waiting_fit}
use Rattle.sc_machine_laws.proofs.states.Changes.{put_at, some_among}
use Rattle.sc_machine_laws.proofs.states.Frames.{running_frames_move}
use Rattle.sc_machine_laws.proofs.states.AskedHandlers.{asked_is_held}
use Rattle.sc_machine_laws.proofs.states.Lists.{each_before, each_behind, each_more}
use Rattle.sc_machine_laws.proofs.states.Reached.{one_more}
use Rattle.sc_machine_laws.proofs.states.Settled.{relinked}
use Rattle.sc_machine_laws.proofs.states.Spared.{AllSpared, IsSpared, creates_spared, fails_spared, finish_spared, handed_goes, if_spared, is_in_call, put_spared, release_spared, request_spared, reserves_spared, stack_spared, top_calls}
use Rattle.sc_machine_laws.proofs.states.SparedTurns.{called_spared, feature_spared, made_spared, requested_below}

true_false : {A : Type 0} → true ≡ false → A
true_false e = cc

-- ---- acts that concern the own handler

-- whoever called it goes on
caller_goes : (s : System) (h : ℕ) (v : Option Value) (f : Frame) (fs : List Frame) (c : Calling) → Linked s h (f ∷ fs) → f.origin ≡ Called c → top_calls (handed v fs) ≡ false
caller_goes s h v f fs c (alone {r} j q y) e = absurd (never r (sym e ∙ j))
  where
    never : (r : Request) → Called c ≡ Requested r → ⊥
    never r e = cc
caller_goes s h v f _ c (called {g} {below} {t} q j y k) e = subst (λ x. is_in_call (handed_at x v g).stage ≡ false) (sym j) (handed_goes t v g)

-- the frame runs, and below one that a request began lies none in a call
record Going (s : System) (w : World) (h : ℕ) (f : Frame) (below : List Frame) : Type 0 where
  all : AllSpared w
  runs : f.stage ≡ Runs
  linked : Linked s h (f ∷ below)
  under : (r : Request) → f.origin ≡ Requested r → top_calls below ≡ false

module _ (s : System) (w : World) (h : ℕ) (f : Frame) (below : List Frame) (g : Going s w h f below) where
  runs_goes : is_in_call f.stage ≡ false
  runs_goes = ap is_in_call g.runs

  leaves_spared : (reserved : List ℕ) (v : Option Value) (o : Origin) → f.origin ≡ o → AllSpared (leaves_to h o reserved v below w)
  leaves_spared reserved v (Called c) e = release_spared release_at.Exit reserved (with_stack h (handed v below) w)
      (stack_spared h (handed v below) w (caller_goes s h v f below c g.linked e) g.all)
  leaves_spared reserved v (Requested r) e = finish_spared r (Reply v) (release release_at.Exit reserved (with_stack h below w))
      (release_spared release_at.Exit reserved (with_stack h below w) (stack_spared h below w (g.under r e) g.all))

  exits_spared : AllSpared (exits s h f below w)
  exits_spared = if_spared _ _ _ (fails_spared h cause.UnsetEntity [] w refl g.all)
      (if_spared _ _ _ (leaves_spared f.reserved (option_map (λ (u : Operand). u.value) f.result) f.origin refl) (fails_spared h cause.Invariant [] w refl g.all))

  block_spared : (kss : List (List ℕ)) → (kss ≡ [] → ⊥) → AllSpared (leaves_block h kss f below w)
  block_spared [] left = absurd (left refl)
  block_spared (ks ∷ kss) left = release_spared release_at.Leave ks (with_stack h (record f { blocks = kss } ∷ below) w)
      (stack_spared h (record f { blocks = kss } ∷ below) w runs_goes g.all)

  -- a false clause
  refuses_spared : (r : Request) → f.origin ≡ Requested r → AllSpared (refuses s h r f below w)
  refuses_spared r e = if_spared _ _ _ (fails_spared h cause.Invariant [] w refl g.all)
      (finish_spared r Refused (release release_at.Refusal f.reserved (put h (counted_refusal r.is_waited (record (w.handlers h) { stack = below })) w))
      (release_spared release_at.Refusal f.reserved (put h (counted_refusal r.is_waited (record (w.handlers h) { stack = below })) w)
      (put_spared h (counted_refusal r.is_waited (record (w.handlers h) { stack = below })) w (counted r.is_waited) g.all)))
    where
      counted : (b : Bool) → IsSpared (counted_refusal b (record (w.handlers h) { stack = below }))
      counted true = record { spared = (g.all.each h).spared; goes = g.under r e }
      counted false = record { spared = (g.all.each h).spared; goes = g.under r e }

  clause_spared : (k : ClauseKind) → AllSpared (false_clause (verdict_of_false k) s h f below w)
  clause_spared WaitCondition = release_spared release_at.FalseWaitCondition f.reserved _ (stack_spared h _ w refl g.all)
  clause_spared CorrectnessCondition = by f.origin refl
    where
      by : (o : Origin) → f.origin ≡ o → AllSpared (correctness_fails s h o f below w)
      by (Called c) e = fails_spared h cause.Precondition [] w refl g.all
      by (Requested r) e = refuses_spared r e

-- ---- the answer that is taken

answer_spared : (h : ℕ) (a : Answer) (k : ℕ) (t : Option EntityType) (c : Bool) (f : Frame) (below : List Frame) (w : World) → AllSpared w →
    AllSpared (takes_answer h a k t c f below w)
answer_spared h Failed k t c f below w all = fails_spared h cause.SupplierFailed [] w refl all
answer_spared h Refused k t c f below w all = fails_spared h cause.Precondition [] w refl all
answer_spared h (Reply v) k t c f below w all = by c
  where
    after : AllSpared (put h (record (w.handlers h) { stack = handed_as t v f ∷ below; answer = None }) w)
    after = put_spared h (record (w.handlers h) { stack = handed_as t v f ∷ below; answer = None }) w
        (record { spared = (all.each h).spared; goes = handed_goes t v f }) all

    by : (c : Bool) → AllSpared (released_if c k (put h (record (w.handlers h) { stack = handed_as t v f ∷ below; answer = None }) w))
    by true = release_spared release_at.Creation (k ∷ []) (put h (record (w.handlers h) { stack = handed_as t v f ∷ below; answer = None }) w) after
    by false = after

-- ---- turns

module _ (s : System) (root : Root) (pure : RoutineName → Bool) (faultless : IsFaultless s root) (well : WellFormed s) (tells : IsPurity s pure) where
  -- a routine of an object is entered
  call_spared : (w : World) (h k : ℕ) (of : Reserved → Option ℕ) (o : Reference) (x : List ℕ) (us : List Operand) (gives : Option EntityType) (origin : Origin) (under : List Frame) →
      AllSpared w → EntryFits s k of o x us gives → AllSpared (enters s h o (routine_named s o.class x) origin under [] (values_of us) w)
  call_spared w h k of o x us gives origin under all (call, is_one) =
      subst (λ y. AllSpared (enters s h o (option_and_then (routine_of s) y) origin under [] (values_of us) w)) (sym call.is_version) (by call.version.feature.kind refl call.fits is_one)
    where
      by : (kind : FeatureKind) → call.version.feature.kind ≡ kind → KindFits s k of o.handler us gives kind → is_routine kind ≡ true →
          AllSpared (enters s h o (routine_of s call.version) origin under [] (values_of us) w)
      by _ e (an_attribute i j) r = cc
      by _ e (a_routine {version} actuals given) r =
          feature_spared s root pure faultless well tells w h o origin under [] (values_of us) all x call.version version call.is_version e actuals

  module _ (w : World) (h : ℕ) (l : h < w.count) (b : Both s pure w) (formals : FormalsAreHeld w) (names : NamesAreHeld w) (all : AllSpared w) where
    own_spared : (x : Handler) → x.failure ≡ (w.handlers h).failure → x.stack ≡ (w.handlers h).stack → IsSpared x
    own_spared x i j = record { spared = λ why e. (all.each h).spared why (sym i ∙ e); goes = ap top_calls j ∙ (all.each h).goes }

    -- ---- a request is taken

    -- its target is one of the objects, where no creation waits before it
    target_among : (r : Request) → RequestFits s w h r →
        ((q : Request) (qs : List Request) (x : Option (List ℕ)) → (w.handlers h).objects ≡ [] → (w.handlers h).queue ≡ q ∷ qs → q.errand ≡ Makes x → ⊥) →
        IsAmong (w.handlers h).objects r.target
    target_among r z none = of_there r.target z.is_here z.target_is_there
      where
        of_there : (o : Reference) → o.handler ≡ h → IsThere w o → IsAmong (w.handlers h).objects o
        of_there o i (is_made {o = x} m j c) = record { object = x; is_there = subst (λ k. object_numbered o.number (w.handlers k).objects ≡ Some x) i j; of_class = c }
        of_there o i (is_due {q} {qs} {x} m j k t u one) =
            absurd (none q qs x (subst (λ k. (w.handlers k).objects ≡ []) i j) (subst (λ n. (w.handlers n).queue ≡ q ∷ qs) i k) u)

    takes_spared : (x : Handler) (r : Request) (below : List Frame) → x.objects ≡ (w.handlers h).objects → IsSpared x → RequestFits s w h r →
        ((y : List ℕ) → r.errand ≡ Calls y → IsAmong (w.handlers h).objects r.target) → AllSpared (takes s h r below (put h x w))
    takes_spared x r below same own z among = by r.errand refl
      where
        after : AllSpared (put h x w)
        after = put_spared h x w own all

        objects_are : ((put h x w).handlers h).objects ≡ (w.handlers h).objects
        objects_are = ap (λ (y : Handler). y.objects) (put_at w h x) ∙ same

        by : (e : Errand) → r.errand ≡ e → AllSpared (takes_errand s h r e below (put h x w))
        by (Calls y) e = called_spared s root pure faultless well tells (put h x w) h r below after z.is_here z.is_known z.made_by_routine z.actuals_fit y e
            (subst (λ os. IsAmong os r.target) (sym objects_are) (among y e))
            (subst (Each (AttributesFit s h)) (sym objects_are)
            (each_more (ObjectFits s w h) (AttributesFit s h) (λ o f. f.attributes_fit) (w.handlers h).objects (b.fits h l).objects_fit))
        by (Makes k) e = made_spared s root pure faultless well tells (with_new_object s h r.target.class (put h x w)) h r below
            (put_spared h (record ((put h x w).handlers h) { objects = ((put h x w).handlers h).objects ++ fresh_object s r.target.class ∷ [] }) (put h x w)
            (record { spared = (after.each h).spared; goes = (after.each h).goes }) after) z.is_here z.is_known z.made_by_routine z.actuals_fit k e

    next_spared : (rs : List Request) → (w.handlers h).queue ≡ rs → AllSpared (takes_next s h rs w)
    next_spared [] e = all
    next_spared (r ∷ rs) e =
        let z = (subst (Each (RequestFits s w h)) e (each_before (RequestFits s w h) (w.handlers h).queue (to_list (w.handlers h).callback) (waiting_fit s pure w b.fits b.paired h l))).0 in
        takes_spared (record (w.handlers h) { queue = rs }) r [] refl (own_spared (record (w.handlers h) { queue = rs }) refl refl) z
        (λ y i. target_among r z (λ q qs x n k u. never y x (sym i ∙ ap (λ (q : Request). q.errand) (sym (top (sym k ∙ e))) ∙ u)))
      where
        top : {p q : Request} {ps qs : List Request} → p ∷ ps ≡ q ∷ qs → p ≡ q
        top e = cc

        never : (y : List ℕ) (x : Option (List ℕ)) → Calls y ≡ Makes x → ⊥
        never y x e = cc

    module _ (f : Frame) (below : List Frame) (is : (w.handlers h).stack ≡ f ∷ below) where
      callback_spared : (r : Request) → (w.handlers h).callback ≡ Some r → AllSpared (takes_callback s h r (f ∷ below) w)
      callback_spared r e =
          let z = (subst (λ o. Each (RequestFits s w h) (to_list o)) e
          (each_behind (RequestFits s w h) (w.handlers h).queue (to_list (w.handlers h).callback) (waiting_fit s pure w b.fits b.paired h l))).0 in
          takes_spared (record (w.handlers h) { callback = None }) r (f ∷ below) refl (own_spared (record (w.handlers h) { callback = None }) refl refl) z
          (λ y i. target_among r z (λ q qs x n k u.
          some_among (w.handlers h).objects f.current (subst (Each (FrameFits s pure w h)) is (b.fits h l).frames_fit).0.is_there n))

      -- ---- the topmost frame makes a move

      module _ (most : ℕ) (lives : (w.handlers h).failure ≡ None) (runs : f.stage ≡ Runs) where
        -- where its move has come to
        abbrev moved : Point → World
        moved p = put h (record (w.handlers h) { objects = p.objects; stack = frame_at f p ∷ below }) w

        after : (p : Point) → AllSpared (moved p)
        after p = put_spared h (record (w.handlers h) { objects = p.objects; stack = frame_at f p ∷ below }) w
            (record { spared = (all.each h).spared; goes = ap is_in_call runs }) all

        going : (p : Point) → Going s (moved p) h (frame_at f p) below
        going p = record {
          all = after p;
          runs = runs;
          linked = relinked s h f (frame_at f p) below refl refl (subst (Linked s h) is (b.fits h l).frames_are_linked);
          under = λ r e. requested_below b.paired.linked.world w b.paired.linked.law b.paired.linked.stands h f below r is runs e;
        }

        -- a block is open at the end of one
        block_open : (p : Point) → moves s f.current (point_of f (w.handlers h).objects) ≡ Does act.Leaves p → f.blocks ≡ [] → ⊥
        block_open p m = (subst (sound.StepFits h f) m
            (subst (λ x. sound.FrameFits s h w f x) runs (subst (sound.StackFits s h w) is (stack_fits s h w b.paired.linked.sound l)))).0

        act_spared : (a : Act) (p : Point) → moves s f.current (point_of f (w.handlers h).objects) ≡ Does a p → ActFits s pure f.routine f.current a p →
            AllSpared (effect most s h a (frame_at f p) below (moved p))
        act_spared (act.Prints text) p m g = put_spared h (record ((moved p).handlers h) { output = ((moved p).handlers h).output ++ text }) (moved p)
            (record { spared = ((after p).each h).spared; goes = ((after p).each h).goes }) (after p)
        act_spared act.Until p m g = after p
        act_spared act.Creates p m g = after p
        act_spared act.Starts p m g = after p
        act_spared act.Opens p m g = stack_spared h (record (frame_at f p) { stage = ReservesBlock } ∷ below) (moved p) refl (after p)
        act_spared act.Leaves p m g = block_spared s (moved p) h (frame_at f p) below (going p) f.blocks (block_open p m)
        act_spared act.Exits p m g = exits_spared s (moved p) h (frame_at f p) below (going p)
        act_spared (act.Fails why) p m g = fails_spared h why [] (moved p) g.0 (after p)
        act_spared (act.Refuses k) p m g =
            clause_spared s (moved p) h (frame_at f p) below (going p) (clause_kind f.reserved (formals_among p.environment (names_in k.condition)))
        act_spared (act.Enters c o x us t) p m g = call_spared (moved p) h f.current.handler (handler_named p.environment) o x us t (Called c)
            (record (frame_at f p) { stage = InCall t } ∷ below) (after p) g.2
        act_spared (act.Requests o x us t c) p m g = request_spared h (frame_at f p) below (ap is_in_call runs) (moved p) o x us t c
            (asked_is_held s w b.paired.linked.sound formals names h l f below lives is runs o x us t c p m g.2) (after p)
        act_spared (act.CreatesHandler k x us t c) p m g = creates_spared h (frame_at f p) below (ap is_in_call runs) most (moved p) k x us t c (after p)

        step_spared : (x : Step) → moves s f.current (point_of f (w.handlers h).objects) ≡ x → AllSpared (settles most s h x f below w)
        step_spared (Goes p) m = all
        step_spared (Does a p) m = act_spared a p m (subst (StepFits s pure f.routine f.current) m (running_frames_move s root pure faultless well tells w b.fits h l f below is runs))

      -- ---- it goes on

      waits_spared : (k : ℕ) (t : Option EntityType) (c : Bool) (q : Option Request) (a : Option Answer) → (w.handlers h).callback ≡ q → AllSpared (waits s h q a k t c f below w)
      waits_spared k t c (Some r) a e = callback_spared r e
      waits_spared k t c None (Some a) e = answer_spared h a k t c f below w all
      waits_spared k t c None None e = all

      on_spared : (most : ℕ) → (w.handlers h).failure ≡ None → (x : Stage) → f.stage ≡ x → AllSpared (goes_on most s h x f below w)
      on_spared most lives Runs e = step_spared most lives e (moves s f.current (point_of f (w.handlers h).objects)) refl
      on_spared most lives Reserves e = reserves_spared (may_reserve (entry_needs h f w) f.mark w) h (entry_needs h f w)
          (record f { stage = Runs; reserved = entry_needs h f w }) below w refl all
      on_spared most lives ReservesBlock e = reserves_spared (may_reserve (block_needs h f w) [] w) h (block_needs h f w)
          (record f { stage = Runs; blocks = block_needs h f w ∷ f.blocks }) below w refl all
      on_spared most lives (InCall t) e = true_false (sym (ap is_in_call e) ∙ ap top_calls (sym is) ∙ (all.each h).goes)
      on_spared most lives (Awaits k t c) e = waits_spared k t c (w.handlers h).callback (w.handlers h).answer refl

    turned_spared : (most : ℕ) (why : Option Cause) → (w.handlers h).failure ≡ why → (fs : List Frame) → (w.handlers h).stack ≡ fs → AllSpared (turn_with most s h why fs w)
    turned_spared most (Some why) i fs e = all
    turned_spared most None i [] e = next_spared (w.handlers h).queue refl
    turned_spared most None i (f ∷ below) e = on_spared f below e most i f.stage refl

  -- ---- along a run

  module _ (most : ℕ) where
    turn_spared : (h : ℕ) (w : World) → IsReached most s root w → Both s pure w → AllSpared w → AllSpared (turn most s h w)
    turn_spared h w r b all = by (nat_lt h w.count) refl
      where
        by : (c : Bool) → nat_lt h w.count ≡ c → AllSpared (if c then turn_with most s h (w.handlers h).failure (w.handlers h).stack w else w)
        by true e = turned_spared w h (ltb-true h w.count e) b (reached_formals_are_held most s root w r) (reached_names_are_held most s root w r) all most (w.handlers h).failure refl (w.handlers h).stack refl
        by false e = all

    run_spared : (hs : List ℕ) (w : World) → IsReached most s root w → Both s pure w → AllSpared w → AllSpared (run most s hs w)
    run_spared [] w r b all = all
    run_spared (h ∷ hs) w r b all = run_spared hs (turn most s h w)
        (record { numbers = r.numbers ++ h ∷ []; run_is = one_more most s r.numbers h (opening s root) ∙ ap (turn most s h) r.run_is })
        (turn_both s root pure faultless well tells most h w b) (turn_spared h w r b all)

    opening_spared : AllSpared (opening s root)
    opening_spared = record { each = λ k. by (nat_lt k 1) }
      where
        by : (b : Bool) → IsSpared (if b then record new_handler { queue = root_request (option_map_or (λ k. k) (number_of s root.class) 0) root.procedure ∷ [] } else new_handler)
        by true = record { spared = λ why e. cc; goes = refl }
        by false = record { spared = λ why e. cc; goes = refl }

    reached_spared : (w : World) → IsReached most s root w → AllSpared w
    reached_spared w r = subst AllSpared r.run_is (run_spared r.numbers (opening s root) (record { numbers = []; run_is = refl }) (opening_both s root pure faultless well tells most) opening_spared)

pub none_is_excluded : NoneIsExcluded
none_is_excluded s root faultless well most w reached h why e = at (purity_stands s)
  where
    at : (pure : RoutineName → Bool) × IsPurity s pure → is_excluded why ≡ false
    at (pure, tells) = ((reached_spared s root pure faultless well tells most w reached).each h).spared why e
