-- In each state that is reached, a function that contracts may call keeps to what contracts may call.
use Rattle.std.proofs.Common.{ℕ, ◌≡◌, ◌⊎◌, ◌<◌, ◌≤◌, ◌==◌, Bool, true, false, List, [], ◌∷◌, ◌++◌, Option, Some, None, refl, sym, ap, subst, ◌∙◌, inl, inr}
use Rattle.std.proofs.lemmas.Bool.{eqb-true, ltb-true, ltb-false, lt-ltb}
use Rattle.std.specs.Prelude.{if◌then◌else◌, nat_lt}
use Rattle.std.specs.Option.{option_map, option_map_or}
use Rattle.sc_tree.specs.Plain as tree
use Rattle.sc_tree.specs.Plain.{System, Clause, FeatureKind}
use Rattle.sc_class.specs.ClassNames.{Root, number_of}
use Rattle.sc_class.specs.Faults.ClassRules.{IsFaultless}
use Rattle.sc_class.specs.Tables.Features.{DeclaredFeature}
use Rattle.sc_rules.specs.declared.entity_types.entity_type.EntityType.{EntityType}
use Rattle.sc_rules.specs.Names.{RoutineName, formals_known, reserved}
use Rattle.sc_rules.specs.Purity.{IsPurity}
use Rattle.sc_rules.specs.SystemRules.{WellFormed}
use Rattle.sc_rules.specs.Types.{declared_type}
use Rattle.sc_lockpass.specs.wait_conditions.Reservations.{reserve_fails}
use Rattle.sc_lockpass.specs.declared.wait_conditions.session.Release.TheVariants as release_at
use Rattle.sc_model.specs.declared.cause.Cause.{Cause}
use Rattle.sc_model.specs.declared.cause.Cause.TheVariants as cause
use Rattle.sc_model.specs.Values.{Value, Operand}
use Rattle.sc_model.specs.Environments.{Binding, binding_named}
use Rattle.sc_model.specs.Objects.{Object, object_numbered, fresh_object}
use Rattle.sc_model.specs.Invariants.{meets_invariant}
use Rattle.sc_model.specs.Routines.{version_of, routine_named, routine_of}
use Rattle.sc_model.specs.Steps.{Calling, Act, Prints, Until, Creates, CreatesHandler, Enters, Requests, Starts, Refuses, Opens, Leaves, Exits, Fails, Step, Goes, Does, Point}
use Rattle.sc_model.specs.Moves.{moves}
use Rattle.sc_model.specs.Handlers.{Errand, Calls, Makes, Request, Answer, Reply, Failed, Refused, Origin, Called, Requested, Stage, Runs, Reserves, ReservesBlock, InCall, Awaits, Frame, World, new_handler, point_of, frame_at, put, with_stack}
use Rattle.sc_model.specs.Sessions.{standing_in}
use Rattle.sc_model.specs.Entries.{entry_needs, block_needs, may_reserve, reserves_if}
use Rattle.sc_model.specs.Exits.{is_unset_value, handed_as, handed_at, handed}
use Rattle.sc_model.specs.Takes.{replies, takes_kind, takes_version, takes_creation, with_new_object, takes_errand, takes, takes_next, released_if, takes_answer}
use Rattle.sc_model.specs.Turns.{waits, goes_on, turn_with, turn}
use Rattle.sc_model.specs.Runs.{IsReached, opening, root_request, run}
use Rattle.sc_machine_laws.specs.states.World as rights
use Rattle.sc_machine_laws.specs.states.Stands.{NeedsOf, NamesOf, IsRoutine, AreBlocks, place_of, IsStaged, IsStack}
use Rattle.sc_machine_laws.proofs.states.links.Reached.{reached_linked}
use Rattle.sc_machine_laws.specs.states.Fitting.{FrameFits, Gives, Linked, ReplyFits, WorldFits, coming_to}
use Rattle.sc_machine_laws.specs.states.Fitting as fitting
use Rattle.sc_machine_laws.specs.states.Points.{Each, PointFits, ResultFits, listed, types_of}
use Rattle.sc_machine_laws.specs.states.Points as point
use Rattle.sc_machine_laws.specs.states.ValueSteps.{IsThereIfOwn, StandsSo, StepFits, ValuesDo}
use Rattle.sc_machine_laws.proofs.states.Frames.{running_frames_move, store_fits, values_there}
use Rattle.sc_machine_laws.specs.settlements.Calm.{CalmStep, EachPureIsCalm, InPure, PureAct, PureStep, name_of}
use Rattle.sc_machine_laws.specs.settlements.Calm as calm
use Rattle.sc_machine_laws.proofs.settlements.PurePoints.{pure_moves}
use Rattle.sc_machine_laws.proofs.settlements.Callers.{pure_begins}
use Rattle.sc_machine_laws.proofs.settlements.FrameLinks.{one_further, reached_fits}
use Rattle.sc_machine_laws.proofs.settlements.UnchangedStacks.{IsLeft, put_alike, others_stay}
use Rattle.sc_machine_laws.proofs.settlements.PureSteps.{IsFirst, IsOther, IsOtherOrStands, N, Stands, Stood, ValueThere, alike_stood, at_objects, either, enters_stood, fails_stood, finish_stood, handed_as_stands, of_old, of_olds, put_stood, release_stood, settles_stood, stack_stood, stays}

no : {A : Type 0} → false ≡ true → A
no e = cc

module _ (s : System) (pure : RoutineName → Bool) (h : ℕ) (w : World) where
  abbrev All : List Frame → Type 0
  All st = Each (N s pure) st

  abbrev T : World → Type 0
  T v = Stood s pure h w v

  -- ---- a reserve step

  reserves_stood : (b : Bool) (ks : List ℕ) (f g : Frame) (below : List Frame) → (w.handlers h).stack ≡ g ∷ below → N s pure g → N s pure f → All below →
      T (reserves_if b h ks f below w)
  reserves_stood true ks f g below at r q is =
      either s pure h w (reserve_fails (standing_in w) w.rights ks) _ _ (fails_stood s pure h w cause.SupplierFailed [] w (others_stay h w))
      (alike_stood s pure h w (with_stack h (f ∷ below) w) _ (λ k. refl) (stack_stood s pure h w (f ∷ below) w (others_stay h w) (q, is)))
  reserves_stood false ks f g below at r q is = stays s pure h w w (g ∷ below) (others_stay h w) at (r, is)

  -- ---- a request is taken

  replies_stood : (r : Request) (t : Option EntityType) (b : Option Binding) (v : World) → T v → T (replies h r t b v)
  replies_stood r (Some t) (Some b) v z =
      either s pure h w (is_unset_value b.value t) _ _ (fails_stood s pure h w cause.UnsetEntity (r ∷ []) v z.others) (finish_stood s pure h w r (Reply (Some b.value)) v z)
  replies_stood r (Some t) None v z = fails_stood s pure h w cause.BadCode (r ∷ []) v z.others
  replies_stood r None b v z = fails_stood s pure h w cause.BadCode (r ∷ []) v z.others

  version_stood : (r : Request) (x : List ℕ) (below : List Frame) (o : Option Object) (f : Option DeclaredFeature) (v : World) → T v → All below →
      T (takes_version s h r x below o f v)
  version_stood r x below (Some o) (Some f) v z is = by f.feature.kind
    where
      by : (k : FeatureKind) → T (takes_kind s h r x below o f k v)
      by (tree.Attribute d) = replies_stood r (declared_type s [] d) (binding_named x o.attributes) v z
      by (tree.Routine c) = enters_stood s pure h w r.target (routine_of s f) (Requested r) below (r ∷ []) r.actuals v z.others is
  version_stood r x below (Some o) None v z is = fails_stood s pure h w cause.BadCode (r ∷ []) v z.others
  version_stood r x below None f v z is = fails_stood s pure h w cause.BadCode (r ∷ []) v z.others

  creation_stood : (r : Request) (k : Option (List ℕ)) (below : List Frame) (v : World) → T v → All below → T (takes_creation s h r k below v)
  creation_stood r (Some x) below v z is = enters_stood s pure h w r.target (routine_named s r.target.class x) (Requested r) below (r ∷ []) r.actuals v z.others is
  creation_stood r None below v z is =
      either s pure h w (meets_invariant s (fresh_object s r.target.class)) _ _ (finish_stood s pure h w r (Reply None) v z) (fails_stood s pure h w cause.Invariant (r ∷ []) v z.others)

  takes_stood : (r : Request) (below : List Frame) (v : World) → T v → All below → T (takes s h r below v)
  takes_stood r below v z is = by r.errand
    where
      by : (c : Errand) → T (takes_errand s h r c below v)
      by (Makes k) = creation_stood r k below (with_new_object s h r.target.class v) (alike_stood s pure h w v _ (put_alike h _ v refl) z) is
      by (Calls x) = either s pure h w (r.target.handler == h) _ _
          (version_stood r x below (object_numbered r.target.number (v.handlers h).objects) (version_of s r.target.class x) v z is)
          (fails_stood s pure h w cause.ForeignObject (r ∷ []) v z.others)

  -- ---- a turn

  answer_stood : (a : Answer) (k : ℕ) (gives : Option EntityType) (c : Bool) (f : Frame) (below : List Frame) →
      ((x : Option Value) → a ≡ Reply x → N s pure (handed_as gives x f)) → All below → T (takes_answer h a k gives c f below w)
  answer_stood (Reply x) k gives c f below comes is = by c
    where
      goes : T (put h (record (w.handlers h) { stack = handed_as gives x f ∷ below; answer = None }) w)
      goes = put_stood s pure h w _ w (others_stay h w) (comes x refl, is)

      by : (b : Bool) → T (released_if b k (put h (record (w.handlers h) { stack = handed_as gives x f ∷ below; answer = None }) w))
      by true = release_stood s pure h w release_at.Creation (k ∷ []) _ goes
      by false = goes
  answer_stood Failed k gives c f below comes is = fails_stood s pure h w cause.SupplierFailed [] w (others_stay h w)
  answer_stood Refused k gives c f below comes is = fails_stood s pure h w cause.Precondition [] w (others_stay h w)

  next_stood : (rs : List Request) → (w.handlers h).stack ≡ [] → T (takes_next s h rs w)
  next_stood [] at = stays s pure h w w [] (others_stay h w) at tt
  next_stood (r ∷ rs) at =
      takes_stood r [] (put h (record (w.handlers h) { queue = rs }) w)
      (put_stood s pure h w (record (w.handlers h) { queue = rs }) w (others_stay h w) (subst All (sym at) tt)) tt

-- ---- stacks that stand for none

no_parts : (C : ℕ → List ℕ → Type 0) (kss : List (List ℕ)) (f : Frame) (P : List ℕ → Type 0) (B : List rights.Frame → Type 0) →
    AreBlocks C kss (IsRoutine f P B) [] → ⊥
no_parts C [] f P B is = is
no_parts C (ks ∷ kss) f P B is = is

no_frames : (st : List Frame) → IsStack st [] → st ≡ []
no_frames [] is = refl
no_frames (f ∷ below) is = absurd (by f.stage is)
  where
    by : (x : Stage) → IsStaged x (place_of f below) (AreBlocks (NamesOf f.stage f) f.blocks (IsRoutine f (NeedsOf f.stage f) (IsStack below))) [] → ⊥
    by Runs i = no_parts (NamesOf f.stage f) f.blocks f (NeedsOf f.stage f) (IsStack below) i.1
    by Reserves i = no_parts (NamesOf f.stage f) f.blocks f (NeedsOf f.stage f) (IsStack below) i.1
    by ReservesBlock i = no_parts (NamesOf f.stage f) f.blocks f (NeedsOf f.stage f) (IsStack below) i.1
    by (InCall gives) i = no_parts (NamesOf f.stage f) f.blocks f (NeedsOf f.stage f) (IsStack below) i.1
    by (Awaits k gives true) i = i.1
    by (Awaits k gives false) i = no_parts (NamesOf f.stage f) f.blocks f (NeedsOf f.stage f) (IsStack below) i.1

-- ---- what is there as a routine exits

result_given : (s : System) (h k : ℕ) (cs : List Binding) (g : Option (Option EntityType)) (o : Option Operand) (t : Option EntityType) → Gives s h g k cs t → ResultFits s h g o →
    ValueThere t (option_map (λ (u : Operand). u.value) o)
result_given s h k cs _ _ None g point.no_result = λ t e. cc
result_given s h k cs _ _ (Some t) g point.no_result = absurd g
result_given s h k cs _ _ t g (point.a_result {u} fits) = λ t e. (u.value, refl)

module _ (s : System) (root : Root) (pure : RoutineName → Bool) (faultless : IsFaultless s root) (well : WellFormed s) (tells : IsPurity s pure) (most : ℕ) where
  module _ (h : ℕ) (w : World) (fits : WorldFits s pure w) (here : h < w.count) (old : Each (IsOtherOrStands s pure) (w.handlers h).stack)
      (f : Frame) (below : List Frame) (at : (w.handlers h).stack ≡ f ∷ below) where
    frame : FrameFits s pure w h f
    frame = (subst (Each (FrameFits s pure w h)) at (fits h here).frames_fit).0

    was : IsOtherOrStands s pure f
    was = (subst (Each (IsOtherOrStands s pure)) at old).0

    rest : Each (IsOtherOrStands s pure) below
    rest = (subst (Each (IsOtherOrStands s pure)) at old).1

    stands_so : f.stage ≡ Runs → StandsSo s pure f.routine f.current [] (point_of f (w.handlers h).objects)
    stands_so r = (
      subst (λ k. PointFits s pure f.routine k [] (point_of f (w.handlers h).objects)) (sym frame.is_own)
          (subst (λ g. PointFits s pure f.routine h (coming_to g) (point_of f (w.handlers h).objects)) r frame.point_fits),
      store_fits s pure w h f frame (fits h here).objects_fit,
    )

    steps_so : f.stage ≡ Runs → IsOther pure f ⊎ PureStep s pure f.routine (moves s f.current (point_of f (w.handlers h).objects))
    steps_so r = by (pure (name_of f.routine)) refl was
      where
        by : (b : Bool) → pure (name_of f.routine) ≡ b → IsOtherOrStands s pure f → IsOther pure f ⊎ PureStep s pure f.routine (moves s f.current (point_of f (w.handlers h).objects))
        by false e z = inl e
        by true e (inl i) = inl i
        by true e (inr z) =
            inr (pure_moves s pure f.routine f.current (pure_begins s root pure faultless well tells f.routine f.current frame.is_version e).0
            (point_of f (w.handlers h).objects) (stands_so r)
            (subst (λ k. ValuesDo (IsThereIfOwn k (w.handlers h).objects) (point_of f (w.handlers h).objects)) (sym frame.is_own)
            (values_there s pure w h f frame (fits h here).objects_fit))
            (at_objects s pure f.routine [] (point_of f []) (w.handlers h).objects (subst (λ (st : Stage). Stands s pure f (coming_to st)) r z)))

    -- where a clause is found false the routine has just begun
    first : f.stage ≡ Runs → (k : Clause) (p : Point) → moves s f.current (point_of f (w.handlers h).objects) ≡ Does (Refuses k) p → IsFirst s (frame_at f p)
    first r k p e =
        let z = subst (StepFits s pure f.routine f.current) e (running_frames_move s root pure faultless well tells w fits h here f below at r) in
        (z.0.0, z.0.1)

    -- the caller takes what the routine gives
    back : f.stage ≡ Runs → (p : Point) → moves s f.current (point_of f (w.handlers h).objects) ≡ Does Exits p → (c : Calling) → f.origin ≡ Called c →
        Each (N s pure) (handed (option_map (λ (u : Operand). u.value) p.result) below)
    back r p e c called = by f below refl refl called rest (subst (Linked s h) at (fits h here).frames_are_linked)
      where
        result : ResultFits s h f.routine.text.result p.result
        result = subst (λ k. ResultFits s k f.routine.text.result p.result) frame.is_own
            ((subst (StepFits s pure f.routine f.current) e (running_frames_move s root pure faultless well tells w fits h here f below at r)).0.result_fits)

        handed_so : (g : Frame) (more : List Frame) (t : Option EntityType) → g.stage ≡ InCall t → ValueThere t (option_map (λ (u : Operand). u.value) p.result) →
            Each (IsOtherOrStands s pure) (g ∷ more) → Each (N s pure) (handed (option_map (λ (u : Operand). u.value) p.result) (g ∷ more))
        handed_so g more t i there z = (
          subst (λ (st : Stage). N s pure (handed_at st (option_map (λ (u : Operand). u.value) p.result) g)) (sym i)
              (handed_as_stands s pure h w t (option_map (λ (u : Operand). u.value) p.result) g there (now z.0)),
          of_olds s pure h w more z.1,
        )
          where
            now : IsOtherOrStands s pure g → IsOther pure g ⊎ Stands s pure g (listed t)
            now (inl j) = inl j
            now (inr y) = inr (subst (λ (st : Stage). Stands s pure g (coming_to st)) i y)

        requested : (o : Origin) (q : Request) → o ≡ Called c → o ≡ Requested q → ⊥
        requested o q i j = cc

        by : (f' : Frame) (st : List Frame) → f' ≡ f → st ≡ below → f'.origin ≡ Called c → Each (IsOtherOrStands s pure) st → Linked s h (f' ∷ st) →
            Each (N s pure) (handed (option_map (λ (u : Operand). u.value) p.result) st)
        by f' st i j o z (fitting.alone {r = q} is gives more) = absurd (requested f'.origin q o is)
        by f' _ i j o z (fitting.called {g} {below = more} {t} is calls gives linked) =
            handed_so g more t calls (result_given s h h g.environment f'.routine.text.result p.result t gives
            (subst (λ (f' : Frame). ResultFits s h f'.routine.text.result p.result) (sym i) result)) z

    -- a reply gives what the frame waits for
    comes : (k : ℕ) (gives : Option EntityType) (c : Bool) → f.stage ≡ Awaits k gives c → (x : Option Value) → (w.handlers h).answer ≡ Some (Reply x) →
        N s pure (handed_as gives x f)
    comes k gives c i x e = handed_as_stands s pure h w gives x f there (now was)
      where
        now : IsOtherOrStands s pure f → IsOther pure f ⊎ Stands s pure f (listed gives)
        now (inl j) = inl j
        now (inr y) = inr (subst (λ (st : Stage). Stands s pure f (coming_to st)) i y)

        first : (g g' : Frame) (a b : List Frame) → g ∷ a ≡ g' ∷ b → g ≡ g'
        first g g' a b e = cc

        same : (k j : ℕ) (g g' : Option EntityType) (c d : Bool) → Awaits k g c ≡ Awaits j g' d → g ≡ g'
        same k j g g' c d e = cc

        there : ValueThere gives x
        there t given =
            let z : ReplyFits s w h x = (fits h here).answer_fits x e in
            let q : z.frame ≡ f = first z.frame f z.below below (sym z.stack_is ∙ at) in
            let takes : z.takes ≡ gives = same z.supplier k z.takes gives z.is_creation c (sym z.stage_is ∙ ap (λ (g : Frame). g.stage) q ∙ i) in
            let y = z.fits t (takes ∙ given) in
            (y.0, y.1)

    goes_on_stood : (st : Stage) → f.stage ≡ st → Stood s pure h w (goes_on most s h st f below w)
    goes_on_stood Runs i =
        settles_stood s pure h w most (moves s f.current (point_of f (w.handlers h).objects)) f below i at (steps_so i) (of_old s pure h w f was) (first i) (back i)
        (of_olds s pure h w below rest)
    goes_on_stood Reserves i =
        reserves_stood s pure h w (may_reserve (entry_needs h f w) f.mark w) (entry_needs h f w) (record f { stage = Runs; reserved = entry_needs h f w }) f below at
        (of_old s pure h w f was) (now was) (of_olds s pure h w below rest)
      where
        now : IsOtherOrStands s pure f → N s pure (record f { stage = Runs; reserved = entry_needs h f w })
        now (inl j) = inl j
        now (inr y) =
            inr (inr (subst (λ (st : Stage). Stands s pure f (coming_to st)) i y))
    goes_on_stood ReservesBlock i =
        reserves_stood s pure h w (may_reserve (block_needs h f w) [] w) (block_needs h f w) (record f { stage = Runs; blocks = block_needs h f w ∷ f.blocks }) f below at
        (of_old s pure h w f was) (now was) (of_olds s pure h w below rest)
      where
        now : IsOtherOrStands s pure f → N s pure (record f { stage = Runs; blocks = block_needs h f w ∷ f.blocks })
        now (inl j) = inl j
        now (inr y) =
            inr (inr (subst (λ (st : Stage). Stands s pure f (coming_to st)) i y))
    goes_on_stood (InCall gives) i = fails_stood s pure h w cause.BadCode [] w (others_stay h w)
    goes_on_stood (Awaits k gives c) i = by (w.handlers h).callback (w.handlers h).answer refl
      where
        by : (r : Option Request) (a : Option Answer) → (w.handlers h).answer ≡ a → Stood s pure h w (waits s h r a k gives c f below w)
        by (Some r) a e =
            takes_stood s pure h w r (f ∷ below) (put h (record (w.handlers h) { callback = None }) w)
            (put_stood s pure h w (record (w.handlers h) { callback = None }) w (others_stay h w)
            (subst (Each (N s pure)) (sym at) (of_old s pure h w f was, of_olds s pure h w below rest))) (of_old s pure h w f was, of_olds s pure h w below rest)
        by None (Some a) e = answer_stood s pure h w a k gives c f below (λ x j. comes k gives c i x (e ∙ ap (λ (b : Answer). Some b) j)) (of_olds s pure h w below rest)
        by None None e = stays s pure h w w (f ∷ below) (others_stay h w) at (of_old s pure h w f was, of_olds s pure h w below rest)

  turn_stood : (h : ℕ) (w : World) → WorldFits s pure w → h < w.count → Each (IsOtherOrStands s pure) (w.handlers h).stack → Stood s pure h w (turn most s h w)
  turn_stood h w fits here old =
      subst (λ (b : Bool). Stood s pure h w (if b then turn_with most s h (w.handlers h).failure (w.handlers h).stack w else w)) (sym (lt-ltb h w.count here))
      (there (w.handlers h).failure (w.handlers h).stack refl)
    where
      there : (why : Option Cause) (st : List Frame) → (w.handlers h).stack ≡ st → Stood s pure h w (turn_with most s h why st w)
      there (Some why) st at = record { own = of_olds s pure h w (w.handlers h).stack old; others = others_stay h w }
      there None [] at = next_stood s pure h w (w.handlers h).queue at
      there None (f ∷ below) at = goes_on_stood h w fits here old f below at f.stage refl

  -- ---- a routine that begins

  now_stands : (w : World) (h : ℕ) (f : Frame) → FrameFits s pure w h f → N s pure f → IsOtherOrStands s pure f
  now_stands w h f fits (inl i) = inl i
  now_stands w h f fits (inr (inr z)) = inr z
  now_stands w h f fits (inr (inl (tasks, values, coming, text, names))) = by (pure (name_of f.routine)) refl
    where
      by : (b : Bool) → pure (name_of f.routine) ≡ b → IsOtherOrStands s pure f
      by false e = inl e
      by true e = inr (inl (record {
        text = f.routine.contract;
        names = formals_known s f.routine.text.formals;
        types = [];
        text_is = text;
        names_are = names;
        left = subst (λ ts. InPure s pure f.routine f.tasks (calm.at f.routine.contract (formals_known s f.routine.text.formals) (ts ++ []))) (sym coming)
            (subst (λ ts. InPure s pure f.routine ts (calm.at f.routine.contract (formals_known s f.routine.text.formals) [])) (sym tasks)
            (pure_begins s root pure faultless well tells f.routine f.current fits.is_version e).1);
        types_are = ap types_of values;
      }))

  all_stand : (w : World) (h : ℕ) (st : List Frame) → Each (FrameFits s pure w h) st → Each (N s pure) st → Each (IsOtherOrStands s pure) st
  all_stand w h [] fits z = tt
  all_stand w h (f ∷ below) fits z = (now_stands w h f fits.0 z.0, all_stand w h below fits.1 z.1)

  -- ---- runs

  abbrev EachStands : World → Type 0
  EachStands w = (k : ℕ) → Each (IsOtherOrStands s pure) (w.handlers k).stack

  -- a handler that isn't there has no frames
  none_there : (w : World) → IsReached most s root w → (k : ℕ) → w.count ≤ k → (w.handlers k).stack ≡ []
  none_there w reached k le =
      let l = reached_linked most s root w reached in
      no_frames (w.handlers k).stack (subst (IsStack (w.handlers k).stack) (l.stands.new k le).0.stack (l.stands.handlers k).stack)

  stands_next : (h : ℕ) (w : World) → IsReached most s root w → EachStands w → EachStands (turn most s h w)
  stands_next h w reached old = by (nat_lt h w.count) refl
    where
      further : IsReached most s root (turn most s h w)
      further = one_further most s root h w reached

      own : Stood s pure h w (turn most s h w) → Each (IsOtherOrStands s pure) ((turn most s h w).handlers h).stack
      own t = at (nat_lt h (turn most s h w).count) refl
        where
          at : (b : Bool) → nat_lt h (turn most s h w).count ≡ b → Each (IsOtherOrStands s pure) ((turn most s h w).handlers h).stack
          at true l = all_stand (turn most s h w) h ((turn most s h w).handlers h).stack
              (reached_fits s root pure faultless well tells most (turn most s h w) further h (ltb-true h (turn most s h w).count l)).frames_fit t.own
          at false l = subst (Each (IsOtherOrStands s pure)) (sym (none_there (turn most s h w) further h (ltb-false h (turn most s h w).count l))) tt

      left : (k : ℕ) → IsLeft (w.handlers k).stack ((turn most s h w).handlers k).stack → Each (IsOtherOrStands s pure) ((turn most s h w).handlers k).stack
      left k (inl e) = subst (Each (IsOtherOrStands s pure)) (sym e) (old k)
      left k (inr e) = subst (Each (IsOtherOrStands s pure)) (sym e) tt

      after : Stood s pure h w (turn most s h w) → EachStands (turn most s h w)
      after t k = at (k == h) refl
        where
          at : (b : Bool) → (k == h) ≡ b → Each (IsOtherOrStands s pure) ((turn most s h w).handlers k).stack
          at true e = subst (λ (i : ℕ). Each (IsOtherOrStands s pure) ((turn most s h w).handlers i).stack) (sym (eqb-true k h e)) (own t)
          at false e = left k (t.others k e)

      by : (b : Bool) → nat_lt h w.count ≡ b → EachStands (turn most s h w)
      by true l = after (turn_stood h w (reached_fits s root pure faultless well tells most w reached) (ltb-true h w.count l) (old h))
      by false l = subst (λ (b : Bool). EachStands (if b then turn_with most s h (w.handlers h).failure (w.handlers h).stack w else w)) (sym l) old

  stands_along : (hs : List ℕ) (w : World) → IsReached most s root w → EachStands w → EachStands (run most s hs w)
  stands_along [] w reached old = old
  stands_along (h ∷ hs) w reached old = stands_along hs (turn most s h w) (one_further most s root h w reached) (stands_next h w reached old)

  stands_opening : EachStands (opening s root)
  stands_opening k = by (nat_lt k 1)
    where
      by : (b : Bool) → Each (IsOtherOrStands s pure)
          (if b then record new_handler { queue = root_request (option_map_or (λ k. k) (number_of s root.class) 0) root.procedure ∷ [] } else new_handler).stack
      by true = tt
      by false = tt

  each_stands : (w : World) → IsReached most s root w → (k : ℕ) → Each (IsOtherOrStands s pure) (w.handlers k).stack
  each_stands w reached k = subst (λ (v : World). Each (IsOtherOrStands s pure) (v.handlers k).stack) reached.run_is
      (stands_along reached.numbers (opening s root) (record { numbers = []; run_is = refl }) stands_opening k)

  calm_so : (w : World) → IsReached most s root w → (h : ℕ) → h < w.count → (f : Frame) (below : List Frame) → (w.handlers h).stack ≡ f ∷ below → f.stage ≡ Runs →
      pure (name_of f.routine) ≡ true → CalmStep s pure (moves s f.current (point_of f (w.handlers h).objects))
  calm_so w reached h here f below at r p =
      of_step (moves s f.current (point_of f (w.handlers h).objects))
      (steps_so h w (reached_fits s root pure faultless well tells most w reached) here (each_stands w reached h) f below at r)
    where
      of_act : (a : Act) (q : Point) → PureAct s pure f.routine a q → CalmStep s pure (Does a q)
      of_act (Prints text) q z = z
      of_act Until q z = tt
      of_act Creates q z = z
      of_act Starts q z = tt
      of_act (CreatesHandler class procedure us t passing) q z = z
      of_act (Enters c o x us gives) q z = z.0
      of_act (Requests o x us gives passing) q z = z
      of_act (Refuses k) q z = tt
      of_act Opens q z = z
      of_act Leaves q z = z
      of_act Exits q z = tt
      of_act (Fails why) q z = tt

      of_step : (st : Step) → IsOther pure f ⊎ PureStep s pure f.routine st → CalmStep s pure st
      of_step st (inl i) = no (sym i ∙ p)
      of_step (Goes q) (inr z) = tt
      of_step (Does a q) (inr z) = of_act a q z

pub each_pure_is_calm : EachPureIsCalm
each_pure_is_calm s root pure faultless well tells most w reached h here f below at r p = calm_so s root pure faultless well tells most w reached h here f below at r p
