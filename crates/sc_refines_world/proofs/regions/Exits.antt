-- Routines that end.
use Rattle.std.proofs.Common.{◌≡◌, ℕ, ◌<◌, Bool, true, false, List, [], ◌∷◌, Option, Some, None, is_some, length, refl, sym, ap, ◌∙◌, subst}
use Rattle.std.specs.Prelude.{◌&&◌, ◌||◌, slice_get, if◌then◌else◌}
use Rattle.std.specs.Option.{option_map, option_map_or, option_and_then}
use Rattle.sc_tree.specs.Plain.{System}
use Rattle.sc_rules.specs.declared.entity_types.entity_type.EntityType.{EntityType}
use Rattle.sc_typing.specs.FeatureNumbers.{all_features}
use Rattle.sc_model.specs.declared.cause.Cause.{Cause}
use Rattle.sc_model.specs.declared.cause.Cause.TheVariants as cause
use Rattle.sc_model.specs.Exits as model
use Rattle.sc_model.specs.Exits.{is_unset_value}
use Rattle.sc_model.specs.Handlers.{Origin, Called, Requested, Stage, Runs, Reserves, ReservesBlock, InCall, Awaits, Frame, frame_at, point_of}
use Rattle.sc_model.specs.Moves.{step}
use Rattle.sc_model.specs.Objects as model_objects
use Rattle.sc_model.specs.Objects.{Object}
use Rattle.sc_model.specs.Preconditions as preconditions
use Rattle.sc_model.specs.Preconditions.{is_creation}
use Rattle.sc_model.specs.Routines.{Routine, routine_of}
use Rattle.sc_model.specs.Steps as steps
use Rattle.sc_model.specs.Steps.{Point, Unqualified, Qualified, Creation}
use Rattle.sc_model.specs.Values as values
use Rattle.sc_model.specs.Values.{Operand, operand}
use Rattle.sc_code.specs.declared.operation.DefaultValue.{DefaultValue}
use Rattle.sc_code.specs.declared.program.Image.{Image}
use Rattle.sc_code.specs.Lowered.{run_of}
use Rattle.sc_code.specs.Machine as flat
use Rattle.sc_code.specs.Machine.{State}
use Rattle.sc_code.specs.Places.{known_type}
use Rattle.sc_code.specs.Programs.{PlainRoutine, result_in, result_of}
use Rattle.sc_code.specs.Stands.{Leads, Seen, state_at}
use Rattle.sc_region.specs.declared.frame.Stage as code_stage
use Rattle.sc_region.specs.declared.frame.Stage.TheVariants as stage
use Rattle.sc_region.specs.declared.value.Value.{Value}
use Rattle.sc_region.specs.declared.value.Value.TheVariants.{Integer, Boolean, Void, Attached}
use Rattle.sc_region.specs.Classes as at
use Rattle.sc_region.specs.Classes.{routine_at}
use Rattle.sc_region.specs.Frames.{PlainActivation, PlainFrame, frame_with}
use Rattle.sc_region.specs.Objects as objects
use Rattle.sc_region.specs.Stores as store
use Rattle.sc_region.specs.Stores.{PlainStore, left, settled}
use Rattle.sc_acts.specs.declared.act.Act.TheVariants as act
use Rattle.sc_interp.specs.declared.hops.Hop.{Hop}
use Rattle.sc_interp.specs.declared.hops.Hop.TheVariants as hop
use Rattle.sc_acts.specs.Exiting.{exited, gives_attached, handed, handed_as, handed_at, handed_value, is_unset, is_untested, is_void, returned}
use Rattle.sc_interp.specs.Hopping.{state_in}
use Rattle.sc_refines_world.specs.regions.Laws.{ProgramsServe}
use Rattle.sc_interp.specs.Objects.{objects_in}
use Rattle.sc_refines_world.specs.regions.RegionHalves.{IsRegionOf, AreFrames, IsFrame, StandsIn, origin_of, requested, stage_of}
use Rattle.sc_refines_world.specs.regions.RegionSteps.{IsProgramFor}
use Rattle.sc_refines_world.specs.regions.RegionTurns as half
use Rattle.sc_refines_world.specs.regions.RegionTurns.{Half, acts, hands, leaves, settles, turn, with_stack}
use Rattle.sc_region.specs.Calls.{on_top}
use Rattle.sc_interp.specs.Values.{value_of}
use Rattle.sc_interp.proofs.GoingOn.{less_is}
use Rattle.sc_acts.proofs.Options.{none_some, some_same}
use Rattle.sc_refines_world.specs.regions.Acting.{AreWhole, Comes, Meets, RoutinesEnd, TakesAs, TakesResult, is_called}
use Rattle.sc_refines_world.proofs.regions.SilentOperations.{meets}
use Rattle.sc_refines_world.proofs.regions.MetInvariants.{object_meets_same, still_settles}
use Rattle.sc_refines_world.proofs.regions.PassedOperations.{act_same, state_same, stays, turn_is}
use Rattle.sc_refines_world.proofs.regions.QuietSteps.{exits_here}
use Rattle.sc_refines_world.proofs.regions.ShownSteps.{exits_is}
use Rattle.sc_refines_world.proofs.regions.ProgramRoutines.{CodeAt, code_at, frames_still}

-- ---- the Result

attached_same : (o : Option (DefaultValue × Bool)) (t : Option EntityType) → option_map result_in o ≡ result_of t →
    option_map_or (λ (d : DefaultValue × Bool). d.1) o false ≡ option_map_or (λ (u : EntityType). u.attached) t false
attached_same None None e = refl
attached_same None (Some u) e = cc
attached_same (Some d) None e = cc
attached_same (Some d) (Some u) e = ap (λ (o : Option (values.Value × Bool)). option_map_or (λ (q : values.Value × Bool). q.1) o false) e

pub value_unset : (v : Value) (t : EntityType) → (is_void (Some v) && t.attached) ≡ is_unset_value (value_of v) t
value_unset Void t = refl
value_unset (Integer z) t = refl
value_unset (Boolean b) t = refl
value_unset (Attached r) t = refl

unset_same : (v : Option Value) (r : Option Operand) (t : Option EntityType) → option_map value_of v ≡ option_map (λ (u : Operand). u.value) r →
    option_map (λ (u : Operand). u.type) r ≡ t → (is_void v && option_map_or (λ (u : EntityType). u.attached) t false) ≡ model.is_unset r
unset_same None None t e f = refl
unset_same None (Some u) t e f = none_some u.value e
unset_same (Some v) None t e f = none_some (value_of v) (sym e)
unset_same (Some v) (Some u) t e f =
    ap (λ t. is_void (Some v) && option_map_or (λ (u : EntityType). u.attached) t false) (sym f)
    ∙ value_unset v u.type
    ∙ ap (λ w. is_unset_value w u.type) (some_same (value_of v) u.value e)

gives_same : (s : System) (r : Routine) (p : Image) (n : ℕ) → CodeAt s r p n → gives_attached (routine_at p n) ≡ option_map_or (λ (u : EntityType). u.attached) (known_type r.text.result) false
gives_same s r p n code = ap gives_attached code.found ∙ attached_same code.code.result (known_type r.text.result) (ap (λ (q : PlainRoutine). q.result) code.same)

untested_same : (o : Origin) → is_untested (origin_of o) ≡ model.is_untested o
untested_same (Called Unqualified) = refl
untested_same (Called Qualified) = refl
untested_same (Called Creation) = refl
untested_same (Requested r) = by (is_creation r.errand)
  where
    by : (b : Bool) → is_untested (requested b) ≡ false
    by true = refl
    by false = refl

-- ---- the caller

module _ (s : System) (os : List Object) (v : Option Value) (f : Frame) (g : PlainFrame) (r : IsFrame s os f g) where
  abbrev stays_in : code_stage.Stage → PlainFrame
  stays_in st = record g { activation = handed_at st v g.activation }

  goes_on_with : (w : Value) (t : EntityType) → f.stage ≡ InCall (Some t) → length g.activation.operands.values < g.activation.operands.depth →
      IsFrame s os (record f { stage = Runs; values = operand (value_of w) t ∷ f.values }) (record g { activation = handed_value w (record g.activation { stage = stage.Runs }) })
  goes_on_with w t e room =
      let with_value : PlainActivation = record g.activation { stage = stage.Runs; operands = record g.activation.operands { values = w ∷ g.activation.operands.values } } in
      let stands = subst (λ st. StandsIn st (run_of s f.routine) g.activation.place r.tail (point_of f os)) e r.stands in
      subst (λ b. IsFrame s os (record f { stage = Runs; values = operand (value_of w) t ∷ f.values })
      (record g { activation = if b then with_value else record g.activation { stage = stage.Runs } }))
      (sym (less_is (length g.activation.operands.values) g.activation.operands.depth room))
      (record {
        current = r.current;
        routine = r.routine;
        origin = r.origin;
        stage = refl;
        tail = r.tail;
        state = ap (λ (st : State). record st { values = value_of w ∷ st.values }) r.state;
        stands = stands (value_of w);
        depth = r.depth;
        reserved = r.reserved;
        blocks = r.blocks;
      })

  goes_on_without : f.stage ≡ InCall None → IsFrame s os (record f { stage = Runs }) (record g { activation = record g.activation { stage = stage.Runs } })
  goes_on_without e = record {
    current = r.current;
    routine = r.routine;
    origin = r.origin;
    stage = refl;
    tail = r.tail;
    state = r.state;
    stands = subst (λ st. StandsIn st (run_of s f.routine) g.activation.place r.tail (point_of f os)) e r.stands;
    depth = r.depth;
    reserved = r.reserved;
    blocks = r.blocks;
  }

  goes_on_by : (t : EntityType) (u : Option Value) → f.stage ≡ InCall (Some t) → (is_some u ≡ true) × (length g.activation.operands.values < g.activation.operands.depth) →
      IsFrame s os (model.handed_as (Some t) (option_map value_of u) f) (record g { activation = handed_as true u (record g.activation { stage = stage.Runs }) })
  goes_on_by t None e takes = let no = takes.0 in cc
  goes_on_by t (Some w) e takes = goes_on_with w t e takes.1

  handed_in : (st : Stage) → f.stage ≡ st → (stage_of st ≡ stage.InCall true → (is_some v ≡ true) × (length g.activation.operands.values < g.activation.operands.depth)) →
      IsFrame s os (model.handed_at st (option_map value_of v) f) (stays_in (stage_of st))
  handed_in Runs e takes = r
  handed_in Reserves e takes = r
  handed_in ReservesBlock e takes = r
  handed_in (Awaits k gives is_creation) e takes = r
  handed_in (InCall None) e takes = goes_on_without e
  handed_in (InCall (Some t)) e takes = goes_on_by t v e (takes refl)

  -- the caller goes on
  frame_handed : (g.activation.stage ≡ stage.InCall true → (is_some v ≡ true) × (length g.activation.operands.values < g.activation.operands.depth)) →
      IsFrame s os (model.handed_at f.stage (option_map value_of v) f) (record g { activation = handed v g.activation })
  frame_handed takes =
      subst (λ st. IsFrame s os (model.handed_at f.stage (option_map value_of v) f) (stays_in st)) (sym r.stage)
      (handed_in f.stage refl (λ e. takes (r.stage ∙ e)))

still_hands : (s : System) (x : Half) (y : PlainStore) (v : Option Value) → IsRegionOf s x y → TakesAs v y.frames →
    IsRegionOf s (with_stack (model.handed (option_map value_of v) x.stack) x) (on_top (handed v) y)
still_hands s x y v r takes = by x.stack y.frames r.frames takes (λ a. record { objects = r.objects; frames = a; output = r.output; failure = r.failure })
  where
    by : (fs : List Frame) (gs : List PlainFrame) → AreFrames s x.objects fs gs → TakesAs v gs →
        (AreFrames s x.objects (model.handed (option_map value_of v) fs) (on_top (handed v) (record y { frames = gs })).frames →
        IsRegionOf s (with_stack (model.handed (option_map value_of v) fs) x) (on_top (handed v) (record y { frames = gs }))) →
        IsRegionOf s (with_stack (model.handed (option_map value_of v) fs) x) (on_top (handed v) (record y { frames = gs }))
    by [] [] a takes done = done tt
    by (f ∷ fs) (g ∷ gs) a takes done = done (frame_handed s x.objects v f g a.0 takes, a.1)
    by [] (g ∷ gs) a takes done = absurd a
    by (f ∷ fs) [] a takes done = absurd a

-- ---- the end

pub if_region : (s : System) (x x' : Half) (y y' : PlainStore) (b c : Bool) → b ≡ c → IsRegionOf s x y → IsRegionOf s x' y' → IsRegionOf s (if c then x else x') (if b then y else y')
if_region s x x' y y' true true e r r' = r
if_region s x x' y y' false false e r r' = r'
if_region s x x' y y' true false e r r' = cc
if_region s x x' y y' false true e r r' = cc

still_takes : (v : Option Value) (y : PlainStore) (b : Bool) → TakesAs v y.frames → TakesAs v (if b then store.failed cause.Invariant y else y).frames
still_takes v y true takes = tt
still_takes v y false takes = takes

module _ (s : System) (x : Half) (o : Hop) (y z : PlainStore) (is : IsProgramFor s y.program) (region : IsRegionOf s x y) (comes : Comes o y z) (whole : AreWhole z)
    (m : Meets s x o y z) (same : objects_in s z.objects ≡ m.point.objects) where
  abbrev after : Half
  after = record x { objects = m.point.objects; stack = frame_at m.frame m.point ∷ m.below }

  abbrev here : PlainStore
  here = record z { frames = frame_with m.current m.activation ∷ m.rest }

  abbrev under : PlainStore
  under = record z { frames = m.rest }

  pub program_for : IsProgramFor s z.program
  program_for = subst (IsProgramFor s) (sym comes.remains.program) is

  number_same : m.current.number ≡ m.frame.current.number
  number_same = ap (λ (r : values.Reference). r.number) m.stood.current

  -- the topmost frame has gone
  region_under : IsRegionOf s (with_stack m.below after) under
  region_under = record {
    objects = same;
    frames = frames_still s x.objects m.point.objects m.below m.rest m.others;
    output = comes.remains.output ∙ region.output;
    failure = comes.remains.failure ∙ region.failure;
  }

  pub region_left : IsRegionOf s (leaves s (frame_at m.frame m.point) m.below after) (left here)
  region_left =
      subst (λ n. IsRegionOf s (settles s n (with_stack m.below after)) (left here)) number_same
      (still_settles s under program_for whole m.current.number (with_stack m.below after) region_under)

  pub region_failed : (why : Cause) → IsRegionOf s (half.failed why after) (store.failed why here)
  region_failed why = record { objects = same; frames = tt; output = comes.remains.output ∙ region.output; failure = refl }

  pub origin_same : m.activation.origin ≡ origin_of m.frame.origin
  origin_same = (stays s x o y z is region comes m).origin ∙ m.stood.origin

  pub code_there : CodeAt s m.frame.routine z.program m.activation.routine
  code_there = code_at s program_for.root z.program m.activation.routine m.frame.routine program_for.program
      (ap (λ n. option_and_then (routine_of s) (slice_get (all_features s) n)) (stays s x o y z is region comes m).routine ∙ m.stood.routine)

  pub meets_same : at.object_meets z.program (objects.object_numbered m.current.number z.objects)
      ≡ preconditions.object_meets s (model_objects.object_numbered m.frame.current.number m.point.objects)
  meets_same =
      object_meets_same s z program_for whole m.current.number
      ∙ ap (λ n. preconditions.object_meets s (model_objects.object_numbered n (objects_in s z.objects))) number_same
      ∙ ap (λ os. preconditions.object_meets s (model_objects.object_numbered m.frame.current.number os)) same

  region_returned : (v : Option Value) (from : Origin) → (is_called (origin_of from) ≡ true → TakesAs v m.rest) →
      IsRegionOf s (hands from (option_map value_of v) (leaves s (frame_at m.frame m.point) m.below after)) (returned (origin_of from) v here)
  region_returned v from takes = by from takes
    where
      called : TakesAs v m.rest → IsRegionOf s (hands (Called Unqualified) (option_map value_of v) (leaves s (frame_at m.frame m.point) m.below after)) (on_top (handed v) (left here))
      called takes = still_hands s (leaves s (frame_at m.frame m.point) m.below after) (left here) v region_left (still_takes v under _ takes)

      by_request : (b : Bool) → IsRegionOf s (leaves s (frame_at m.frame m.point) m.below after) (returned (requested b) v here)
      by_request true = region_left
      by_request false = region_left

      by : (from : Origin) → (is_called (origin_of from) ≡ true → TakesAs v m.rest) →
          IsRegionOf s (hands from (option_map value_of v) (leaves s (frame_at m.frame m.point) m.below after)) (returned (origin_of from) v here)
      by (Called Unqualified) takes = called (takes refl)
      by (Called Qualified) takes = called (takes refl)
      by (Called Creation) takes = called (takes refl)
      by (Requested r) takes = by_request (is_creation r.errand)

-- ---- what ends

-- What is known where a routine ends.
pub record Ending (s : System) (x : Half) (y z : PlainStore) (m : Meets s x (hop.Comes act.Exit) y z) : Type 0 where
  pub step_is : m.step ≡ steps.Exits
  pub same : objects_in s z.objects ≡ m.point.objects
  pub result : option_map value_of m.activation.result ≡ option_map (λ (u : Operand). u.value) m.point.result
  pub unset : is_unset z.program m.activation ≡ model.is_unset m.point.result
  pub origin : m.activation.origin ≡ origin_of m.frame.origin
  pub tested : (is_untested m.activation.origin || at.object_meets z.program (objects.object_numbered m.current.number z.objects))
      ≡ (model.is_untested m.frame.origin || preconditions.object_meets s (model_objects.object_numbered m.frame.current.number m.point.objects))

pub ending : (s : System) (x : Half) (y z : PlainStore) → IsProgramFor s y.program → IsRegionOf s x y → Comes (hop.Comes act.Exit) y z → AreWhole z →
    (m : Meets s x (hop.Comes act.Exit) y z) → Ending s x y z m
ending s x y z is region comes whole m =
    let o = hop.Comes act.Exit in
    let shown = act_same flat.Exits m.shown _ m.state m.does in
    let step_is = exits_is m.last.environment m.point.environment m.step (subst (λ a. Seen m.last.environment m.point.environment m.step a) (sym shown) m.seen) in
    let last = exits_here s m.frame.current m.last m.point (subst (λ a. step s m.frame.current m.last ≡ steps.Does a m.point) step_is m.ends) in
    let leads = subst (λ a. Leads (run_of s m.frame.routine) a m.point m.state) step_is m.leads in
    let state : state_in s z m.activation ≡ state_at leads.0 leads.1 m.point = state_same flat.Exits m.shown _ m.state m.does ∙ leads.2 in
    let same = ap (λ (st : State). st.objects) state in
    let result : option_map value_of m.activation.result ≡ option_map (λ (u : Operand). u.value) m.point.result = ap (λ (st : State). st.result) state in
    let types = ap (λ (p : Point). option_map (λ (u : Operand). u.type) p.result) last ∙ m.stands.has_result in
    let origin = origin_same s x o y z is region comes whole m same in
    record {
      step_is = step_is;
      same = same;
      result = result;
      unset = ap (λ b. is_void m.activation.result && b) (gives_same s m.frame.routine z.program m.activation.routine (code_there s x o y z is region comes whole m same))
          ∙ unset_same m.activation.result m.point.result (known_type m.frame.routine.text.result) result types;
      origin = origin;
      tested = ap (λ q. is_untested q || at.object_meets z.program (objects.object_numbered m.current.number z.objects)) origin
          ∙ ap (λ b. b || at.object_meets z.program (objects.object_numbered m.current.number z.objects)) (untested_same m.frame.origin)
          ∙ ap (λ b. model.is_untested m.frame.origin || b) (meets_same s x o y z is region comes whole m same);
    }

module _ (serve : ProgramsServe) where
  pub routines_end : RoutinesEnd
  routines_end y z comes whole takes s h x is region =
      let o = hop.Comes act.Exit in
      let m = meets serve s x o y z is region comes in
      let e = ending s x y z is region comes whole m in
      let f = frame_at m.frame m.point in
      let after : Half = record x { objects = m.point.objects; stack = f ∷ m.below } in
      let here : PlainStore = record z { frames = frame_with m.current m.activation ∷ m.rest } in
      let back : IsRegionOf s (hands m.frame.origin (option_map (λ (u : Operand). u.value) m.point.result) (leaves s f m.below after)) (returned m.activation.origin m.activation.result here) =
      subst (λ q. IsRegionOf s (hands m.frame.origin (option_map (λ (u : Operand). u.value) m.point.result) (leaves s f m.below after)) (returned q m.activation.result here)) (sym e.origin)
      (subst (λ v. IsRegionOf s (hands m.frame.origin v (leaves s f m.below after)) (returned (origin_of m.frame.origin) m.activation.result here)) e.result
      (region_returned s x o y z is region comes whole m e.same m.activation.result m.frame.origin (λ c. subst TakesResult m.frames takes (ap is_called e.origin ∙ c)))) in
      subst (λ w. IsRegionOf s (turn s h x) (exited w)) (ap (λ fs. record z { frames = fs }) (sym m.frames))
      (subst (λ half. IsRegionOf s half (exited here)) (sym (turn_is s x o y z is region comes m h steps.Exits e.step_is))
      (if_region s _ _ _ _ _ _ e.unset (region_failed s x o y z is region comes whole m e.same cause.UnsetEntity)
      (if_region s _ _ _ _ _ _ e.tested back (region_failed s x o y z is region comes whole m e.same cause.Invariant))))
