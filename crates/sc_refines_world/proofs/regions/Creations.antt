-- Objects that are created without a procedure.
use Rattle.std.proofs.Common.{◌≡◌, ℕ, ◌+◌, ◌-◌, ◌<◌, Bool, true, false, not, List, [], ◌∷◌, ◌++◌, Some, None, drop, length, map, refl, sym, ap, ◌∙◌, subst, arith}
use Rattle.std.proofs.lemmas.Bool.Decides.{nat_tests}
use Rattle.std.proofs.lemmas.List.{length-map}
use Rattle.std.specs.Prelude.{◌==◌, ◌&&◌, nat_lt, slice_get, if◌then◌else◌}
use Rattle.std.specs.Option.{is_none, option_map}
use Rattle.sc_tree.specs.Plain.{System}
use Rattle.sc_class.specs.Tables.Features.{features}
use Rattle.sc_model.specs.declared.cause.Cause.{Cause}
use Rattle.sc_model.specs.declared.cause.Cause.TheVariants as cause
use Rattle.sc_model.specs.Environments.{Binding}
use Rattle.sc_model.specs.Handlers.{frame_at}
use Rattle.sc_model.specs.Invariants as model_invariants
use Rattle.sc_model.specs.Limits.{max_objects}
use Rattle.sc_model.specs.Objects as model_objects
use Rattle.sc_model.specs.Objects.{Object, fresh_attributes}
use Rattle.sc_model.specs.Steps as model
use Rattle.sc_model.specs.Values as values
use Rattle.sc_code.specs.Lowered.{run_of}
use Rattle.sc_code.specs.Machine as flat
use Rattle.sc_code.specs.Machine.{State}
use Rattle.sc_code.specs.Stands.{Leads, Seen, state_at}
use Rattle.sc_region.specs.declared.value.Reference.{Reference}
use Rattle.sc_region.specs.Classes as at
use Rattle.sc_region.specs.Classes.{class_at, defaults_of}
use Rattle.sc_region.specs.Frames as frames
use Rattle.sc_region.specs.Frames.{PlainActivation, PlainFrame, frame_with, top_activation, top_current}
use Rattle.sc_region.specs.Objects.{PlainObject, object_numbered}
use Rattle.sc_region.specs.Stores as store
use Rattle.sc_region.specs.Stores.{PlainStore, born, next_reference, with_new}
use Rattle.sc_acts.specs.declared.act.Act.TheVariants as act
use Rattle.sc_interp.specs.declared.hops.Hop.{Hop}
use Rattle.sc_interp.specs.declared.hops.Hop.TheVariants as hop
use Rattle.sc_acts.specs.Creating.{created, given, has_room_in, with_reference}
use Rattle.sc_refines_world.specs.regions.Laws.{ProgramsServe}
use Rattle.sc_interp.specs.Objects.{object_in, objects_in, valued}
use Rattle.sc_refines_world.specs.regions.RegionHalves.{IsRegionOf, AreFrames}
use Rattle.sc_refines_world.specs.regions.RegionSteps.{IsProgramFor}
use Rattle.sc_refines_world.specs.regions.RegionTurns.{Half, turn}
use Rattle.sc_interp.specs.Standing.{actuals, state_of, without}
use Rattle.sc_region.specs.Calls.{on_top, past, top_frame}
use Rattle.sc_interp.specs.Values.{reference_of, value_of, values_of}
use Rattle.sc_interp.proofs.Behind.{passes}
use Rattle.sc_interp.proofs.SilentMoves.{stays_after}
use Rattle.sc_acts.proofs.Options.{some_same}
use Rattle.sc_interp.proofs.Operands.{values_drop}
use Rattle.sc_refines_world.specs.regions.Acting.{Comes, IsCreator, Meets, ObjectsAreCreated}
use Rattle.sc_refines_world.proofs.regions.SilentOperations.{meets}
use Rattle.sc_refines_world.proofs.regions.MetInvariants.{fresh_values, meets_same}
use Rattle.sc_refines_world.proofs.regions.PassedOperations.{act_same, few, frame_stands_with, stands_within, state_same, stays, turn_is}
use Rattle.sc_refines_world.proofs.regions.ShownSteps.{creates_is, fails_is}
use Rattle.sc_refines_world.proofs.regions.ProgramRoutines.{frames_still}

-- ---- new objects

valued_same : (bs : List Binding) → valued bs (map (λ (b : Binding). b.value) bs) ≡ bs
valued_same [] = refl
valued_same (b ∷ bs) = ap (λ cs. b ∷ cs) (valued_same bs)

pub fresh_same : (s : System) (y : PlainStore) → IsProgramFor s y.program → (class : ℕ) → object_in s (at.fresh_object y.program class) ≡ model_objects.fresh_object s class
fresh_same s y is class =
    let bs = fresh_attributes s (features s class) in
    ap (λ vs. record { class = class; attributes = valued bs vs }) (fresh_values s is.root y.program is.program class)
    ∙ ap (λ cs. record { class = class; attributes = cs }) (valued_same bs)

pub objects_more : (s : System) (os : List PlainObject) (o : PlainObject) → objects_in s (os ++ o ∷ []) ≡ objects_in s os ++ object_in s o ∷ []
objects_more s [] o = refl
objects_more s (p ∷ os) o = ap (λ l. object_in s p ∷ l) (objects_more s os o)

get_last : (os : List PlainObject) (o : PlainObject) → slice_get (os ++ o ∷ []) (length os) ≡ Some o
get_last [] o = refl
get_last (p ∷ os) o = get_last os o

numbered_last : (os : List PlainObject) (o : PlainObject) → object_numbered (length os + 1) (os ++ o ∷ []) ≡ Some o
numbered_last os o =
    let some : (length os + 1 == 0) ≡ false = grind (arith, nat_tests) in
    let before : length os + 1 - 1 ≡ length os = omega arith in
    ap (λ b. if b then None else slice_get (os ++ o ∷ []) (length os + 1 - 1)) some ∙ ap (slice_get (os ++ o ∷ [])) before ∙ get_last os o

-- a new object is settled at once, and so is tested
pub born_is : (s : System) (z : PlainStore) → IsProgramFor s z.program → (class : ℕ) → z.failure ≡ None → frames.is_current (length z.objects + 1) z.frames ≡ false →
    born class z ≡ (if not (model_invariants.meets_invariant s (model_objects.fresh_object s class)) then store.failed cause.Invariant (with_new class z) else with_new class z)
born_is s z is class lives unborn =
    let w = with_new class z in
    let o = at.fresh_object z.program class in
    ap (λ f. if (is_none f && not (frames.is_current (length z.objects + 1) z.frames)) && at.object_breaks z.program (object_numbered (length z.objects + 1) w.objects)
    then store.failed cause.Invariant w else w) lives
    ∙ ap (λ b. if not b && at.object_breaks z.program (object_numbered (length z.objects + 1) w.objects) then store.failed cause.Invariant w else w) unborn
    ∙ ap (λ q. if at.object_breaks z.program q then store.failed cause.Invariant w else w) (numbered_last z.objects o)
    ∙ ap (λ b. if not b then store.failed cause.Invariant w else w)
    (meets_same s z.program is o (omega arith) ∙ ap (λ q. model_invariants.meets_invariant s q) (fresh_same s z is class))

-- ---- what comes of it

module _ (s : System) (x : Half) (o : Hop) (y z : PlainStore) (is : IsProgramFor s y.program) (region : IsRegionOf s x y) (comes : Comes o y z) (m : Meets s x o y z) (h : ℕ) where
  -- the routine fails, with these objects
  pub failed_so : (why : Cause) (f : State) (w : PlainStore) → flat.Does (flat.Fails why) f ≡ flat.Does m.shown m.state → objects_in s w.objects ≡ f.objects → w.output ≡ z.output →
      IsRegionOf s (turn s h x) (store.failed why w)
  failed_so why f w does same output =
      let shown = act_same (flat.Fails why) m.shown f m.state does in
      let step = fails_is m.last.environment m.point.environment m.step why (subst (λ a. Seen m.last.environment m.point.environment m.step a) (sym shown) m.seen) in
      let leads : m.state.objects ≡ m.point.objects = subst (λ a. Leads (run_of s m.frame.routine) a m.point m.state) step m.leads in
      subst (λ half. IsRegionOf s half (store.failed why w)) (sym (turn_is s x o y z is region comes m h (model.Fails why) step))
      (record {
        objects = same ∙ ap (λ (g : State). g.objects) (state_same (flat.Fails why) m.shown f m.state does) ∙ leads;
        frames = tt;
        output = output ∙ comes.remains.output ∙ region.output;
        failure = refl;
      })

  -- the routine goes on, with these objects
  created_so : (r : Reference) (n : ℕ) (os : List Object) (w : PlainStore) →
      flat.does flat.Creates (record (without n (state_of os m.activation)) { values = values.Attached (reference_of r) ∷ drop n (values_of m.activation.operands.values) })
      ≡ flat.Does m.shown m.state → objects_in s w.objects ≡ os → w.frames ≡ z.frames → w.output ≡ z.output → w.failure ≡ z.failure →
      IsRegionOf s (turn s h x) (on_top (with_reference r) (on_top (past n) w))
  created_so r n os w does same in_frames output failure =
      let a = m.activation in
      let shown = act_same flat.Creates m.shown _ m.state does in
      let step = creates_is m.last.environment m.point.environment m.step (subst (λ a. Seen m.last.environment m.point.environment m.step a) (sym shown) m.seen) in
      let leads = subst (λ a. Leads (run_of s m.frame.routine) a m.point m.state) step m.leads in
      let next : a.place + 1 ≡ leads.0 = ap (λ (f : State). f.place) (state_same flat.Creates m.shown _ m.state does ∙ leads.2) in
      let inside = stands_within (run_of s m.frame.routine) leads.0 leads.1 m.point leads.3 in
      let room : a.place < 18446744073709551615 = omega (arith, next, inside, few s x o y z is region comes m) in
      let made : values.Value = values.Attached (reference_of r) in
      let moved = ap (λ (f : State). record f { values = made ∷ f.values }) (state_same flat.Creates flat.Creates _ _ (passes flat.Creates n os a room)) in
      let state : state_of os (with_reference r (past n a)) ≡ state_at leads.0 leads.1 m.point = sym moved ∙ state_same flat.Creates m.shown _ m.state does ∙ leads.2 in
      let stands = frame_stands_with s x o y z is region comes m os (with_reference r (past n a)) leads.0 leads.1
      (stays_after m.before a (with_reference r (past n a)) (stays s x o y z is region comes m) (record { routine = refl; origin = refl; stage = refl; depth = refl; room = refl; reserved = refl; blocks = refl }))
      state leads.3 in
      subst (λ half. IsRegionOf s half (on_top (with_reference r) (on_top (past n) w))) (sym (turn_is s x o y z is region comes m h model.Creates step))
      (record {
        objects = same ∙ ap (λ (f : State). f.objects) state;
        frames = subst (λ fs. AreFrames s m.point.objects (frame_at m.frame m.point ∷ m.below) (top_frame (with_reference r) (top_frame (past n) fs))) (sym (in_frames ∙ m.frames))
            (stands, frames_still s x.objects m.point.objects m.below m.rest m.others);
        output = output ∙ comes.remains.output ∙ region.output;
        failure = failure ∙ comes.remains.failure ∙ region.failure;
      })

module _ (number class n : ℕ) (y z : PlainStore) (comes : Comes (hop.Comes (act.Create class None n)) y z) (creator : IsCreator number z) (s : System) (h : ℕ) (x : Half)
    (is : IsProgramFor s y.program) (region : IsRegionOf s x y) (m : Meets s x (hop.Comes (act.Create class None n)) y z) where
  abbrev code : flat.Code
  code = (run_of s m.frame.routine).code

  abbrev r : Reference
  r = next_reference number class z

  abbrev os : List Object
  os = objects_in s z.objects

  abbrev fresh : Object
  fresh = model_objects.fresh_object s class

  abbrev before : State
  before = without n (state_of os m.activation)

  abbrev behind : State
  behind = record before { objects = os ++ fresh ∷ [] }

  abbrev us : List values.Value
  us = actuals n (values_of m.activation.operands.values)

  program_for : IsProgramFor s z.program
  program_for = subst (IsProgramFor s) (sym comes.remains.program) is

  count_same : length os ≡ length z.objects
  count_same = length-map z.objects (object_in s)

  same_handler : m.current.handler ≡ number
  same_handler = some_same m.current.handler number (ap (λ fs. option_map (λ (r : Reference). r.handler) (top_current fs)) (sym m.frames) ∙ creator.handler)

  reference_same : record (reference_of r) { handler = m.current.handler; number = length os + 1 } ≡ reference_of r
  reference_same =
      ap (λ k. record (reference_of r) { handler = k; number = length os + 1 }) same_handler ∙ ap (λ k. record (reference_of r) { handler = number; number = k + 1 }) count_same

  told : (if nat_lt (length z.objects) max_objects then flat.creates_object s code (reference_of r) None us behind else flat.fails cause.TooManyObjects before) ≡ flat.Does m.shown m.state
  told =
      sym (
      ap (λ q. if nat_lt (length os) max_objects then flat.creates_object s code q None us behind else flat.fails cause.TooManyObjects before) reference_same
      ∙ ap (λ k. if nat_lt k max_objects then flat.creates_object s code (reference_of r) None us behind else flat.fails cause.TooManyObjects before) count_same
      ) ∙ m.does

  more : objects_in s (with_new class z).objects ≡ os ++ fresh ∷ []
  more = objects_more s z.objects (at.fresh_object z.program class) ∙ ap (λ q. os ++ q ∷ []) (fresh_same s z program_for class)

  room_same : nat_lt (length behind.values) code.depth ≡ has_room_in n (top_activation z.frames)
  room_same =
      ap (λ k. nat_lt k code.depth) (ap length (sym (values_drop n m.activation.operands.values)) ∙ length-map (drop n m.activation.operands.values) value_of)
      ∙ ap (λ k. nat_lt (length (drop n m.activation.operands.values)) k) (sym ((stays s x (hop.Comes (act.Create class None n)) y z is region comes m).depth ∙ m.stood.depth))
      ∙ ap (λ fs. has_room_in n (top_activation fs)) (sym m.frames)

  by_room : (b : Bool) → (if b then flat.does flat.Creates (record behind { values = values.Attached (reference_of r) ∷ behind.values }) else flat.stuck behind) ≡ flat.Does m.shown m.state →
      IsRegionOf s (turn s h x) (if b then on_top (with_reference r) (on_top (past n) (with_new class z)) else store.failed cause.BadCode (with_new class z))
  by_room true e = created_so s x (hop.Comes (act.Create class None n)) y z is region comes m h r n (os ++ fresh ∷ []) (with_new class z) e more refl refl refl
  by_room false e = failed_so s x (hop.Comes (act.Create class None n)) y z is region comes m h cause.BadCode behind (with_new class z) e more refl

  by_meets : (b : Bool) → (if b then flat.does_with code (reference_of r) flat.Creates behind else flat.fails cause.Invariant behind) ≡ flat.Does m.shown m.state →
      IsRegionOf s (turn s h x) (given n r (if not b then store.failed cause.Invariant (with_new class z) else with_new class z))
  by_meets true e =
      subst (λ b. IsRegionOf s (turn s h x) (if b then on_top (with_reference r) (on_top (past n) (with_new class z)) else store.failed cause.BadCode (with_new class z))) room_same
      (by_room (nat_lt (length behind.values) code.depth) e)
  by_meets false e = failed_so s x (hop.Comes (act.Create class None n)) y z is region comes m h cause.Invariant behind (with_new class z) e more refl

  by_count : (b : Bool) → (if b then flat.creates_object s code (reference_of r) None us behind else flat.fails cause.TooManyObjects before) ≡ flat.Does m.shown m.state →
      IsRegionOf s (turn s h x) (given n r (if b then born class z else store.failed cause.TooManyObjects z))
  by_count true e =
      subst (λ w. IsRegionOf s (turn s h x) (given n r w)) (sym (born_is s z program_for class creator.lives creator.unborn)) (by_meets (model_invariants.meets_invariant s fresh) e)
  by_count false e = failed_so s x (hop.Comes (act.Create class None n)) y z is region comes m h cause.TooManyObjects before z e refl refl

  created_whole : IsRegionOf s (turn s h x) (created r n z)
  created_whole = by_count (nat_lt (length z.objects) max_objects) told

pub objects_are_created : ProgramsServe → ObjectsAreCreated
objects_are_created serve number class n y z comes creator s h x is region =
    created_whole number class n y z comes creator s h x is region (meets serve s x (hop.Comes (act.Create class None n)) y z is region comes)
