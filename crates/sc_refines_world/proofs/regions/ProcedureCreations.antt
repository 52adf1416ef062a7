-- Objects that are created by a procedure.
use Rattle.std.proofs.Common.{◌≡◌, ℕ, ◌+◌, Bool, true, false, not, List, [], ◌∷◌, ◌++◌, Option, Some, None, drop, length, refl, sym, ap, ◌∙◌, subst, arith}
use Rattle.std.proofs.lemmas.Bool.Decides.{nat_tests}
use Rattle.std.proofs.lemmas.List.{length-map}
use Rattle.std.specs.Prelude.{◌==◌, ◌&&◌, ◌||◌, nat_lt, slice_get, if◌then◌else◌}
use Rattle.std.specs.Option.{is_none, option_map}
use Rattle.sc_tree.specs.Plain.{System}
use Rattle.sc_model.specs.declared.cause.Cause.TheVariants as cause
use Rattle.sc_model.specs.Handlers.{Called, InCall, Frame, frame_at}
use Rattle.sc_model.specs.Limits.{max_objects}
use Rattle.sc_model.specs.Objects as model_objects
use Rattle.sc_model.specs.Objects.{Object}
use Rattle.sc_model.specs.Routines.{routine_named}
use Rattle.sc_model.specs.Steps as model
use Rattle.sc_model.specs.Values as values
use Rattle.sc_code.specs.declared.program.RoutineCode.{RoutineCode}
use Rattle.sc_code.specs.Lowered.{run_of}
use Rattle.sc_code.specs.Machine as flat
use Rattle.sc_code.specs.Machine.{State}
use Rattle.sc_code.specs.Programs.{pool_of}
use Rattle.sc_code.specs.Stands.{Leads, Seen, state_at}
use Rattle.sc_region.specs.declared.frame.Origin.{Origin}
use Rattle.sc_region.specs.declared.frame.Origin.TheVariants as origin
use Rattle.sc_region.specs.declared.frame.Stage.TheVariants as stage
use Rattle.sc_region.specs.declared.value.Reference.{Reference}
use Rattle.sc_region.specs.declared.value.Value.{Value}
use Rattle.sc_region.specs.Classes as at
use Rattle.sc_region.specs.Classes.{routine_at}
use Rattle.sc_region.specs.Frames as frames
use Rattle.sc_region.specs.Frames.{PlainActivation, PlainFrame, frame_with, top_activation, top_current}
use Rattle.sc_region.specs.Objects.{object_numbered}
use Rattle.sc_region.specs.Stores as store
use Rattle.sc_region.specs.Stores.{PlainStore, born_for, entered, entered_at, next_reference, settled, with_new}
use Rattle.sc_acts.specs.declared.act.Act.TheVariants as act
use Rattle.sc_interp.specs.declared.hops.Hop.TheVariants as hop
use Rattle.sc_acts.specs.Creating.{created_at, created_by, has_room_in, made_if, with_reference}
use Rattle.sc_region.specs.Calls.{in_call, last_values, on_top, top_frame}
use Rattle.sc_acts.specs.Entering.{Has, entered_if, has_operands, routine_in}
use Rattle.sc_refines_world.specs.regions.Laws.{ProgramsServe}
use Rattle.sc_interp.specs.Objects.{object_in, objects_in}
use Rattle.sc_refines_world.specs.regions.RegionHalves.{IsRegionOf, AreFrames}
use Rattle.sc_refines_world.specs.regions.RegionSteps.{IsProgramFor}
use Rattle.sc_refines_world.specs.regions.RegionTurns.{Half, enters, turn, with_stack}
use Rattle.sc_acts.specs.Tables.{version_in, name_at}
use Rattle.sc_interp.specs.Standing.{actuals, state_of, without}
use Rattle.sc_interp.specs.Values.{reference_of, value_of, values_of}
use Rattle.sc_interp.proofs.Behind.{passes}
use Rattle.sc_acts.proofs.Options.{some_same}
use Rattle.sc_interp.proofs.Operands.{values_drop}
use Rattle.sc_acts.specs.CreatingObjects.{created_by_name}
use Rattle.sc_refines_world.specs.regions.Acting.{Comes, Meets, ObjectsAreCreatedBy, RunsOn, TurnsInto}
use Rattle.sc_refines_world.proofs.regions.Calls.{entered_anew, enters_is, name_is}
use Rattle.sc_refines_world.proofs.regions.SilentOperations.{meets}
use Rattle.sc_refines_world.proofs.regions.Creations.{failed_so, fresh_same, objects_more}
use Rattle.sc_refines_world.proofs.regions.Entries.{routines_are_entered}
use Rattle.sc_refines_world.proofs.regions.PassedOperations.{act_same, state_same, stays, turn_is}
use Rattle.sc_refines_world.proofs.regions.StageChanges.{frame_stands, gives_some, next_said, same_blocks, values_taken, with_within}
use Rattle.sc_refines_world.proofs.regions.ProgramRoutines.{frames_still}

-- ---- the new object isn't settled

same_is : (m n : ℕ) → m ≡ n → (m == n) ≡ true
same_is m n e = grind (arith, nat_tests, e)

no_matter : (a c : Bool) (x y : PlainStore) → (if (a && false) && c then x else y) ≡ y
no_matter true c x y = refl
no_matter false c x y = refl

-- the routine runs on it, or the store has failed
entered_settled : (r : Reference) (n routine : ℕ) (from : Origin) (us : List Value) (w : PlainStore) → r.number ≡ n → settled n (entered r routine from us w) ≡ entered r routine from us w
entered_settled r n routine from us w e = by (routine_at w.program routine)
  where
    current : (f : PlainFrame) → f.current.number ≡ n → settled n (record w { frames = f ∷ w.frames }) ≡ record w { frames = f ∷ w.frames }
    current f e =
        ap (λ b. if (is_none w.failure && not (b || frames.is_current n w.frames)) && at.object_breaks w.program (object_numbered n w.objects)
        then store.failed cause.Invariant (record w { frames = f ∷ w.frames }) else record w { frames = f ∷ w.frames }) (same_is f.current.number n e)
        ∙ no_matter (is_none w.failure) (at.object_breaks w.program (object_numbered n w.objects)) (store.failed cause.Invariant (record w { frames = f ∷ w.frames })) (record w { frames = f ∷ w.frames })

    by : (o : Option RoutineCode) → settled n (entered_at (length w.frames) r routine o from us w) ≡ entered_at (length w.frames) r routine o from us w
    by None = refl
    by (Some q) = by_many (length us == q.formals)
      where
        by_room : (b : Bool) → settled n (if b then record w { frames = store.entry r routine q from us ∷ w.frames } else store.failed cause.StackFull w)
            ≡ (if b then record w { frames = store.entry r routine q from us ∷ w.frames } else store.failed cause.StackFull w)
        by_room true = current (store.entry r routine q from us) e
        by_room false = refl

        by_many : (b : Bool) →
            settled n (if b then (if nat_lt (length w.frames) store.max_frames then record w { frames = store.entry r routine q from us ∷ w.frames } else store.failed cause.StackFull w)
            else store.failed cause.BadCode w)
            ≡ (if b then (if nat_lt (length w.frames) store.max_frames then record w { frames = store.entry r routine q from us ∷ w.frames } else store.failed cause.StackFull w)
            else store.failed cause.BadCode w)
        by_many true = by_room (nat_lt (length w.frames) store.max_frames)
        by_many false = refl

-- ---- the creation

module _ (number class k n routine : ℕ) (name : List ℕ) (y z : PlainStore) (comes : Comes (hop.Comes (act.Create class (Some k) n)) y z) (own : RunsOn number z)
    (there : slice_get (pool_of z.program.pool).names k ≡ Some name) (has : Has n (top_activation z.frames)) (room : has_room_in n (top_activation z.frames) ≡ true)
    (found : routine_in (version_in z.program class k) ≡ Some routine) (s : System) (h : ℕ) (x : Half) (is : IsProgramFor s y.program) (region : IsRegionOf s x y)
    (m : Meets s x (hop.Comes (act.Create class (Some k) n)) y z) where
  abbrev code : flat.Code
  code = (run_of s m.frame.routine).code

  abbrev r : Reference
  r = next_reference number class z

  abbrev os : List Object
  os = objects_in s z.objects

  abbrev fresh : Object
  fresh = model_objects.fresh_object s class

  abbrev a : PlainActivation
  a = m.activation

  abbrev before : State
  before = without n (state_of os a)

  abbrev behind : State
  behind = record before { objects = os ++ fresh ∷ [] }

  abbrev us : List values.Value
  us = actuals n (values_of a.operands.values)

  -- the caller, and the store with the new object
  abbrev calls : PlainActivation → PlainActivation
  calls b = with_reference r (in_call n false b)

  abbrev caller_in : PlainStore
  caller_in = on_top (with_reference r) (on_top (in_call n false) z)

  abbrev w : PlainStore
  w = with_new class caller_in

  program_for : IsProgramFor s z.program
  program_for = subst (IsProgramFor s) (sym comes.remains.program) is

  count_same : length os ≡ length z.objects
  count_same = length-map z.objects (object_in s)

  same_handler : m.current.handler ≡ number
  same_handler = some_same m.current.handler number (ap (λ fs. option_map (λ (r : Reference). r.handler) (top_current fs)) (sym m.frames) ∙ own)

  reference_same : record (reference_of r) { handler = m.current.handler; number = length os + 1 } ≡ reference_of r
  reference_same =
      ap (λ j. record (reference_of r) { handler = j; number = length os + 1 }) same_handler ∙ ap (λ j. record (reference_of r) { handler = number; number = j + 1 }) count_same

  abbrev asked : flat.Act
  asked = flat.Enters model.Creation (reference_of r) (name_at y.program k) us false

  told : (if nat_lt (length z.objects) max_objects then flat.creates_object s code (reference_of r) (Some (name_at y.program k)) us behind else flat.fails cause.TooManyObjects before)
      ≡ flat.Does m.shown m.state
  told =
      sym (
      ap (λ q. if nat_lt (length os) max_objects then flat.creates_object s code q (Some (name_at y.program k)) us behind else flat.fails cause.TooManyObjects before) reference_same
      ∙ ap (λ j. if nat_lt j max_objects then flat.creates_object s code (reference_of r) (Some (name_at y.program k)) us behind else flat.fails cause.TooManyObjects before) count_same
      ) ∙ m.does

  more : objects_in s w.objects ≡ os ++ fresh ∷ []
  more = objects_more s z.objects (at.fresh_object z.program class) ∙ ap (λ q. os ++ q ∷ []) (fresh_same s z program_for class)

  room_there : nat_lt (length behind.values) code.depth ≡ true
  room_there =
      ap (λ j. nat_lt j code.depth) (ap length (sym (values_drop n a.operands.values)) ∙ length-map (drop n a.operands.values) value_of)
      ∙ ap (λ j. nat_lt (length (drop n a.operands.values)) j) (sym ((stays s x (hop.Comes (act.Create class (Some k) n)) y z is region comes m).depth ∙ m.stood.depth))
      ∙ subst (λ fs. has_room_in n (top_activation fs) ≡ true) m.frames room

  -- the procedure is entered
  made : flat.does asked (record behind { values = values.Attached (reference_of r) ∷ behind.values }) ≡ flat.Does m.shown m.state →
      IsRegionOf s (turn s h x) (entered r routine origin.Creation (last_values n a.operands.values) w)
  made does =
      let o = hop.Comes (act.Create class (Some k) n) in
      let f = frame_at m.frame m.point in
      let after : Half = record x { objects = m.point.objects; stack = f ∷ m.below } in
      let more_objects : List Object = os ++ fresh ∷ [] in
      let shown = act_same asked m.shown _ m.state does in
      let seen = enters_is m.last.environment m.point.environment model.Creation m.step (reference_of r) (name_at y.program k) us false
      (subst (λ b. Seen m.last.environment m.point.environment m.step b) (sym shown) m.seen) in
      let leads = subst (λ b. Leads (run_of s m.frame.routine) b m.point m.state) seen.act m.leads in
      let inside = with_within (run_of s m.frame.routine) leads.0 leads.1 seen.type m.point leads.3 in
      let next : a.place + 1 ≡ leads.0 = ap (λ (g : State). g.place) (state_same asked m.shown _ m.state does ∙ leads.2) in
      let moved = ap (λ (g : State). record g { values = values.Attached (reference_of r) ∷ g.values })
      (state_same asked asked _ _ (passes asked n more_objects a (next_said s x o y z is region comes m leads.0 next inside))) in
      let state : state_of more_objects (calls a) ≡ state_at leads.0 leads.1 m.point = sym moved ∙ state_same asked m.shown _ m.state does ∙ leads.2 in
      let caller : Frame = record f { stage = InCall seen.type } in
      let stands = frame_stands s x o y z is region comes m more_objects (InCall seen.type) m.point.values m.frame.blocks (calls a) leads.0 leads.1
      (record { routine = refl; origin = refl; depth = refl; reserved = refl })
      (ap (λ g. stage.InCall g) (sym seen.gives_is ∙ sym (gives_some seen.type))) (same_blocks s x o y z is region comes m) state leads.3 in
      let base : IsRegionOf s (with_stack (caller ∷ m.below) after) w = record {
        objects = more ∙ ap (λ (g : State). g.objects) state;
        frames = subst (λ fs. AreFrames s m.point.objects (caller ∷ m.below) (top_frame (with_reference r) (top_frame (in_call n false) fs))) (sym m.frames)
            (stands, frames_still s x.objects m.point.objects m.below m.rest m.others);
        output = comes.remains.output ∙ region.output;
        failure = comes.remains.failure ∙ region.failure;
      } in
      let operands = a.operands.values in
      let entry = routines_are_entered s (with_stack (caller ∷ m.below) after) w r k name (Called model.Creation) (last_values n operands) program_for base there in
      let called_name = name_is y.program z.program k name comes.remains.program there in
      let vs = values_taken n [] operands ∙ sym seen.values_are in
      let becomes = turn_is s x o y z is region comes m h (model.Enters model.Creation (reference_of r) (name_at y.program k) seen.actuals seen.type) seen.act
      ∙ ap (λ t. enters s (reference_of r) (routine_named s class t) (Called model.Creation) (caller ∷ m.below) (values.values_of seen.actuals) after) called_name
      ∙ ap (λ us. enters s (reference_of r) (routine_named s class name) (Called model.Creation) (caller ∷ m.below) us after) (sym vs)
      ∙ sym (entered_anew s (reference_of r) (routine_named s class name) (Called model.Creation) (caller ∷ m.below) (caller ∷ m.below) (values_of (last_values n operands)) after) in
      subst (λ half. IsRegionOf s half (entered r routine origin.Creation (last_values n operands) w)) (sym becomes)
      (subst (λ q. IsRegionOf s (enters s (reference_of r) (routine_named s class name) (Called model.Creation) (caller ∷ m.below) (values_of (last_values n operands)) (with_stack (caller ∷ m.below) after))
      (entered_if q r origin.Creation (last_values n operands) w)) found entry)

  by_room : (b : Bool) → b ≡ true → (if b then flat.does asked (record behind { values = values.Attached (reference_of r) ∷ behind.values }) else flat.stuck behind) ≡ flat.Does m.shown m.state →
      IsRegionOf s (turn s h x) (entered r routine origin.Creation (last_values n a.operands.values) w)
  by_room true same e = made e
  by_room false same e = cc

  by_count : (b : Bool) →
      (if b then flat.creates_object s code (reference_of r) (Some (name_at y.program k)) us behind else flat.fails cause.TooManyObjects before) ≡ flat.Does m.shown m.state →
      IsRegionOf s (turn s h x) (if b then born_for r routine origin.Creation (last_values n a.operands.values) caller_in else store.failed cause.TooManyObjects caller_in)
  by_count true e =
      subst (λ v. IsRegionOf s (turn s h x) v) (sym (entered_settled r (length z.objects + 1) routine origin.Creation (last_values n a.operands.values) w refl))
      (by_room (nat_lt (length behind.values) code.depth) room_there e)
  by_count false e = failed_so s x (hop.Comes (act.Create class (Some k) n)) y z is region comes m h cause.TooManyObjects before caller_in e refl refl

  abbrev made_in : PlainStore
  made_in = made_if (Some routine) r (last_values n a.operands.values) caller_in

  created_is : created_by r k n z ≡ made_in
  created_is =
      ap (λ fs. created_at r k n (top_activation fs) z) m.frames
      ∙ ap (λ b. if b && has_operands n a then made_if (routine_in (version_in z.program class k)) r (last_values n a.operands.values) caller_in else store.failed cause.BadCode z)
      (subst (λ fs. has_room_in n (top_activation fs) ≡ true) m.frames room)
      ∙ ap (λ b. if b then made_if (routine_in (version_in z.program class k)) r (last_values n a.operands.values) caller_in else store.failed cause.BadCode z)
      (subst (λ fs. Has n (top_activation fs)) m.frames has)
      ∙ ap (λ q. made_if q r (last_values n a.operands.values) caller_in) found

  created_whole : IsRegionOf s (turn s h x) (created_by r k n z)
  created_whole = subst (λ v. IsRegionOf s (turn s h x) v) (sym created_is) (by_count (nat_lt (length z.objects) max_objects) told)

pub objects_are_created_by : ProgramsServe → ObjectsAreCreatedBy
objects_are_created_by serve number class k n routine name y z comes own there has room found s h x is region =
    created_whole number class k n routine name y z comes own there has room found s h x is region
    (meets serve s x (hop.Comes (act.Create class (Some k) n)) y z is region comes)

-- ---- too many objects

module _ (class k n : ℕ) (y z : PlainStore) (comes : Comes (hop.Comes (act.Create class (Some k) n)) y z) (full : nat_lt (length z.objects) max_objects ≡ false)
    (s : System) (h : ℕ) (x : Half) (is : IsProgramFor s y.program) (region : IsRegionOf s x y) (m : Meets s x (hop.Comes (act.Create class (Some k) n)) y z) where
  abbrev there_are : List Object
  there_are = objects_in s z.objects

  abbrev left_with : State
  left_with = without n (state_of there_are m.activation)

  abbrev next : values.Reference
  next = record { handler = m.current.handler; number = length there_are + 1; class = class }

  too_many : (b : Bool) → b ≡ false →
      (if b then flat.creates_object s (run_of s m.frame.routine).code next (Some (name_at y.program k)) (actuals n (values_of m.activation.operands.values))
      (record left_with { objects = there_are ++ model_objects.fresh_object s class ∷ [] })
      else flat.fails cause.TooManyObjects left_with) ≡ flat.Does m.shown m.state →
      flat.Does (flat.Fails cause.TooManyObjects) left_with ≡ flat.Does m.shown m.state
  too_many true q e = cc
  too_many false q e = e

  -- whatever the procedure is, the handler fails for them
  creation_fails : IsRegionOf s (turn s h x) (store.failed cause.TooManyObjects z)
  creation_fails =
      let count : length there_are ≡ length z.objects = length-map z.objects (object_in s) in
      failed_so s x (hop.Comes (act.Create class (Some k) n)) y z is region comes m h cause.TooManyObjects left_with z
      (too_many (nat_lt (length there_are) max_objects) (ap (λ j. nat_lt j max_objects) count ∙ full) m.does) refl refl

-- The same where the handler may have too many objects: only where it has not, the procedure is asked for.
pub objects_are_created_by_name : ProgramsServe → (number class k n : ℕ) (name : List ℕ) (y z : PlainStore) → Comes (hop.Comes (act.Create class (Some k) n)) y z →
    RunsOn number z → slice_get (pool_of z.program.pool).names k ≡ Some name → Has n (top_activation z.frames) → has_room_in n (top_activation z.frames) ≡ true →
    (nat_lt (length z.objects) max_objects ≡ true → (routine : ℕ) × (routine_in (version_in z.program class k) ≡ Some routine)) →
    TurnsInto y (created_by_name (next_reference number class z) k n z)
objects_are_created_by_name serve number class k n name y z comes own there has room found s h x is region = by (nat_lt (length z.objects) max_objects) refl
  where
    by : (b : Bool) → nat_lt (length z.objects) max_objects ≡ b →
        IsRegionOf s (turn s h x) (if b then created_by (next_reference number class z) k n z else store.failed cause.TooManyObjects z)
    by true few = let q = found few in objects_are_created_by serve number class k n q.0 name y z comes own there has room q.1 s h x is region
    by false full = creation_fails class k n y z comes full s h x is region (meets serve s x (hop.Comes (act.Create class (Some k) n)) y z is region comes)
