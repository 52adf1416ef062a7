-- Calls of routines of the same handler.
use Rattle.std.proofs.Common.{◌≡◌, ℕ, ◌+◌, Bool, true, false, List, [], ◌∷◌, Option, Some, None, is_some, length, refl, sym, ap, ◌∙◌, subst}
use Rattle.std.specs.Prelude.{◌&&◌, nat_lt, slice_get, unwrap_or, if◌then◌else◌}
use Rattle.sc_tree.specs.Plain.{System}
use Rattle.sc_rules.specs.declared.entity_types.entity_type.EntityType.{EntityType}
use Rattle.sc_model.specs.declared.cause.Cause.TheVariants as cause
use Rattle.sc_model.specs.Entries.{entry}
use Rattle.sc_model.specs.Environments.{Binding, formals_bound}
use Rattle.sc_model.specs.Handlers.{Origin, Called, InCall, Frame, frame_at}
use Rattle.sc_model.specs.Limits.{max_frames}
use Rattle.sc_model.specs.Routines.{Routine, routine_named}
use Rattle.sc_model.specs.Steps as model
use Rattle.sc_model.specs.Steps.{Point}
use Rattle.sc_model.specs.Values as values
use Rattle.sc_model.specs.Values.{Operand}
use Rattle.sc_code.specs.declared.program.Image.{Image}
use Rattle.sc_code.specs.Lowered.{run_of}
use Rattle.sc_code.specs.Machine as flat
use Rattle.sc_code.specs.Programs.{pool_of}
use Rattle.sc_code.specs.Stands.{Leads, Seen}
use Rattle.sc_region.specs.declared.frame.Stage.TheVariants as stage
use Rattle.sc_region.specs.declared.value.Reference.{Reference}
use Rattle.sc_region.specs.Frames.{PlainActivation, PlainFrame, frame_with, top_activation}
use Rattle.sc_region.specs.Stores as store
use Rattle.sc_region.specs.Stores.{PlainStore}
use Rattle.sc_acts.specs.declared.act.Act.TheVariants as act
use Rattle.sc_acts.specs.declared.act.Calling.{Calling}
use Rattle.sc_acts.specs.declared.act.Calling.TheVariants as calling
use Rattle.sc_interp.specs.declared.hops.Hop.TheVariants as hop
use Rattle.sc_region.specs.Calls.{in_call, last_values, on_top}
use Rattle.sc_acts.specs.Entering.{HasCall, called, called_at, entered_if, has_operands, operands_of, routine_in}
use Rattle.sc_acts.specs.Entering as entering
use Rattle.sc_interp.specs.Hopping.{state_in}
use Rattle.sc_refines_world.specs.regions.Laws.{ProgramsServe}
use Rattle.sc_refines_world.specs.regions.RegionHalves.{IsRegionOf, calling_of}
use Rattle.sc_refines_world.specs.regions.RegionSteps.{IsProgramFor}
use Rattle.sc_refines_world.specs.regions.RegionTurns.{Half, enters, enters_bound, turn, with_stack}
use Rattle.sc_acts.specs.Tables.{version_in, name_at}
use Rattle.sc_interp.specs.Standing.{actuals, without}
use Rattle.sc_interp.specs.Values.{reference_of, values_of}
use Rattle.sc_refines_world.specs.regions.Acting.{CallsAreMade, Comes, Meets}
use Rattle.sc_refines_world.proofs.regions.SilentOperations.{meets}
use Rattle.sc_refines_world.proofs.regions.Entries.{routines_are_entered}
use Rattle.sc_refines_world.proofs.regions.PassedOperations.{act_same, turn_is}
use Rattle.sc_refines_world.proofs.regions.StageChanges.{gives_some, region_in, same_blocks, state_past, values_taken, with_within}

-- ---- what is seen

-- a routine of this object is entered so
pub record IsCall (c : model.Calling) (a : model.Act) (r : values.Reference) (name : List ℕ) (us : List values.Value) (gives : Bool) : Type 0 where
  pub actuals : List Operand
  pub type : Option EntityType
  pub act : a ≡ model.Enters c r name actuals type
  pub values_are : values.values_of actuals ≡ us
  pub gives_is : is_some type ≡ gives

module _ (b c : model.Calling) (j r : values.Reference) (y x : List ℕ) (vs us : List values.Value) (h g : Bool) (e : flat.Enters c r x us g ≡ flat.Enters b j y vs h) where
  same_calling : b ≡ c
  same_calling = cc

  same_object : j ≡ r
  same_object = cc

  same_name : y ≡ x
  same_name = cc

  same_values : vs ≡ us
  same_values = cc

  same_gives : h ≡ g
  same_gives = cc

pub enters_is : (bs cs : List Binding) (c : model.Calling) (a : model.Act) (r : values.Reference) (x : List ℕ) (us : List values.Value) (g : Bool) → Seen bs cs a (flat.Enters c r x us g) →
    IsCall c a r x us g
enters_is bs cs c (model.Enters b j y vs t) r x us g e = record {
  actuals = vs;
  type = t;
  act = ap (λ b. model.Enters b j y vs t) (same_calling b c j r y x (values.values_of vs) us (is_some t) g e)
      ∙ ap (λ j. model.Enters c j y vs t) (same_object b c j r y x (values.values_of vs) us (is_some t) g e)
      ∙ ap (λ y. model.Enters c r y vs t) (same_name b c j r y x (values.values_of vs) us (is_some t) g e);
  values_are = same_values b c j r y x (values.values_of vs) us (is_some t) g e;
  gives_is = same_gives b c j r y x (values.values_of vs) us (is_some t) g e;
}
enters_is bs cs c (model.Prints t) r x us g e = cc
enters_is bs cs c model.Until r x us g e = cc
enters_is bs cs c model.Creates r x us g e = cc
enters_is bs cs c (model.CreatesHandler k y vs t q) r x us g e = cc
enters_is bs cs c (model.Requests j y vs t q) r x us g e = cc
enters_is bs cs c model.Starts r x us g e = cc
enters_is bs cs c (model.Refuses k) r x us g e = cc
enters_is bs cs c model.Opens r x us g e = let no = e.2 in cc
enters_is bs cs c model.Leaves r x us g e = cc
enters_is bs cs c model.Exits r x us g e = cc
enters_is bs cs c (model.Fails w) r x us g e = cc

-- ---- the half

-- what the stack was before doesn't matter
pub entered_anew : (s : System) (me : values.Reference) (q : Option Routine) (from : Origin) (below stack : List Frame) (vs : List values.Value) (x : Half) →
    enters s me q from below vs (with_stack stack x) ≡ enters s me q from below vs x
entered_anew s me None from below stack vs x = refl
entered_anew s me (Some r) from below stack vs x = by (formals_bound s r.text.formals 0 r.text.formals vs)
  where
    by_room : (b : Bool) (bs : List Binding) →
        (if b then with_stack (entry me r from bs ∷ below) (with_stack stack x) else record (with_stack stack x) { stack = []; failure = Some cause.StackFull })
        ≡ (if b then with_stack (entry me r from bs ∷ below) x else record x { stack = []; failure = Some cause.StackFull })
    by_room true bs = refl
    by_room false bs = refl

    by : (q : Option (List Binding)) → enters_bound me r from below q (with_stack stack x) ≡ enters_bound me r from below q x
    by None = refl
    by (Some bs) = by_room (nat_lt (length below) max_frames) bs

pub name_is : (p q : Image) (k : ℕ) (name : List ℕ) → q ≡ p → slice_get (pool_of q.pool).names k ≡ Some name → name_at p k ≡ name
name_is p q k name same e = ap (λ p. name_at p k) (sym same) ∙ ap (λ o. unwrap_or o []) e

-- ---- the call

module _ (serve : ProgramsServe) where
  called_so : (c : Calling) (mc : model.Calling) (r : Reference) (k n count : ℕ) (gives : Bool) (name : List ℕ) (y z : PlainStore)
      (comes : Comes (hop.Comes (act.Enter c r k n gives)) y z) → slice_get (pool_of z.program.pool).names k ≡ Some name →
      (s : System) (h : ℕ) (x : Half) (is : IsProgramFor s y.program) (region : IsRegionOf s x y) (m : Meets s x (hop.Comes (act.Enter c r k n gives)) y z) →
      flat.does (flat.Enters mc (reference_of r) (name_at y.program k) (actuals n (values_of m.activation.operands.values)) gives) (without count (state_in s z m.activation))
      ≡ flat.Does m.shown m.state →
      IsRegionOf s (turn s h x) (entered_if (routine_in (version_in z.program r.class k)) r (calling_of mc) (last_values n m.activation.operands.values) (on_top (in_call count gives) z))
  called_so c mc r k n count gives name y z comes there s h x is region m does =
      let o = hop.Comes (act.Enter c r k n gives) in
      let f = frame_at m.frame m.point in
      let after : Half = record x { objects = m.point.objects; stack = f ∷ m.below } in
      let operands = m.activation.operands.values in
      let asked = flat.Enters mc (reference_of r) (name_at y.program k) (actuals n (values_of operands)) gives in
      let shown = act_same asked m.shown _ m.state does in
      let seen = enters_is m.last.environment m.point.environment mc m.step (reference_of r) (name_at y.program k) (actuals n (values_of operands)) gives
      (subst (λ a. Seen m.last.environment m.point.environment m.step a) (sym shown) m.seen) in
      let leads = subst (λ a. Leads (run_of s m.frame.routine) a m.point m.state) seen.act m.leads in
      let inside = with_within (run_of s m.frame.routine) leads.0 leads.1 seen.type m.point leads.3 in
      let state = state_past s x o y z is region comes m asked count leads.0 leads.1 does leads.2 inside in
      let caller : Frame = record f { stage = InCall seen.type } in
      let base : IsRegionOf s (with_stack (caller ∷ m.below) after) (on_top (in_call count gives) z) =
      region_in s x o y z is region comes m (InCall seen.type) m.point.values m.frame.blocks (in_call count gives) leads.0 leads.1
      (record { routine = refl; origin = refl; depth = refl; reserved = refl })
      (ap (λ g. stage.InCall g) (sym seen.gives_is ∙ sym (gives_some seen.type))) (same_blocks s x o y z is region comes m) state leads.3 in
      let is_z : IsProgramFor s z.program = subst (IsProgramFor s) (sym comes.remains.program) is in
      let made = routines_are_entered s (with_stack (caller ∷ m.below) after) (on_top (in_call count gives) z) r k name (Called mc) (last_values n operands) is_z base there in
      let called_name = name_is y.program z.program k name comes.remains.program there in
      let vs = values_taken n [] operands ∙ sym seen.values_are in
      let becomes = turn_is s x o y z is region comes m h (model.Enters mc (reference_of r) (name_at y.program k) seen.actuals seen.type) seen.act
      ∙ ap (λ t. enters s (reference_of r) (routine_named s r.class t) (Called mc) (caller ∷ m.below) (values.values_of seen.actuals) after) called_name
      ∙ ap (λ us. enters s (reference_of r) (routine_named s r.class name) (Called mc) (caller ∷ m.below) us after) (sym vs)
      ∙ sym (entered_anew s (reference_of r) (routine_named s r.class name) (Called mc) (caller ∷ m.below) (caller ∷ m.below) (values_of (last_values n operands)) after) in
      subst (λ half. IsRegionOf s half (entered_if (routine_in (version_in z.program r.class k)) r (calling_of mc) (last_values n operands) (on_top (in_call count gives) z))) (sym becomes) made

  -- the store, by its topmost routine
  called_top : (c : Calling) (r : Reference) (k n : ℕ) (gives : Bool) (z : PlainStore) (me : Reference) (a : PlainActivation) (rest : List PlainFrame) → z.frames ≡ frame_with me a ∷ rest →
      HasCall c n (top_activation z.frames) →
      entered_if (routine_in (version_in z.program r.class k)) r (entering.origin_of c) (last_values n a.operands.values) (on_top (in_call (operands_of c n) gives) z) ≡ called c r k n gives z
  called_top c r k n gives z me a rest e has =
      let may : nat_lt n 17 && has_operands (operands_of c n) a ≡ true = subst (λ fs. HasCall c n (top_activation fs)) e has in
      sym (
      ap (λ fs. called_at c r k n gives (top_activation fs) z) e
      ∙ ap (λ b. if b then entered_if (routine_in (version_in z.program r.class k)) r (entering.origin_of c) (last_values n a.operands.values) (on_top (in_call (operands_of c n) gives) z)
      else store.failed cause.BadCode z) may)

  pub calls_are_made : CallsAreMade
  calls_are_made calling.Unqualified r k n gives name y z comes there has s h x is region =
      let m = meets serve s x (hop.Comes (act.Enter calling.Unqualified r k n gives)) y z is region comes in
      subst (λ w. IsRegionOf s (turn s h x) w) (called_top calling.Unqualified r k n gives z m.current m.activation m.rest m.frames has)
      (called_so calling.Unqualified model.Unqualified r k n n gives name y z comes there s h x is region m m.does)
  calls_are_made calling.Qualified r k n gives name y z comes there has s h x is region =
      let m = meets serve s x (hop.Comes (act.Enter calling.Qualified r k n gives)) y z is region comes in
      subst (λ w. IsRegionOf s (turn s h x) w) (called_top calling.Qualified r k n gives z m.current m.activation m.rest m.frames has)
      (called_so calling.Qualified model.Qualified r k n (n + 1) gives name y z comes there s h x is region m m.does)
