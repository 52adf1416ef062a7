-- What calls and creations of the same handler ask.
use Rattle.std.proofs.Common.{◌≡◌, ◌⊎◌, inl, inr, ℕ, ◌+◌, Bool, true, false, List, [], ◌∷◌, ◌++◌, Some, None, length, refl, sym, ◌∙◌, subst}
use Rattle.std.specs.Prelude.{nat_lt, if◌then◌else◌}
use Rattle.sc_tree.specs.Plain.{System}
use Rattle.sc_model.specs.declared.cause.Cause.{Cause}
use Rattle.sc_model.specs.declared.cause.Cause.TheVariants as cause
use Rattle.sc_model.specs.Handlers.{Called, InCall, Frame, frame_at}
use Rattle.sc_model.specs.Invariants.{meets_invariant}
use Rattle.sc_model.specs.Limits.{max_objects}
use Rattle.sc_model.specs.Objects.{fresh_object}
use Rattle.sc_model.specs.Routines.{routine_named}
use Rattle.sc_model.specs.Steps as model
use Rattle.sc_model.specs.Values as values
use Rattle.sc_code.specs.Lowered.{run_of}
use Rattle.sc_code.specs.Machine as flat
use Rattle.sc_code.specs.Machine.{State}
use Rattle.sc_code.specs.Operations.{CreationSite}
use Rattle.sc_code.specs.Stands.{Seen}
use Rattle.sc_region.specs.declared.job.Want.{Want}
use Rattle.sc_region.specs.declared.job.Want.TheVariants as want
use Rattle.sc_region.specs.Frames.{top_activation}
use Rattle.sc_region.specs.Stores.{PlainStore}
use Rattle.sc_request.specs.Asked as asked
use Rattle.sc_acts.specs.declared.act.Act.TheVariants as act
use Rattle.sc_acts.specs.declared.act.Calling.TheVariants as calling
use Rattle.sc_interp.specs.declared.hops.Hop.{Hop}
use Rattle.sc_interp.specs.declared.hops.Hop.TheVariants as hop
use Rattle.sc_acts.specs.Entering.{asks_beginning}
use Rattle.sc_interp.specs.Hopping.{state_in}
use Rattle.sc_refines_world.specs.regions.Laws.{ProgramsServe}
use Rattle.sc_refines_world.specs.regions.RegionHalves.{IsRegionOf}
use Rattle.sc_refines_world.specs.regions.RegionSteps.{IsProgramFor, names_of, next_want, numbering_by}
use Rattle.sc_refines_world.specs.regions.RegionTurns.{Half, turn}
use Rattle.sc_interp.specs.Standing.{actuals, without}
use Rattle.sc_acts.specs.Tables.{name_at}
use Rattle.sc_acts.specs.Turning.{unless_failed}
use Rattle.sc_interp.specs.Values.{reference_of, values_of}
use Rattle.sc_refines_world.specs.regions.Acting.{Comes, Meets}
use Rattle.sc_refines_world.specs.regions.Reserving.{CallsAsk, ObjectCreationsAsk}
use Rattle.sc_refines_world.proofs.regions.TurnAsks.{asked_is, told_by}
use Rattle.sc_refines_world.proofs.regions.Calls.{enters_is}
use Rattle.sc_refines_world.proofs.regions.SilentOperations.{meets}
use Rattle.sc_refines_world.proofs.regions.PassedOperations.{act_same, turn_is}
use Rattle.sc_refines_world.proofs.regions.Reservations.{entries_ask, same_failure}
use Rattle.sc_refines_world.proofs.regions.ShownSteps.{creates_is, fails_is}

-- ---- creations in flat code

-- This is done, or the routine fails.
DoesOrFails : flat.Act → flat.Hop → Type 0
DoesOrFails a (flat.Goes f) = ⊥
DoesOrFails a (flat.Does b f) = (a ≡ b) ⊎ ((why : Cause) × (flat.Fails why ≡ b))

if_does : (a : flat.Act) (b : Bool) (p q : flat.Hop) → DoesOrFails a p → DoesOrFails a q → DoesOrFails a (if b then p else q)
if_does a true p q d e = d
if_does a false p q d e = e

module _ (s : System) (c : flat.Code) (me : values.Reference) (site : CreationSite) (us : List values.Value) (f : State) where
  abbrev next_object : values.Reference
  next_object = record { handler = me.handler; number = length f.objects + 1; class = site.class }

  abbrev with_object : State
  with_object = record f { objects = f.objects ++ fresh_object s site.class ∷ [] }

  does_with_object : (a : flat.Act) → DoesOrFails a (flat.does_with c next_object a with_object)
  unfolding DoesOrFails
  does_with_object a = if_does a (nat_lt (length f.values) c.depth) _ _ (inl refl) (inr (cause.BadCode, refl))

  created_so : DoesOrFails flat.Creates (flat.creates_here s c me (record site { procedure = None }) us f)
  unfolding DoesOrFails
  created_so =
      if_does flat.Creates (nat_lt (length f.objects) max_objects) _ _
      (if_does flat.Creates (meets_invariant s (fresh_object s site.class)) _ _ (does_with_object flat.Creates) (inr (cause.Invariant, refl)))
      (inr (cause.TooManyObjects, refl))

  created_by : (name : List ℕ) → DoesOrFails (flat.Enters model.Creation next_object name us false) (flat.creates_here s c me (record site { procedure = Some name }) us f)
  unfolding DoesOrFails
  created_by name =
      if_does (flat.Enters model.Creation next_object name us false) (nat_lt (length f.objects) max_objects) _ _
      (does_with_object (flat.Enters model.Creation next_object name us false)) (inr (cause.TooManyObjects, refl))

-- ---- what the step asks

module _ (s : System) (x : Half) (o : Hop) (y z w : PlainStore) (is : IsProgramFor s y.program) (region : IsRegionOf s x y) (comes : Comes o y z) (m : Meets s x o y z) (h : ℕ)
    (left_so : IsRegionOf s (turn s h x) w) where
  abbrev after : Half
  after = record x { objects = m.point.objects; stack = frame_at m.frame m.point ∷ m.below }

  -- a routine is entered
  enters_asks : (c : model.Calling) (r : values.Reference) (name : List ℕ) (us : List values.Value) (gives : Bool) → w.program ≡ y.program → flat.Enters c r name us gives ≡ m.shown →
      next_want (numbering_by (names_of y)) s h x ≡ unless_failed w.failure (asks_beginning w.program (top_activation w.frames))
  enters_asks c r name us gives program shown =
      let seen = enters_is m.last.environment m.point.environment c m.step r name us gives
      (subst (λ a. Seen m.last.environment m.point.environment m.step a) (sym shown) m.seen) in
      let a : model.Act = model.Enters c r name seen.actuals seen.type in
      let caller : Frame = record (frame_at m.frame m.point) { stage = InCall seen.type } in
      let vs = values.values_of seen.actuals in
      told_by (numbering_by (names_of y)) s h x w (asked.asks_entering s (routine_named s r.class name) vs (length (m.frame ∷ m.below))) left_so
      (asked_is s x o y z m (numbering_by (names_of y)) h a seen.act)
      ∙ entries_ask s w (subst (IsProgramFor s) (sym program) is) r.class name r (Called c) (caller ∷ m.below) vs after
      (subst (λ half. IsRegionOf s half w) (turn_is s x o y z is region comes m h a seen.act) left_so)

  -- the routine fails
  fails_ask : (why : Cause) (v : Want) → flat.Fails why ≡ m.shown → next_want (numbering_by (names_of y)) s h x ≡ unless_failed w.failure v
  fails_ask why v shown =
      let step = fails_is m.last.environment m.point.environment m.step why (subst (λ a. Seen m.last.environment m.point.environment m.step a) (sym shown) m.seen) in
      let failed = subst (λ half. IsRegionOf s half w) (turn_is s x o y z is region comes m h (model.Fails why) step) left_so in
      told_by (numbering_by (names_of y)) s h x w (want.Fail why) left_so (asked_is s x o y z m (numbering_by (names_of y)) h (model.Fails why) step)
      ∙ same_failure w.failure why v failed.failure

  -- an object is made without a procedure
  creates_asks : flat.Creates ≡ m.shown → next_want (numbering_by (names_of y)) s h x ≡ unless_failed w.failure want.Continue
  creates_asks shown =
      told_by (numbering_by (names_of y)) s h x w want.Continue left_so
      (asked_is s x o y z m (numbering_by (names_of y)) h model.Creates
      (creates_is m.last.environment m.point.environment m.step (subst (λ a. Seen m.last.environment m.point.environment m.step a) (sym shown) m.seen)))

  -- one of both
  does_asks : (a : flat.Act) (v : Want) → (a ≡ m.shown → next_want (numbering_by (names_of y)) s h x ≡ unless_failed w.failure v) → DoesOrFails a (flat.Does m.shown m.state) →
      next_want (numbering_by (names_of y)) s h x ≡ unless_failed w.failure v
  unfolding DoesOrFails
  does_asks a v here (inl e) = here e
  does_asks a v here (inr e) = fails_ask e.0 v e.1

-- ---- the laws

module _ (serve : ProgramsServe) where
  pub calls_ask : CallsAsk
  calls_ask h calling.Unqualified r k n gives y z w comes program s x is region left_so =
      let o = hop.Comes (act.Enter calling.Unqualified r k n gives) in
      let m = meets serve s x o y z is region comes in
      let us = actuals n (values_of m.activation.operands.values) in
      enters_asks s x o y z w is region comes m h left_so model.Unqualified (reference_of r) (name_at y.program k) us gives program
      (act_same (flat.Enters model.Unqualified (reference_of r) (name_at y.program k) us gives) m.shown _ m.state m.does)
  calls_ask h calling.Qualified r k n gives y z w comes program s x is region left_so =
      let o = hop.Comes (act.Enter calling.Qualified r k n gives) in
      let m = meets serve s x o y z is region comes in
      let us = actuals n (values_of m.activation.operands.values) in
      enters_asks s x o y z w is region comes m h left_so model.Qualified (reference_of r) (name_at y.program k) us gives program
      (act_same (flat.Enters model.Qualified (reference_of r) (name_at y.program k) us gives) m.shown _ m.state m.does)

  pub object_creations_ask : ObjectCreationsAsk
  object_creations_ask h class None n y z w comes program s x is region left_so =
      let o = hop.Comes (act.Create class None n) in
      let m = meets serve s x o y z is region comes in
      let f : State = without n (state_in s z m.activation) in
      let us = actuals n (values_of m.activation.operands.values) in
      let site : CreationSite = record { class = class; procedure = None; count = n; passes = false } in
      does_asks s x o y z w is region comes m h left_so flat.Creates want.Continue
      (creates_asks s x o y z w is region comes m h left_so)
      (subst (DoesOrFails flat.Creates) m.does (created_so s (run_of s m.frame.routine).code (reference_of m.current) site us f))
  object_creations_ask h class (Some k) n y z w comes program s x is region left_so =
      let o = hop.Comes (act.Create class (Some k) n) in
      let m = meets serve s x o y z is region comes in
      let f : State = without n (state_in s z m.activation) in
      let us = actuals n (values_of m.activation.operands.values) in
      let name = name_at y.program k in
      let site : CreationSite = record { class = class; procedure = Some name; count = n; passes = false } in
      let r = next_object s (run_of s m.frame.routine).code (reference_of m.current) site us f in
      does_asks s x o y z w is region comes m h left_so (flat.Enters model.Creation r name us false) (asks_beginning w.program (top_activation w.frames))
      (enters_asks s x o y z w is region comes m h left_so model.Creation r name us false program)
      (subst (DoesOrFails (flat.Enters model.Creation r name us false)) m.does (created_by s (run_of s m.frame.routine).code (reference_of m.current) site us f name))
