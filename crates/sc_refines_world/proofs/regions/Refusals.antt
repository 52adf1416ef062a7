-- Clauses of preconditions that are false.
use Rattle.std.proofs.Common.{◌≡◌, ℕ, suc, ◌+◌, Bool, true, false, cond, not, List, [], ◌∷◌, ◌++◌, Option, Some, None, refl, sym, ap, ◌∙◌, subst}
use Rattle.std.specs.Prelude.{◌&&◌, ◌||◌, bytes_eq, find, filter_map, slice_get, if◌then◌else◌}
use Rattle.std.specs.List.{cons_option, list_any}
use Rattle.std.specs.Option.{option_map, option_and_then}
use Rattle.sc_tree.specs.Plain.{System, Clause}
use Rattle.sc_lockpass.specs.wait_conditions.Conditions as conditions
use Rattle.sc_model.specs.declared.cause.Cause.TheVariants as cause
use Rattle.sc_model.specs.Environments.{Binding, binding_named, is_formal, scope_of}
use Rattle.sc_model.specs.Handlers.{Origin, Called, Requested, frame_at}
use Rattle.sc_model.specs.Moves.{step}
use Rattle.sc_model.specs.Objects as model_objects
use Rattle.sc_model.specs.Objects.{Object}
use Rattle.sc_model.specs.Preconditions as preconditions
use Rattle.sc_model.specs.Preconditions.{formals_among, handler_of_formal, is_creation, names_in, verdict_on}
use Rattle.sc_model.specs.Steps as model
use Rattle.sc_model.specs.Steps.{Point, Unqualified, Qualified, Creation}
use Rattle.sc_model.specs.Values as values
use Rattle.sc_code.specs.Emitted.{formal_slot, formals_in}
use Rattle.sc_code.specs.Lowered.{run_of}
use Rattle.sc_code.specs.Machine as flat
use Rattle.sc_code.specs.Machine.{State}
use Rattle.sc_code.specs.Stands.{Leads, Seen, state_at, values_in}
use Rattle.sc_region.specs.declared.value.Value.{Value}
use Rattle.sc_region.specs.declared.value.Value.TheVariants.{Integer, Boolean, Void, Attached}
use Rattle.sc_region.specs.Classes as at
use Rattle.sc_region.specs.Frames.{PlainActivation, frame_with, top_activation}
use Rattle.sc_region.specs.Objects as objects
use Rattle.sc_region.specs.Stores as store
use Rattle.sc_region.specs.Stores.{PlainStore, left}
use Rattle.sc_acts.specs.declared.act.Act.TheVariants as act
use Rattle.sc_interp.specs.declared.hops.Hop.{Hop}
use Rattle.sc_interp.specs.declared.hops.Hop.TheVariants as hop
use Rattle.sc_refines_world.specs.regions.Laws.{ProgramsServe}
use Rattle.sc_interp.specs.Objects.{objects_in}
use Rattle.sc_acts.specs.Refusing.{is_reserved, is_waited_for, lies_on_any, refused, refused_as, waiting}
use Rattle.sc_refines_world.specs.regions.RegionHalves.{IsRegionOf, origin_of, requested}
use Rattle.sc_refines_world.specs.regions.RegionSteps.{IsProgramFor}
use Rattle.sc_refines_world.specs.regions.RegionTurns as half
use Rattle.sc_refines_world.specs.regions.RegionTurns.{Half, acts, correctness_fails, false_clause, leaves, turn}
use Rattle.sc_interp.specs.Hopping.{state_in}
use Rattle.sc_acts.specs.Tables.{formals_at}
use Rattle.sc_interp.specs.Standing.{without}
use Rattle.sc_region.specs.Calls.{on_top}
use Rattle.sc_interp.specs.Values.{value_of, values_of}
use Rattle.sc_acts.proofs.Options.{none_some, some_same}
use Rattle.sc_refines_world.specs.regions.Acting.{AreWhole, CallsAreRefused, Comes, IsNotWaitedFor, Meets}
use Rattle.sc_refines_world.proofs.regions.SilentOperations.{meets}
use Rattle.sc_refines_world.proofs.regions.Exits.{meets_same, origin_same, region_failed, region_left}
use Rattle.sc_refines_world.proofs.regions.PassedOperations.{act_same, state_same, stays, turn_is}
use Rattle.sc_refines_world.proofs.regions.Quiet.{IsLike}
use Rattle.sc_refines_world.proofs.regions.QuietSteps.{refuses_here}

-- ---- the step

-- a clause that is false is refused, and names these slots
record IsRefusal (bs : List Binding) (a : model.Act) (slots : List ℕ) : Type 0 where
  pub clause : Clause
  pub act : a ≡ model.Refuses clause
  pub slots_are : slots ≡ formals_in (scope_of bs) clause

same_slots : (xs ys : List ℕ) → flat.Refuses xs ≡ flat.Refuses ys → xs ≡ ys
same_slots xs ys e = cc

refuses_is : (bs cs : List Binding) (a : model.Act) (slots : List ℕ) → Seen bs cs a (flat.Refuses slots) → IsRefusal bs a slots
refuses_is bs cs (model.Prints t) slots e = cc
refuses_is bs cs model.Until slots e = cc
refuses_is bs cs model.Creates slots e = cc
refuses_is bs cs (model.CreatesHandler k x us t passing) slots e = cc
refuses_is bs cs (model.Enters c r x us t) slots e = cc
refuses_is bs cs (model.Requests r x us t passing) slots e = cc
refuses_is bs cs model.Starts slots e = cc
refuses_is bs cs (model.Refuses k) slots e = record { clause = k; act = refl; slots_are = same_slots slots (formals_in (scope_of bs) k) e }
refuses_is bs cs model.Opens slots e = let no = e.2 in cc
refuses_is bs cs model.Leaves slots e = cc
refuses_is bs cs model.Exits slots e = cc
refuses_is bs cs (model.Fails w) slots e = cc

-- ---- what is waited for

-- the handler of the value in the slot
abbrev handler_at : List Value → ℕ → Option ℕ
handler_at vs k = option_and_then values.handler_of (option_map value_of (slice_get vs k))

lies_same : (ks : List ℕ) (v : Option Value) → lies_on_any ks v ≡ conditions.lies_on_any ks (option_and_then values.handler_of (option_map value_of v))
lies_same ks None = refl
lies_same ks (Some Void) = refl
lies_same ks (Some (Integer z)) = refl
lies_same ks (Some (Boolean b)) = refl
lies_same ks (Some (Attached r)) = refl

head_same : (v w : values.Value) (vs ws : List values.Value) → v ∷ vs ≡ w ∷ ws → v ≡ w
head_same v w vs ws e = cc

tail_same : (v w : values.Value) (vs ws : List values.Value) → v ∷ vs ≡ w ∷ ws → vs ≡ ws
tail_same v w vs ws e = cc

further : (v : Value) (vs : List Value) (o : Option ℕ) → option_map (handler_at (v ∷ vs)) (option_map (λ k. suc k) o) ≡ option_map (handler_at vs) o
further v vs None = refl
further v vs (Some k) = refl

-- the slot of a formal has its value
slot_same : (x : List ℕ) (bs : List Binding) (vs : List Value) (tail : List values.Value) → values_of vs ≡ values_in bs ++ tail →
    option_map (handler_at vs) (formal_slot x (scope_of bs)) ≡ option_and_then handler_of_formal (binding_named x bs)
slot_same x [] vs tail e = refl
slot_same x (b ∷ bs) [] tail e = cc
slot_same x (b ∷ bs) (v ∷ vs) tail e =
    by (bytes_eq b.name x) (slot_same x bs vs tail (tail_same (value_of v) b.value (values_of vs) (values_in bs ++ tail) e))
  where
    of_formal : (c : Bool) → option_map (handler_at (v ∷ vs)) (if c then Some 0 else None) ≡ (if c then Some (values.handler_of b.value) else None)
    of_formal true = ap (λ w. Some (values.handler_of w)) (head_same (value_of v) b.value (values_of vs) (values_in bs ++ tail) e)
    of_formal false = refl

    by : (c : Bool) → option_map (handler_at vs) (formal_slot x (scope_of bs)) ≡ option_and_then handler_of_formal (binding_named x bs) →
        option_map (handler_at (v ∷ vs)) (if c then (if is_formal b.role then Some 0 else None) else option_map (λ k. suc k) (formal_slot x (scope_of bs)))
        ≡ option_and_then handler_of_formal (cond c (Some b) (find (λ (b : Binding). bytes_eq b.name x) bs))
    by true next = of_formal (is_formal b.role)
    by false next = further v vs (formal_slot x (scope_of bs)) ∙ next

module _ (a : PlainActivation) (bs : List Binding) where
  one_same : (o : Option ℕ) (q : Option (Option ℕ)) (ks : List ℕ) (js : List (Option ℕ)) → option_map (handler_at a.slots) o ≡ q →
      list_any (λ slot. is_reserved a slot) ks ≡ list_any (conditions.lies_on_any a.reserved) js →
      list_any (λ slot. is_reserved a slot) (cons_option o ks) ≡ list_any (conditions.lies_on_any a.reserved) (cons_option q js)
  one_same None None ks js e next = next
  one_same None (Some j) ks js e next = none_some j e
  one_same (Some k) None ks js e next = none_some (handler_at a.slots k) (sym e)
  one_same (Some k) (Some j) ks js e next =
      ap (λ b. b || list_any (λ slot. is_reserved a slot) ks)
      (lies_same a.reserved (slice_get a.slots k) ∙ ap (conditions.lies_on_any a.reserved) (some_same (handler_at a.slots k) j e))
      ∙ ap (λ b. conditions.lies_on_any a.reserved j || b) next

  any_same : (tail : List values.Value) → values_of a.slots ≡ values_in bs ++ tail → (xs : List (List ℕ)) →
      list_any (λ slot. is_reserved a slot) (filter_map (λ x. formal_slot x (scope_of bs)) xs) ≡ list_any (conditions.lies_on_any a.reserved) (formals_among bs xs)
  any_same tail e [] = refl
  any_same tail e (x ∷ xs) =
      one_same (formal_slot x (scope_of bs)) (option_and_then handler_of_formal (binding_named x bs)) (filter_map (λ x. formal_slot x (scope_of bs)) xs) (formals_among bs xs)
      (slot_same x bs a.slots tail e) (any_same tail e xs)

-- ---- what comes of it

module _ (s : System) (x : Half) (o : Hop) (y z : PlainStore) (is : IsProgramFor s y.program) (region : IsRegionOf s x y) (comes : Comes o y z) (whole : AreWhole z)
    (m : Meets s x o y z) (same : objects_in s z.objects ≡ m.point.objects) where
  abbrev after : Half
  after = record x { objects = m.point.objects; stack = frame_at m.frame m.point ∷ m.below }

  abbrev here : PlainStore
  here = record z { frames = frame_with m.current m.activation ∷ m.rest }

  region_refused : (from : Origin) → IsRegionOf s (correctness_fails s from (frame_at m.frame m.point) m.below after) (refused_as (origin_of from) m.current here)
  region_refused (Called Unqualified) = region_failed s x o y z is region comes whole m same cause.Precondition
  region_refused (Called Qualified) = region_failed s x o y z is region comes whole m same cause.Precondition
  region_refused (Called Creation) = region_failed s x o y z is region comes whole m same cause.Precondition
  region_refused (Requested r) = by (is_creation r.errand)
    where
      tested : (b c : Bool) → b ≡ c → IsRegionOf s (if true && not c then half.failed cause.Invariant after else leaves s (frame_at m.frame m.point) m.below after)
          (if b then left here else store.failed cause.Invariant here)
      tested true true e = region_left s x o y z is region comes whole m same
      tested false false e = region_failed s x o y z is region comes whole m same cause.Invariant
      tested true false e = cc
      tested false true e = cc

      by : (b : Bool) → IsRegionOf s
          (if b && not (preconditions.object_meets s (model_objects.object_numbered m.frame.current.number m.point.objects)) then half.failed cause.Invariant after
          else leaves s (frame_at m.frame m.point) m.below after)
          (refused_as (requested b) m.current here)
      by false = region_left s x o y z is region comes whole m same
      by true =
          tested (at.object_meets z.program (objects.object_numbered m.current.number z.objects))
          (preconditions.object_meets s (model_objects.object_numbered m.frame.current.number m.point.objects)) (meets_same s x o y z is region comes whole m same)

-- ---- what is refused

-- The clause that the operation refuses, and whether it is waited for.
pub record Refusal (s : System) (x : Half) (k : ℕ) (y z : PlainStore) (m : Meets s x (hop.Comes (act.Refuse k)) y z) : Type 0 where
  pub clause : Clause
  pub act : m.step ≡ model.Refuses clause
  pub place : ℕ
  pub tail : List values.Value
  pub state : record (without 1 (state_in s z m.activation)) { place = m.activation.place + 1 } ≡ state_at place tail m.point
  pub like : IsLike m.last m.point
  pub waited : is_waited_for m.activation (formals_at z.program k)
      ≡ list_any (conditions.lies_on_any m.frame.reserved) (formals_among m.point.environment (names_in clause.condition))

pub refusal : (s : System) (x : Half) (k : ℕ) (y z : PlainStore) → IsProgramFor s y.program → IsRegionOf s x y → Comes (hop.Comes (act.Refuse k)) y z →
    (m : Meets s x (hop.Comes (act.Refuse k)) y z) → Refusal s x k y z m
refusal s x k y z is region comes m =
    let slots = formals_at y.program k in
    let shown = act_same (flat.Refuses slots) m.shown _ m.state m.does in
    let seen = refuses_is m.last.environment m.point.environment m.step slots (subst (λ a. Seen m.last.environment m.point.environment m.step a) (sym shown) m.seen) in
    let clause = seen.clause in
    let like = refuses_here s m.frame.current m.last m.point clause (subst (λ a. step s m.frame.current m.last ≡ model.Does a m.point) seen.act m.ends) in
    let leads = subst (λ a. Leads (run_of s m.frame.routine) a m.point m.state) seen.act m.leads in
    let state = state_same (flat.Refuses slots) m.shown _ m.state m.does ∙ leads.2 in
    let in_slots : values_of m.activation.slots ≡ values_in m.point.environment ++ leads.1 = ap (λ (st : State). st.slots) state in
    let stood = stays s x (hop.Comes (act.Refuse k)) y z is region comes m in
    record {
      clause = clause;
      act = seen.act;
      place = leads.0;
      tail = leads.1;
      state = state;
      like = like;
      waited = ap (is_waited_for m.activation) (ap (λ p. formals_at p k) comes.remains.program ∙ seen.slots_are ∙ ap (λ bs. formals_in (scope_of bs) clause) (sym like.0))
          ∙ any_same m.activation m.point.environment leads.1 in_slots (names_in clause.condition)
          ∙ ap (λ ks. list_any (conditions.lies_on_any ks) (formals_among m.point.environment (names_in clause.condition))) (stood.reserved ∙ m.stood.reserved);
    }

-- the verdict on it
pub verdict_is : (s : System) (x : Half) (k : ℕ) (y z : PlainStore) (m : Meets s x (hop.Comes (act.Refuse k)) y z) (r : Refusal s x k y z m) (b : Bool) →
    is_waited_for m.activation (formals_at z.program k) ≡ b → verdict_on (frame_at m.frame m.point) r.clause ≡ conditions.verdict_of_false (conditions.kind_where b)
verdict_is s x k y z m r b e = ap (λ c. conditions.verdict_of_false (conditions.kind_where c)) (sym r.waited ∙ e)

module _ (serve : ProgramsServe) where
  pub calls_are_refused : CallsAreRefused
  calls_are_refused k y z comes whole unwaited s h x is region =
      let o = hop.Comes (act.Refuse k) in
      let m = meets serve s x o y z is region comes in
      let r = refusal s x k y z is region comes m in
      let f = frame_at m.frame m.point in
      let same : objects_in s z.objects ≡ m.point.objects = ap (λ (st : State). st.objects) r.state in
      let not_waited : is_waited_for m.activation (formals_at z.program k) ≡ false = subst (λ fs. IsNotWaitedFor (formals_at z.program k) (top_activation fs)) m.frames unwaited in
      let after : Half = record x { objects = m.point.objects; stack = f ∷ m.below } in
      let here : PlainStore = record z { frames = frame_with m.current m.activation ∷ m.rest } in
      let done : IsRegionOf s (correctness_fails s m.frame.origin f m.below after) (refused_as m.activation.origin m.current here) =
      subst (λ q. IsRegionOf s (correctness_fails s m.frame.origin f m.below after) (refused_as q m.current here)) (sym (origin_same s x o y z is region comes whole m same))
      (region_refused s x o y z is region comes whole m same m.frame.origin) in
      subst (λ w. IsRegionOf s (turn s h x) (refused k w)) (ap (λ fs. record z { frames = fs }) (sym m.frames))
      (subst (λ b. IsRegionOf s (turn s h x) (if b then on_top waiting here else refused_as m.activation.origin m.current here)) (sym not_waited)
      (subst (λ half. IsRegionOf s half (refused_as m.activation.origin m.current here))
      (sym (turn_is s x o y z is region comes m h (model.Refuses r.clause) r.act ∙ ap (λ v. false_clause v s f m.below after) (verdict_is s x k y z m r false not_waited)))
      done))
