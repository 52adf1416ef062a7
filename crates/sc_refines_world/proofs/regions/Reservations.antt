-- What a routine that is entered asks: its reserve step, where it has attached separate formals.
use Rattle.std.proofs.Common.{◌≡◌, ◌≤◌, ◌+◌, ℕ, suc, Bool, true, false, cond, not, List, [], ◌∷◌, ◌++◌, Option, Some, None, filter, length, map, refl, sym, ap, ◌∙◌, subst, arith}
use Rattle.std.proofs.lemmas.Bool.{ltb-false}
use Rattle.std.proofs.lemmas.List.{length-map, take_all}
use Rattle.std.proofs.lemmas.Option.{get_or_from_slice_get, slice_get_within}
use Rattle.std.specs.Prelude.{◌&&◌, ◌||◌, Any, nat_lt, slice_get, if◌then◌else◌}
use Rattle.std.specs.List.{cons_option, filter_map}
use Rattle.std.specs.Option.{option_map, option_and_then}
use Rattle.sc_tree.specs.Plain as tree
use Rattle.sc_tree.specs.Plain.{System, Class, Feature, FeatureKind, RoutineDeclaration}
use Rattle.sc_class.specs.declared.fault.ClassFault.TheVariants as fault
use Rattle.sc_class.specs.ClassNames.{Root}
use Rattle.sc_class.specs.Faults.ClassRules.{IsFaultless, limit}
use Rattle.sc_class.specs.Faults.Limits.{block_names_of, has_wide_block_in, is_large, large_routine, max_formals, max_locals}
use Rattle.sc_class.specs.Tables.Conformance.{is_expanded}
use Rattle.sc_class.specs.Tables.Features.{DeclaredFeature}
use Rattle.sc_class.proofs.Declarers.{declared_by, found_stands}
use Rattle.sc_rules.specs.Names.{Entities}
use Rattle.sc_rules.specs.Types.{is_foreign}
use Rattle.sc_model.specs.declared.cause.Cause.{Cause}
use Rattle.sc_model.specs.declared.cause.Cause.TheVariants as cause
use Rattle.sc_model.specs.Entries as model
use Rattle.sc_model.specs.Entries.{stage_with}
use Rattle.sc_model.specs.Environments.{Binding, formals_bound, known_of, is_separate_formal, scope_of, separate_formals}
use Rattle.sc_model.specs.Handlers.{Frame, Origin, point_of}
use Rattle.sc_model.specs.Limits.{max_frames}
use Rattle.sc_model.specs.Objects.{Object}
use Rattle.sc_model.specs.Routines.{Routine, routine_named, routine_of, version_of}
use Rattle.sc_model.specs.Steps.{Point}
use Rattle.sc_model.specs.Values as values
use Rattle.sc_code.specs.declared.program.Image.{Image}
use Rattle.sc_code.specs.Emitted.{routine_slots}
use Rattle.sc_code.specs.Lowered.{run_of}
use Rattle.sc_code.specs.Machine.{State}
use Rattle.sc_code.specs.Programs.{PlainRoutine, is_separate_known, separate_slots}
use Rattle.sc_code.specs.Stands.{Run, values_in}
use Rattle.sc_code.proofs.TypingEntries.{entries_begin}
use Rattle.sc_region.specs.declared.job.Want.{Want}
use Rattle.sc_region.specs.declared.job.Want.TheVariants as want
use Rattle.sc_region.specs.declared.value.Value.{Value}
use Rattle.sc_region.specs.declared.value.Value.TheVariants.{Integer, Boolean, Void, Attached}
use Rattle.sc_region.specs.Frames.{PlainFrame, top_activation}
use Rattle.sc_region.specs.Stores.{PlainStore}
use Rattle.sc_request.specs.Asked as asked
use Rattle.sc_acts.specs.Entering.{asks_beginning, asks_reserving, asks_with, handler_of}
use Rattle.sc_refines_world.specs.regions.RegionHalves.{IsRegionOf, AreFrames, IsFrame, StandsIn}
use Rattle.sc_refines_world.specs.regions.RegionSteps.{IsProgramFor}
use Rattle.sc_refines_world.specs.regions.RegionTurns as half
use Rattle.sc_refines_world.specs.regions.RegionTurns.{Half, enters, enters_bound, with_stack}
use Rattle.sc_acts.specs.Turning.{unless_failed}
use Rattle.sc_interp.specs.Values.{value_of, values_of}
use Rattle.sc_acts.proofs.Options.{none_some, some_same}
use Rattle.sc_refines_world.proofs.regions.Entries.{AreFormals, bound, formals_are, formals_of_routine, no_routine}
use Rattle.sc_refines_world.proofs.regions.ProgramRoutines.{code_at, mapped_get}

-- ---- formals are few

any_at : {A : Type 0} (P : A → Type 0) (xs : List A) (n : ℕ) (x : A) → slice_get xs n ≡ Some x → P x → Any P xs
any_at P xs n x e p = (n, x, slice_get_within xs n x e, get_or_from_slice_get xs n x x e, p)

none_large : (s : System) (root : Root) → IsFaultless s root → (k : ℕ) (x : List ℕ) (f : DeclaredFeature) → version_of s k x ≡ Some f → is_large f.feature.kind ≡ true → ⊥
none_large s root faultless k x f found large =
    let there = declared_by s f.class x f (found_stands s k x f found).is_declared in
    faultless fault.Limit
    (limit (large_routine (any_at (λ (c : Class). Any (λ (g : Feature). is_large g.kind ≡ true) c.features) s.classes f.class there.declarer there.is_class
    (any_at (λ (g : Feature). is_large g.kind ≡ true) there.declarer.features there.declared.index f.feature there.declared.is_there large))))

-- a routine has at most 16 formals
pub few_formals : (s : System) (root : Root) → IsFaultless s root → (k : ℕ) (x : List ℕ) (r : Routine) → routine_named s k x ≡ Some r → length r.text.formals ≤ 16
few_formals s root faultless k x r e = by (version_of s k x) refl e
  where
    by_many : (f : DeclaredFeature) → version_of s k x ≡ Some f → (own : RoutineDeclaration) → f.feature.kind ≡ tree.Routine own → (b : Bool) → nat_lt max_formals (length own.formals) ≡ b →
        length own.formals ≤ 16
    by_many f found own kind true large =
        absurd (none_large s root faultless k x f found
        (ap is_large kind ∙ ap (λ b. b || nat_lt max_locals (length own.locals + block_names_of own.body) || has_wide_block_in own.body) large))
    by_many f found own kind false small = ltb-false 16 (length own.formals) small

    by_kind : (f : DeclaredFeature) → version_of s k x ≡ Some f → (m : FeatureKind) → f.feature.kind ≡ m → routine_of s f ≡ Some r → length r.text.formals ≤ 16
    by_kind f found (tree.Attribute d) kind e = none_some r (sym (no_routine s f d kind) ∙ e)
    by_kind f found (tree.Routine own) kind e =
        subst (λ ds. length ds ≤ 16) (sym (formals_of_routine s f own r kind e)) (by_many f found own kind (nat_lt max_formals (length own.formals)) refl)

    by : (o : Option DeclaredFeature) → version_of s k x ≡ o → option_and_then (routine_of s) o ≡ Some r → length r.text.formals ≤ 16
    by None found e = none_some r e
    by (Some f) found e = by_kind f found f.feature.kind refl e

-- ---- slots

-- the values from this one on are those of these names
abbrev AreIn : List values.Value → ℕ → List Binding → Type 0
AreIn us k [] = Unit {0}
AreIn us k (b ∷ bs) = (slice_get us k ≡ Some b.value) × AreIn us (suc k) bs

behind : (u : values.Value) (us : List values.Value) (k : ℕ) (bs : List Binding) → AreIn us k bs → AreIn (u ∷ us) (suc k) bs
behind u us k [] at = tt
behind u us k (b ∷ bs) at = (at.0, behind u us (suc k) bs at.1)

are_in : (bs : List Binding) (tail : List values.Value) → AreIn (values_in bs ++ tail) 0 bs
are_in [] tail = tt
are_in (b ∷ bs) tail = (refl, behind b.value (values_in bs ++ tail) 0 bs (are_in bs tail))

handler_same : (o : Option Value) (w : values.Value) → option_map value_of o ≡ Some w → handler_of o ≡ values.handler_of w
handler_same None w e = none_some w e
handler_same (Some Void) w e = ap values.handler_of (some_same (value_of Void) w e)
handler_same (Some (Integer z)) w e = ap values.handler_of (some_same (value_of (Integer z)) w e)
handler_same (Some (Boolean b)) w e = ap values.handler_of (some_same (value_of (Boolean b)) w e)
handler_same (Some (Attached r)) w e = ap values.handler_of (some_same (value_of (Attached r)) w e)

separate_is : (b : Binding) (bs : List Binding) → AreFormals (b ∷ bs) → is_separate_formal b ≡ is_separate_known (Some b.type)
separate_is b bs formal = ap (λ f. f && b.type.attached && is_foreign b.type.tag && not (is_expanded b.type.class)) formal.0

-- the attached separate ones
abbrev separate_among : Bool → Binding → List Binding → List values.Value
separate_among f b bs = map (λ (b : Binding). b.value) (cond f (b ∷ filter is_separate_formal bs) (filter is_separate_formal bs))

handlers_same : (slots : List Value) (k : ℕ) (bs : List Binding) → AreFormals bs → AreIn (values_of slots) k bs →
    filter_map (λ j. handler_of (slice_get slots j)) (separate_slots k (scope_of bs)) ≡ asked.handlers_of (separate_formals bs)
handlers_same slots k [] formal at = refl
handlers_same slots k (b ∷ bs) formal at =
    by (is_separate_known (Some b.type)) (handlers_same slots (suc k) bs formal.1 at.1) ∙ ap (λ f. asked.handlers_of (separate_among f b bs)) (sym (separate_is b bs formal))
  where
    by : (f : Bool) → filter_map (λ j. handler_of (slice_get slots j)) (separate_slots (suc k) (scope_of bs)) ≡ asked.handlers_of (separate_formals bs) →
        filter_map (λ j. handler_of (slice_get slots j)) (if f then k ∷ separate_slots (suc k) (scope_of bs) else separate_slots (suc k) (scope_of bs))
        ≡ asked.handlers_of (separate_among f b bs)
    by true next =
        ap (λ o. cons_option o (filter_map (λ j. handler_of (slice_get slots j)) (separate_slots (suc k) (scope_of bs))))
        (handler_same (slice_get slots k) b.value (sym (mapped_get value_of slots k) ∙ at.0))
        ∙ ap (cons_option (values.handler_of b.value)) next
    by false next = next

many_same : (k : ℕ) (bs : List Binding) → AreFormals bs → length (separate_slots k (scope_of bs)) ≡ length (separate_formals bs)
many_same k [] formal = refl
many_same k (b ∷ bs) formal =
    by (is_separate_known (Some b.type)) (many_same (suc k) bs formal.1) ∙ ap (λ f. length (separate_among f b bs)) (sym (separate_is b bs formal))
  where
    by : (f : Bool) → length (separate_slots (suc k) (scope_of bs)) ≡ length (separate_formals bs) →
        length (if f then k ∷ separate_slots (suc k) (scope_of bs) else separate_slots (suc k) (scope_of bs)) ≡ length (separate_among f b bs)
    by true next = ap suc next
    by false next = next

few_slots : (k : ℕ) (n : Entities) → length (separate_slots k n) ≤ length n
few_slots k [] = omega arith
few_slots k (e ∷ n) = by (is_separate_known e.type) (few_slots (suc k) n)
  where
    by : (f : Bool) → length (separate_slots (suc k) n) ≤ length n → length (if f then k ∷ separate_slots (suc k) n else separate_slots (suc k) n) ≤ length (e ∷ n)
    by true l = omega (arith, l)
    by false l = omega (arith, l)

few_found : (f : ℕ → Option ℕ) (ks : List ℕ) → length (filter_map f ks) ≤ length ks
few_found f [] = omega arith
few_found f (k ∷ ks) = by (f k) (few_found f ks)
  where
    by : (o : Option ℕ) → length (filter_map f ks) ≤ length ks → length (cons_option o (filter_map f ks)) ≤ length (k ∷ ks)
    by None l = omega (arith, l)
    by (Some j) l = omega (arith, l)

-- ---- the reserve step

reserving_same : (slots : List Value) (ks : List ℕ) (vs : List values.Value) → length ks ≡ length vs → length ks ≤ 16 →
    filter_map (λ j. handler_of (slice_get slots j)) ks ≡ asked.handlers_of vs → asks_reserving ks slots ≡ asked.asks_beginning vs
reserving_same slots [] [] many few e = refl
reserving_same slots [] (v ∷ vs) many few e = absurd (omega (arith, many))
reserving_same slots (k ∷ ks) [] many few e = absurd (omega (arith, many))
reserving_same slots (k ∷ ks) (v ∷ vs) many few e =
    let found = few_found (λ j. handler_of (slice_get slots j)) (k ∷ ks) in
    ap (λ js. want.Reserve (record { items = js })) (take_all 16 (filter_map (λ j. handler_of (slice_get slots j)) (k ∷ ks)) (omega (arith, found, few)) ∙ e)

has_slots_in : (vs : List values.Value) (g : Run) (place : ℕ) (tail : List values.Value) (p : Point) → StandsIn (stage_with vs) g place tail p → length p.environment + length tail ≡ g.slots
has_slots_in [] g place tail p st = st.has_slots
has_slots_in (v ∷ vs) g place tail p st = st.has_slots

module _ (s : System) (p : Image) (is : IsProgramFor s p) (r : Routine) (few : length r.text.formals ≤ 16) (me : values.Reference) (from : Origin) (vs : List values.Value) (bs : List Binding)
    (bound_so : formals_bound s r.text.formals 0 r.text.formals vs ≡ Some bs) where
  abbrev new_frame : Frame
  new_frame = model.entry me r from bs

  begins_asks : (os : List Object) (g : PlainFrame) → IsFrame s os new_frame g → asks_beginning p (Some g.activation) ≡ asked.asks_beginning (separate_formals bs)
  begins_asks os g frame =
      let at = code_at s is.root p g.activation.routine r is.program frame.routine in
      let formal = formals_are s r.text.formals 0 r.text.formals vs bs bound_so in
      let bound_as = bound s r.text.formals 0 r.text.formals vs bs bound_so in
      let slots : length bs + length frame.tail ≡ routine_slots s r =
      has_slots_in (separate_formals bs) (run_of s r) g.activation.place frame.tail (point_of new_frame os) frame.stands in
      let begins = entries_begin s r me from vs bs os frame.tail bound_so slots in
      let in_slots : values_of g.activation.slots ≡ values_in bs ++ frame.tail = ap (λ (st : State). st.slots) frame.state in
      let many : length bs ≡ length r.text.formals = sym (length-map bs (λ (b : Binding). b.value)) ∙ ap length bound_as.values ∙ bound_as.many in
      let known = length-map bs known_of in
      let fewer = few_slots 0 (scope_of bs) in
      ap (asks_with g.activation.slots) at.found
      ∙ ap (λ (q : PlainRoutine). asks_reserving q.separate_formals g.activation.slots) at.same
      ∙ ap (λ n. asks_reserving (separate_slots 0 n) g.activation.slots) (sym begins.names)
      ∙ reserving_same g.activation.slots (separate_slots 0 (scope_of bs)) (separate_formals bs) (many_same 0 bs formal)
      (omega (arith, fewer, many, few, known))
      (handlers_same g.activation.slots 0 bs formal (subst (λ us. AreIn us 0 bs) (sym in_slots) (are_in bs frame.tail)))

-- ---- what is asked

pub same_failure : (o : Option Cause) (why : Cause) (v : Want) → o ≡ Some why → unless_failed o (want.Fail why) ≡ unless_failed o v
same_failure o why v e = ap (λ q. unless_failed q (want.Fail why)) e ∙ sym (ap (λ q. unless_failed q v) e)

module _ (s : System) (w : PlainStore) (is : IsProgramFor s w.program) (class : ℕ) (name : List ℕ) (me : values.Reference) (from : Origin) (below : List Frame) (vs : List values.Value)
    (x : Half) where
  abbrev begins : Want
  begins = asks_beginning w.program (top_activation w.frames)

  by_frames : (r : Routine) → routine_named s class name ≡ Some r → (bs : List Binding) → formals_bound s r.text.formals 0 r.text.formals vs ≡ Some bs → (gs : List PlainFrame) →
      AreFrames s x.objects (model.entry me r from bs ∷ below) gs → asks_beginning w.program (top_activation gs) ≡ asked.asks_beginning (separate_formals bs)
  by_frames r e bs bound_so [] a = absurd a
  by_frames r e bs bound_so (g ∷ gs) a = begins_asks s w.program is r (few_formals s is.root is.faultless class name r e) me from vs bs bound_so x.objects g a.0

  by_room : (r : Routine) → routine_named s class name ≡ Some r → (bs : List Binding) → formals_bound s r.text.formals 0 r.text.formals vs ≡ Some bs → (b : Bool) →
      IsRegionOf s (if b then with_stack (model.entry me r from bs ∷ below) x else half.failed cause.StackFull x) w →
      unless_failed w.failure (if b then asked.asks_beginning (separate_formals bs) else want.Fail cause.StackFull) ≡ unless_failed w.failure begins
  by_room r e bs bound_so true region = ap (unless_failed w.failure) (sym (by_frames r e bs bound_so w.frames region.frames))
  by_room r e bs bound_so false region = same_failure w.failure cause.StackFull begins region.failure

  by_bound : (r : Routine) → routine_named s class name ≡ Some r → (o : Option (List Binding)) → formals_bound s r.text.formals 0 r.text.formals vs ≡ o →
      IsRegionOf s (enters_bound me r from below o x) w → unless_failed w.failure (asked.asks_bound o (length below)) ≡ unless_failed w.failure begins
  by_bound r e None bound_so region = same_failure w.failure cause.BadCode begins region.failure
  by_bound r e (Some bs) bound_so region = by_room r e bs bound_so (nat_lt (length below) max_frames) region

  by_routine : (q : Option Routine) → routine_named s class name ≡ q → IsRegionOf s (enters s me q from below vs x) w →
      unless_failed w.failure (asked.asks_entering s q vs (length below)) ≡ unless_failed w.failure begins
  by_routine None e region = same_failure w.failure cause.BadCode begins region.failure
  by_routine (Some r) e region = by_bound r e (formals_bound s r.text.formals 0 r.text.formals vs) refl region

  -- What the entry of a routine asks is what the store asks that it leaves.
  pub entries_ask : IsRegionOf s (enters s me (routine_named s class name) from below vs x) w →
      unless_failed w.failure (asked.asks_entering s (routine_named s class name) vs (length below)) ≡ unless_failed w.failure begins
  entries_ask region = by_routine (routine_named s class name) refl region
