-- A routine is entered.
use Rattle.std.proofs.Common.{◌≡◌, ℕ, suc, ◌+◌, ◌-◌, Bool, true, false, cond, not, List, [], ◌∷◌, ◌++◌, Option, Some, None, filter, is_some, length, map, replicate, refl, sym, ap, ◌∙◌, subst, arith}
use Rattle.std.proofs.lemmas.Bool.{eqb-true}
use Rattle.std.proofs.lemmas.Bool.Decides.{nat_tests}
use Rattle.std.proofs.lemmas.List.{length-map, length-replicate}
use Rattle.std.specs.Prelude.{◌==◌, ◌&&◌, nat_lt, slice_get, if◌then◌else◌}
use Rattle.std.specs.Option.{option_map, option_and_then}
use Rattle.sc_tree.specs.Plain as tree
use Rattle.sc_tree.specs.Plain.{System, Declaration, DeclaredType, FeatureKind, RoutineDeclaration}
use Rattle.sc_class.specs.Tables.Features.{DeclaredFeature, declared_features, named_among}
use Rattle.sc_class.proofs.Declarers.{found_stands}
use Rattle.sc_rules.specs.declared.entity_types.entity_type.EntityType.{EntityType}
use Rattle.sc_rules.specs.declared.position.Role.TheVariants as role
use Rattle.sc_rules.specs.Laws.{are_declared, is_declared}
use Rattle.sc_rules.specs.Names as names
use Rattle.sc_rules.specs.Names.{reserved}
use Rattle.sc_rules.specs.Purity as purity
use Rattle.sc_rules.specs.Types.{declared_type, is_foreign}
use Rattle.sc_class.specs.Tables.Conformance.{is_expanded}
use Rattle.sc_rules.proofs.Versions.{found_declared}
use Rattle.sc_typing.specs.FeatureNumbers.{all_features, feature_number}
use Rattle.sc_typing.proofs.FeatureNumbers.{has_number, number_stands}
use Rattle.sc_model.specs.declared.cause.Cause.TheVariants as cause
use Rattle.sc_model.specs.Entries as model
use Rattle.sc_model.specs.Entries.{stage_with}
use Rattle.sc_model.specs.Environments.{Binding, bind, formals_bound, is_formal, is_separate_formal, scope_of, separate_formals, with_binding}
use Rattle.sc_model.specs.Handlers.{Origin, Frame, point_of}
use Rattle.sc_model.specs.Routines.{Routine, origin_of, routine_from, routine_named, routine_of, routine_with, version_of}
use Rattle.sc_model.specs.Steps.{Point}
use Rattle.sc_model.specs.Values as values
use Rattle.sc_model.specs.Values.{Operand}
use Rattle.sc_code.specs.declared.operation.DefaultValue.{DefaultValue}
use Rattle.sc_code.specs.declared.program.RoutineCode.{RoutineCode}
use Rattle.sc_code.specs.declared.program.FeatureCode.TheVariants as version
use Rattle.sc_code.specs.Emitted.{routine_slots}
use Rattle.sc_code.specs.Lowered.{Beginning, run_of}
use Rattle.sc_code.specs.Places.{known_type}
use Rattle.sc_code.specs.Programs as programs
use Rattle.sc_code.specs.Programs.{PlainRoutine, code_of, entry_of_feature, entry_of_kind, is_separate_known, pool_of, result_in, separate_slots}
use Rattle.sc_code.specs.Stands.{Run, Stands, values_in}
use Rattle.sc_code.proofs.TypingEntries.{entries_begin}
use Rattle.sc_code.proofs.TypingRoutines.{routines_stand}
use Rattle.sc_region.specs.declared.value.Reference.{Reference}
use Rattle.sc_region.specs.declared.value.Value.{Value}
use Rattle.sc_region.specs.declared.value.Value.TheVariants.{Void}
use Rattle.sc_region.specs.Classes.{routine_at}
use Rattle.sc_region.specs.Frames.{PlainActivation, frame_with}
use Rattle.sc_region.specs.Stores as store
use Rattle.sc_region.specs.Stores.{PlainStore, entered_at}
use Rattle.sc_region.specs.Values.{default_value}
use Rattle.sc_acts.specs.Entering.{entered_if, routine_in}
use Rattle.sc_refines_world.specs.regions.RegionHalves as halves
use Rattle.sc_refines_world.specs.regions.RegionHalves.{IsRegionOf, IsFrame, StandsIn}
use Rattle.sc_refines_world.specs.regions.RegionSteps.{IsProgramFor}
use Rattle.sc_refines_world.specs.regions.RegionTurns as half
use Rattle.sc_refines_world.specs.regions.RegionTurns.{Half, enters, enters_bound, with_stack}
use Rattle.sc_interp.specs.Standing.{state_of}
use Rattle.sc_interp.specs.Values.{reference_of, value_of, values_of}
use Rattle.sc_acts.proofs.Options.{none_some, some_same}
use Rattle.sc_refines_world.proofs.regions.RegionSame.{same_height, still_fails}
use Rattle.sc_refines_world.specs.regions.Acting.{RoutinesAreEntered}
use Rattle.sc_refines_world.proofs.regions.SilentOperations.{all_declared}
use Rattle.sc_refines_world.proofs.regions.Exits.{if_region}
use Rattle.sc_refines_world.proofs.regions.MetInvariants.{default_same, version_told}
use Rattle.sc_refines_world.proofs.regions.ProgramRoutines.{CodeAt, code_at, routine_is}

-- ---- formals

formals_length : (s : System) (all : List Declaration) (i : ℕ) (ds : List Declaration) → length (names.formal_entities s all i ds) ≡ length ds
formals_length s all i [] = refl
formals_length s all i (d ∷ ds) = ap suc (formals_length s all (i + 1) ds)

-- what binds formals
pub record Bound (s : System) (all : List Declaration) (i : ℕ) (ds : List Declaration) (vs : List values.Value) (bs : List Binding) : Type 0 where
  pub many : length vs ≡ length ds
  pub values : values_in bs ≡ vs

abbrev pub AreFormals : List Binding → Type 0
AreFormals [] = Unit {0}
AreFormals (b ∷ bs) = (is_formal b.role ≡ true) × AreFormals bs

bound_same : (bs cs : List Binding) → Some bs ≡ Some cs → bs ≡ cs
bound_same bs cs e = cc

pub bound : (s : System) (all : List Declaration) (i : ℕ) (ds : List Declaration) (vs : List values.Value) (bs : List Binding) → formals_bound s all i ds vs ≡ Some bs →
    Bound s all i ds vs bs
bound s all i [] [] bs e = record { many = refl; values = ap values_in (sym (bound_same [] bs e)) }
bound s all i [] (v ∷ vs) bs e = cc
bound s all i (d ∷ ds) [] bs e = cc
bound s all i (d ∷ ds) (v ∷ vs) bs e = by (declared_type s all d.declared_type) (formals_bound s all (i + 1) ds vs) (bound s all (i + 1) ds vs) e
  where
    by : (t : Option EntityType) (q : Option (List Binding)) → ((cs : List Binding) → q ≡ Some cs → Bound s all (i + 1) ds vs cs) → with_binding t d.name.text i v q ≡ Some bs →
        Bound s all i (d ∷ ds) (v ∷ vs) bs
    by None q f e = cc
    by (Some t) None f e = cc
    by (Some t) (Some cs) f e =
        let rest = f cs refl in
        record {
          many = ap suc rest.many;
          values = ap values_in (sym (bound_same (bind d.name.text (reserved i t) role.Formal v ∷ cs) bs e)) ∙ ap (λ us. v ∷ us) rest.values;
        }

pub formals_are : (s : System) (all : List Declaration) (i : ℕ) (ds : List Declaration) (vs : List values.Value) (bs : List Binding) → formals_bound s all i ds vs ≡ Some bs → AreFormals bs
formals_are s all i [] [] bs e = subst AreFormals (bound_same [] bs e) tt
formals_are s all i [] (v ∷ vs) bs e = cc
formals_are s all i (d ∷ ds) [] bs e = cc
formals_are s all i (d ∷ ds) (v ∷ vs) bs e = by (declared_type s all d.declared_type) (formals_bound s all (i + 1) ds vs) (formals_are s all (i + 1) ds vs) e
  where
    by : (t : Option EntityType) (q : Option (List Binding)) → ((cs : List Binding) → q ≡ Some cs → AreFormals cs) → with_binding t d.name.text i v q ≡ Some bs → AreFormals bs
    by None q f e = cc
    by (Some t) None f e = cc
    by (Some t) (Some cs) f e = subst AreFormals (bound_same (bind d.name.text (reserved i t) role.Formal v ∷ cs) bs e) (refl, f cs refl)

and_left : (a b : Bool) → a && b ≡ true → a ≡ true
and_left true b e = refl
and_left false b e = e

and_right : (a b : Bool) → a && b ≡ true → b ≡ true
and_right true b e = e
and_right false b e = cc

-- where each is declared, as many as there are actuals are bound
unbound : (s : System) (all : List Declaration) (i : ℕ) (ds : List Declaration) (vs : List values.Value) → are_declared s all ds ≡ true → length vs ≡ length ds →
    formals_bound s all i ds vs ≡ None → ⊥
unbound s all i [] [] known many e = cc
unbound s all i [] (v ∷ vs) known many e = absurd (omega (arith, many))
unbound s all i (d ∷ ds) [] known many e = absurd (omega (arith, many))
unbound s all i (d ∷ ds) (v ∷ vs) known many e =
    by (declared_type s all d.declared_type) (formals_bound s all (i + 1) ds vs)
    (and_left (is_some (declared_type s all d.declared_type)) (are_declared s all ds) known)
    (unbound s all (i + 1) ds vs (and_right (is_some (declared_type s all d.declared_type)) (are_declared s all ds) known) (omega (arith, many))) e
  where
    by : (t : Option EntityType) (q : Option (List Binding)) → is_some t ≡ true → (q ≡ None → ⊥) → with_binding t d.name.text i v q ≡ None → ⊥
    by None q there f e = cc
    by (Some t) None there f e = f refl
    by (Some t) (Some cs) there f e = cc

-- ---- a routine in flat code

values_append : (us ws : List Value) → values_of (us ++ ws) ≡ values_of us ++ values_of ws
values_append [] ws = refl
values_append (u ∷ us) ws = ap (λ vs. value_of u ∷ vs) (values_append us ws)

result_seen : (o : Option (DefaultValue × Bool)) → option_map value_of (option_map (λ (d : DefaultValue × Bool). default_value d.0) o) ≡ option_map (λ (q : values.Value × Bool). q.0) (option_map result_in o)
result_seen None = refl
result_seen (Some d) = ap (λ v. Some v) (default_same d.0)

result_told : (t : Option (Option EntityType)) → option_map (λ (q : values.Value × Bool). q.0) (programs.result_of (known_type t)) ≡ option_map (λ (u : Operand). u.value) (model.result_of t)
result_told None = refl
result_told (Some None) = refl
result_told (Some (Some t)) = refl

separate_same : (k : ℕ) (bs : List Binding) → AreFormals bs → store.stage_of (separate_slots k (scope_of bs)) ≡ halves.stage_of (stage_with (separate_formals bs))
separate_same k [] formal = refl
separate_same k (b ∷ bs) formal =
    by (is_separate_known (Some b.type)) (separate_same (suc k) bs formal.1)
    ∙ ap (λ f. halves.stage_of (stage_with (map (λ (b : Binding). b.value) (cond f (b ∷ filter is_separate_formal bs) (filter is_separate_formal bs))))) (sym is_separate)
  where
    is_separate : is_separate_formal b ≡ is_separate_known (Some b.type)
    is_separate = ap (λ f. f && b.type.attached && is_foreign b.type.tag && not (is_expanded b.type.class)) formal.0

    by : (f : Bool) → store.stage_of (separate_slots (suc k) (scope_of bs)) ≡ halves.stage_of (stage_with (separate_formals bs)) →
        store.stage_of (if f then k ∷ separate_slots (suc k) (scope_of bs) else separate_slots (suc k) (scope_of bs))
        ≡ halves.stage_of (stage_with (map (λ (b : Binding). b.value) (cond f (b ∷ filter is_separate_formal bs) (filter is_separate_formal bs))))
    by true next = refl
    by false next = next

stands_as : (vs : List values.Value) (g : Run) (place : ℕ) (tail : List values.Value) (p : Point) → Stands g place tail p → StandsIn (stage_with vs) g place tail p
stands_as [] g place tail p st = st
stands_as (v ∷ vs) g place tail p st = st

-- ---- what is found

-- a routine has the formals of its own declaration
pub formals_of_routine : (s : System) (f : DeclaredFeature) (own : RoutineDeclaration) (r : Routine) → f.feature.kind ≡ tree.Routine own → routine_of s f ≡ Some r → r.text.formals ≡ own.formals
formals_of_routine s f own r kind e = by_origin (origin_of s f) e
  where
    by_kind : (x : List ℕ) (k j : ℕ) (original : FeatureKind) → routine_with s x k (tree.Routine own) j original ≡ Some r → r.text.formals ≡ own.formals
    by_kind x k j (tree.Attribute d) e = none_some r e
    by_kind x k j (tree.Routine original) e = ap (λ (r : Routine). r.text.formals) (sym (some_same _ r e))

    by_origin : (o : Option DeclaredFeature) → routine_from s f o ≡ Some r → r.text.formals ≡ own.formals
    by_origin None e = none_some r e
    by_origin (Some o) e =
        by_kind f.feature.name.text f.class o.class o.feature.kind (ap (λ m. routine_with s f.feature.name.text f.class m o.class o.feature.kind) (sym kind) ∙ e)

pub no_routine : (s : System) (f : DeclaredFeature) (d : DeclaredType) → f.feature.kind ≡ tree.Attribute d → routine_of s f ≡ None
no_routine s f d kind = by (origin_of s f)
  where
    by : (o : Option DeclaredFeature) → routine_from s f o ≡ None
    by None = refl
    by (Some o) = ap (λ m. routine_with s f.feature.name.text f.class m o.class o.feature.kind) kind

attribute_unentered : (o : Option ℕ) → routine_in (option_map version.Attribute o) ≡ None
attribute_unentered None = refl
attribute_unentered (Some n) = refl

same_is : (m n : ℕ) → m ≡ n → (m == n) ≡ true
same_is m n e = grind (arith, nat_tests, e)

-- ---- the new frame

module _ (s : System) (x : Half) (y : PlainStore) (is : IsProgramFor s y.program) (region : IsRegionOf s x y) (me : Reference) (name : List ℕ) (from : Origin) (us : List Value)
    (f : DeclaredFeature) (found : version_of s me.class name ≡ Some f) (own : RoutineDeclaration) (kind : f.feature.kind ≡ tree.Routine own)
    (r : Routine) (has : routine_of s f ≡ Some r) (i : ℕ) (numbered : slice_get (all_features s) i ≡ Some f) (at : CodeAt s r y.program i) where
  named : routine_named s me.class name ≡ Some r
  named = ap (option_and_then (routine_of s)) found ∙ has

  fails_both : IsRegionOf s (half.failed cause.BadCode x) (store.failed cause.BadCode y)
  fails_both = still_fails s x y cause.BadCode region

  formals_many : at.code.formals ≡ length r.text.formals
  formals_many = ap (λ (q : PlainRoutine). q.formals) at.same

  formals_known : are_declared s r.text.formals r.text.formals ≡ true
  formals_known =
      subst (λ ds. are_declared s ds ds ≡ true) (sym (formals_of_routine s f own r kind has))
      (and_left (are_declared s own.formals own.formals) _
      (subst (λ m. is_declared s m ≡ true) kind (found_declared s is.root is.faultless (all_declared s is.well_formed) me.class name f found)))

  abbrev left_over : List Value
  left_over = replicate (at.code.slots - at.code.formals) Void

  module _ (bs : List Binding) (bound_so : formals_bound s r.text.formals 0 r.text.formals (values_of us) ≡ Some bs) where
    abbrev new_frame : Frame
    new_frame = model.entry (reference_of me) r from bs

    bound_as : Bound s r.text.formals 0 r.text.formals (values_of us) bs
    bound_as = bound s r.text.formals 0 r.text.formals (values_of us) bs bound_so

    bindings_many : length bs ≡ length r.text.formals
    bindings_many = sym (length-map bs (λ (b : Binding). b.value)) ∙ ap length bound_as.values ∙ bound_as.many

    slots_many : length bs + length (values_of left_over) ≡ routine_slots s r
    slots_many =
        let left = length-map left_over value_of ∙ length-replicate (at.code.slots - at.code.formals) Void in
        let slots = ap (λ (q : PlainRoutine). q.slots) at.same in
        let known = formals_length s r.text.formals 0 r.text.formals in
        omega (arith, left, slots, known, bindings_many, formals_many)

    begins : Beginning s r (point_of new_frame x.objects) (values_of left_over)
    begins = entries_begin s r (reference_of me) from (values_of us) bs x.objects (values_of left_over) bound_so slots_many

    new_stands : Stands (run_of s r) 0 (values_of left_over) (point_of new_frame x.objects)
    new_stands = routines_stand s is.root is.faultless is.well_formed me.class name r named (point_of new_frame x.objects) (values_of left_over) begins

    in_flat : store.stage_of at.code.separate_formals.items ≡ halves.stage_of (stage_with (separate_formals bs))
    in_flat =
        ap (λ (q : PlainRoutine). store.stage_of q.separate_formals) at.same
        ∙ ap (λ n. store.stage_of (separate_slots 0 n)) (sym begins.names)
        ∙ separate_same 0 bs (formals_are s r.text.formals 0 r.text.formals (values_of us) bs bound_so)

    slots_are : values_of (us ++ left_over) ≡ values_in bs ++ values_of left_over
    slots_are = values_append us left_over ∙ ap (λ vs. vs ++ values_of left_over) (sym bound_as.values)

    result_is : option_map value_of (option_map (λ (d : DefaultValue × Bool). default_value d.0) at.code.result) ≡ option_map (λ (u : Operand). u.value) (model.result_of r.text.result)
    result_is = result_seen at.code.result ∙ ap (λ (q : PlainRoutine). option_map (λ (v : values.Value × Bool). v.0) q.result) at.same ∙ result_told r.text.result

    abbrev new_activation : PlainActivation
    new_activation = store.beginning i at.code (halves.origin_of from) us

    frame_is : IsFrame s x.objects new_frame (frame_with me new_activation)
    frame_is = record {
      current = refl;
      routine = ap (option_and_then (routine_of s)) numbered ∙ has;
      origin = refl;
      stage = in_flat;
      tail = values_of left_over;
      state = ap (λ vs. record (state_of x.objects new_activation) { slots = vs }) slots_are
          ∙ ap (λ v. record (state_of x.objects new_activation) { slots = values_in bs ++ values_of left_over; result = v }) result_is;
      stands = stands_as (separate_formals bs) (run_of s r) 0 (values_of left_over) (point_of new_frame x.objects) new_stands;
      depth = ap (λ (q : PlainRoutine). q.depth) at.same;
      reserved = refl;
      blocks = refl;
    }

    new_region : IsRegionOf s (with_stack (new_frame ∷ x.stack) x) (record y { frames = frame_with me new_activation ∷ y.frames })
    new_region = record { objects = region.objects; frames = (frame_is, region.frames); output = region.output; failure = region.failure }

    actuals_many : length us ≡ at.code.formals
    actuals_many = sym (length-map us value_of) ∙ bound_as.many ∙ sym formals_many

    entered_bound : IsRegionOf s (enters_bound (reference_of me) r from x.stack (Some bs) x) (entered_at (length y.frames) me i (Some at.code) (halves.origin_of from) us y)
    entered_bound =
        subst (λ b. IsRegionOf s (enters_bound (reference_of me) r from x.stack (Some bs) x)
        (if b then (if nat_lt (length y.frames) store.max_frames then record y { frames = frame_with me new_activation ∷ y.frames } else store.failed cause.StackFull y)
        else store.failed cause.BadCode y)) (sym (same_is (length us) at.code.formals actuals_many))
        (if_region s _ _ _ _ _ _ (ap (λ n. nat_lt n store.max_frames) (same_height s x.objects x.stack y.frames region.frames)) new_region (still_fails s x y cause.StackFull region))

  entered_with : (q : Option (List Binding)) → formals_bound s r.text.formals 0 r.text.formals (values_of us) ≡ q →
      IsRegionOf s (enters_bound (reference_of me) r from x.stack q x) (entered_at (length y.frames) me i (Some at.code) (halves.origin_of from) us y)
  entered_with (Some bs) e = entered_bound bs e
  entered_with None e = by (length us == at.code.formals) refl
    where
      by : (b : Bool) → (length us == at.code.formals) ≡ b → IsRegionOf s (half.failed cause.BadCode x)
          (if b then (if nat_lt (length y.frames) store.max_frames then record y { frames = store.entry me i at.code (halves.origin_of from) us ∷ y.frames } else store.failed cause.StackFull y)
          else store.failed cause.BadCode y)
      by true same =
          absurd (unbound s r.text.formals 0 r.text.formals (values_of us) formals_known (length-map us value_of ∙ eqb-true (length us) at.code.formals same ∙ formals_many) e)
      by false same = fails_both

  region_entered : IsRegionOf s (enters s (reference_of me) (Some r) from x.stack (values_of us) x) (store.entered me i (halves.origin_of from) us y)
  region_entered =
      subst (λ c. IsRegionOf s (enters s (reference_of me) (Some r) from x.stack (values_of us) x) (entered_at (length y.frames) me i c (halves.origin_of from) us y)) (sym at.found)
      (entered_with (formals_bound s r.text.formals 0 r.text.formals (values_of us)) refl)

-- ---- by the name

none_there : {A : Type 0} (o : Option ℕ) → is_some o ≡ true → o ≡ None → A
none_there None there e = cc
none_there (Some n) there e = cc

none_coded : (o : Option RoutineCode) (f : RoutineCode → PlainRoutine) → option_map f o ≡ None → o ≡ None
none_coded None f e = refl
none_coded (Some c) f e = cc

module _ (s : System) (x : Half) (y : PlainStore) (me : Reference) (k : ℕ) (name : List ℕ) (from : Origin) (us : List Value) (is : IsProgramFor s y.program) (region : IsRegionOf s x y) where
  abbrev Entered : Option Routine → Option ℕ → Type 0
  Entered r n = IsRegionOf s (enters s (reference_of me) r from x.stack (values_of us) x) (entered_if n me (halves.origin_of from) us y)

  by_routine : (f : DeclaredFeature) → version_of s me.class name ≡ Some f → (own : RoutineDeclaration) → f.feature.kind ≡ tree.Routine own → (i : ℕ) →
      slice_get (all_features s) i ≡ Some f → (q : Option Routine) → routine_of s f ≡ q → Entered q (Some i)
  by_routine f found own kind i numbered (Some r) has =
      region_entered s x y is region me name from us f found own kind r has i numbered
      (code_at s is.root y.program i r is.program (ap (option_and_then (routine_of s)) numbered ∙ has))
  by_routine f found own kind i numbered None has =
      let none = none_coded (routine_at y.program i) (programs.routine_in (pool_of y.program.pool))
      (routine_is s is.root y.program i is.program ∙ ap (option_map (code_of s)) (ap (option_and_then (routine_of s)) numbered ∙ has)) in
      subst (λ c. IsRegionOf s (half.failed cause.BadCode x) (entered_at (length y.frames) me i c (halves.origin_of from) us y)) (sym none) (still_fails s x y cause.BadCode region)

  by_number : (f : DeclaredFeature) → version_of s me.class name ≡ Some f → (own : RoutineDeclaration) → f.feature.kind ≡ tree.Routine own → (n : Option ℕ) →
      feature_number s (names.routine_of f) ≡ n → Entered (routine_of s f) (routine_in (option_map version.Routine n))
  by_number f found own kind n e = by n e
    where
      there : purity.routine_named s (names.routine_of f) ≡ Some f
      there =
          let stands = found_stands s me.class name f found in
          ap (λ t. named_among t (declared_features s f.class)) stands.is_named ∙ stands.is_declared

      by : (n : Option ℕ) → feature_number s (names.routine_of f) ≡ n → Entered (routine_of s f) (routine_in (option_map version.Routine n))
      by None e = none_there (feature_number s (names.routine_of f)) (has_number s (names.routine_of f) (ap is_some there)) e
      by (Some i) e =
          let number = number_stands s (names.routine_of f) i e in
          let same : number.feature ≡ f = some_same number.feature f (sym number.is_named ∙ there) in
          by_routine f found own kind i (number.stands_at ∙ ap (λ (g : DeclaredFeature). Some g) same) (routine_of s f) refl

  by_kind : (f : DeclaredFeature) → version_of s me.class name ≡ Some f → (m : FeatureKind) → f.feature.kind ≡ m → Entered (routine_of s f) (routine_in (entry_of_kind s me.class f m))
  by_kind f found (tree.Routine own) kind = by_number f found own kind (feature_number s (names.routine_of f)) refl
  by_kind f found (tree.Attribute d) kind =
      subst (λ n. Entered (routine_of s f) n) (sym (attribute_unentered _))
      (subst (λ q. Entered q None) (sym (no_routine s f d kind)) (still_fails s x y cause.BadCode region))

  by_version : (o : Option DeclaredFeature) → version_of s me.class name ≡ o → Entered (option_and_then (routine_of s) o) (routine_in (entry_of_feature s me.class o))
  by_version None found = still_fails s x y cause.BadCode region
  by_version (Some f) found = by_kind f found f.feature.kind refl

pub routines_are_entered : RoutinesAreEntered
routines_are_entered s x y me k name from us is region named =
    subst (λ v. IsRegionOf s (enters s (reference_of me) (routine_named s me.class name) from x.stack (values_of us) x) (entered_if (routine_in v) me (halves.origin_of from) us y))
    (sym (version_told s is.root y.program is.program me.class k name named))
    (by_version s x y me k name from us is region (version_of s me.class name) refl)
