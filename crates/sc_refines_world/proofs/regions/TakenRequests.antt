-- Requests as they are taken.
use Rattle.std.proofs.Common.{◌≡◌, ℕ, ◌+◌, Bool, true, false, not, List, [], ◌∷◌, ◌++◌, Option, Some, None, is_some, length, refl, sym, ap, ◌∙◌, subst}
use Rattle.std.proofs.lemmas.List.{length-map}
use Rattle.std.specs.Prelude.{◌==◌, ◌&&◌, slice_get, if◌then◌else◌}
use Rattle.std.specs.Option.{is_none, option_map, option_and_then}
use Rattle.sc_tree.specs.Plain as tree
use Rattle.sc_tree.specs.Plain.{System, DeclaredType, FeatureKind}
use Rattle.sc_class.specs.Tables.Features.{DeclaredFeature, features}
use Rattle.sc_class.proofs.Declarers.{found_stands}
use Rattle.sc_rules.specs.declared.entity_types.entity_type.EntityType.{EntityType}
use Rattle.sc_rules.specs.Laws.{is_declared}
use Rattle.sc_rules.specs.Names as names
use Rattle.sc_rules.specs.Types.{declared_type}
use Rattle.sc_rules.proofs.Versions.{found_declared}
use Rattle.sc_typing.specs.FeatureNumbers.{feature_number}
use Rattle.sc_model.specs.declared.cause.Cause.{Cause}
use Rattle.sc_model.specs.declared.cause.Cause.TheVariants as cause
use Rattle.sc_model.specs.Environments.{Binding, binding_named}
use Rattle.sc_model.specs.Handlers as machine
use Rattle.sc_model.specs.Handlers.{Requested}
use Rattle.sc_model.specs.Invariants as model_invariants
use Rattle.sc_model.specs.Objects as model_objects
use Rattle.sc_model.specs.Objects.{fresh_attributes}
use Rattle.sc_model.specs.Routines.{routine_named, routine_of, version_of}
use Rattle.sc_code.specs.declared.program.FeatureCode.TheVariants as version
use Rattle.sc_code.specs.Attributes.{attribute_number}
use Rattle.sc_code.specs.Programs.{entry_of_feature, entry_of_kind}
use Rattle.sc_region.specs.declared.frame.Origin.TheVariants as origin
use Rattle.sc_region.specs.declared.job.Errand.{Errand}
use Rattle.sc_region.specs.declared.job.Errand.TheVariants as errand
use Rattle.sc_region.specs.declared.job.Request.{Request}
use Rattle.sc_region.specs.declared.job.Want.{Want}
use Rattle.sc_region.specs.declared.job.Want.TheVariants as want
use Rattle.sc_region.specs.declared.value.Value.{Value}
use Rattle.sc_region.specs.Classes as at
use Rattle.sc_region.specs.Frames as frames
use Rattle.sc_region.specs.Objects.{PlainObject, attribute_of, object_numbered}
use Rattle.sc_region.specs.Stores as store
use Rattle.sc_region.specs.Stores.{PlainStore, born, entered, is_settled, settled, with_new}
use Rattle.sc_request.specs.Asked as asked
use Rattle.sc_acts.specs.Entering.{entered_if, routine_in}
use Rattle.sc_interp.specs.Objects.{object_in, objects_in}
use Rattle.sc_refines_world.specs.regions.RegionHalves.{IsRegionOf}
use Rattle.sc_refines_world.specs.regions.RegionSteps as region_steps
use Rattle.sc_refines_world.specs.regions.RegionSteps.{IsProgramFor, first_want, names_of, numbering_by, request_with, taking}
use Rattle.sc_refines_world.specs.regions.RegionTurns as half
use Rattle.sc_refines_world.specs.regions.RegionTurns.{Half, begins, enters, replies, settles, takes, takes_kind, takes_version}
use Rattle.sc_acts.specs.Tables.{version_in}
use Rattle.sc_acts.specs.Turning.{unless_failed}
use Rattle.sc_interp.specs.Values.{reference_of, value_of, values_of}
use Rattle.sc_refines_world.proofs.regions.RegionSame.{still_fails}
use Rattle.sc_interp.proofs.Valued.{valued_named}
use Rattle.sc_play.specs.Taking.{answered, asks_answering, asks_call, asks_creation, asks_errand, asks_on, asks_version, born_by, taken_call, taken_creation, taken_errand, taken_on, taken_version}
use Rattle.sc_refines_world.specs.regions.Acting.{AreWhole}
use Rattle.sc_refines_world.specs.regions.Taking.{IsNamed, IsTakeable, RequestsAreTaken, TakenRequestsAsk}
use Rattle.sc_refines_world.proofs.regions.TurnAsks.{same_unless}
use Rattle.sc_refines_world.proofs.regions.Attributes.{StandsAt, attribute_coded, stands_among}
use Rattle.sc_refines_world.proofs.regions.SilentOperations.{all_declared}
use Rattle.sc_refines_world.proofs.regions.Creations.{born_is, fresh_same, objects_more}
use Rattle.sc_refines_world.proofs.regions.Entries.{routines_are_entered}
use Rattle.sc_refines_world.proofs.regions.Exits.{if_region}
use Rattle.sc_refines_world.proofs.regions.MetInvariants.{numbered_same, still_settles, version_told}
use Rattle.sc_refines_world.proofs.regions.Reservations.{entries_ask}
use Rattle.sc_refines_world.proofs.regions.ProgramRoutines.{frames_still, mapped_get}
use Rattle.sc_refines_world.proofs.regions.TakenAttributes.{answered_same, answer_asks, settled_objects, settled_output, entered_keeps, whole_same, whole_more}

-- ---- calls

-- Unless the store has failed, both are asked alike.
abbrev Same : PlainStore → Want → (PlainStore → Want) → Type 0
Same w v asks = unless_failed w.failure v ≡ unless_failed w.failure (asks w)

module _ (h : ℕ) (r : Request) (y : PlainStore) (takeable : IsTakeable y r) (s : System) (x : Half) (is : IsProgramFor s y.program) (region : IsRegionOf s x y) where
  abbrev class : ℕ
  class = r.target.class

  abbrev us : List Value
  us = r.actuals.items

  module _ (k : ℕ) (name : List ℕ) (named : slice_get (names_of y) k ≡ Some name) where
    abbrev asks_for : machine.Request
    asks_for = request_with r (machine.Calls name)

    -- a routine is entered
    routine_taken : (f : DeclaredFeature) → version_of s class name ≡ Some f → (n : Option ℕ) → version_in y.program class k ≡ option_map version.Routine n →
        IsRegionOf s (enters s (reference_of r.target) (routine_of s f) (Requested asks_for) x.stack (values_of us) x) (taken_version r (option_map version.Routine n) y)
    routine_taken f found n e =
        by n
        (subst (λ v. IsRegionOf s (enters s (reference_of r.target) (routine_of s f) (Requested asks_for) x.stack (values_of us) x) (entered_if (routine_in v) r.target origin.Requested us y)) e
        (subst (λ q. IsRegionOf s (enters s (reference_of r.target) (option_and_then (routine_of s) q) (Requested asks_for) x.stack (values_of us) x)
        (entered_if (routine_in (version_in y.program class k)) r.target origin.Requested us y)) found
        (routines_are_entered s x y r.target k name (Requested asks_for) us is region named)))
      where
        by : (n : Option ℕ) → IsRegionOf s (enters s (reference_of r.target) (routine_of s f) (Requested asks_for) x.stack (values_of us) x)
            (entered_if (routine_in (option_map version.Routine n)) r.target origin.Requested us y) →
            IsRegionOf s (enters s (reference_of r.target) (routine_of s f) (Requested asks_for) x.stack (values_of us) x) (taken_version r (option_map version.Routine n) y)
        by None region = region
        by (Some n) region = region

    routine_asks : (f : DeclaredFeature) → version_of s class name ≡ Some f → (n : Option ℕ) → version_in y.program class k ≡ option_map version.Routine n →
        Same (taken_version r (option_map version.Routine n) y) (asked.asks_entering s (routine_of s f) (values_of us) (length x.stack)) (asks_version r (option_map version.Routine n) y)
    routine_asks f found None e = refl
    routine_asks f found (Some n) e =
        let w = entered r.target n origin.Requested us y in
        let same = ap (option_and_then (routine_of s)) found in
        let program = entered_keeps (λ z. z.program) (λ why y. refl) (λ y fs. refl) r.target n origin.Requested us y in
        ap (λ q. unless_failed w.failure (asked.asks_entering s q (values_of us) (length x.stack))) (sym same)
        ∙ entries_ask s w (subst (IsProgramFor s) (sym program) is) class name (reference_of r.target) (Requested asks_for) x.stack (values_of us) x
        (subst (λ q. IsRegionOf s (enters s (reference_of r.target) q (Requested asks_for) x.stack (values_of us) x) w) (sym same) (routine_taken f found (Some n) e))

    -- what is known of an attribute that is asked for
    known_type : (f : DeclaredFeature) (d : DeclaredType) → version_of s class name ≡ Some f → f.feature.kind ≡ tree.Attribute d → is_some (declared_type s [] d) ≡ true
    known_type f d found kind =
        subst (λ m. is_declared s m ≡ true) kind (found_declared s is.root is.faultless (all_declared s is.well_formed) class name f found)

    read_same : (o : PlainObject) → object_numbered r.target.number y.objects ≡ Some o → (t : EntityType) (at : StandsAt name (fresh_attributes s (features s class)) t) →
        option_map value_of (attribute_of r.target.number at.number y.objects) ≡ option_map (λ (b : Binding). b.value) (binding_named name (object_in s o).attributes)
    read_same o there t at =
        ap (λ q. option_map value_of (option_and_then (λ (o : PlainObject). slice_get o.attributes at.number) q)) there
        ∙ sym (mapped_get value_of o.attributes at.number)
        ∙ ap (option_and_then (slice_get (values_of o.attributes))) (sym at.numbered)
        ∙ ap (λ k. option_and_then (slice_get (values_of o.attributes)) (attribute_number name (fresh_attributes s (features s k)))) (sym (takeable.of_class o there))
        ∙ sym (valued_named name (fresh_attributes s (features s o.class)) (values_of o.attributes))

    attribute_taken : (o : PlainObject) → object_numbered r.target.number y.objects ≡ Some o → (f : DeclaredFeature) (d : DeclaredType) → version_of s class name ≡ Some f →
        f.feature.kind ≡ tree.Attribute d → (q : Option EntityType) → declared_type s [] d ≡ q → is_some q ≡ true →
        IsRegionOf s (replies q (binding_named name (object_in s o).attributes) x) (taken_version r (option_map version.Attribute (attribute_number f.feature.name.text (fresh_attributes s (features s class)))) y)
    attribute_taken o there f d found kind None e some = cc
    attribute_taken o there f d found kind (Some t) e some =
        let at = stands_among s name (features s class) f d t found kind e in
        let coded = attribute_coded s y.program is class name t at in
        let value = attribute_of r.target.number at.number y.objects in
        let binding = binding_named name (object_in s o).attributes in
        subst (λ n. IsRegionOf s (replies (Some t) binding x) (taken_version r (option_map version.Attribute n) y))
        (sym (ap (λ t. attribute_number t (fresh_attributes s (features s class))) (found_stands s class name f found).is_named ∙ at.numbered))
        (subst (λ c. IsRegionOf s (replies (Some t) binding x) (answered c value y)) (sym coded.found)
        (answered_same s x y region coded.code t coded.same value binding (read_same o there t at)))

    attribute_asks : (o : PlainObject) → object_numbered r.target.number y.objects ≡ Some o → (f : DeclaredFeature) (d : DeclaredType) → version_of s class name ≡ Some f →
        f.feature.kind ≡ tree.Attribute d → (q : Option EntityType) → declared_type s [] d ≡ q → is_some q ≡ true →
        (let v = option_map version.Attribute (attribute_number f.feature.name.text (fresh_attributes s (features s class))) in
        Same (taken_version r v y) (asked.asks_replying q (binding_named name (object_in s o).attributes)) (asks_version r v y))
    attribute_asks o there f d found kind None e some = cc
    attribute_asks o there f d found kind (Some t) e some =
        let at = stands_among s name (features s class) f d t found kind e in
        let coded = attribute_coded s y.program is class name t at in
        let value = attribute_of r.target.number at.number y.objects in
        let binding = binding_named name (object_in s o).attributes in
        subst (λ n. Same (taken_version r (option_map version.Attribute n) y) (asked.asks_replying (Some t) binding) (asks_version r (option_map version.Attribute n) y))
        (sym (ap (λ t. attribute_number t (fresh_attributes s (features s class))) (found_stands s class name f found).is_named ∙ at.numbered))
        (subst (λ c. unless_failed (answered c value y).failure (asked.asks_replying (Some t) binding) ≡ unless_failed (answered c value y).failure (asks_answering value)) (sym coded.found)
        (answer_asks s x y region coded.code t coded.same value binding (read_same o there t at)))

    kind_taken : (o : PlainObject) → object_numbered r.target.number y.objects ≡ Some o → (f : DeclaredFeature) → version_of s class name ≡ Some f → (m : FeatureKind) → f.feature.kind ≡ m →
        version_in y.program class k ≡ entry_of_kind s class f m → IsRegionOf s (takes_kind s asks_for name (object_in s o) f m x) (taken_version r (entry_of_kind s class f m) y)
    kind_taken o there f found (tree.Routine own) kind e = routine_taken f found (feature_number s (names.routine_of f)) e
    kind_taken o there f found (tree.Attribute d) kind e = attribute_taken o there f d found kind (declared_type s [] d) refl (known_type f d found kind)

    kind_asks : (o : PlainObject) → object_numbered r.target.number y.objects ≡ Some o → (f : DeclaredFeature) → version_of s class name ≡ Some f → (m : FeatureKind) → f.feature.kind ≡ m →
        version_in y.program class k ≡ entry_of_kind s class f m →
        Same (taken_version r (entry_of_kind s class f m) y) (asked.asks_calling s asks_for name (length x.stack) (object_in s o) f m) (asks_version r (entry_of_kind s class f m) y)
    kind_asks o there f found (tree.Routine own) kind e = routine_asks f found (feature_number s (names.routine_of f)) e
    kind_asks o there f found (tree.Attribute d) kind e = attribute_asks o there f d found kind (declared_type s [] d) refl (known_type f d found kind)

    on_taken : (o : Option PlainObject) → object_numbered r.target.number y.objects ≡ o → (f : Option DeclaredFeature) → version_of s class name ≡ f →
        version_in y.program class k ≡ entry_of_feature s class f → IsRegionOf s (takes_version s asks_for name (option_map (object_in s) o) f x) (taken_on r o (entry_of_feature s class f) y)
    on_taken None there None found e = still_fails s x y cause.BadCode region
    on_taken None there (Some f) found e = still_fails s x y cause.BadCode region
    on_taken (Some o) there None found e = still_fails s x y cause.BadCode region
    on_taken (Some o) there (Some f) found e = kind_taken o there f found f.feature.kind refl e

    on_asks : (o : Option PlainObject) → object_numbered r.target.number y.objects ≡ o → (f : Option DeclaredFeature) → version_of s class name ≡ f →
        version_in y.program class k ≡ entry_of_feature s class f →
        Same (taken_on r o (entry_of_feature s class f) y) (asked.asks_version s asks_for name (length x.stack) (option_map (object_in s) o) f) (asks_on r o (entry_of_feature s class f) y)
    on_asks None there None found e = refl
    on_asks None there (Some f) found e = refl
    on_asks (Some o) there None found e = refl
    on_asks (Some o) there (Some f) found e = kind_asks o there f found f.feature.kind refl e

    abbrev object_there : Option PlainObject
    object_there = object_numbered r.target.number y.objects

    object_same : model_objects.object_numbered r.target.number x.objects ≡ option_map (object_in s) object_there
    object_same = ap (model_objects.object_numbered r.target.number) (sym region.objects) ∙ numbered_same s r.target.number y.objects

    version_is : version_in y.program class k ≡ entry_of_feature s class (version_of s class name)
    version_is = version_told s is.root y.program is.program class k name named

    version_taken : IsRegionOf s (takes_version s asks_for name (model_objects.object_numbered r.target.number x.objects) (version_of s class name) x)
        (taken_on r object_there (version_in y.program class k) y)
    version_taken =
        subst (λ q. IsRegionOf s (takes_version s asks_for name q (version_of s class name) x) (taken_on r object_there (version_in y.program class k) y)) (sym object_same)
        (subst (λ v. IsRegionOf s (takes_version s asks_for name (option_map (object_in s) object_there) (version_of s class name) x) (taken_on r object_there v y)) (sym version_is)
        (on_taken object_there refl (version_of s class name) refl version_is))

    call_taken : IsRegionOf s (takes s h asks_for x) (taken_call h r k y)
    call_taken = if_region s _ _ _ _ (r.target.handler == h) (r.target.handler == h) refl version_taken (still_fails s x y cause.ForeignObject region)

    version_asks : Same (taken_on r object_there (version_in y.program class k) y)
        (asked.asks_version s asks_for name (length x.stack) (model_objects.object_numbered r.target.number x.objects) (version_of s class name))
        (asks_on r object_there (version_in y.program class k) y)
    version_asks =
        subst (λ q. Same (taken_on r object_there (version_in y.program class k) y) (asked.asks_version s asks_for name (length x.stack) q (version_of s class name))
        (asks_on r object_there (version_in y.program class k) y)) (sym object_same)
        (subst (λ v. Same (taken_on r object_there v y) (asked.asks_version s asks_for name (length x.stack) (option_map (object_in s) object_there) (version_of s class name))
        (asks_on r object_there v y)) (sym version_is)
        (on_asks object_there refl (version_of s class name) refl version_is))

    abbrev there : PlainStore
    there = taken_on r object_there (version_in y.program class k) y

    abbrev elsewhere : PlainStore
    elsewhere = store.failed cause.ForeignObject y

    by_handler : (b : Bool) → unless_failed (if b then there else elsewhere).failure
        (if b then asked.asks_version s asks_for name (length x.stack) (model_objects.object_numbered r.target.number x.objects) (version_of s class name) else want.Fail cause.ForeignObject)
        ≡ unless_failed (if b then there else elsewhere).failure
        (if b then asks_on r object_there (version_in y.program class k) y (if b then there else elsewhere) else want.Continue)
    by_handler true = version_asks
    by_handler false = refl

    call_asks : Same (taken_call h r k y) (asked.asks_errand s h asks_for (machine.Calls name) (length x.stack) x.objects) (asks_call h r k y)
    call_asks = by_handler (r.target.handler == h)

  -- ---- creations

  abbrev more : Half
  more = half.with_new s class x

  abbrev grown : PlainStore
  grown = with_new class y

  grown_region : IsRegionOf s more grown
  grown_region = record {
    objects = objects_more s y.objects (at.fresh_object y.program class) ∙ ap (λ q. objects_in s y.objects ++ q ∷ []) (fresh_same s y is class)
        ∙ ap (λ os. os ++ model_objects.fresh_object s class ∷ []) region.objects;
    frames = frames_still s x.objects more.objects x.stack y.frames region.frames;
    output = region.output;
    failure = region.failure;
  }

  number_same : length y.objects + 1 ≡ length x.objects + 1
  number_same = ap (λ n. n + 1) (sym (length-map y.objects (object_in s)) ∙ ap length region.objects)

  settled_region : (z : PlainStore) (b : Half) → z.program ≡ y.program → AreWhole z → IsRegionOf s b z → IsRegionOf s (settles s (length x.objects + 1) b) (settled (length y.objects + 1) z)
  settled_region z b program whole r =
      subst (λ n. IsRegionOf s (settles s n b) (settled (length y.objects + 1) z)) number_same
      (still_settles s z (subst (IsProgramFor s) (sym program) is) whole (length y.objects + 1) b r)

  born_region : IsRegionOf s (settles s (length x.objects + 1) more) (born class y)
  born_region = settled_region grown more refl (whole_more class y takeable.whole) grown_region

  abbrev fresh_meets : Bool
  fresh_meets = model_invariants.meets_invariant s (model_objects.fresh_object s class)

  abbrev wanted : Want
  wanted = if fresh_meets then asked.asks_done None [] false else want.Fail cause.Invariant

  by_meets : (b : Bool) → unless_failed (if not b then store.failed cause.Invariant grown else grown).failure (if b then asked.asks_done None [] false else want.Fail cause.Invariant)
      ≡ unless_failed (if not b then store.failed cause.Invariant grown else grown).failure (asks_answering None)
  by_meets true = refl
  by_meets false = refl

  by_failure : (f : Option Cause) → y.failure ≡ f → unless_failed (born class y).failure wanted ≡ unless_failed (born class y).failure (asks_answering None)
  by_failure None lives =
      subst (λ (w : PlainStore). unless_failed w.failure wanted ≡ unless_failed w.failure (asks_answering None)) (sym (born_is s y is class lives takeable.unborn)) (by_meets fresh_meets)
  by_failure (Some why) e =
      let left : born class y ≡ grown =
      ap (λ f. if (is_none f && not (frames.is_current (length y.objects + 1) y.frames)) && at.object_breaks y.program (object_numbered (length y.objects + 1) grown.objects)
      then store.failed cause.Invariant grown else grown) e in
      let failed : (born class y).failure ≡ Some why = ap (λ (w : PlainStore). w.failure) left ∙ e in
      ap (λ o. unless_failed o wanted) failed ∙ sym (ap (λ o. unless_failed o (asks_answering None)) failed)

  born_asks : Same (born class y) (asked.asks_errand s h (request_with r (machine.Makes None)) (machine.Makes None) (length x.stack) x.objects) (λ w. asks_answering None)
  born_asks = by_failure y.failure refl

  -- by a procedure
  module _ (k : ℕ) (name : List ℕ) (named : slice_get (names_of y) k ≡ Some name) where
    abbrev creates : machine.Request
    creates = request_with r (machine.Makes (Some name))

    abbrev entered_half : Half
    entered_half = enters s (reference_of r.target) (routine_named s class name) (Requested creates) x.stack (values_of us) more

    entered_region : IsRegionOf s entered_half (entered_if (routine_in (version_in y.program class k)) r.target origin.RequestedCreation us grown)
    entered_region = routines_are_entered s more grown r.target k name (Requested creates) us is grown_region named

    born_so : (n : Option ℕ) → IsRegionOf s entered_half (entered_if n r.target origin.RequestedCreation us grown) → IsRegionOf s (settles s (length x.objects + 1) entered_half) (born_by n r y)
    born_so (Some n) e =
        let z = entered r.target n origin.RequestedCreation us grown in
        let program = entered_keeps (λ z. z.program) (λ why y. refl) (λ y fs. refl) r.target n origin.RequestedCreation us grown in
        let objects = entered_keeps (λ z. z.objects) (λ why y. refl) (λ y fs. refl) r.target n origin.RequestedCreation us grown in
        settled_region z entered_half program (whole_same grown z objects program (whole_more class y takeable.whole)) e
    born_so None e =
        let fails = store.failed cause.BadCode grown in
        let r = settled_region fails entered_half refl (whole_more class y takeable.whole) e in
        record {
          objects = ap (objects_in s) (settled_objects (length y.objects + 1) grown) ∙ r.objects;
          frames = r.frames;
          output = settled_output (length y.objects + 1) grown ∙ r.output;
          failure = r.failure;
        }

    created_region : IsRegionOf s (settles s (length x.objects + 1) entered_half) (born_by (routine_in (version_in y.program class k)) r y)
    created_region = born_so (routine_in (version_in y.program class k)) entered_region

    abbrev begun : ℕ → PlainStore
    begun n = entered r.target n origin.RequestedCreation us grown

    begun_program : (n : ℕ) → (begun n).program ≡ y.program
    begun_program n = entered_keeps (λ z. z.program) (λ why y. refl) (λ y fs. refl) r.target n origin.RequestedCreation us grown

    by_settled : (n : ℕ) → IsRegionOf s entered_half (begun n) → (b : Bool) →
        Same (if b then store.failed cause.Invariant (begun n) else begun n) (asked.asks_entering s (routine_named s class name) (values_of us) (length x.stack)) (asks_creation (Some k))
    by_settled n e true = refl
    by_settled n e false =
        entries_ask s (begun n) (subst (IsProgramFor s) (sym (begun_program n)) is) class name (reference_of r.target) (Requested creates) x.stack (values_of us) more e

    by_number : (n : Option ℕ) → IsRegionOf s entered_half (entered_if n r.target origin.RequestedCreation us grown) →
        Same (born_by n r y) (asked.asks_entering s (routine_named s class name) (values_of us) (length x.stack)) (asks_creation (Some k))
    by_number None e = refl
    by_number (Some n) e = by_settled n e (is_settled (length y.objects + 1) (begun n) && at.object_breaks (begun n).program (object_numbered (length y.objects + 1) (begun n).objects))

    created_asks : Same (born_by (routine_in (version_in y.program class k)) r y) (asked.asks_entering s (routine_named s class name) (values_of us) (length x.stack)) (asks_creation (Some k))
    created_asks = by_number (routine_in (version_in y.program class k)) entered_region

  -- ---- requests

  errand_taken : (e : Errand) → IsNamed (names_of y) e → IsRegionOf s (begins s h (taking r (region_steps.errand_in (names_of y) e)) x.stack x) (taken_errand h e r y)
  errand_taken (errand.Calls k) n =
      subst (λ o. IsRegionOf s (begins s h (taking r (option_map machine.Calls o)) x.stack x) (taken_call h r k y)) (sym n.1) (call_taken k n.0 n.1)
  errand_taken (errand.Makes None) n = born_region
  errand_taken (errand.Makes (Some k)) n =
      subst (λ o. IsRegionOf s (begins s h (taking r (option_map (λ x. machine.Makes (Some x)) o)) x.stack x) (taken_creation (Some k) r y)) (sym n.1) (created_region k n.0 n.1)

  -- what the errand asks, where this is what it is for the machine
  abbrev AsksSo : Errand → Option machine.Errand → Type 0
  AsksSo e o = IsRegionOf s (begins s h (taking r o) x.stack x) (taken_errand h e r y) →
      first_want (numbering_by (names_of y)) s h (taking r o) x ≡ unless_failed (taken_errand h e r y).failure (asks_errand h e r y (taken_errand h e r y))

  told_so : (b : Half) (w : PlainStore) (v u : Want) → unless_failed w.failure v ≡ unless_failed w.failure u → IsRegionOf s b w → region_steps.unless_failed b.failure v ≡ unless_failed w.failure u
  told_so b w v u e left_so = ap (λ o. region_steps.unless_failed o v) (sym left_so.failure) ∙ same_unless w.failure v ∙ e

  errand_asks : (e : Errand) → IsNamed (names_of y) e → AsksSo e (region_steps.errand_in (names_of y) e)
  errand_asks (errand.Calls k) n =
      subst (λ o. AsksSo (errand.Calls k) (option_map machine.Calls o)) (sym n.1)
      (told_so _ (taken_call h r k y) _ (asks_call h r k y (taken_call h r k y)) (call_asks k n.0 n.1))
  errand_asks (errand.Makes None) n = told_so _ (born class y) _ (asks_answering None) born_asks
  errand_asks (errand.Makes (Some k)) n =
      subst (λ o. AsksSo (errand.Makes (Some k)) (option_map (λ x. machine.Makes (Some x)) o)) (sym n.1)
      (told_so _ (taken_creation (Some k) r y) _ (asks_creation (Some k) (taken_creation (Some k) r y)) (created_asks k n.0 n.1))

pub requests_are_taken : RequestsAreTaken
requests_are_taken h r y takeable s x is region = errand_taken h r y takeable s x is region r.errand takeable.named

pub taken_requests_ask : TakenRequestsAsk
taken_requests_ask h r y takeable s x is region =
    errand_asks h r y takeable s x is region r.errand takeable.named (errand_taken h r y takeable s x is region r.errand takeable.named)
