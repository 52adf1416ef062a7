-- In no turn of an accepted system does a handler come to fail for a foreign object, a Void target or a missing case.
use Rattle.std.specs.Option.{option_and_then}
use Rattle.std.specs.Prelude.{if◌then◌else◌, is_some, length, nat_lt}
use Rattle.std.proofs.Common.{suc, ⊎_elim, ◌⊎◌, Bool, List, None, Option, Some, [], ap, false, refl, subst, sym, true, ℕ, ◌∙◌, ◌∷◌, ◌≡◌}
use Rattle.std.proofs.lemmas.Bool.{eq-eqb}
use Rattle.sc_tree.specs.Plain as tree
use Rattle.sc_tree.specs.Plain.{DeclaredType, FeatureKind, RoutineDeclaration, System}
use Rattle.sc_class.specs.ClassNames.{Root}
use Rattle.sc_class.specs.Faults.ClassRules.{IsFaultless}
use Rattle.sc_class.specs.Tables.Features.{DeclaredFeature}
use Rattle.sc_class.specs.Tables.Heirs.{HasOrigin}
use Rattle.sc_rules.specs.declared.entity_types.entity_type.EntityType.{EntityType}
use Rattle.sc_rules.specs.Laws.{is_declared}
use Rattle.sc_rules.specs.Names.{RoutineName}
use Rattle.sc_rules.specs.Purity.{IsPurity}
use Rattle.sc_rules.specs.SystemRules.{WellFormed}
use Rattle.sc_rules.specs.Types.{declared_type}
use Rattle.sc_rules.specs.Versions.{Keeps, keeps}
use Rattle.sc_rules.proofs.TypeLaws.{declared}
use Rattle.sc_rules.proofs.Versions.{contracts_are_kept, found_declared}
use Rattle.sc_machine_laws.specs.states.World as rights
use Rattle.sc_machine_laws.specs.states.World.{Wait}
use Rattle.sc_machine_laws.specs.states.Consistent.{HasPassed, IsBegun, IsOrdered}
use Rattle.sc_machine_laws.specs.states.Lawful.{IsLawful}
use Rattle.sc_machine_laws.specs.states.Stands.{AreBlocks, IsOrigin, IsRoutine, IsStack, IsStaged, NamesOf, NeedsOf, Stands, place_of}
use Rattle.sc_machine_laws.proofs.states.links.Exits.{some_request}
use Rattle.sc_model.specs.Answers.{finish}
use Rattle.sc_model.specs.Entries.{enters, enters_bound, entry}
use Rattle.sc_model.specs.Environments.{binding_named, formals_bound, separate_formals}
use Rattle.sc_model.specs.Exits.{is_unset_value}
use Rattle.sc_model.specs.Failures.{fails_with}
use Rattle.sc_model.specs.Handlers.{Awaits, Calls, Frame, InCall, Makes, Origin, Reply, Request, Requested, Reserves, ReservesBlock, Runs, Stage, World, with_stack}
use Rattle.sc_model.specs.Invariants.{meets_invariant}
use Rattle.sc_model.specs.Limits.{max_frames}
use Rattle.sc_model.specs.Objects.{Object, fresh_object, object_numbered}
use Rattle.sc_model.specs.Routines.{Routine, Text, routine_from, routine_named, routine_of, routine_with, version_of}
use Rattle.sc_model.specs.Takes.{replies, takes_creation, takes_errand, takes_kind, takes_version}
use Rattle.sc_model.specs.Values.{Reference, Value}
use Rattle.sc_model.specs.declared.cause.Cause.TheVariants as cause
use Rattle.sc_machine_laws.specs.states.Fitting.{ActualsFit}
use Rattle.sc_machine_laws.specs.states.Places.{called_name, formals_if_any, formals_of_kind, is_routine, of_actuals}
use Rattle.sc_machine_laws.specs.states.Points.{AttributesFit, Each, IsAmong}
use Rattle.sc_machine_laws.specs.states.Values.{EntryBegins}
use Rattle.sc_machine_laws.proofs.states.Attributes.{Attribute, attribute_found}
use Rattle.sc_machine_laws.proofs.states.Calls.{numbered_fits}
use Rattle.sc_machine_laws.proofs.states.EnteredStacks.{named_so, routine_is}
use Rattle.sc_machine_laws.proofs.states.Entry.{entries_fit}
use Rattle.sc_machine_laws.proofs.states.Origins.{origin_is}
use Rattle.sc_machine_laws.proofs.states.Spared.{AllSpared, entry_goes, fails_spared, finish_spared, if_spared, is_in_call, stack_spared, top_calls}

true_false : {A : Type 0} → true ≡ false → A
true_false e = cc

-- ---- under a routine that a request began

no_parts : (C : ℕ → List ℕ → Type 0) (kss : List (List ℕ)) (f : Frame) (N : List ℕ → Type 0) (B : List rights.Frame → Type 0) (gs : List rights.Frame) →
    AreBlocks C kss (IsRoutine f N B) gs → gs ≡ [] → ⊥
no_parts C [] f N B [] is e = is
no_parts C [] f N B (g ∷ gs) is e = cc
no_parts C (ks ∷ kss) f N B [] is e = is
no_parts C (ks ∷ kss) f N B (g ∷ gs) is e = cc

-- what stands for nothing, or waits, is in no call
waits_below : (below : List Frame) (gs : List rights.Frame) → IsStack below gs → (gs ≡ []) ⊎ HasPassed gs → top_calls below ≡ false
waits_below [] gs is p = refl
waits_below (f ∷ below) gs is p = by f.stage refl is
  where
    none_waits : (v : Wait) → None ≡ Some v → ⊥
    none_waits v e = cc

    by : (x : Stage) → f.stage ≡ x → IsStaged x (place_of f below) (AreBlocks (NamesOf f.stage f) f.blocks (IsRoutine f (NeedsOf f.stage f) (IsStack below))) gs →
        is_in_call f.stage ≡ false
    by Runs e i = ap is_in_call e
    by Reserves e i = ap is_in_call e
    by ReservesBlock e i = ap is_in_call e
    by (Awaits k t c) e i = ap is_in_call e
    by (InCall t) e i = absurd (⊎_elim
        (λ n. no_parts (NamesOf f.stage f) f.blocks f (NeedsOf f.stage f) (IsStack below) gs i.1 n)
        (λ (w : HasPassed gs). none_waits w.0 (sym i.0 ∙ w.1))
        p)

under_request : (C : ℕ → List ℕ → Type 0) (kss : List (List ℕ)) (f : Frame) (N : List ℕ → Type 0) (below : List Frame) (q : Request) (gs : List rights.Frame) →
    f.origin ≡ Requested q → IsOrdered gs → AreBlocks C kss (IsRoutine f N (IsStack below)) gs → top_calls below ≡ false
under_request C [] f N below q [] begun ordered is = absurd is
under_request C [] f N below q (g ∷ gs) begun ordered is =
    let o = some_request g.origin q (subst (IsOrigin g.origin) begun is.0) in
    waits_below below gs is.2 (subst (λ x. IsBegun x gs) o.1 ordered.0).1
under_request C (ks ∷ kss) f N below q [] begun ordered is = absurd is
under_request C (ks ∷ kss) f N below q (g ∷ gs) begun ordered is = under_request (λ i. C (suc i)) kss f N below q gs begun ordered.1 is.3

-- below it lies nothing, or a frame that waits
pub requested_below : (t : rights.World) (m : World) → IsLawful t → Stands t m → (h : ℕ) (f : Frame) (below : List Frame) (q : Request) → (m.handlers h).stack ≡ f ∷ below →
    f.stage ≡ Runs → f.origin ≡ Requested q → top_calls below ≡ false
requested_below t m law stands h f below q at runs begun =
    let st = subst (λ x. IsStaged x (place_of f below) (AreBlocks (NamesOf f.stage f) f.blocks (IsRoutine f (NeedsOf f.stage f) (IsStack below))) (t.handlers h).stack) runs
    (subst (λ s. IsStack s (t.handlers h).stack) at (stands.handlers h).stack) in
    under_request (NamesOf f.stage f) f.blocks f (NeedsOf f.stage f) below q (t.handlers h).stack begun (law.consistent.ordered h) st.1

-- ---- entries

module _ (s : System) (root : Root) (pure : RoutineName → Bool) (faultless : IsFaultless s root) (well : WellFormed s) (tells : IsPurity s pure) where
  -- what is found as a routine is one
  has_routine : (k : ℕ) (x : List ℕ) (f : DeclaredFeature) (own : RoutineDeclaration) → version_of s k x ≡ Some f → f.feature.kind ≡ tree.Routine own → is_some (routine_of s f) ≡ true
  has_routine k x f own e is = at (contracts_are_kept s root faultless (declared s pure tells well) k x f e own is)
    where
      of_kinds : (x : List ℕ) (j k : ℕ) (m o : FeatureKind) → Keeps s m o → is_some (routine_with s x j m k o) ≡ true
      of_kinds x j k _ _ (keeps {version = own} {routine = original} a same results) = refl

      at : (h : HasOrigin s k x f) × Keeps s f.feature.kind h.origin.feature.kind → is_some (routine_of s f) ≡ true
      at (h, kept) = subst (λ o. is_some (routine_from s f o) ≡ true) (sym (origin_is s root faultless f ∙ h.is_origin))
          (of_kinds f.feature.name.text f.class h.origin.class f.feature.kind h.origin.feature.kind kept)

  module _ (w : World) (h : ℕ) (me : Reference) (origin : Origin) (under : List Frame) (taken : List Request) (vs : List Value) (all : AllSpared w) where
    entered_spared : (r : Routine) → routine_named s me.class r.name ≡ Some r → ActualsFit s me.handler r.text.formals (of_actuals vs) r.text.formals vs →
        AllSpared (enters_bound h me r origin under taken (formals_bound s r.text.formals 0 r.text.formals vs) w)
    entered_spared r is actuals = of_entry (entries_fit s root pure faultless well tells r me is vs actuals origin (w.handlers h).objects)
      where
        of_entry : EntryBegins s pure r me vs origin (w.handlers h).objects → AllSpared (enters_bound h me r origin under taken (formals_bound s r.text.formals 0 r.text.formals vs) w)
        of_entry z = subst (λ o. AllSpared (enters_bound h me r origin under taken o w)) (sym z.are_bound)
            (if_spared (nat_lt (length under) max_frames) (with_stack h (entry me r origin z.bindings ∷ under) w) (fails_with h cause.StackFull taken w)
            (stack_spared h (entry me r origin z.bindings ∷ under) w (entry_goes (separate_formals z.bindings)) all) (fails_spared h cause.StackFull taken w refl all))

    -- the routine of a feature is entered
    pub feature_spared : (x : List ℕ) (f : DeclaredFeature) (version : RoutineDeclaration) → version_of s me.class x ≡ Some f → f.feature.kind ≡ tree.Routine version →
        ActualsFit s me.handler version.formals (of_actuals vs) version.formals vs → AllSpared (enters s h me (routine_of s f) origin under taken vs w)
    feature_spared x f version e is actuals = by (routine_of s f) refl
      where
        by : (o : Option Routine) → routine_of s f ≡ o → AllSpared (enters s h me o origin under taken vs w)
        by None i = true_false (sym (has_routine me.class x f version e is) ∙ ap is_some i)
        by (Some r) i =
            let q = (routine_is s f version r is i).text_is in
            entered_spared r (named_so s me.class x f version r e is i) (subst (λ ds. ActualsFit s me.handler ds (of_actuals vs) ds vs) (sym (ap (λ (t : Text). t.formals) q)) actuals)

  -- ---- a request is taken

  module _ (w : World) (h : ℕ) (r : Request) (below : List Frame) (all : AllSpared w) (here : r.target.handler ≡ h)
      (known : (x : List ℕ) → called_name r.errand ≡ Some x → is_some (version_of s r.target.class x) ≡ true)
      (routines : (x : List ℕ) (f : DeclaredFeature) → r.errand ≡ Makes (Some x) → version_of s r.target.class x ≡ Some f → is_routine f.feature.kind ≡ true)
      (actuals : ActualsFit s r.target.handler (formals_if_any (option_and_then (version_of s r.target.class) (called_name r.errand))) (of_actuals r.actuals)
      (formals_if_any (option_and_then (version_of s r.target.class) (called_name r.errand))) r.actuals) where
    -- a routine of the name
    routine_spared : (x : List ℕ) (f : DeclaredFeature) (c : RoutineDeclaration) → called_name r.errand ≡ Some x → version_of s r.target.class x ≡ Some f → f.feature.kind ≡ tree.Routine c →
        AllSpared (enters s h r.target (routine_of s f) (Requested r) below (r ∷ []) r.actuals w)
    routine_spared x f c named is kind = feature_spared w h r.target (Requested r) below (r ∷ []) r.actuals all x f c is kind
        (subst (λ ds. ActualsFit s r.target.handler ds (of_actuals r.actuals) ds r.actuals)
        (ap (λ y. formals_if_any (option_and_then (version_of s r.target.class) y)) named ∙ ap formals_if_any is ∙ ap formals_of_kind kind) actuals)

    -- an attribute of the name
    attribute_spared : (x : List ℕ) (f : DeclaredFeature) (d : DeclaredType) (o : Object) → AttributesFit s h o → version_of s o.class x ≡ Some f → f.feature.kind ≡ tree.Attribute d →
        AllSpared (replies h r (declared_type s [] d) (binding_named x o.attributes) w)
    attribute_spared x f d o fits is kind = by (declared_type s [] d) refl
      where
        of_attribute : (t : EntityType) → Attribute s h x t o → AllSpared (replies h r (Some t) (binding_named x o.attributes) w)
        of_attribute t a = subst (λ b. AllSpared (replies h r (Some t) b w)) (sym a.is_there)
            (if_spared (is_unset_value a.binding.value t) (fails_with h cause.UnsetEntity (r ∷ []) w) (finish r (Reply (Some a.binding.value)) w)
            (fails_spared h cause.UnsetEntity (r ∷ []) w refl all) (finish_spared r (Reply (Some a.binding.value)) w all))

        by : (t : Option EntityType) → declared_type s [] d ≡ t → AllSpared (replies h r t (binding_named x o.attributes) w)
        by None e = true_false (sym (subst (λ kind. is_declared s kind ≡ true) kind (found_declared s root faultless (declared s pure tells well) o.class x f is)) ∙ ap is_some e)
        by (Some t) e = of_attribute t (attribute_found s h x d t o f fits is kind e)

    pub called_spared : (x : List ℕ) → r.errand ≡ Calls x → IsAmong (w.handlers h).objects r.target → Each (AttributesFit s h) (w.handlers h).objects →
        AllSpared (takes_errand s h r (Calls x) below w)
    called_spared x e among objects =
        subst (λ b. AllSpared (if b then takes_version s h r x below (object_numbered r.target.number (w.handlers h).objects) (version_of s r.target.class x) w
        else fails_with h cause.ForeignObject (r ∷ []) w)) (sym (eq-eqb r.target.handler h here))
        (subst (λ o. AllSpared (takes_version s h r x below o (version_of s r.target.class x) w)) (sym among.is_there) (by (version_of s r.target.class x) refl))
      where
        of_kind : (f : DeclaredFeature) → version_of s r.target.class x ≡ Some f → (kind : FeatureKind) → f.feature.kind ≡ kind → AllSpared (takes_kind s h r x below among.object f kind w)
        of_kind f i (tree.Attribute d) k = attribute_spared x f d among.object
            (numbered_fits (AttributesFit s h) (w.handlers h).objects r.target.number among.object objects among.is_there)
            (ap (λ k. version_of s k x) among.of_class ∙ i) k
        of_kind f i (tree.Routine c) k = routine_spared x f c (ap called_name e) i k

        by : (f : Option DeclaredFeature) → version_of s r.target.class x ≡ f → AllSpared (takes_version s h r x below (Some among.object) f w)
        by None i = true_false (sym (known x (ap called_name e)) ∙ ap is_some i)
        by (Some f) i = of_kind f i f.feature.kind refl

    pub made_spared : (k : Option (List ℕ)) → r.errand ≡ Makes k → AllSpared (takes_creation s h r k below w)
    made_spared (Some x) e = by (version_of s r.target.class x) refl
      where
        of_kind : (f : DeclaredFeature) → version_of s r.target.class x ≡ Some f → (kind : FeatureKind) → f.feature.kind ≡ kind →
            AllSpared (enters s h r.target (routine_of s f) (Requested r) below (r ∷ []) r.actuals w)
        of_kind f i (tree.Attribute d) k = true_false (sym (routines x f e i) ∙ ap is_routine k)
        of_kind f i (tree.Routine c) k = routine_spared x f c (ap called_name e) i k

        by : (f : Option DeclaredFeature) → version_of s r.target.class x ≡ f → AllSpared (enters s h r.target (option_and_then (routine_of s) f) (Requested r) below (r ∷ []) r.actuals w)
        by None i = true_false (sym (known x (ap called_name e)) ∙ ap is_some i)
        by (Some f) i = of_kind f i f.feature.kind refl
    made_spared None e =
        if_spared (meets_invariant s (fresh_object s r.target.class)) (finish r (Reply None) w) (fails_with h cause.Invariant (r ∷ []) w) (finish_spared r (Reply None) w all)
        (fails_spared h cause.Invariant (r ∷ []) w refl all)
