-- Calls: on an object of the current handler, whatever its type says, and on one of another.
use Rattle.std.specs.Prelude.{◌==◌, if◌then◌else◌, length, slice_get}
use Rattle.std.proofs.Common.{◌++◌, ◌-◌, Bool, List, None, Option, Some, [], ap, arith, false, inl, inr, refl, subst, sym, true, ℕ, ◌∙◌, ◌∷◌, ◌≡◌}
use Rattle.std.proofs.lemmas.Bool.{eqb-true}
use Rattle.sc_tree.specs.Plain as tree
use Rattle.sc_tree.specs.Plain.{DeclaredType, FeatureKind, System}
use Rattle.sc_class.specs.Tables.Conformance.{class_conforms, is_expanded}
use Rattle.sc_class.specs.Tables.Features.{DeclaredFeature, feature_named}
use Rattle.sc_class.specs.declared.identity.ClassId.{ClassId}
use Rattle.sc_class.specs.declared.identity.ClassId.TheVariants as class
use Rattle.sc_rules.specs.declared.entity_types.entity_type.EntityType.{EntityType}
use Rattle.sc_rules.specs.declared.entity_types.tag.Tag.{Tag}
use Rattle.sc_rules.specs.declared.entity_types.tag.Tag.TheVariants as tag
use Rattle.sc_rules.specs.Names.{RoutineName, current, signature_of}
use Rattle.sc_rules.specs.Types.{is_controlled, is_controlled_tag}
use Rattle.sc_rules.specs.Typing.{takes}
use Rattle.sc_rules.specs.Versions.{Version}
use Rattle.sc_rules.proofs.Typings.{named_declared}
use Rattle.sc_model.specs.Calls.{calls_kind, calls_object, calls_on, calls_own, calls_qualified, calls_unqualified, calls_version, enters_unqualified, given_by, passes_rights, requests}
use Rattle.sc_model.specs.Environments.{binding_named, handler_named}
use Rattle.sc_model.specs.Fits.{Fits, FitsOrUnset, Lies, OperandFits}
use Rattle.sc_model.specs.Objects.{Object, object_numbered}
use Rattle.sc_model.specs.Routines.{Routine, place_in, version_of}
use Rattle.sc_model.specs.Steps.{Point, gives, popped, reads_attribute}
use Rattle.sc_model.specs.Values.{Attached, Boolean, Integer, Operand, Reference, Value, Void}
use Rattle.sc_machine_laws.specs.states.Places.{is_routine, no_names}
use Rattle.sc_machine_laws.specs.states.Points.{AttributesFit, Each, IsAmong, listed, types_of}
use Rattle.sc_machine_laws.specs.states.ValueSteps.{CallFits, GivesFit, IsThereIfOwn, KindFits, OperandsDo, StepFits, an_attribute}
use Rattle.sc_machine_laws.specs.states.Typed.{Leaves, Takes, a_value, names_formal, nothing, stacked}
use Rattle.sc_machine_laws.proofs.states.Applications.{first_of_types}
use Rattle.sc_machine_laws.proofs.states.Attributes.{Attribute, attribute_found}
use Rattle.sc_machine_laws.proofs.states.Lists.{both, each_at, no_both}
use Rattle.sc_machine_laws.proofs.states.ValueNamed.{handler_is_named}
use Rattle.sc_machine_laws.proofs.states.Stacks.{Popped, popped_by}
use Rattle.sc_machine_laws.proofs.states.RoutinePoints.{AllFit, BaseOf, IsRun, TasksTyped, goes, in_text, reads_fit}
use Rattle.sc_machine_laws.proofs.states.Versions.{kind_fits, routine_version}

pub numbered_fits : (P : Object → Type 0) (objects : List Object) (i : ℕ) (o : Object) → Each P objects → object_numbered i objects ≡ Some o → P o
numbered_fits P objects i o f = by (i == 0)
  where
    by : (b : Bool) → (if b then None else slice_get objects (i - 1)) ≡ Some o → P o
    by true e = cc
    by false e = each_at P objects (i - 1) o f e

pub leaves_given : (o : Option (Option EntityType)) (ts us : List EntityType) → Leaves o ts us → (gives : Option EntityType) × (given_by o ≡ Some gives)
leaves_given None ts us l = (None, refl)
leaves_given (Some (Some t)) ts us l = (Some t, refl)
leaves_given (Some None) ts us l = elim l [ ]

not_detachable : (a : EntityType) → is_controlled a ≡ true → a.attached ≡ false → ⊥
not_detachable a c e = no_both a.attached (both a.attached (is_controlled_tag a.tag) c).0 e

no_feature : (s : System) (c : ClassId) (x : List ℕ) (f : DeclaredFeature) → is_expanded c ≡ true → feature_named s c x ≡ Some f → ⊥
no_feature s class.Integer x f e g = cc
no_feature s class.Boolean x f e g = cc
no_feature s class.Any x f e g = cc
no_feature s class.None x f e g = cc
no_feature s (class.Declared k) x f e g = cc

integer_expanded : (s : System) (c : ClassId) → class_conforms s class.Integer c ≡ true → is_expanded c ≡ true
integer_expanded s class.Integer e = refl
integer_expanded s class.Boolean e = cc
integer_expanded s class.Any e = cc
integer_expanded s class.None e = cc
integer_expanded s (class.Declared k) e = cc

boolean_expanded : (s : System) (c : ClassId) → class_conforms s class.Boolean c ≡ true → is_expanded c ≡ true
boolean_expanded s class.Integer e = cc
boolean_expanded s class.Boolean e = refl
boolean_expanded s class.Any e = cc
boolean_expanded s class.None e = cc
boolean_expanded s (class.Declared k) e = cc

other_handler : (j k : ℕ) → (j == k) ≡ false → j ≡ k → ⊥
other_handler j k e d = grind arith

module _ (s : System) (pure : RoutineName → Bool) (r : Routine) (me : Reference) (run : IsRun s pure r me) where
  -- the object's class conforms to a declared one, which has the feature: so the object has a version of it
  pub has_version : (k : ℕ) (c : ClassId) (x : List ℕ) (f : DeclaredFeature) → class_conforms s (class.Declared k) c ≡ true → feature_named s c x ≡ Some f → Version s k x f.feature.kind
  has_version k (class.Declared j) x f e g = run.heirs k j x f e g
  has_version k class.Any x f e g = cc
  has_version k class.None x f e g = cc
  has_version k class.Integer x f e g = cc
  has_version k class.Boolean x f e g = cc

  module _ (p : Point) (b : BaseOf s r me p) where
    -- after the call, whatever value it gives, what is left is typed
    pub next : {ts us : List EntityType} {o : Option (Option EntityType)} (gives : Option EntityType) (below : List Operand) → Leaves o ts us → given_by o ≡ Some gives →
        TasksTyped s pure r p p.tasks us → types_of below ≡ ts → TasksTyped s pure r p p.tasks (listed gives ++ types_of below)
    next None below nothing e k h = subst (TasksTyped s pure r p p.tasks) (sym h) k
    next (Some t) below nothing e k h = cc
    next None below a_value e k h = cc
    next (Some t) below (a_value {t = u}) e k h =
        let q : u ≡ t = cc in
        subst (λ t. TasksTyped s pure r p p.tasks (t ∷ types_of below)) q (subst (λ ts. TasksTyped s pure r p p.tasks (u ∷ ts)) (sym h) k)

    -- an attribute of an object of the current handler is read
    pub attribute_read : (o : Object) (x : List ℕ) (v : DeclaredFeature) (d : DeclaredType) (t : EntityType) (below : List Operand) → AttributesFit s me.handler o →
        version_of s o.class x ≡ Some v → v.feature.kind ≡ tree.Attribute d → GivesFit s me.handler (handler_named p.environment) me.handler (Some d) (Some t) →
        TasksTyped s pure r p p.tasks (t ∷ types_of below) → AllFit s me p below → StepFits s pure r me (reads_attribute (binding_named x o.attributes) t (record p { values = below }))
    attribute_read o x v d t below fits version kind gives k fs =
        let a : Attribute s me.handler x gives.0 o = attribute_found s me.handler x d gives.0 o v fits version kind gives.1 in
        subst (λ c. StepFits s pure r me (reads_attribute c t (record p { values = below }))) (sym a.is_there)
        (reads_fit s pure r me (record p { values = below }) b a.binding.value t (fits_or_unset a.binding.value a.fits) k fs)
      where
        fits_or_unset : (v : Value) → FitsOrUnset s me.handler no_names v gives.0 → FitsOrUnset s me.handler (handler_named p.environment) v t
        fits_or_unset v (inl f) = inl (gives.3 v f)
        fits_or_unset v (inr u) = inr (u.0, gives.2 u.1)

    -- an own object is entered, or its attribute read
    version_step : (o : Reference) (x : List ℕ) (us below : List Operand) (gives : Option EntityType) (v : DeclaredFeature) (kind : FeatureKind) → v.feature.kind ≡ kind →
        o.handler ≡ me.handler → (z : IsAmong p.objects o) → version_of s o.class x ≡ Some v → KindFits s me.handler (handler_named p.environment) o.handler us gives kind →
        TasksTyped s pure r p p.tasks (listed gives ++ types_of below) → AllFit s me p below →
        StepFits s pure r me (calls_kind o x us gives z.object kind (record p { values = below }))
    version_step o x us below None v (tree.Attribute d) i own z version (an_attribute e g) k fs = absurd g
    version_step o x us below (Some t) v (tree.Attribute d) i own z version (an_attribute e g) k fs =
        attribute_read z.object x v d t below (numbered_fits (AttributesFit s me.handler) p.objects o.number z.object b.store.fit z.is_there)
        (ap (λ k. version_of s k x) z.of_class ∙ version) i (subst (λ k. GivesFit s me.handler (handler_named p.environment) k (Some d) (Some t)) own g) k fs
    version_step o x us below gives v (tree.Routine c) i own z version f k fs = (
      own,
      z,
      (record { version = v; is_version = version; fits = subst (KindFits s me.handler (handler_named p.environment) o.handler us gives) (sym i) f }, ap is_routine i),
      goes s pure r me p b (listed gives) p.tasks below k fs,
    )

    -- a request of an object of another handler: its target isn't typed as of the current one
    request_step : (o : Reference) (g : Tag) (x : List ℕ) (us below : List Operand) (gives : Option EntityType) (passes : Bool) → is_controlled_tag g ≡ true → names_formal r.text.formals g ≡ true →
        Lies g me.handler (handler_named p.environment) o.handler → (o.handler ≡ me.handler → ⊥) → CallFits s me.handler (handler_named p.environment) o x us gives →
        TasksTyped s pure r p p.tasks (listed gives ++ types_of below) → AllFit s me p below → StepFits s pure r me (requests o g x us gives passes (record p { values = below }))
    request_step o tag.Own x us below gives passes c named l other f k fs = absurd (other l)
    request_step o (tag.With y) x us below gives passes c named l other f k fs = (
      f,
      goes s pure r me p b (listed gives) p.tasks below k fs,
      handler_is_named s me.handler r.text.formals p.environment b.names_fit b.scope_stands y named o.handler l,
    )
    request_step o tag.Any x us below gives passes c named l other f k fs = cc
    request_step o tag.None x us below gives passes c named l other f k fs = cc

    module _ (x : List ℕ) (as' ts ws : List EntityType) (a : EntityType) (f : DeclaredFeature) (controlled : is_controlled a ≡ true) (named : names_formal r.text.formals a.tag ≡ true) (is_feature : feature_named s a.class x ≡ Some f)
        (takes : Takes s as' (signature_of s a f)) (leaves : Leaves (signature_of s a f).gives ts ws) (rest : TasksTyped s pure r p p.tasks ws) (us below : List Operand)
        (us_types : types_of us ≡ as') (below_types : types_of below ≡ ts) (us_fit : AllFit s me p us) (below_fit : AllFit s me p below) where
      object_step : (o : Reference) → Fits s me.handler (handler_named p.environment) (Attached o) a → IsThereIfOwn me.handler p.objects (Attached o) → (gives : Option EntityType) →
          given_by (signature_of s a f).gives ≡ Some gives → StepFits s pure r me (calls_object s me o a x us (signature_of s a f) (Some gives) (record p { values = below }))
      object_step o fit there gives given = by (o.handler == me.handler) refl
        where
          V : Version s o.class x f.feature.kind
          V = has_version o.class a.class x f fit.0 is_feature

          K : KindFits s me.handler (handler_named p.environment) o.handler us gives V.feature.feature.kind
          K = kind_fits s me.handler o.handler (handler_named p.environment) a fit.1 f V.feature.feature.kind f.feature.kind as' us gives V.fits
              (named_declared s run.declared a.class x f is_feature) takes us_types given us_fit

          W : TasksTyped s pure r p p.tasks (listed gives ++ types_of below)
          W = next gives below leaves given rest below_types

          on_own : (own : o.handler ≡ me.handler) → IsAmong p.objects o →
              StepFits s pure r me (calls_version o x us gives (object_numbered o.number p.objects) (version_of s o.class x) (record p { values = below }))
          on_own own z =
              subst (λ q. StepFits s pure r me (calls_version o x us gives q (version_of s o.class x) (record p { values = below }))) (sym z.is_there)
              (subst (λ q. StepFits s pure r me (calls_version o x us gives (Some z.object) q (record p { values = below }))) (sym V.is_there)
              (version_step o x us below gives V.feature V.feature.feature.kind refl own z V.is_there K W below_fit))

          by : (b : Bool) → (o.handler == me.handler) ≡ b →
              StepFits s pure r me (if b then calls_version o x us gives (object_numbered o.number p.objects) (version_of s o.class x) (record p { values = below })
              else requests o a.tag x us gives (passes_rights (signature_of s a f).formals us) (record p { values = below }))
          by true e = let own = eqb-true o.handler me.handler e in on_own own (there o refl own)
          by false e = request_step o a.tag x us below gives (passes_rights (signature_of s a f).formals us) (both a.attached (is_controlled_tag a.tag) controlled).1 named fit.1
              (other_handler o.handler me.handler e) (record { version = V.feature; is_version = V.is_there; fits = K }) W below_fit

      -- A call on a value of this type: no foreign object, no Void, and no case is missing.
      on_value : (v : Value) → Fits s me.handler (handler_named p.environment) v a → IsThereIfOwn me.handler p.objects v →
          StepFits s pure r me (calls_on s me x v a (feature_named s a.class x) us (record p { values = below }))
      on_value v fit there = subst (λ o. StepFits s pure r me (calls_on s me x v a o us (record p { values = below }))) (sym is_feature) (by v fit there)
        where
          of_object : (o : Reference) → Fits s me.handler (handler_named p.environment) (Attached o) a → IsThereIfOwn me.handler p.objects (Attached o) →
              (gives : Option EntityType) × (given_by (signature_of s a f).gives ≡ Some gives) →
              StepFits s pure r me (calls_object s me o a x us (signature_of s a f) (given_by (signature_of s a f).gives) (record p { values = below }))
          of_object o fit there (gives, e) =
              subst (λ g. StepFits s pure r me (calls_object s me o a x us (signature_of s a f) g (record p { values = below }))) (sym e) (object_step o fit there gives e)

          by : (v : Value) → Fits s me.handler (handler_named p.environment) v a → IsThereIfOwn me.handler p.objects v →
              StepFits s pure r me (calls_on s me x v a (Some f) us (record p { values = below }))
          by (Integer z) fit there = absurd (no_feature s a.class x f (integer_expanded s a.class fit) is_feature)
          by (Boolean z) fit there = absurd (no_feature s a.class x f (boolean_expanded s a.class fit) is_feature)
          by Void fit there = absurd (not_detachable a controlled fit.0)
          by (Attached o) fit there = of_object o fit there (leaves_given (signature_of s a f).gives ts ws leaves)

    -- the operand fits, and where it is an object of this handler it is there
    abbrev pub IsGood : Operand → Type 0
    IsGood u = OperandFits s me.handler p.environment u × IsThereIfOwn me.handler p.objects u.value

    good_fit : (us : List Operand) → Each IsGood us → AllFit s me p us
    good_fit [] e = tt
    good_fit (u ∷ us) e = (e.0.0, good_fit us e.1)

    pub all_good : (us : List Operand) → AllFit s me p us → OperandsDo (IsThereIfOwn me.handler p.objects) us → Each IsGood us
    all_good [] e f = tt
    all_good (u ∷ us) e f = ((e.0, f.0), all_good us e.1 f.1)

    -- A call on a target takes a step that fits: a routine of an own object is entered, or its attribute read, or a request is made, with actuals that fit.
    pub qualified_step : (x : List ℕ) (i : ℕ) (as' us ws : List EntityType) (a : EntityType) (f : DeclaredFeature) → is_controlled a ≡ true → names_formal r.text.formals a.tag ≡ true → feature_named s a.class x ≡ Some f →
        Takes s as' (signature_of s a f) → i ≡ length as' → types_of p.values ≡ stacked as' (a ∷ us) → Leaves (signature_of s a f).gives us ws → TasksTyped s pure r p p.tasks ws →
        Each IsGood p.values → StepFits s pure r me (calls_qualified s me x (popped i [] p.values) p)
    qualified_step x i as' us ws a f c named g takes m q leaves k good = of_popped (popped_by IsGood as' (a ∷ us) i p.values m q)
      where
        of_first : (z : Popped IsGood as' (a ∷ us) i p.values) → (u : Operand) × (vs : List Operand) × (z.below ≡ u ∷ vs) × (u.type ≡ a) × (types_of vs ≡ us) →
            StepFits s pure r me (calls_qualified s me x (popped i [] p.values) p)
        of_first z (u, vs, e, t, j) =
            let h = z.each good in
            let below : Each IsGood (u ∷ vs) = subst (Each IsGood) e h.1 in
            subst (λ o. StepFits s pure r me (calls_qualified s me x o p)) (sym z.popped_is)
            (subst (λ vs. StepFits s pure r me (calls_qualified s me x (Some (z.actuals, vs)) p)) (sym e)
            (on_value x as' us ws u.type f (subst (λ a. is_controlled a ≡ true) (sym t) c) (subst (λ (a : EntityType). names_formal r.text.formals a.tag ≡ true) (sym t) named) (subst (λ (a : EntityType). feature_named s a.class x ≡ Some f) (sym t) g)
            (subst (λ a. Takes s as' (signature_of s a f)) (sym t) takes) (subst (λ a. Leaves (signature_of s a f).gives us ws) (sym t) leaves) k z.actuals vs z.actual_types j
            (good_fit z.actuals h.0) (good_fit vs below.1) u.value below.0.0 below.0.1))

        of_popped : Popped IsGood as' (a ∷ us) i p.values → StepFits s pure r me (calls_qualified s me x (popped i [] p.values) p)
        of_popped z = of_first z (first_of_types a us z.below z.below_types)

    -- A routine of Current is entered, in the version of its class, with actuals that fit.
    pub unqualified_step : (x : List ℕ) (i : ℕ) (as' us ws : List EntityType) (f : DeclaredFeature) → feature_named s (class.Declared p.text.class) x ≡ Some f → is_routine f.feature.kind ≡ true →
        Takes s as' (signature_of s (current (place_in s p.text)) f) → i ≡ length as' → types_of p.values ≡ stacked as' us → Leaves (signature_of s (current (place_in s p.text)) f).gives us ws →
        TasksTyped s pure r p p.tasks ws → AllFit s me p p.values → StepFits s pure r me (calls_unqualified s me x (popped i [] p.values) p)
    unqualified_step x i as' us ws f g is_one takes m q leaves k fs = of_popped (popped_by (OperandFits s me.handler p.environment) as' us i p.values m q)
      where
        V : Version s me.class x f.feature.kind
        V = run.heirs me.class p.text.class x f (in_text s pure r me run p.text b.text_is).heir g

        entered : (z : Popped (OperandFits s me.handler p.environment) as' us i p.values) →
            (gives : Option EntityType) × (given_by (signature_of s (current (place_in s p.text)) f).gives ≡ Some gives) →
            StepFits s pure r me (calls_own s me x (Some f) z.actuals (record p { values = z.below }))
        entered z (gives, e) =
            let h = z.each fs in
            subst (λ o. StepFits s pure r me (enters_unqualified me x z.actuals o (record p { values = z.below }))) (sym e) (
              refl,
              b.store.current,
              (
                record {
                  version = V.feature;
                  is_version = V.is_there;
                  fits = kind_fits s me.handler me.handler (handler_named p.environment) (current (place_in s p.text)) refl f V.feature.feature.kind f.feature.kind as' z.actuals gives V.fits
                      (named_declared s run.declared (class.Declared p.text.class) x f g) takes z.actual_types e h.0;
                },
                routine_version V.fits is_one,
              ),
              goes s pure r me p b (listed gives) p.tasks z.below (next gives z.below leaves e k z.below_types) h.1,
            )

        of_popped : Popped (OperandFits s me.handler p.environment) as' us i p.values → StepFits s pure r me (calls_unqualified s me x (popped i [] p.values) p)
        of_popped z =
            subst (λ o. StepFits s pure r me (calls_unqualified s me x o p)) (sym z.popped_is)
            (subst (λ o. StepFits s pure r me (calls_own s me x o z.actuals (record p { values = z.below }))) (sym g)
            (entered z (leaves_given (signature_of s (current (place_in s p.text)) f).gives us ws leaves)))
