-- What is assigned gets a value that fits its type.
use Rattle.std.specs.Option.{option_map}
use Rattle.std.specs.Prelude.{◌==◌, if◌then◌else◌, slice_get, slice_set}
use Rattle.std.proofs.Common.{◌-◌, Bool, List, None, Option, Some, [], ap, false, inl, refl, subst, sym, true, ℕ, ◌∙◌, ◌≡◌}
use Rattle.sc_text.specs.declared.token.Span.{Span}
use Rattle.sc_tree.specs.Plain as tree
use Rattle.sc_tree.specs.Plain.{FeatureKind, Name, System, Variable}
use Rattle.sc_tree.specs.Properties.{is_print}
use Rattle.sc_class.specs.Tables.Conformance.{is_expanded}
use Rattle.sc_class.specs.Tables.Features.{DeclaredFeature, feature_named}
use Rattle.sc_class.specs.declared.identity.ClassId.TheVariants as class
use Rattle.sc_rules.specs.entity_types.Conformance.{conforms}
use Rattle.sc_rules.specs.declared.entity_types.entity_type.EntityType.{EntityType}
use Rattle.sc_rules.specs.declared.entity_types.tag.Reserved.{Reserved}
use Rattle.sc_rules.specs.declared.entity_types.tag.Tag.{Tag}
use Rattle.sc_rules.specs.declared.entity_types.tag.Tag.TheVariants as tag
use Rattle.sc_rules.specs.entity_types.Combiners.{combined_result, result_tag}
use Rattle.sc_rules.specs.Names.{RoutineName, assignee, assignee_of_feature, assignee_of_kind, assignee_of_result, assignee_or, assignee_type, current, given_type, is_local, to_attribute, to_local, unassignable}
use Rattle.sc_rules.specs.Types.{declared_type}
use Rattle.sc_rules.specs.Versions.{IsVersion, Version, same_attribute}
use Rattle.sc_model.specs.Environments.{Binding, assigned_to, binding_named, handler_named, known_of, scope_of}
use Rattle.sc_model.specs.Fits.{Fits, FitsOrUnset, Lies, OperandFits}
use Rattle.sc_model.specs.Instructions.{assigns}
use Rattle.sc_model.specs.Moves.{performs_on}
use Rattle.sc_model.specs.Objects.{Object, attributes_in, attributes_of, with_attributes, with_object}
use Rattle.sc_model.specs.Routines.{Routine, Text, place_in, version_of}
use Rattle.sc_model.specs.Steps.{Point}
use Rattle.sc_model.specs.Tasks.{AssignTo}
use Rattle.sc_model.specs.Values.{Attached, Boolean, Integer, Operand, Reference, Value, Void, operand}
use Rattle.sc_machine_laws.specs.states.Places.{no_names}
use Rattle.sc_machine_laws.specs.states.Points as point
use Rattle.sc_machine_laws.specs.states.Points.{AttributesFit, ResultFits, StoreFits, types_of}
use Rattle.sc_machine_laws.specs.states.ValueSteps.{StepFits}
use Rattle.sc_machine_laws.specs.states.Typed.{IsTyped, ScopeStands, at}
use Rattle.sc_machine_laws.proofs.states.Actuals.{plain_result}
use Rattle.sc_machine_laws.proofs.states.Assigned.{declared_assigned, each_assigned, environment_assigned, olds_assigned, scope_assigned}
use Rattle.sc_machine_laws.proofs.states.Attributes.{Attribute, attribute_found}
use Rattle.sc_machine_laws.proofs.states.Calls.{numbered_fits}
use Rattle.sc_machine_laws.proofs.states.Lists.{each_set, same_some, set_there}
use Rattle.sc_machine_laws.proofs.states.Names.{named_alike}
use Rattle.sc_machine_laws.proofs.states.PassedValues.{IsPlain, conforms_fits, fits_without, object_class}
use Rattle.sc_machine_laws.proofs.states.RoutinePoints.{BaseOf, IsRun, TasksTyped, goes, in_text}

-- a value that fits what Current's attribute gives fits its declared type, seen from no_names
own_fits : (s : System) (me k : ℕ) (of : Reserved → Option ℕ) (c g : EntityType) (v : Value) → c.tag ≡ tag.Own → IsPlain g.tag → Fits s me of v (combined_result c g) → Fits s me no_names v g
own_fits s me k of c g v own plain f = by (is_expanded g.class) refl v f
  where
    lies : (h : Tag) → IsPlain h → (j : ℕ) → Lies (result_tag tag.Own h) me of j → Lies h me no_names j
    lies tag.Own p j l = l
    lies tag.Any p j l = tt
    lies (tag.With x) p j l = elim p [ ]
    lies tag.None p j l = l

    by : (b : Bool) → is_expanded g.class ≡ b → (v : Value) →
        Fits s me of v (if b then record { attached = true; tag = tag.Own; class = g.class } else record { attached = g.attached; tag = result_tag c.tag g.tag; class = g.class }) → Fits s me no_names v g
    by true e (Integer z) f = f
    by true e (Boolean b) f = f
    by true e Void f = let x : true ≡ false = f.0 in cc
    by true e (Attached r) f = let x : false ≡ true = sym (object_class s r.class g.class f.0) ∙ e in cc
    by false e (Integer z) f = f
    by false e (Boolean b) f = f
    by false e Void f = f
    by false e (Attached r) f = (f.0, lies g.tag plain r.handler (subst (λ h. Lies (result_tag h g.tag) me of r.handler) own f.1))

-- The object of Current has other attributes, which fit.
pub store_with : (s : System) (me : Reference) (objects : List Object) (bs : List Binding) (store : StoreFits s me objects) → AttributesFit s me.handler (record store.current.object { attributes = bs }) →
    StoreFits s me (with_attributes me.number bs objects)
store_with s me objects bs store f =
    subst (λ q. StoreFits s me (with_object (me.number - 1) bs objects q)) (sym store.current.is_there) (record {
      fit = each_set (AttributesFit s me.handler) objects (me.number - 1) (record store.current.object { attributes = bs }) store.fit f;
      current = record { object = record store.current.object { attributes = bs }; is_there = placed (me.number == 0) store.current.is_there; of_class = store.current.of_class };
    })
  where
    placed : (b : Bool) → (if b then None else slice_get objects (me.number - 1)) ≡ Some store.current.object →
        (if b then None else slice_get (slice_set objects (me.number - 1) (record store.current.object { attributes = bs })) (me.number - 1)) ≡ Some (record store.current.object { attributes = bs })
    placed true e = cc
    placed false e = set_there objects (me.number - 1) store.current.object (record store.current.object { attributes = bs }) e

module _ (s : System) (pure : RoutineName → Bool) (r : Routine) (me : Reference) (run : IsRun s pure r me) (p : Point) (b : BaseOf s r me p) where
  -- a Result
  result_assigned : (q : Span) (v : Value) (w : EntityType) (o : Option (Option EntityType)) → p.text.result ≡ o → p.text ≡ r.text → assignee_type (assignee_of_result o) ≡ Some w →
      Fits s me.handler (handler_named p.environment) v w → TasksTyped s pure r p p.tasks [] →
      StepFits s pure r me (assigns me (tree.ResultVariable q) (assignee_of_result o) v (record p { values = [] }))
  result_assigned q v w None e own is f k = cc
  result_assigned q v w (Some None) e own is f k = cc
  result_assigned q v w (Some (Some t)) e own is f k = goes s pure r me (record p { result = Some (operand v t) })
      (record {
        text_is = b.text_is;
        scope_stands = b.scope_stands;
        names_fit = b.names_fit;
        result_fits = subst (λ o. ResultFits s me.handler o (Some (operand v t))) (sym own_result)
            (point.a_result {u = operand v t} (inl (fits_without s me.handler (handler_named p.environment) v t (run.plain t own_result) (subst (Fits s me.handler (handler_named p.environment) v) (sym (same_some is)) f))));
        olds_fit = b.olds_fit;
        store = b.store;
      }) [] p.tasks [] k tt
    where
      own_result : r.text.result ≡ Some (Some t)
      own_result = ap (λ (t : Text). t.result) (sym own) ∙ e

  -- a local
  local_assigned : (x : Name) (v : Value) (w : EntityType) (y : Binding) → binding_named x.text p.environment ≡ Some y → (c : Bool) → is_local y.role ≡ c →
      assignee_type (if c then to_local (Some y.type) else unassignable) ≡ Some w → Fits s me.handler (handler_named p.environment) v w → TasksTyped s pure r p p.tasks [] →
      StepFits s pure r me (assigns me (tree.Named x) (if c then to_local (Some y.type) else unassignable) v (record p { values = [] }))
  local_assigned x v w y there false local is f k = cc
  local_assigned x v w y there true local is f k = goes s pure r me (record p { environment = assigned_to x.text v p.environment })
      (record {
        text_is = b.text_is;
        scope_stands = subst (ScopeStands r.text.formals) (sym (scope_assigned x.text v p.environment)) b.scope_stands;
        names_fit = environment_assigned s me.handler x.text v p.environment y b.names_fit there local (subst (Fits s me.handler (handler_named p.environment) v) (sym (same_some is)) f);
        result_fits = b.result_fits;
        olds_fit = olds_assigned s me.handler x.text v p.environment y p.olds b.olds_fit there local;
        store = b.store;
      }) [] p.tasks [] (subst (λ n. IsTyped s pure r p.tasks (at p.text n (types_of p.olds) [])) (sym (scope_assigned x.text v p.environment)) k) tt

  -- an attribute of Current
  attribute_assigned : (x : Name) (v : Value) (w : EntityType) (f : DeclaredFeature) → feature_named s (class.Declared p.text.class) x.text ≡ Some f → (kind : FeatureKind) → f.feature.kind ≡ kind →
      assignee_type (assignee_of_kind (place_in s p.text) kind) ≡ Some w → Fits s me.handler (handler_named p.environment) v w → TasksTyped s pure r p p.tasks [] →
      StepFits s pure r me (assigns me (tree.Named x) (assignee_of_kind (place_in s p.text) kind) v (record p { values = [] }))
  attribute_assigned x v w f there (tree.Routine c) kind is fit k = cc
  attribute_assigned x v w f there (tree.Attribute d) kind is fit k = of_declared (declared_type s [] d) refl is
    where
      V : Version s me.class x.text (tree.Attribute d)
      V = subst (Version s me.class x.text) kind (run.heirs me.class p.text.class x.text f (in_text s pure r me run p.text b.text_is).heir there)

      version_kind : {m : FeatureKind} → IsVersion s m (tree.Attribute d) → m ≡ tree.Attribute d
      version_kind same_attribute = refl

      of_declared : (o : Option EntityType) → declared_type s [] d ≡ o → option_map (combined_result (current (place_in s p.text))) o ≡ Some w →
          StepFits s pure r me (assigns me (tree.Named x) (to_attribute (given_type s (current (place_in s p.text)) d)) v (record p { values = [] }))
      of_declared None i e = cc
      of_declared (Some g) i e = goes s pure r me (record p { objects = with_attributes me.number (assigned_to x.text v (attributes_of me.number p.objects)) p.objects })
          (record {
            text_is = b.text_is;
            scope_stands = b.scope_stands;
            names_fit = b.names_fit;
            result_fits = b.result_fits;
            olds_fit = b.olds_fit;
            store = subst (λ q. StoreFits s me (with_attributes me.number (assigned_to x.text v (attributes_in q)) p.objects)) (sym b.store.current.is_there)
                (store_with s me p.objects (assigned_to x.text v b.store.current.object.attributes) b.store object_fits);
          }) [] p.tasks [] k tt
        where
          q : combined_result (current (place_in s p.text)) g ≡ w
          q = same_some e

          own : Fits s me.handler no_names v g
          own = own_fits s me.handler me.handler (handler_named p.environment) (current (place_in s p.text)) g v refl (plain_result s d g i) (subst (Fits s me.handler (handler_named p.environment) v) (sym q) fit)

          current_fits : AttributesFit s me.handler b.store.current.object
          current_fits = numbered_fits (AttributesFit s me.handler) p.objects me.number b.store.current.object b.store.fit b.store.current.is_there

          found_there : Attribute s me.handler x.text g b.store.current.object
          found_there = attribute_found s me.handler x.text d g b.store.current.object V.feature current_fits (ap (λ k. version_of s k x.text) b.store.current.of_class ∙ V.is_there) (version_kind V.fits) i

          object_fits : AttributesFit s me.handler (record b.store.current.object { attributes = assigned_to x.text v b.store.current.object.attributes })
          object_fits = record {
            is_of_class = current_fits.is_of_class;
            has_attributes = declared_assigned x.text v known_of (λ b. refl) b.store.current.object.attributes ∙ current_fits.has_attributes;
            fit = each_assigned x.text v (λ (b : Binding). FitsOrUnset s me.handler no_names b.value b.type) b.store.current.object.attributes current_fits.fit
                (λ c e f. inl (subst (Fits s me.handler no_names v) (sym (ap (λ (b : Binding). b.type) (same_some (sym e ∙ found_there.is_there)) ∙ found_there.type_is)) own));
          }

  -- What is assigned gets a value that fits its type.
  pub assign_step : (a : Variable) (u : Operand) (w : EntityType) → p.text ≡ r.text → assignee_type (assignee (place_in s p.text) (scope_of p.environment) a) ≡ Some w → conforms s u.type w ≡ true →
      TasksTyped s pure r p p.tasks [] → OperandFits s me.handler p.environment u → StepFits s pure r me (performs_on s me (AssignTo a) u (record p { values = [] }))
  assign_step (tree.ResultVariable q) u w own is c k f =
      result_assigned q u.value w p.text.result refl own is (conforms_fits s me.handler (handler_named p.environment) u.value u.type w c f) k
  assign_step (tree.Named x) u w own is c k f = by (binding_named x.text p.environment) refl
      (ap (assignee_or (place_in s p.text) x.text) (named_alike x.text p.environment)) is
    where
      fit : Fits s me.handler (handler_named p.environment) u.value w
      fit = conforms_fits s me.handler (handler_named p.environment) u.value u.type w c f

      of_feature : (o : Option DeclaredFeature) → feature_named s (class.Declared p.text.class) x.text ≡ o → assignee_type (assignee_of_feature (place_in s p.text) o) ≡ Some w →
          StepFits s pure r me (assigns me (tree.Named x) (assignee_of_feature (place_in s p.text) o) u.value (record p { values = [] }))
      of_feature None e is = cc
      of_feature (Some f) e is = attribute_assigned x u.value w f e f.feature.kind refl is fit k

      of_print : (b : Bool) → assignee_type (if b then unassignable else assignee_of_feature (place_in s p.text) (feature_named s (class.Declared p.text.class) x.text)) ≡ Some w →
          StepFits s pure r me (assigns me (tree.Named x) (if b then unassignable else assignee_of_feature (place_in s p.text) (feature_named s (class.Declared p.text.class) x.text)) u.value (record p { values = [] }))
      of_print true is = cc
      of_print false is = of_feature (feature_named s (class.Declared p.text.class) x.text) refl is

      by : (o : Option Binding) → binding_named x.text p.environment ≡ o →
          assignee (place_in s p.text) (scope_of p.environment) (tree.Named x) ≡ assignee_or (place_in s p.text) x.text (option_map known_of (binding_named x.text p.environment)) →
          assignee_type (assignee (place_in s p.text) (scope_of p.environment) (tree.Named x)) ≡ Some w →
          StepFits s pure r me (assigns me (tree.Named x) (assignee (place_in s p.text) (scope_of p.environment) (tree.Named x)) u.value (record p { values = [] }))
      by None e a is =
          let z = a ∙ ap (λ o. assignee_or (place_in s p.text) x.text (option_map known_of o)) e in
          subst (λ a. StepFits s pure r me (assigns me (tree.Named x) a u.value (record p { values = [] }))) (sym z) (of_print (is_print x.text) (subst (λ a. assignee_type a ≡ Some w) z is))
      by (Some y) e a is =
          let z = a ∙ ap (λ o. assignee_or (place_in s p.text) x.text (option_map known_of o)) e in
          subst (λ a. StepFits s pure r me (assigns me (tree.Named x) a u.value (record p { values = [] }))) (sym z) (local_assigned x u.value w y e (is_local y.role) refl (subst (λ a. assignee_type a ≡ Some w) z is) fit k)
