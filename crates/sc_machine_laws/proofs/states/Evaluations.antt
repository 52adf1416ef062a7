-- Evaluation of expressions that stand in no condition.
use Rattle.std.specs.Option.{option_map}
use Rattle.std.specs.Prelude.{if◌then◌else◌, length, slice_get}
use Rattle.std.proofs.Common.{◌+◌, ◌++◌, Bool, List, None, Option, Some, [], ap, append_assoc, arith, false, inl, inr, refl, subst, sym, true, ℕ, ◌∙◌, ◌∷◌, ◌≡◌}
use Rattle.std.proofs.lemmas.Option.{slice_get-map}
use Rattle.sc_tree.specs.Plain as tree
use Rattle.sc_tree.specs.Plain.{DeclaredType, Expr, Exprs, FeatureKind, System}
use Rattle.sc_tree.specs.declared.expression.BinaryOperator.{BinaryOperator}
use Rattle.sc_tree.specs.declared.expression.UnaryOperator.TheVariants as unary
use Rattle.sc_tree.specs.Properties.{is_print}
use Rattle.sc_class.specs.Tables.Conformance.{is_expanded}
use Rattle.sc_class.specs.Tables.Features.{DeclaredFeature, feature_named}
use Rattle.sc_class.specs.declared.identity.ClassId.TheVariants as class
use Rattle.sc_rules.specs.entity_types.Conformance.{boolean, conforms, integer, void}
use Rattle.sc_rules.specs.declared.entity_types.entity_type.EntityType.{EntityType}
use Rattle.sc_rules.specs.CallRules.{count}
use Rattle.sc_rules.specs.Laws.{are_typed, is_declared}
use Rattle.sc_rules.specs.Names.{Entities, RoutineName, Signature, current, entity_or, given_type, meaning_of, meaning_of_feature, named, print_signature, signature_of, signature_of_kind, unqualified_meaning}
use Rattle.sc_rules.specs.Positions.{is_condition, operand_position, shares_names}
use Rattle.sc_rules.specs.Types.{binary_result, is_controlled, unary_result}
use Rattle.sc_rules.specs.Typing as typing
use Rattle.sc_rules.specs.Typing.{HasType, HasTypes, Typing, formals_take, may_target, types, typing}
use Rattle.sc_rules.specs.Versions.{IsVersion, Version}
use Rattle.sc_rules.specs.declared.position.Context.{Context}
use Rattle.sc_rules.specs.declared.position.Context.TheVariants as context
use Rattle.sc_rules.specs.declared.position.Position.{Position}
use Rattle.sc_rules.specs.declared.position.Position.TheVariants.{Condition, Plain, Source}
use Rattle.sc_rules.proofs.OldOperands.{operand_of_old}
use Rattle.sc_rules.proofs.TypeLaws.{one_type}
use Rattle.sc_rules.proofs.Typings.{named_declared}
use Rattle.sc_model.specs.Calls.{given_by}
use Rattle.sc_model.specs.Environments.{Binding, binding_named, handler_named, known_of, scope_of}
use Rattle.sc_model.specs.Expressions.{begins_feature, begins_kind, begins_name, evaluate, gives_found, reads_own, reads_result}
use Rattle.sc_model.specs.Fits.{Fits, FitsOrUnset, OperandFits}
use Rattle.sc_model.specs.Objects.{attributes_in, attributes_of}
use Rattle.sc_model.specs.Olds.{olds_in, olds_of, olds_of_each}
use Rattle.sc_model.specs.Routines.{Routine, place_in, version_of}
use Rattle.sc_model.specs.Steps.{Point, fails, gives, reads, reads_as, reads_attribute}
use Rattle.sc_model.specs.Tasks.{ApplyUnary, CallQualified, CallUnqualified, Eval, EvalRight, Task, evals}
use Rattle.sc_model.specs.Values.{Attached, Boolean, Integer, Operand, Reference, Value, Void}
use Rattle.sc_model.specs.declared.cause.Cause.TheVariants as cause
use Rattle.sc_machine_laws.specs.states.Places.{is_routine, no_names}
use Rattle.sc_machine_laws.specs.states.Points as point
use Rattle.sc_machine_laws.specs.states.Points.{AttributesFit, ResultFits, types_of}
use Rattle.sc_machine_laws.specs.states.ValueSteps.{KindFits, StandsSo, StepFits, an_attribute}
use Rattle.sc_machine_laws.specs.states.Typed as typed
use Rattle.sc_machine_laws.specs.states.Typed.{AreKept, Leaves, OldsKept, Takes, a_value}
use Rattle.sc_machine_laws.proofs.states.Applications.{plain_operand}
use Rattle.sc_machine_laws.proofs.states.Attributes.{found_each}
use Rattle.sc_machine_laws.proofs.states.Calls.{attribute_read, numbered_fits}
use Rattle.sc_machine_laws.proofs.states.Environments.{EntityFits, all_fit, olds_now}
use Rattle.sc_machine_laws.proofs.states.Lists.{each_at, same_some}
use Rattle.sc_machine_laws.proofs.states.Names.{ActualsTyped, FeatureMeant, actuals_typed, all_typed, binary_there, feature_meant, named_alike, same_meaning, take_of, type_there, typed_so, unary_there}
use Rattle.sc_machine_laws.proofs.states.Olds.{kept_back, kept_front}
use Rattle.sc_machine_laws.proofs.states.PassedValues.{conforms_fits, fits_more, no_names_known}
use Rattle.sc_machine_laws.proofs.states.Scopes.{expression_names}
use Rattle.sc_machine_laws.proofs.states.RoutinePoints.{AllFit, BaseOf, IsRun, TasksTyped, found, goes, in_text, reads_fit, text_results}
use Rattle.sc_machine_laws.proofs.states.Versions.{kind_fits}

not_joined : (q : Position) (op : BinaryOperator) → is_condition q ≡ false → shares_names q op ≡ true → ⊥
not_joined Plain op e f = cc
not_joined Source op e f = cc
not_joined Condition op e f = cc

-- the Result of a function is there
record ResultThere (s : System) (h : ℕ) (q : Option Operand) (g : EntityType) : Type 0 where
  pub operand : Operand
  pub is_there : q ≡ Some operand
  pub type_is : operand.type ≡ g
  pub fits : FitsOrUnset s h no_names operand.value operand.type

result_there : {s : System} {h : ℕ} {o : Option (Option EntityType)} {q : Option Operand} (g : EntityType) → ResultFits s h o q → o ≡ Some (Some g) → ResultThere s h q g
result_there g point.no_result e = cc
result_there g (point.a_result {u} f) e = record { operand = u; is_there = refl; type_is = same_some (same_some e); fits = f }

-- an `old` of the type was kept
record OldThere (us : List Operand) (i : ℕ) (a : EntityType) : Type 0 where
  pub operand : Operand
  pub is_there : slice_get us i ≡ Some operand
  pub type_is : operand.type ≡ a

old_there : (us : List Operand) (i : ℕ) (a : EntityType) → slice_get (types_of us) i ≡ Some a → OldThere us i a
old_there us i a e = by (slice_get us i) refl (sym (slice_get-map (λ (u : Operand). u.type) us i) ∙ e)
  where
    by : (o : Option Operand) → slice_get us i ≡ o → option_map (λ (u : Operand). u.type) o ≡ Some a → OldThere us i a
    by None j f = cc
    by (Some u) j f = record { operand = u; is_there = j; type_is = same_some f }

module _ (s : System) (pure : RoutineName → Bool) (r : Routine) (me : Reference) (run : IsRun s pure r me) (p : Point) (b : BaseOf s r me p) (fs : AllFit s me p p.values) where
  n : Entities
  n = scope_of p.environment

  os : List EntityType
  os = types_of p.olds

  n_typed : are_typed (scope_of p.environment) ≡ true
  n_typed = all_typed p.environment

  -- these tasks are next
  comes_to : (k : List Task) → TasksTyped s pure r p k (types_of p.values) → StandsSo s pure r me [] (record p { tasks = k })
  comes_to k d = goes s pure r me p b [] k p.values d fs

  -- an entity of the routine is read
  entity_read : (x : Binding) → EntityFits s me.handler (handler_named p.environment) x → TasksTyped s pure r p p.tasks (x.type ∷ types_of p.values) → StepFits s pure r me (reads x.value x.type p)
  entity_read x f k = reads_fit s pure r me p b x.value x.type (or_unset f) k fs
    where
      or_unset : EntityFits s me.handler (handler_named p.environment) x → FitsOrUnset s me.handler (handler_named p.environment) x.value x.type
      or_unset (inl f) = inl f
      or_unset (inr u) = inr u.1

  -- a Result is read, as one of its own text's type
  result_read : (t : EntityType) → p.text.result ≡ Some (Some t) → TasksTyped s pure r p p.tasks (t ∷ types_of p.values) → StepFits s pure r me (reads_result p.result p.text.result p)
  result_read t e k = of_own ((in_text s pure r me run p.text b.text_is).leads t e)
    where
      of_own : (g : EntityType) × (r.text.result ≡ Some (Some g)) × (conforms s g t ≡ true) → StepFits s pure r me (reads_result p.result p.text.result p)
      of_own (g, own, c) = of_value (result_there g b.result_fits own)
        where
          of_value : ResultThere s me.handler p.result g → StepFits s pure r me (reads_result p.result p.text.result p)
          of_value z =
              subst (λ q. StepFits s pure r me (reads_result q p.text.result p)) (sym z.is_there)
              (subst (λ o. StepFits s pure r me (reads_result (Some z.operand) o p)) (sym e)
              (by z.operand.value z.operand.type (ap (λ g. conforms s g t) z.type_is ∙ c) z.fits))
            where
              seen : (v : Value) (u : EntityType) → conforms s u t ≡ true → Fits s me.handler no_names v u → Fits s me.handler (handler_named p.environment) v t
              seen v u c f = conforms_fits s me.handler (handler_named p.environment) v u t c (fits_more s me.handler no_names (handler_named p.environment) v u (no_names_known (handler_named p.environment)) f)

              by : (v : Value) (u : EntityType) → conforms s u t ≡ true → FitsOrUnset s me.handler no_names v u → StepFits s pure r me (reads_as u v t p)
              by (Integer z) u c (inl f) = found s pure r me p b (Integer z) t t refl k (seen (Integer z) u c f) fs
              by (Boolean z) u c (inl f) = found s pure r me p b (Boolean z) t t refl k (seen (Boolean z) u c f) fs
              by (Attached o) u c (inl f) = found s pure r me p b (Attached o) t t refl k (seen (Attached o) u c f) fs
              by (Integer z) u c (inr y) = let x : Integer z ≡ Void = y.0 in cc
              by (Boolean z) u c (inr y) = let x : Boolean z ≡ Void = y.0 in cc
              by (Attached o) u c (inr y) = let x : Attached o ≡ Void = y.0 in cc
              by Void u c f = of_mark u.attached refl
                where
                  reference_is : FitsOrUnset s me.handler no_names Void u → is_expanded u.class ≡ false
                  reference_is (inl f) = f.1
                  reference_is (inr y) = y.1

                  of_mark : (d : Bool) → u.attached ≡ d → StepFits s pure r me (if d then fails cause.UnsetEntity p else gives Void t p)
                  of_mark true e = (refl, b.store)
                  of_mark false e = found s pure r me p b Void t t refl k (seen Void u c (e, reference_is f)) fs

  -- an attribute of Current is read
  own_attribute : (x : List ℕ) (f : DeclaredFeature) (d : DeclaredType) (t : EntityType) → feature_named s (class.Declared p.text.class) x ≡ Some f → f.feature.kind ≡ tree.Attribute d →
      given_type s (current (place_in s p.text)) d ≡ Some t → TasksTyped s pure r p p.tasks (t ∷ types_of p.values) →
      StepFits s pure r me (reads_own (given_type s (current (place_in s p.text)) d) (binding_named x (attributes_of me.number p.objects)) p)
  own_attribute x f d t there kind gives k =
      subst (λ o. StepFits s pure r me (reads_own o (binding_named x (attributes_of me.number p.objects)) p)) (sym gives)
      (subst (λ o. StepFits s pure r me (reads_attribute (binding_named x (attributes_in o)) t p)) (sym b.store.current.is_there)
      (of_version V V.fits V.is_there))
    where
      V : Version s me.class x (tree.Attribute d)
      V = subst (Version s me.class x) kind (run.heirs me.class p.text.class x f (in_text s pure r me run p.text b.text_is).heir there)

      of_kind : (v : DeclaredFeature) (m : FeatureKind) → v.feature.kind ≡ m → version_of s me.class x ≡ Some v → IsVersion s m (tree.Attribute d) →
          KindFits s me.handler (handler_named p.environment) me.handler [] (Some t) m → StepFits s pure r me (reads_attribute (binding_named x b.store.current.object.attributes) t p)
      of_kind v (tree.Attribute y) i j same (an_attribute z g) =
          attribute_read s pure r me run p b b.store.current.object x v y t p.values
          (numbered_fits (AttributesFit s me.handler) p.objects me.number b.store.current.object b.store.fit b.store.current.is_there)
          (ap (λ k. version_of s k x) b.store.current.of_class ∙ j) i g k fs
      of_kind v (tree.Routine c) i j same f = elim same [ ]

      of_version : (v : Version s me.class x (tree.Attribute d)) → IsVersion s v.feature.feature.kind (tree.Attribute d) → version_of s me.class x ≡ Some v.feature →
          StepFits s pure r me (reads_attribute (binding_named x b.store.current.object.attributes) t p)
      of_version v i j = of_kind v.feature v.feature.feature.kind refl j i
          (kind_fits s me.handler me.handler (handler_named p.environment) (current (place_in s p.text)) refl f v.feature.feature.kind (tree.Attribute d) [] [] (Some t) i
          (subst (λ k. is_declared s k ≡ true) kind (named_declared s run.declared (class.Declared p.text.class) x f there))
          (refl, refl) refl (ap (λ o. given_by (Some o)) gives) tt)

  retyped : {a c : EntityType} → c ≡ a → TasksTyped s pure r p p.tasks (a ∷ types_of p.values) → TasksTyped s pure r p p.tasks (c ∷ types_of p.values)
  retyped q k = subst (λ t. TasksTyped s pure r p p.tasks (t ∷ types_of p.values)) (sym q) k

  -- a routine of Current is called: its actuals are evaluated first
  pub routine_begins : {c : Context} (i : ℕ) (x : List ℕ) {es : Exprs} {rs : List Typing} (f : DeclaredFeature) (g : Option (Option EntityType)) (ws : List EntityType) →
      feature_named s (class.Declared p.text.class) x ≡ Some f → is_routine f.feature.kind ≡ true → HasTypes (place_in s p.text) c (scope_of p.environment) es rs →
      formals_take s (signature_of s (current (place_in s p.text)) f).target (types rs) (signature_of s (current (place_in s p.text)) f).formals (types rs) ≡ true →
      length rs ≡ length (signature_of s (current (place_in s p.text)) f).formals → (signature_of s (current (place_in s p.text)) f).gives ≡ g → Leaves g (types_of p.values) ws →
      AreKept s p.text (scope_of p.environment) i (olds_of_each es) (types_of p.olds) → TasksTyped s pure r p p.tasks ws →
      StandsSo s pure r me [] (record p { tasks = (evals i es ++ CallUnqualified x (count es) ∷ []) ++ p.tasks })
  routine_begins {c} i x {es} {rs} f g ws there routine ds fits many gives leaves l k = of_actuals (actuals_typed s pure r me run p.text b.text_is (scope_of p.environment) n_typed (types_of p.olds) ds)
    where
      of_actuals : ActualsTyped s pure r me run p.text b.text_is (scope_of p.environment) n_typed es rs (types_of p.olds) →
          StandsSo s pure r me [] (record p { tasks = (evals i es ++ CallUnqualified x (count es) ∷ []) ++ p.tasks })
      of_actuals z = comes_to ((evals i es ++ CallUnqualified x (count es) ∷ []) ++ p.tasks)
          (subst (λ k. TasksTyped s pure r p k (types_of p.values)) (sym (append_assoc (evals i es) (CallUnqualified x (count es) ∷ []) p.tasks))
          (z.typed i (CallUnqualified x (count es) ∷ p.tasks) (types_of p.values) l
          (typed.call_unqualified z.all there routine (take_of s rs z.all (signature_of s (current (place_in s p.text)) f) z.are fits many) z.as_many refl
          (subst (λ o. Leaves o (types_of p.values) ws) (sym gives) leaves) k)))

  -- the target and the actuals are evaluated before a call on a target
  pub target_begins : {c : Context} (i : ℕ) (x : List ℕ) (e : Expr) {es : Exprs} {y : Typing} {rs : List Typing} (u : EntityType) (g : Signature) (ws : List EntityType) →
      HasType (place_in s p.text) c Plain (scope_of p.environment) e y → y.type ≡ Some u → is_controlled u ≡ true → FeatureMeant s u (feature_named s u.class x) g →
      HasTypes (place_in s p.text) c (scope_of p.environment) es rs → formals_take s g.target (types rs) g.formals (types rs) ≡ true → length rs ≡ length g.formals →
      Leaves g.gives (types_of p.values) ws → AreKept s p.text (scope_of p.environment) i (olds_of e ++ olds_of_each es) (types_of p.olds) → TasksTyped s pure r p p.tasks ws →
      StandsSo s pure r me [] (record p { tasks = (Eval i e ∷ evals (i + olds_in e) es ++ CallQualified x (count es) ∷ []) ++ p.tasks })
  target_begins {c} i x e {es} {y} {rs} u g ws d there controlled m ds fits many leaves l k =
      of_actuals (actuals_typed s pure r me run p.text b.text_is (scope_of p.environment) n_typed (types_of p.olds) ds)
    where
      of_actuals : ActualsTyped s pure r me run p.text b.text_is (scope_of p.environment) n_typed es rs (types_of p.olds) →
          StandsSo s pure r me [] (record p { tasks = (Eval i e ∷ evals (i + olds_in e) es ++ CallQualified x (count es) ∷ []) ++ p.tasks })
      of_actuals z = comes_to ((Eval i e ∷ evals (i + olds_in e) es ++ CallQualified x (count es) ∷ []) ++ p.tasks)
          (typed.eval c Plain refl (typed_so d there) (kept_front s p.text (scope_of p.environment) (types_of p.olds) i (olds_of e) (olds_of_each es) l)
          (subst (λ k. TasksTyped s pure r p k (u ∷ types_of p.values)) (sym (append_assoc (evals (i + olds_in e) es) (CallQualified x (count es) ∷ []) p.tasks))
          (z.typed (i + olds_in e) (CallQualified x (count es) ∷ p.tasks) (u ∷ types_of p.values)
          (kept_back s p.text (scope_of p.environment) (types_of p.olds) i (olds_of e) (olds_of_each es) l)
          (typed.call_qualified z.all u controlled (expression_names r.text.formals (text_results s pure r me run p.text b.text_is) b.scope_stands d u there) m.is_there
          (subst (Takes s z.all) (sym m.signature_is) (take_of s rs z.all g z.are fits many)) z.as_many refl
          (subst (λ (g : Signature). Leaves g.gives (types_of p.values) ws) (sym m.signature_is) leaves) k))))

  -- a feature of Current
  feature_step : {c : Context} (i : ℕ) (x : List ℕ) {es : Exprs} {rs : List Typing} (g : Signature) (a : EntityType) →
      FeatureMeant s (current (place_in s p.text)) (feature_named s (class.Declared p.text.class) x) g → HasTypes (place_in s p.text) c (scope_of p.environment) es rs →
      formals_take s g.target (types rs) g.formals (types rs) ≡ true → length rs ≡ length g.formals → g.gives ≡ Some (Some a) →
      AreKept s p.text (scope_of p.environment) i (olds_of_each es) (types_of p.olds) → TasksTyped s pure r p p.tasks (a ∷ types_of p.values) →
      StepFits s pure r me (begins_feature s me x (feature_named s (class.Declared p.text.class) x) i es p)
  feature_step {c} i x {es} {rs} g a m ds fits many gives l k =
      subst (λ o. StepFits s pure r me (begins_feature s me x o i es p)) (sym m.is_there) (by m.feature.feature.kind refl)
    where
      by : (kind : FeatureKind) → m.feature.feature.kind ≡ kind → StepFits s pure r me (begins_kind s me x kind i es p)
      by (tree.Attribute d) e = own_attribute x m.feature d a m.is_there e
          (same_some (sym (ap (λ k. (signature_of_kind s (current (place_in s p.text)) m.feature k).gives) e) ∙ ap (λ (g : Signature). g.gives) m.signature_is ∙ gives)) k
      by (tree.Routine v) e = routine_begins i x m.feature (Some (Some a)) (a ∷ types_of p.values) m.is_there (ap is_routine e) ds
          (subst (λ (g : Signature). formals_take s g.target (types rs) g.formals (types rs) ≡ true) (sym m.signature_is) fits)
          (many ∙ ap (λ (g : Signature). length g.formals) (sym m.signature_is)) (ap (λ (g : Signature). g.gives) m.signature_is ∙ gives) a_value l k

  -- a name without a target
  name_step : {c : Context} (i : ℕ) (x : List ℕ) {es : Exprs} {rs : List Typing} (g : Signature) (a : EntityType) → unqualified_meaning (place_in s p.text) (scope_of p.environment) x ≡ named g →
      HasTypes (place_in s p.text) c (scope_of p.environment) es rs → formals_take s g.target (types rs) g.formals (types rs) ≡ true → length rs ≡ length g.formals → g.gives ≡ Some (Some a) →
      AreKept s p.text (scope_of p.environment) i (olds_of_each es) (types_of p.olds) → TasksTyped s pure r p p.tasks (a ∷ types_of p.values) →
      StepFits s pure r me (begins_name s me x (binding_named x p.environment) i es p)
  name_step {c} i x {es} {rs} g a m ds fits many gives l k = by (binding_named x p.environment) refl
      (subst (λ o. entity_or (place_in s p.text) x o ≡ named g) (named_alike x p.environment) m)
    where
      no_value : None ≡ Some (Some a) → ⊥
      no_value e = cc

      by_print : (b : Bool) → (if b then named (print_signature (place_in s p.text)) else meaning_of_feature s (current (place_in s p.text)) (feature_named s (class.Declared p.text.class) x)) ≡ named g →
          StepFits s pure r me (begins_feature s me x (feature_named s (class.Declared p.text.class) x) i es p)
      by_print true e = absurd (no_value (ap (λ (g : Signature). g.gives) (same_meaning e) ∙ gives))
      by_print false e = feature_step i x g a (feature_meant s (current (place_in s p.text)) (feature_named s (class.Declared p.text.class) x) g e) ds fits many gives l k

      by : (o : Option Binding) → binding_named x p.environment ≡ o → entity_or (place_in s p.text) x (option_map known_of o) ≡ named g → StepFits s pure r me (begins_name s me x o i es p)
      by None j e = by_print (is_print x) e
      by (Some y) j e = entity_read y (found_each (EntityFits s me.handler (handler_named p.environment)) x p.environment y (all_fit s me.handler p.environment b.names_fit) j)
          (retyped (same_some (same_some (ap (λ (g : Signature). g.gives) (same_meaning e) ∙ gives))) k)

  -- An expression begins.
  pub eval_step : (i : ℕ) (a : EntityType) {c : Context} {q : Position} {e : Expr} {y : Typing} → is_condition q ≡ false → HasType (place_in s p.text) c q (scope_of p.environment) e y → y.type ≡ Some a →
      OldsKept s p.text (scope_of p.environment) i e (types_of p.olds) → TasksTyped s pure r p p.tasks (a ∷ types_of p.values) → StepFits s pure r me (evaluate s me i e p)
  eval_step i a j (typing.number {v = z}) e l k = found s pure r me p b (Integer z) integer a (same_some e) k refl fs
  eval_step i a j (typing.truth {v = z}) e l k = found s pure r me p b (Boolean z) boolean a (same_some e) k refl fs
  eval_step i a j (typing.void d) e l k = found s pure r me p b Void void a (same_some e) k (refl, refl) fs
  eval_step i a j typing.current_object e l k =
      found s pure r me p b (Attached me) (current (place_in s p.text)) a (same_some e) k ((in_text s pure r me run p.text b.text_is).heir, refl) fs
  eval_step i a j (typing.result d) e l k = result_read a (d ∙ ap (λ t. Some t) e) k
  eval_step i a j (typing.call {a = tree.no_target} {x} {g} typing.implicit t m ds fits v many gives u w) e l k = name_step i x.text g a m ds fits many (gives ∙ ap (λ t. Some t) e) l k
  eval_step i a j (typing.call {a = tree.target f} {x} {es} {ts = ys} {g} (typing.explicit {t = y} d) t m ds fits v many gives u w) e l k =
      of_target (type_there s pure r me run p.text b.text_is (scope_of p.environment) n_typed d)
    where
      of_target : (o : EntityType) × (y.type ≡ Some o) → StandsSo s pure r me [] (record p { tasks = (Eval i f ∷ evals (i + olds_in f) es ++ CallQualified x.text (count es) ∷ []) ++ p.tasks })
      of_target (o, there) = target_begins i x.text f o g (a ∷ types_of p.values) d there (subst (λ t. may_target t ≡ true) there t)
          (feature_meant s o (feature_named s o.class x.text) g (ap (λ t. meaning_of (place_in s p.text) (scope_of p.environment) (tree.target f) t x) (sym there) ∙ m)) ds fits many
          (subst (λ o. Leaves o (types_of p.values) (a ∷ types_of p.values)) (sym (gives ∙ ap (λ t. Some t) e)) a_value) l k
  eval_step i a j (typing.untyped_target_call d t ds) e l k = cc
  eval_step i a j (typing.unary {c} {op = unary.Old} {a = f} {t = y} {r = z} d o t) e l k = of_kept (l 0 f refl)
    where
      of_kept : (u : EntityType) × (w : Bool) × HasType (place_in s p.text) context.Old Plain (scope_of p.environment) f (typing (Some u) w) × (slice_get (types_of p.olds) (i + 0) ≡ Some u) →
          StepFits s pure r me (gives_found (slice_get p.olds i) p)
      of_kept (u, w, d', found_at) = of_there (old_there p.olds i u (ap (slice_get (types_of p.olds)) (omega arith) ∙ found_at))
        where
          typed_as : y.type ≡ Some u
          typed_as = ap (λ (y : Typing). y.type) (one_type (place_in s p.text) context.Old Plain (scope_of p.environment) f y (typing (Some u) w) (operand_of_old c d o) d')

          is_a : u ≡ a
          is_a = same_some (same_some (sym (ap (unary_result unary.Old) typed_as) ∙ t ∙ ap (λ t. Some t) e))

          of_there : OldThere p.olds i u → StepFits s pure r me (gives_found (slice_get p.olds i) p)
          of_there z =
              subst (λ o. StepFits s pure r me (gives_found o p)) (sym z.is_there)
              (found s pure r me p b z.operand.value z.operand.type a (z.type_is ∙ is_a) k
              (each_at (OperandFits s me.handler p.environment) p.olds i z.operand (olds_now s me.handler p.environment p.olds b.olds_fit) z.is_there) fs)
  eval_step i a j (typing.unary {c} {op = unary.Not} {a = f} {t = y} d o t) e l k = of_operand (type_there s pure r me run p.text b.text_is (scope_of p.environment) n_typed d)
    where
      of_operand : (u : EntityType) × (y.type ≡ Some u) → StandsSo s pure r me [] (record p { tasks = Eval i f ∷ ApplyUnary unary.Not ∷ p.tasks })
      of_operand (u, there) = comes_to (Eval i f ∷ ApplyUnary unary.Not ∷ p.tasks)
          (typed.eval c Plain refl (typed_so d there) l (typed.apply_unary refl (unary_there unary.Not u a (ap (unary_result unary.Not) (sym there) ∙ t ∙ ap (λ o. Some o) e)) k))
  eval_step i a j (typing.unary {c} {op = unary.Plus} {a = f} {t = y} d o t) e l k = of_operand (type_there s pure r me run p.text b.text_is (scope_of p.environment) n_typed d)
    where
      of_operand : (u : EntityType) × (y.type ≡ Some u) → StandsSo s pure r me [] (record p { tasks = Eval i f ∷ ApplyUnary unary.Plus ∷ p.tasks })
      of_operand (u, there) = comes_to (Eval i f ∷ ApplyUnary unary.Plus ∷ p.tasks)
          (typed.eval c Plain refl (typed_so d there) l (typed.apply_unary refl (unary_there unary.Plus u a (ap (unary_result unary.Plus) (sym there) ∙ t ∙ ap (λ o. Some o) e)) k))
  eval_step i a j (typing.unary {c} {op = unary.Minus} {a = f} {t = y} d o t) e l k = of_operand (type_there s pure r me run p.text b.text_is (scope_of p.environment) n_typed d)
    where
      of_operand : (u : EntityType) × (y.type ≡ Some u) → StandsSo s pure r me [] (record p { tasks = Eval i f ∷ ApplyUnary unary.Minus ∷ p.tasks })
      of_operand (u, there) = comes_to (Eval i f ∷ ApplyUnary unary.Minus ∷ p.tasks)
          (typed.eval c Plain refl (typed_so d there) l (typed.apply_unary refl (unary_there unary.Minus u a (ap (unary_result unary.Minus) (sym there) ∙ t ∙ ap (λ o. Some o) e)) k))
  eval_step i a j (typing.binary {c} {op} {a = f} {b = g} {t = y} {u = z} {r = o} x d d' t) e l k =
      of_both (type_there s pure r me run p.text b.text_is (scope_of p.environment) n_typed d) (type_there s pure r me run p.text b.text_is (scope_of p.environment) n_typed d')
    where
      of_both : (u : EntityType) × (y.type ≡ Some u) → (w : EntityType) × (z.type ≡ Some w) → StandsSo s pure r me [] (record p { tasks = Eval i f ∷ EvalRight op (i + olds_in f) g ∷ p.tasks })
      of_both (u, there) (w, there') = comes_to (Eval i f ∷ EvalRight op (i + olds_in f) g ∷ p.tasks)
          (typed.eval c (operand_position op) (plain_operand op) (typed_so d there) (kept_front s p.text (scope_of p.environment) (types_of p.olds) i (olds_of f) (olds_of g) l)
          (typed.eval_right c (typed_so d' there') (kept_back s p.text (scope_of p.environment) (types_of p.olds) i (olds_of f) (olds_of g) l)
          (binary_there op u w a (ap (λ o. binary_result op o (Some w)) (sym there) ∙ ap (binary_result op y.type) (sym there') ∙ t ∙ ap (λ o. Some o) e)) k))
  eval_step i a {q} j (typing.and_then {op} x d g d' t) e l k = absurd (not_joined q op j x)
  eval_step i a j (typing.test o d) e l k = cc
