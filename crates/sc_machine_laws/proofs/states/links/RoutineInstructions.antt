-- Expressions and instructions keep a routine's point well.
use Rattle.std.proofs.Common.{◌≤◌, ◌≡◌, ℕ, suc, ◌+◌, Bool, true, false, List, [], ◌∷◌, ◌++◌, Option, Some, None, length, map, drop, refl, sym, ap, ◌∙◌}
use Rattle.std.specs.Prelude.{slice_get, bytes_eq}
use Rattle.sc_tree.specs.declared.expression.UnaryOperator.TheVariants as unary
use Rattle.sc_tree.specs.Plain as tree
use Rattle.sc_tree.specs.Plain.{System, FeatureKind, Clause, Head, Name, Variable, Named, ResultVariable, CreationCall, Exprs, no_exprs, expr_then, Instr, Instrs, Branches, no_branches, branch_then}
use Rattle.sc_class.specs.declared.identity.ClassId.TheVariants as class
use Rattle.sc_tree.specs.Properties.{is_print}
use Rattle.sc_class.specs.Tables.Features.{DeclaredFeature, feature_named}
use Rattle.sc_rules.specs.declared.entity_types.entity_type.EntityType.{EntityType}
use Rattle.sc_rules.specs.Names.{Assignee, unknown_assignee, unassignable, to_local, to_attribute, current, given_type}
use Rattle.sc_rules.specs.CallRules.{count}
use Rattle.sc_model.specs.declared.cause.Cause.{Cause}
use Rattle.sc_model.specs.Values.{Reference, Value, Integer, Boolean, Void, Attached, Operand}
use Rattle.sc_model.specs.Environments.{block_values, Binding, binding_named}
use Rattle.sc_model.specs.Objects.{attributes_of}
use Rattle.sc_model.specs.Routines.{place_in}
use Rattle.sc_model.specs.Olds.{olds_in}
use Rattle.sc_model.specs.Tasks.{Do, Forget, Eval, ApplyUnary, EvalRight, Bind, CallUnqualified, CallQualified, AssignTo, Print, Choose, Repeat, CreateBy, evals, head_evals, checks}
use Rattle.sc_model.specs.Steps.{Point, forgets}
use Rattle.sc_model.specs.Creations.{assigned_at}
use Rattle.sc_model.specs.Expressions.{gives_found, reads_result, reads_own, begins_kind, begins_feature, begins_name, evaluate}
use Rattle.sc_model.specs.Instructions.{assigns, prints, chooses_other, chooses, ends_loop, tests, required, opens, actuals_of, procedure_of, begins_routine, begins}
use Rattle.sc_machine_laws.proofs.states.links.BlockNames.{drop_take}
use Rattle.sc_machine_laws.proofs.states.links.Points.{Formals, Known, Every, OperandKnown, BindingKnown, IfSome, leaves, IsCalm, IsWell, StepsWell}
use Rattle.sc_machine_laws.proofs.states.links.KnownValues.{every_get, every_find, assigned_known, block_known, attributes_known, with_attributes_known}
use Rattle.sc_machine_laws.proofs.states.links.LightTasks.{light_append, evals_light, heads_light, checks_light}
use Rattle.sc_machine_laws.proofs.states.links.KeptFormals.{kept_block, drop_all, kept_assigned, first_local}
use Rattle.sc_machine_laws.proofs.states.links.PointChanges.{with_value, with_environment, with_objects, forgotten, light, quiet, no_require, open_well}
use Rattle.sc_machine_laws.proofs.states.links.RoutineCalls.{attribute_well, reads_well}

module _ (K : ℕ → Type 0) (fm : Formals) (s : System) (me : Reference) (there : K me.handler) where
  -- ---- expressions

  found_well : (n : ℕ) (u : Option Operand) (p : Point) → IsWell K fm n p → IfSome (OperandKnown K) u → StepsWell K fm me.handler n (gives_found u p)
  found_well n None p w is = (w.objects, refl)
  found_well n (Some u) p w is = with_value K fm n p _ w is

  result_well : (n : ℕ) (u : Option Operand) (t : Option (Option EntityType)) (p : Point) → IsWell K fm n p → IfSome (OperandKnown K) u
      → StepsWell K fm me.handler n (reads_result u t p)
  result_well n (Some u) (Some (Some t)) p w is = reads_well K fm s me there n u.type u.value t p w is
  result_well n (Some u) (Some None) p w is = (w.objects, refl)
  result_well n (Some u) None p w is = (w.objects, refl)
  result_well n None t p w is = (w.objects, refl)

  reads_own_well : (n : ℕ) (t : Option EntityType) (b : Option Binding) (p : Point) → IsWell K fm n p → IfSome (BindingKnown K) b
      → StepsWell K fm me.handler n (reads_own t b p)
  reads_own_well n None b p w is = (w.objects, refl)
  reads_own_well n (Some t) b p w is = attribute_well K fm s me there n b t p w is

  begins_kind_well : (n : ℕ) (x : List ℕ) (k : FeatureKind) (i : ℕ) (es : Exprs) (p : Point) → IsWell K fm n p
      → StepsWell K fm me.handler n (begins_kind s me x k i es p)
  begins_kind_well n x (tree.Attribute d) i es p w =
      reads_own_well n (given_type s (current (place_in s p.text)) d) (binding_named x (attributes_of me.number p.objects)) p w
      (every_find (BindingKnown K) (λ (b : Binding). bytes_eq b.name x) (attributes_of me.number p.objects)
      (attributes_known K me.number p.objects w.objects))
  begins_kind_well n x (tree.Routine c) i es p w = light K fm n (evals i es ++ CallUnqualified x (count es) ∷ []) p
      (light_append (evals i es) (CallUnqualified x (count es) ∷ []) (evals_light i es) (refl, refl, tt)) w

  begins_feature_well : (n : ℕ) (x : List ℕ) (f : Option DeclaredFeature) (i : ℕ) (es : Exprs) (p : Point) → IsWell K fm n p
      → StepsWell K fm me.handler n (begins_feature s me x f i es p)
  begins_feature_well n x None i es p w = (w.objects, refl)
  begins_feature_well n x (Some f) i es p w = begins_kind_well n x f.feature.kind i es p w

  begins_name_well : (n : ℕ) (x : List ℕ) (b : Option Binding) (i : ℕ) (es : Exprs) (p : Point) → IsWell K fm n p → IfSome (BindingKnown K) b
      → StepsWell K fm me.handler n (begins_name s me x b i es p)
  begins_name_well n x (Some b) i es p w is = reads_well K fm s me there n b.type b.value b.type p w is
  begins_name_well n x None i es p w is = begins_feature_well n x (feature_named s (class.Declared p.text.class) x) i es p w

  pub evaluate_well : (n i : ℕ) (e : tree.Expr) (p : Point) → IsWell K fm n p → StepsWell K fm me.handler n (evaluate s me i e p)
  evaluate_well n i (tree.Integer q z) p w = with_value K fm n p _ w tt
  evaluate_well n i (tree.Boolean q b) p w = with_value K fm n p _ w tt
  evaluate_well n i (tree.Void q) p w = with_value K fm n p _ w tt
  evaluate_well n i (tree.Current q) p w = with_value K fm n p _ w there
  evaluate_well n i (tree.Result q) p w = result_well n p.result p.text.result p w w.result
  evaluate_well n i (tree.Call q tree.no_target x es) p w =
      begins_name_well n x.text (binding_named x.text p.environment) i es p w
      (every_find (BindingKnown K) (λ (b : Binding). bytes_eq b.name x.text) p.environment w.environment)
  evaluate_well n i (tree.Call q (tree.target a) x es) p w = light K fm n
      (Eval i a ∷ evals (i + olds_in a) es ++ CallQualified x.text (count es) ∷ []) p
      (light_append (Eval i a ∷ evals (i + olds_in a) es) (CallQualified x.text (count es) ∷ []) (refl, refl, evals_light (i + olds_in a) es)
      (refl, refl, tt)) w
  evaluate_well n i (tree.Unary q unary.Old a) p w = found_well n (slice_get p.olds i) p w (every_get (OperandKnown K) p.olds i w.olds)
  evaluate_well n i (tree.Unary q unary.Not a) p w = light K fm n (Eval i a ∷ ApplyUnary unary.Not ∷ []) p (refl, refl, (refl, refl, tt)) w
  evaluate_well n i (tree.Unary q unary.Plus a) p w = light K fm n (Eval i a ∷ ApplyUnary unary.Plus ∷ []) p (refl, refl, (refl, refl, tt)) w
  evaluate_well n i (tree.Unary q unary.Minus a) p w = light K fm n (Eval i a ∷ ApplyUnary unary.Minus ∷ []) p (refl, refl, (refl, refl, tt)) w
  evaluate_well n i (tree.Binary q op a b) p w = light K fm n (Eval i a ∷ EvalRight op (i + olds_in a) b ∷ []) p (refl, refl, (refl, refl, tt)) w
  evaluate_well n i (tree.ObjectTest q d a x) p w = light K fm n (Eval i a ∷ Bind d x.text ∷ []) p (refl, refl, (refl, refl, tt)) w

  -- ---- instructions

  pub assigns_well : (n : ℕ) (x : Variable) (a : Assignee) (v : Value) (p : Point) → IsWell K fm n p → Known K v → assigned_at s x p ≡ a
      → StepsWell K fm me.handler n (assigns me x a v p)
  assigns_well n (Named x) (to_local t) v p w is e = with_environment K fm n p _ w (assigned_known K x.text v p.environment is w.environment)
      (kept_assigned fm x.text v p.environment p.tasks (first_local s p.text x p.environment t e) w.formals)
  assigns_well n (Named x) (to_attribute t) v p w is e =
      with_objects K fm n p _ w (with_attributes_known K me.number _ p.objects
      (assigned_known K x.text v (attributes_of me.number p.objects) is (attributes_known K me.number p.objects w.objects)) w.objects)
  assigns_well n (ResultVariable q) (to_local (Some t)) v p w is e = record {
    objects = w.objects;
    environment = w.environment;
    result = is;
    olds = w.olds;
    values = w.values;
    tasks = w.tasks;
    left = w.left;
    formals = w.formals;
  }
  assigns_well n (Named x) unknown_assignee v p w is e = (w.objects, refl)
  assigns_well n (Named x) unassignable v p w is e = (w.objects, refl)
  assigns_well n (ResultVariable q) unknown_assignee v p w is e = (w.objects, refl)
  assigns_well n (ResultVariable q) unassignable v p w is e = (w.objects, refl)
  assigns_well n (ResultVariable q) (to_local None) v p w is e = (w.objects, refl)
  assigns_well n (ResultVariable q) (to_attribute t) v p w is e = (w.objects, refl)

  pub prints_well : (n : ℕ) (v : Value) (p : Point) → IsWell K fm n p → StepsWell K fm me.handler n (prints v p)
  prints_well n (Integer z) p w = w
  prints_well n (Boolean b) p w = w
  prints_well n Void p w = (w.objects, refl)
  prints_well n (Attached r) p w = (w.objects, refl)

  other_well : (n depth : ℕ) (bs : Branches) (other : Instrs) (p : Point) → IsWell K fm n p → IsCalm p.tasks → fm.count ≤ depth
      → block_values (drop depth p.environment) ≡ [] → StepsWell K fm me.handler n (chooses_other depth bs other p)
  other_well n depth no_branches other p w calm le none = quiet K fm n (Do other ∷ []) p (refl, (λ j. refl), tt) calm (tt, tt)
      (λ i. refl) (tt, w.formals.tidy) w
  other_well n depth (branch_then e b bs) other p w calm le none = quiet K fm n (Eval 0 e ∷ Choose depth b bs other ∷ []) p
      (refl, (λ j. refl), (refl, (λ j. refl), tt)) calm (tt, (le, tt)) (λ i. refl) (tt, (none, w.formals.tidy)) w

  pub chooses_well : (n depth : ℕ) (v : Value) (body : Instrs) (bs : Branches) (other : Instrs) (p : Point) → IsWell K fm n p → IsCalm p.tasks
      → fm.count ≤ depth → block_values (drop depth p.environment) ≡ [] → StepsWell K fm me.handler n (chooses depth v body bs other p)
  chooses_well n depth (Boolean true) body bs other p w calm le none = quiet K fm n (Do body ∷ Forget depth ∷ []) p
      (refl, (λ j. refl), (refl, (λ j. refl), tt)) calm (tt, (le, tt)) (λ i. refl) (tt, (none, w.formals.tidy)) w
  chooses_well n depth (Boolean false) body bs other p w calm le none = other_well n depth bs other (forgets depth p)
      (forgotten K fm n depth p w le none) calm le (ap block_values (drop_take depth p.environment))
  chooses_well n depth (Integer z) body bs other p w calm le none = (w.objects, refl)
  chooses_well n depth Void body bs other p w calm le none = (w.objects, refl)
  chooses_well n depth (Attached r) body bs other p w calm le none = (w.objects, refl)

  pub ends_loop_well : (n : ℕ) (v : Value) (e : tree.Expr) (body : Instrs) (p : Point) → IsWell K fm n p → IsCalm p.tasks
      → StepsWell K fm me.handler n (ends_loop v e body p)
  ends_loop_well n (Boolean true) e body p w calm = w
  ends_loop_well n (Boolean false) e body p w calm = quiet K fm n (Do body ∷ Repeat e body ∷ []) p (refl, (λ j. refl), (refl, (λ j. refl), tt)) calm
      (tt, (tt, tt)) (λ i. refl) (tt, (tt, w.formals.tidy)) w
  ends_loop_well n (Integer z) e body p w calm = (w.objects, refl)
  ends_loop_well n Void e body p w calm = (w.objects, refl)
  ends_loop_well n (Attached r) e body p w calm = (w.objects, refl)

  pub tests_well : (n : ℕ) (why : Cause) (v : Value) (p : Point) → IsWell K fm n p → StepsWell K fm me.handler n (tests why v p)
  tests_well n why (Boolean true) p w = w
  tests_well n why (Boolean false) p w = (w.objects, refl)
  tests_well n why (Integer z) p w = (w.objects, refl)
  tests_well n why Void p w = (w.objects, refl)
  tests_well n why (Attached r) p w = (w.objects, refl)

  pub required_well : (n : ℕ) (k : Clause) (v : Value) (p : Point) → IsWell K fm n p → leaves p.tasks ≡ 0 → StepsWell K fm me.handler n (required k v p)
  required_well n k (Boolean true) p w none = w
  required_well n k (Boolean false) p w none = (sym w.left ∙ none, w)
  required_well n k (Integer z) p w none = (w.objects, refl)
  required_well n k Void p w none = (w.objects, refl)
  required_well n k (Attached r) p w none = (w.objects, refl)

  pub opens_well : (n : ℕ) (xs : List Name) (body : Instrs) (us : Option (List Operand × List Operand)) (p : Point) → IsWell K fm n p → IsCalm p.tasks
      → IfSome (λ (y : List Operand × List Operand). Every (OperandKnown K) y.0 × Every (OperandKnown K) y.1) us
      → StepsWell K fm me.handler n (opens xs body us p)
  opens_well n xs body None p w calm is = (w.objects, refl)
  opens_well n xs body (Some (us, vs)) p w calm is =
      let o = kept_block fm xs us body p.environment p.tasks w.formals in (
        record {
          objects = w.objects;
          environment = block_known K xs us p.environment is.0 w.environment;
          result = w.result;
          olds = w.olds;
          values = is.1;
          tasks = ((λ e. (refl, calm)), (λ e. no_require e), ((λ e. calm), (λ e. no_require e), w.tasks));
          left = ap suc w.left;
          formals = o.kept;
        },
        record { body = body; depth = length p.environment; rest = p.tasks; is = refl },
        o.names,
      )

  routine_well : (n : ℕ) (b : Bool) (x : List ℕ) (es : Exprs) (p : Point) → IsWell K fm n p → StepsWell K fm me.handler n (begins_routine b x es p)
  routine_well n true x no_exprs p w = (w.objects, refl)
  routine_well n true x (expr_then e no_exprs) p w = light K fm n (Eval 0 e ∷ Print ∷ []) p (refl, refl, (refl, refl, tt)) w
  routine_well n true x (expr_then e (expr_then f es)) p w = (w.objects, refl)
  routine_well n false x es p w = light K fm n (evals 0 es ++ CallUnqualified x (count es) ∷ []) p
      (light_append (evals 0 es) (CallUnqualified x (count es) ∷ []) (evals_light 0 es) (refl, refl, tt)) w

  pub begins_well : (n : ℕ) (i : Instr) (p : Point) → IsWell K fm n p → IsCalm p.tasks → StepsWell K fm me.handler n (begins i p)
  begins_well n (tree.Assign q x e) p w calm = light K fm n (Eval 0 e ∷ AssignTo x ∷ []) p (refl, refl, (refl, refl, tt)) w
  begins_well n (tree.PrintText q text) p w calm = w
  begins_well n (tree.CallRoutine q tree.no_target x es) p w calm = routine_well n (is_print x.text) x.text es p w
  begins_well n (tree.CallRoutine q (tree.target a) x es) p w calm = light K fm n (Eval 0 a ∷ evals 0 es ++ CallQualified x.text (count es) ∷ []) p
      (light_append (Eval 0 a ∷ evals 0 es) (CallQualified x.text (count es) ∷ []) (refl, refl, evals_light 0 es) (refl, refl, tt)) w
  begins_well n (tree.Create q c) p w calm =
      let k : Option CreationCall = c.call in
      light K fm n (evals 0 (actuals_of k) ++ CreateBy c.variable (procedure_of k) (count (actuals_of k)) ∷ []) p
      (light_append (evals 0 (actuals_of k)) (CreateBy c.variable (procedure_of k) (count (actuals_of k)) ∷ []) (evals_light 0 (actuals_of k))
      (refl, refl, tt)) w
  begins_well n (tree.If q e body bs other) p w calm = quiet K fm n (Eval 0 e ∷ Choose (length p.environment) body bs other ∷ []) p
      (refl, (λ j. refl), (refl, (λ j. refl), tt)) calm (tt, (w.formals.room, tt)) (λ i. refl)
      (tt, (ap block_values (drop_all p.environment), w.formals.tidy)) w
  begins_well n (tree.Loop q initial e body) p w calm = quiet K fm n (Do initial ∷ Repeat e body ∷ []) p
      (refl, (λ j. refl), (refl, (λ j. refl), tt)) calm (tt, (tt, tt)) (λ i. refl) (tt, (tt, w.formals.tidy)) w
  begins_well n (tree.Check q ks) p w calm = light K fm n (checks ks) p (checks_light ks) w
  begins_well n (tree.Block q ds body) p w calm = open_well K fm n (head_evals ds) (map (λ (d : Head). d.name) ds) body p (heads_light ds) w calm
