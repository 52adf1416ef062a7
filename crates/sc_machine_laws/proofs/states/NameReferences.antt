-- Expressions, names, assignments, choices and clauses make no reference.
use Rattle.std.specs.List.{cons_option}
use Rattle.std.specs.Option.{option_map}
use Rattle.std.specs.Prelude.{slice_get, take}
use Rattle.std.proofs.Common.{◌+◌, ◌++◌, ◌-◌, Bool, List, None, Option, Some, [], false, refl, suc, true, zero, ℕ, ◌∷◌, ◌≡◌}
use Rattle.sc_tree.specs.Plain as tree
use Rattle.sc_tree.specs.Plain.{Branches, Clause, Declaration, DeclaredType, Expr, Exprs, FeatureKind, Instrs, Name, System, Variable, branch_then, no_branches}
use Rattle.sc_tree.specs.declared.expression.UnaryOperator.TheVariants as unary
use Rattle.sc_class.specs.Tables.Features.{DeclaredFeature, feature_named}
use Rattle.sc_class.specs.declared.identity.ClassId.TheVariants as class
use Rattle.sc_rules.specs.entity_types.Conformance.{boolean, integer, void}
use Rattle.sc_rules.specs.declared.entity_types.entity_type.EntityType.{EntityType}
use Rattle.sc_rules.specs.CallRules.{count}
use Rattle.sc_rules.specs.Names.{Assignee, block_type, blocks, current, given_type, to_attribute, to_local, unassignable, unknown_assignee}
use Rattle.sc_rules.specs.Types.{declared_type}
use Rattle.sc_rules.specs.declared.position.Role.TheVariants as role
use Rattle.sc_model.specs.Environments.{Binding, assigned_to, bind, binding_named, block_bound, handler_named, locals_bound, name_bound, scope_of}
use Rattle.sc_model.specs.Expressions.{begins_feature, begins_kind, begins_name, evaluate, gives_found, reads_own, reads_result}
use Rattle.sc_model.specs.Instructions.{assigns, chooses, chooses_other, ends_loop, prints, required, tests}
use Rattle.sc_model.specs.ObjectTests.{binds, binds_if, is_tested}
use Rattle.sc_model.specs.Objects.{Object, attributes_of, object_numbered, with_object}
use Rattle.sc_model.specs.Olds.{olds_in}
use Rattle.sc_model.specs.Routines.{place_in}
use Rattle.sc_model.specs.Steps.{Point, forgets}
use Rattle.sc_model.specs.Tasks.{ApplyUnary, Bind, CallQualified, CallUnqualified, Choose, Do, Eval, EvalRight, Forget, Repeat, evals}
use Rattle.sc_model.specs.Values.{Attached, Boolean, Integer, Operand, Reference, Value, Void, default_of, operand}
use Rattle.sc_model.specs.declared.cause.Cause.{Cause}
use Rattle.sc_machine_laws.specs.states.Points.{Each, IsAmong, listed}
use Rattle.sc_machine_laws.specs.states.ValueSteps.{BindingsDo, OperandsDo}
use Rattle.sc_machine_laws.proofs.states.Assigned.{each_assigned}
use Rattle.sc_machine_laws.proofs.states.Attributes.{found_each}
use Rattle.sc_machine_laws.proofs.states.Lists.{each_append, each_at, each_set}
use Rattle.sc_machine_laws.proofs.states.OperatorReferences.{HoldsOfOwn, Stays, StepStays, come, default_does, fell, give, object_there, read_as, read_attribute, same, set_among}

module _ (P : Value → Type 0) (me : Reference) (own : HoldsOfOwn P me) (objects : List Object) where
  module _ (p : Point) (h : Stays P objects p) where
    -- ---- expressions

    found_stays : (us : List Operand) (i : ℕ) → OperandsDo P us → StepStays P me own objects (gives_found (slice_get us i) p)
    found_stays us i f = by (slice_get us i) refl
      where
        by : (o : Option Operand) → slice_get us i ≡ o → StepStays P me own objects (gives_found o p)
        by None e = fell P me own objects p h
        by (Some u) e = give P me own objects p h u.value u.type (each_at (λ (u : Operand). P u.value) us i u f e)

    result_stays : (u : Option Operand) (t : Option (Option EntityType)) → OperandsDo P (listed u) → StepStays P me own objects (reads_result u t p)
    result_stays (Some u) (Some (Some t)) f = read_as P me own objects p h u.type u.value t f.0
    result_stays (Some u) (Some None) f = fell P me own objects p h
    result_stays (Some u) None f = fell P me own objects p h
    result_stays None t f = fell P me own objects p h

    kind_stays : (s : System) (x : List ℕ) (k : FeatureKind) (i : ℕ) (es : Exprs) → StepStays P me own objects (begins_kind s me x k i es p)
    kind_stays s x (tree.Attribute d) i es = by (given_type s (current (place_in s p.text)) d)
      where
        by : (o : Option EntityType) → StepStays P me own objects (reads_own o (binding_named x (attributes_of me.number p.objects)) p)
        by None = fell P me own objects p h
        by (Some t) = read_attribute P me own objects p h (attributes_of me.number p.objects) x t (object_there P me own objects p h me.number)
    kind_stays s x (tree.Routine c) i es = come P me own objects p h (evals i es ++ CallUnqualified x (count es) ∷ [])

    name_stays : (s : System) (x : List ℕ) (i : ℕ) (es : Exprs) → StepStays P me own objects (begins_name s me x (binding_named x p.environment) i es p)
    name_stays s x i es = by (binding_named x p.environment) refl
      where
        of_feature : (o : Option DeclaredFeature) → StepStays P me own objects (begins_feature s me x o i es p)
        of_feature None = fell P me own objects p h
        of_feature (Some f) = kind_stays s x f.feature.kind i es

        by : (o : Option Binding) → binding_named x p.environment ≡ o → StepStays P me own objects (begins_name s me x o i es p)
        by (Some b) e = read_as P me own objects p h b.type b.value b.type (found_each (λ (b : Binding). P b.value) x p.environment b h.values.names_do e)
        by None e = of_feature (feature_named s (class.Declared p.text.class) x)

    pub evaluate_stays : (s : System) (i : ℕ) (e : Expr) → StepStays P me own objects (evaluate s me i e p)
    evaluate_stays s i (tree.Integer q z) = give P me own objects p h (Integer z) integer (own.of_integer z)
    evaluate_stays s i (tree.Boolean q b) = give P me own objects p h (Boolean b) boolean (own.of_boolean b)
    evaluate_stays s i (tree.Void q) = give P me own objects p h Void void own.of_void
    evaluate_stays s i (tree.Current q) = give P me own objects p h (Attached me) (current (place_in s p.text)) own.of_current
    evaluate_stays s i (tree.Result q) = result_stays p.result p.text.result h.values.result_does
    evaluate_stays s i (tree.Call q tree.no_target x es) = name_stays s x.text i es
    evaluate_stays s i (tree.Call q (tree.target a) x es) = come P me own objects p h (Eval i a ∷ evals (i + olds_in a) es ++ CallQualified x.text (count es) ∷ [])
    evaluate_stays s i (tree.Unary q unary.Old a) = found_stays p.olds i h.values.olds_do
    evaluate_stays s i (tree.Unary q unary.Not a) = come P me own objects p h (Eval i a ∷ ApplyUnary unary.Not ∷ [])
    evaluate_stays s i (tree.Unary q unary.Plus a) = come P me own objects p h (Eval i a ∷ ApplyUnary unary.Plus ∷ [])
    evaluate_stays s i (tree.Unary q unary.Minus a) = come P me own objects p h (Eval i a ∷ ApplyUnary unary.Minus ∷ [])
    evaluate_stays s i (tree.Binary q op a b) = come P me own objects p h (Eval i a ∷ EvalRight op (i + olds_in a) b ∷ [])
    evaluate_stays s i (tree.ObjectTest q d a x) = come P me own objects p h (Eval i a ∷ Bind d x.text ∷ [])

    -- ---- names

    pub with_names : (bs : List Binding) (vs : List Operand) → BindingsDo P bs → OperandsDo P vs → Stays P objects (record p { environment = bs; values = vs })
    with_names bs vs f g = record {
      values = record { objects_do = h.values.objects_do; names_do = f; result_does = h.values.result_does; olds_do = h.values.olds_do; values_do = g };
      there = h.there;
    }

    pub test_stays : (s : System) (d : Option DeclaredType) (x : List ℕ) (v : Value) (o : Option EntityType) → P v → StepStays P me own objects (binds s me.handler d x v o p)
    test_stays s d x v None f = fell P me own objects p h
    test_stays s d x v (Some t) f = by (is_tested s me.handler (handler_named p.environment) v d t)
      where
        by : (c : Bool) → StepStays P me own objects (binds_if c x v t p)
        by true = with_names (p.environment ++ bind x t role.Test v ∷ []) (operand (Boolean true) boolean ∷ p.values)
            (each_append (λ (b : Binding). P b.value) p.environment (bind x t role.Test v ∷ []) h.values.names_do (f, tt)) (own.of_boolean true, h.values.values_do)
        by false = give P me own objects p h (Boolean false) boolean (own.of_boolean false)

    pub locals_do : (s : System) (formals ds : List Declaration) → BindingsDo P (locals_bound s formals ds)
    locals_do s formals [] = tt
    locals_do s formals (d ∷ ds) = by (declared_type s formals d.declared_type) (locals_do s formals ds)
      where
        by : (o : Option EntityType) → BindingsDo P (locals_bound s formals ds) →
            BindingsDo P (cons_option (option_map (λ (t : EntityType). bind d.name.text t role.Local (default_of t.class)) o) (locals_bound s formals ds))
        by None f = f
        by (Some t) f = (default_does P me own objects t.class, f)

    taken_do : (n : ℕ) (bs : List Binding) → BindingsDo P bs → BindingsDo P (take n bs)
    taken_do zero bs f = tt
    taken_do (suc n) [] f = tt
    taken_do (suc n) (b ∷ bs) f = (f.0, taken_do n bs f.1)

    pub forget_stays : (n : ℕ) → Stays P objects (forgets n p)
    forget_stays n = with_names (take n p.environment) p.values (taken_do n p.environment h.values.names_do) h.values.values_do

    pub block_do : (xs : List Name) (us : List Operand) (bs : List Binding) → OperandsDo P us → BindingsDo P bs → BindingsDo P (block_bound xs us bs)
    block_do [] us bs f g = g
    block_do (x ∷ xs) [] bs f g = g
    block_do (x ∷ xs) (u ∷ us) bs f g = block_do xs us (bs ++ name_bound x (block_type (blocks (scope_of bs)) (Some u.type)) u.value) f.1
        (each_append (λ (b : Binding). P b.value) bs (name_bound x (block_type (blocks (scope_of bs)) (Some u.type)) u.value) g (by (block_type (blocks (scope_of bs)) (Some u.type))))
      where
        by : (o : Option EntityType) → BindingsDo P (name_bound x o u.value)
        by None = tt
        by (Some t) = (f.0, tt)

    -- ---- assignment

    assigned_do : (x : List ℕ) (v : Value) (bs : List Binding) → P v → BindingsDo P bs → BindingsDo P (assigned_to x v bs)
    assigned_do x v bs f g = each_assigned x v (λ (b : Binding). P b.value) bs g (λ b e z. f)

    pub assign_stays : (a : Variable) (z : Assignee) (v : Value) → P v → StepStays P me own objects (assigns me a z v p)
    assign_stays (tree.Named x) (to_local t) v f = with_names (assigned_to x.text v p.environment) p.values (assigned_do x.text v p.environment f h.values.names_do) h.values.values_do
    assign_stays (tree.Named x) (to_attribute t) v f = record {
      values = record {
        objects_do = changed_do (object_numbered me.number p.objects);
        names_do = h.values.names_do;
        result_does = h.values.result_does;
        olds_do = h.values.olds_do;
        values_do = h.values.values_do;
      };
      there = λ o z. changed_there (object_numbered me.number p.objects) refl o (h.there o z);
    }
      where
        bs : List Binding
        bs = assigned_to x.text v (attributes_of me.number p.objects)

        bs_do : BindingsDo P (assigned_to x.text v (attributes_of me.number p.objects))
        bs_do = assigned_do x.text v (attributes_of me.number p.objects) f (object_there P me own objects p h me.number)

        changed_do : (q : Option Object) → Each (λ (o : Object). BindingsDo P o.attributes) (with_object (me.number - 1) (assigned_to x.text v (attributes_of me.number p.objects)) p.objects q)
        changed_do None = h.values.objects_do
        changed_do (Some o) = each_set (λ (o : Object). BindingsDo P o.attributes) p.objects (me.number - 1) (record o { attributes = assigned_to x.text v (attributes_of me.number p.objects) }) h.values.objects_do bs_do

        changed_there : (q : Option Object) → object_numbered me.number p.objects ≡ q → (o : Reference) → IsAmong p.objects o →
            IsAmong (with_object (me.number - 1) (assigned_to x.text v (attributes_of me.number p.objects)) p.objects q) o
        changed_there None e o z = z
        changed_there (Some y) e o z = set_among p.objects me.number (record y { attributes = assigned_to x.text v (attributes_of me.number p.objects) }) y e refl o z
    assign_stays (tree.Named x) unknown_assignee v f = fell P me own objects p h
    assign_stays (tree.Named x) unassignable v f = fell P me own objects p h
    assign_stays (tree.ResultVariable q) (to_local (Some t)) v f = record {
      values = record { objects_do = h.values.objects_do; names_do = h.values.names_do; result_does = (f, tt); olds_do = h.values.olds_do; values_do = h.values.values_do };
      there = h.there;
    }
    assign_stays (tree.ResultVariable q) (to_local None) v f = fell P me own objects p h
    assign_stays (tree.ResultVariable q) (to_attribute t) v f = fell P me own objects p h
    assign_stays (tree.ResultVariable q) unknown_assignee v f = fell P me own objects p h
    assign_stays (tree.ResultVariable q) unassignable v f = fell P me own objects p h

    -- ---- choices and clauses

    pub tests_stay : (why : Cause) (v : Value) → StepStays P me own objects (tests why v p)
    tests_stay why (Boolean true) = h
    tests_stay why (Boolean false) = fell P me own objects p h
    tests_stay why (Integer z) = fell P me own objects p h
    tests_stay why Void = fell P me own objects p h
    tests_stay why (Attached o) = fell P me own objects p h

    pub required_stays : (k : Clause) (v : Value) → StepStays P me own objects (required k v p)
    required_stays k (Boolean true) = h
    required_stays k (Boolean false) = λ own. h
    required_stays k (Integer z) = fell P me own objects p h
    required_stays k Void = fell P me own objects p h
    required_stays k (Attached o) = fell P me own objects p h

  other_stays : (p : Point) (h : Stays P objects p) (depth : ℕ) (bs : Branches) (other : Instrs) → StepStays P me own objects (chooses_other depth bs other p)
  other_stays p h depth no_branches other = come P me own objects p h (Do other ∷ [])
  other_stays p h depth (branch_then e body bs) other = come P me own objects p h (Eval 0 e ∷ Choose depth body bs other ∷ [])

  pub choose_stays : (p : Point) (h : Stays P objects p) (depth : ℕ) (v : Value) (body : Instrs) (bs : Branches) (other : Instrs) →
      StepStays P me own objects (chooses depth v body bs other p)
  choose_stays p h depth (Boolean true) body bs other = come P me own objects p h (Do body ∷ Forget depth ∷ [])
  choose_stays p h depth (Boolean false) body bs other = other_stays (forgets depth p) (forget_stays p h depth) depth bs other
  choose_stays p h depth (Integer z) body bs other = fell P me own objects p h
  choose_stays p h depth Void body bs other = fell P me own objects p h
  choose_stays p h depth (Attached o) body bs other = fell P me own objects p h

  pub loop_stays : (p : Point) (h : Stays P objects p) (v : Value) (e : Expr) (body : Instrs) → StepStays P me own objects (ends_loop v e body p)
  loop_stays p h (Boolean true) e body = λ own'. h
  loop_stays p h (Boolean false) e body = λ own'. same P me own objects p h (Do body ∷ Repeat e body ∷ p.tasks) p.values h.values.values_do
  loop_stays p h (Integer z) e body = fell P me own objects p h
  loop_stays p h Void e body = fell P me own objects p h
  loop_stays p h (Attached o) e body = fell P me own objects p h

  pub print_stays : (p : Point) (h : Stays P objects p) (v : Value) → StepStays P me own objects (prints v p)
  print_stays p h (Integer z) = λ own. h
  print_stays p h (Boolean b) = λ own. h
  print_stays p h Void = fell P me own objects p h
  print_stays p h (Attached o) = fell P me own objects p h
