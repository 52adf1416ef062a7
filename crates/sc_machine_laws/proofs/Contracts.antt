-- A step of a contract's task leads to such tasks, and changes neither names nor Result nor objects.
use Rattle.std.proofs.Common.{◌≡◌, ◌+◌, ℕ, ℤ, List, [], ◌∷◌, ◌++◌, Option, Some, None, Ok, Err, Bool, true, false, refl, subst, sym, ap, append_assoc, ◌∙◌}
use Rattle.std.specs.Prelude.{if◌then◌else◌, slice_get, ◌==◌}
use Rattle.sc_formula.specs.declared.arithmetic.ArithmeticFault.TheVariants as fault
use Rattle.sc_formula.specs.declared.arithmetic.ArithmeticOperator.{ArithmeticOperator}
use Rattle.sc_formula.specs.declared.comparison.Comparison.{Comparison}
use Rattle.sc_formula.specs.declared.connective.Connective.{Connective}
use Rattle.sc_formula.specs.Arithmetic.{ArithmeticResult, opposite_of, result_of}
use Rattle.sc_tree.specs.declared.expression.UnaryOperator.{UnaryOperator}
use Rattle.sc_tree.specs.declared.expression.UnaryOperator.TheVariants as unary
use Rattle.sc_tree.specs.declared.expression.BinaryOperator.{BinaryOperator}
use Rattle.sc_tree.specs.Plain as tree
use Rattle.sc_tree.specs.Plain.{System, FeatureKind, Clause, Exprs, no_exprs, expr_then}
use Rattle.sc_class.specs.declared.identity.ClassId.TheVariants as class
use Rattle.sc_class.specs.Tables.Features.{DeclaredFeature, feature_named}
use Rattle.sc_rules.specs.declared.entity_types.tag.Tag.{Tag}
use Rattle.sc_rules.specs.declared.entity_types.tag.Tag.TheVariants as tag
use Rattle.sc_rules.specs.declared.entity_types.entity_type.EntityType.{EntityType}
use Rattle.sc_rules.specs.CallRules.{count}
use Rattle.sc_rules.specs.Names.{Signature, signature_of, current, given_type}
use Rattle.sc_model.specs.declared.cause.Cause.{Cause}
use Rattle.sc_model.specs.declared.cause.Cause.TheVariants as cause
use Rattle.sc_model.specs.Values.{Reference, Value, Integer, Boolean, Void, Attached, Operand}
use Rattle.sc_model.specs.Environments.{Binding, binding_named}
use Rattle.sc_model.specs.Objects.{Object, object_numbered, attributes_of}
use Rattle.sc_model.specs.Operators.{arithmetic_of, comparison_of, connective_of, identity_of, is_short}
use Rattle.sc_model.specs.Routines.{place_in, version_of}
use Rattle.sc_model.specs.Olds.{olds_in}
use Rattle.sc_model.specs.Tasks.{Task, Do, In, Declare, Forget, Eval, ApplyUnary, EvalRight, ApplyBinary, Conclude, Bind, CallUnqualified, CallQualified, AssignTo, Print, Choose, Repeat, EndLoop, Checked, Require, Required, KeepOld, Ensured, CreateBy, Open, Leave, evals}
use Rattle.sc_model.specs.Steps.{Point, Act, Prints, Until, Creates, CreatesHandler, Enters, Requests, Starts, Refuses, Opens, Leaves, Exits, Fails, Step, Goes, Does, fails, gives, reads_as, reads_attribute, popped}
use Rattle.sc_model.specs.Calls.{given_by, passes_rights, enters_unqualified, calls_own, calls_unqualified, calls_kind, calls_version, requests, calls_object, calls_on, calls_qualified}
use Rattle.sc_model.specs.Expressions.{gives_outcome, gives_truth, apply_unary, apply_to_integers, apply_to_booleans, is_same_object, apply_binary, applies, decided_by, evals_right, concludes, gives_found, reads_result, reads_own, begins_kind, begins_feature, begins_name, evaluate}
use Rattle.sc_model.specs.Instructions.{tests, required}
use Rattle.sc_model.specs.Moves.{performs, step_at, step}
use Rattle.sc_machine_laws.specs.states.Points.{Each}
use Rattle.sc_machine_laws.proofs.states.Lists.{each_append}
use Rattle.sc_machine_laws.specs.ClauseLaws.{StaysInContract, StepOfContract, StepsInContract}
use Rattle.sc_machine_laws.specs.Texts.{HasNoTest, HaveNoTest, IsOfContract}

evals_of_contract : (i : ℕ) (es : Exprs) → HaveNoTest es → Each IsOfContract (evals i es)
evals_of_contract i no_exprs o = tt
evals_of_contract i (expr_then e es) o = (o.0, evals_of_contract (i + olds_in e) es o.1)

-- tasks of contracts, and these after them
abbrev Before : List Task → List Task → Type 0
Before rest l = (ts : List Task) × (l ≡ ts ++ rest) × Each IsOfContract ts

before_more : (rest us l : List Task) → Each IsOfContract us → Before rest l → Before rest (us ++ l)
before_more rest us l o b =
    (us ++ b.0, ap (λ l. us ++ l) b.1 ∙ sym (append_assoc us b.0 rest), each_append IsOfContract us b.0 o b.2)

module _ (s : System) (me : Reference) (rest : List Task) (bs : List Binding) (result : Option Operand)
    (objects : List Object) where
  abbrev Same : Point → Type 0
  Same p = (p.environment ≡ bs) × ((p.result ≡ result) × (p.objects ≡ objects))

  abbrev Left : Point → Type 0
  Left p = Before rest p.tasks × Same p

  abbrev Steps : Step → Type 0
  Steps (Goes p) = Left p
  Steps (Does (Enters c o x us g) p) = Left p
  Steps (Does (Requests o x us g passes) p) = Left p
  Steps (Does Starts p) = Left p
  Steps (Does (Refuses k) p) = Left p
  Steps (Does (Fails why) p) = Unit {0}
  Steps (Does a p) = ⊥

  if_c : (b : Bool) (x y : Step) → Steps x → Steps y → Steps (if b then x else y)
  if_c true x y h k = h
  if_c false x y h k = k

  actuals_c : (i : ℕ) (es : Exprs) (t : Task) (l : List Task) → HaveNoTest es → IsOfContract t → Before rest l →
      Before rest ((evals i es ++ t ∷ []) ++ l)
  actuals_c i es t l o a b = before_more rest (evals i es ++ t ∷ []) l
      (each_append IsOfContract (evals i es) (t ∷ []) (evals_of_contract i es o) (a, tt)) b

  -- ---- values

  reads_as_c : (d : EntityType) (v : Value) (t : EntityType) (p : Point) → Left p → Steps (reads_as d v t p)
  reads_as_c d Void t p l = if_c d.attached (fails cause.UnsetEntity p) (gives Void t p) tt l
  reads_as_c d (Integer z) t p l = l
  reads_as_c d (Boolean b) t p l = l
  reads_as_c d (Attached r) t p l = l

  attribute_c : (b : Option Binding) (t : EntityType) (p : Point) → Left p → Steps (reads_attribute b t p)
  attribute_c None t p l = tt
  attribute_c (Some b) t p l = reads_as_c t b.value t p l

  outcome_c : (o : ArithmeticResult) (p : Point) → Left p → Steps (gives_outcome o p)
  outcome_c (Ok z) p l = l
  outcome_c (Err fault.Overflow) p l = tt
  outcome_c (Err fault.DivideByZero) p l = tt

  truth_c : (b : Option Bool) (p : Point) → Left p → Steps (gives_truth b p)
  truth_c None p l = tt
  truth_c (Some b) p l = l

  unary_c : (op : UnaryOperator) (v : Value) (p : Point) → Left p → Steps (apply_unary op v p)
  unary_c unary.Minus (Integer z) p l = outcome_c (opposite_of z) p l
  unary_c unary.Minus (Boolean b) p l = tt
  unary_c unary.Minus Void p l = tt
  unary_c unary.Minus (Attached r) p l = tt
  unary_c unary.Not (Boolean b) p l = l
  unary_c unary.Not (Integer z) p l = tt
  unary_c unary.Not Void p l = tt
  unary_c unary.Not (Attached r) p l = tt
  unary_c unary.Plus (Integer z) p l = l
  unary_c unary.Plus (Boolean b) p l = tt
  unary_c unary.Plus Void p l = tt
  unary_c unary.Plus (Attached r) p l = tt
  unary_c unary.Old v p l = tt

  integers_c : (o : Option ArithmeticOperator) (c : Option Comparison) (a b : ℤ) (p : Point) → Left p →
      Steps (apply_to_integers o c a b p)
  integers_c (Some o) c a b p l = outcome_c (result_of o a b) p l
  integers_c None (Some c) a b p l = l
  integers_c None None a b p l = tt

  booleans_c : (o : Option Connective) (a b : Bool) (p : Point) → Left p → Steps (apply_to_booleans o a b p)
  booleans_c (Some o) a b p l = l
  booleans_c None a b p l = tt

  binary_c : (op : BinaryOperator) (v w : Value) (p : Point) → Left p → Steps (apply_binary op v w p)
  binary_c op (Integer a) (Integer b) p l = integers_c (arithmetic_of op) (comparison_of op) a b p l
  binary_c op (Boolean a) (Boolean b) p l = booleans_c (connective_of op) a b p l
  binary_c op (Attached r) (Attached q) p l = truth_c (identity_of op (is_same_object r q)) p l
  binary_c op (Attached r) Void p l = truth_c (identity_of op false) p l
  binary_c op Void (Attached q) p l = truth_c (identity_of op false) p l
  binary_c op Void Void p l = truth_c (identity_of op true) p l
  binary_c op v w p l = tt

  applies_c : (op : BinaryOperator) (v : Value) (vs : List Operand) (p : Point) → Left p → Steps (applies op v vs p)
  applies_c op v [] p l = tt
  applies_c op v (u ∷ vs) p l = binary_c op u.value v (record p { values = vs }) l

  right_c : (d : Option Bool) (short : Bool) (op : BinaryOperator) (i : ℕ) (e : tree.Expr) (u : Operand) (p : Point) →
      HasNoTest e → Left p →
      Steps (evals_right d short op i e u p)
  right_c (Some b) short op i e u p o l = l
  right_c None true op i e u p o l = (before_more rest (Eval i e ∷ Conclude ∷ []) p.tasks (o, (tt, tt)) l.0, l.1)
  right_c None false op i e u p o l = (before_more rest (Eval i e ∷ ApplyBinary op ∷ []) p.tasks (o, (tt, tt)) l.0, l.1)

  concludes_c : (v : Value) (p : Point) → Left p → Steps (concludes v p)
  concludes_c (Boolean b) p l = l
  concludes_c v p l = tt

  -- ---- calls

  enters_c : (x : List ℕ) (us : List Operand) (g : Option (Option EntityType)) (p : Point) → Left p →
      Steps (enters_unqualified me x us g p)
  enters_c x us None p l = tt
  enters_c x us (Some g) p l = l

  own_c : (x : List ℕ) (f : Option DeclaredFeature) (us : List Operand) (p : Point) → Left p →
      Steps (calls_own s me x f us p)
  own_c x None us p l = tt
  own_c x (Some f) us p l = enters_c x us (given_by (signature_of s (current (place_in s p.text)) f).gives) p l

  unqualified_c : (x : List ℕ) (us : Option (List Operand × List Operand)) (p : Point) → Left p →
      Steps (calls_unqualified s me x us p)
  unqualified_c x None p l = tt
  unqualified_c x (Some (us, vs)) p l = own_c x (feature_named s (class.Declared p.text.class) x) us
      (record p { values = vs }) l

  kind_c : (r : Reference) (x : List ℕ) (us : List Operand) (g : Option EntityType) (o : Object) (k : FeatureKind)
      (p : Point) → Left p →
      Steps (calls_kind r x us g o k p)
  kind_c r x us (Some t) o (tree.Attribute d) p l = attribute_c (binding_named x o.attributes) t p l
  kind_c r x us None o (tree.Attribute d) p l = tt
  kind_c r x us (Some t) o (tree.Routine c) p l = l
  kind_c r x us None o (tree.Routine c) p l = l

  version_c : (r : Reference) (x : List ℕ) (us : List Operand) (g : Option EntityType) (o : Option Object)
      (f : Option DeclaredFeature) (p : Point) → Left p →
      Steps (calls_version r x us g o f p)
  version_c r x us g (Some o) (Some f) p l = kind_c r x us g o f.feature.kind p l
  version_c r x us g (Some o) None p l = tt
  version_c r x us g None f p l = tt

  requests_c : (r : Reference) (t : Tag) (x : List ℕ) (us : List Operand) (g : Option EntityType) (b : Bool)
      (p : Point) → Left p →
      Steps (requests r t x us g b p)
  requests_c r tag.Own x us g b p l = tt
  requests_c r (tag.With y) x us g b p l = l
  requests_c r tag.Any x us g b p l = l
  requests_c r tag.None x us g b p l = l

  object_c : (r : Reference) (t : EntityType) (x : List ℕ) (us : List Operand) (g : Signature)
      (gives : Option (Option EntityType)) (p : Point) → Left p →
      Steps (calls_object s me r t x us g gives p)
  object_c r t x us g None p l = tt
  object_c r t x us g (Some gives) p l =
      if_c (r.handler == me.handler)
      (calls_version r x us gives (object_numbered r.number p.objects) (version_of s r.class x) p)
      (requests r t.tag x us gives (passes_rights g.formals us) p)
      (version_c r x us gives (object_numbered r.number p.objects) (version_of s r.class x) p l)
      (requests_c r t.tag x us gives (passes_rights g.formals us) p l)

  on_value_c : (x : List ℕ) (v : Value) (t : EntityType) (f : Option DeclaredFeature) (us : List Operand)
      (p : Point) → Left p →
      Steps (calls_on s me x v t f us p)
  on_value_c x Void t f us p l = tt
  on_value_c x (Integer z) t f us p l = tt
  on_value_c x (Boolean b) t f us p l = tt
  on_value_c x (Attached r) t None us p l = tt
  on_value_c x (Attached r) t (Some f) us p l = object_c r t x us (signature_of s t f)
      (given_by (signature_of s t f).gives) p l

  qualified_c : (x : List ℕ) (us : Option (List Operand × List Operand)) (p : Point) → Left p →
      Steps (calls_qualified s me x us p)
  qualified_c x None p l = tt
  qualified_c x (Some (us, [])) p l = tt
  qualified_c x (Some (us, v ∷ vs)) p l = on_value_c x v.value v.type (feature_named s v.type.class x) us
      (record p { values = vs }) l

  -- ---- expressions

  found_c : (u : Option Operand) (p : Point) → Left p → Steps (gives_found u p)
  found_c None p l = tt
  found_c (Some u) p l = l

  result_c : (u : Option Operand) (t : Option (Option EntityType)) (p : Point) → Left p → Steps (reads_result u t p)
  result_c (Some u) (Some (Some t)) p l = reads_as_c u.type u.value t p l
  result_c u t p l = tt

  reads_own_c : (t : Option EntityType) (b : Option Binding) (p : Point) → Left p → Steps (reads_own t b p)
  reads_own_c None b p l = tt
  reads_own_c (Some t) b p l = attribute_c b t p l

  begins_kind_c : (x : List ℕ) (k : FeatureKind) (i : ℕ) (es : Exprs) (p : Point) → HaveNoTest es → Left p →
      Steps (begins_kind s me x k i es p)
  begins_kind_c x (tree.Attribute d) i es p o l = reads_own_c (given_type s (current (place_in s p.text)) d)
      (binding_named x (attributes_of me.number p.objects)) p l
  begins_kind_c x (tree.Routine r) i es p o l = (actuals_c i es (CallUnqualified x (count es)) p.tasks o tt l.0, l.1)

  begins_feature_c : (x : List ℕ) (f : Option DeclaredFeature) (i : ℕ) (es : Exprs) (p : Point) → HaveNoTest es →
      Left p → Steps (begins_feature s me x f i es p)
  begins_feature_c x None i es p o l = tt
  begins_feature_c x (Some f) i es p o l = begins_kind_c x f.feature.kind i es p o l

  begins_name_c : (x : List ℕ) (b : Option Binding) (i : ℕ) (es : Exprs) (p : Point) → HaveNoTest es → Left p →
      Steps (begins_name s me x b i es p)
  begins_name_c x (Some b) i es p o l = reads_as_c b.type b.value b.type p l
  begins_name_c x None i es p o l = begins_feature_c x (feature_named s (class.Declared p.text.class) x) i es p o l

  evaluate_c : (i : ℕ) (e : tree.Expr) (p : Point) → HasNoTest e → Left p → Steps (evaluate s me i e p)
  evaluate_c i (tree.Integer q z) p o l = l
  evaluate_c i (tree.Boolean q b) p o l = l
  evaluate_c i (tree.Void q) p o l = l
  evaluate_c i (tree.Current q) p o l = l
  evaluate_c i (tree.Result q) p o l = result_c p.result p.text.result p l
  evaluate_c i (tree.Call q tree.no_target x es) p o l = begins_name_c x.text
      (binding_named x.text p.environment) i es p o l
  evaluate_c i (tree.Call q (tree.target a) x es) p o l = (
    before_more rest (Eval i a ∷ [])
        ((evals (i + olds_in a) es ++ CallQualified x.text (count es) ∷ []) ++ p.tasks) (o.0, tt)
        (actuals_c (i + olds_in a) es (CallQualified x.text (count es)) p.tasks o.1 tt l.0),
    l.1,
  )
  evaluate_c i (tree.Unary q unary.Old a) p o l = found_c (slice_get p.olds i) p l
  evaluate_c i (tree.Unary q unary.Not a) p o l =
      (before_more rest (Eval i a ∷ ApplyUnary unary.Not ∷ []) p.tasks (o, (tt, tt)) l.0, l.1)
  evaluate_c i (tree.Unary q unary.Plus a) p o l =
      (before_more rest (Eval i a ∷ ApplyUnary unary.Plus ∷ []) p.tasks (o, (tt, tt)) l.0, l.1)
  evaluate_c i (tree.Unary q unary.Minus a) p o l =
      (before_more rest (Eval i a ∷ ApplyUnary unary.Minus ∷ []) p.tasks (o, (tt, tt)) l.0, l.1)
  evaluate_c i (tree.Binary q op a b) p o l =
      (before_more rest (Eval i a ∷ EvalRight op (i + olds_in a) b ∷ []) p.tasks (o.0, (o.1, tt)) l.0, l.1)
  evaluate_c i (tree.ObjectTest q d a x) p o l = absurd o

  -- ---- clauses

  tests_c : (why : Cause) (v : Value) (p : Point) → Left p → Steps (tests why v p)
  tests_c why (Boolean true) p l = l
  tests_c why (Boolean false) p l = tt
  tests_c why v p l = tt

  required_c : (k : Clause) (v : Value) (p : Point) → Left p → Steps (required k v p)
  required_c k (Boolean true) p l = l
  required_c k (Boolean false) p l = l
  required_c k v p l = tt

  -- ---- tasks

  -- one task, where p.tasks is what is left after it
  performs_c : (t : Task) (vs : List Operand) (p : Point) → IsOfContract t → Left p → Steps (performs s me t vs p)
  performs_c (In text) vs p o l = l
  performs_c (Eval i a) vs p o l = evaluate_c i a p o l
  performs_c (CallUnqualified x n) vs p o l = unqualified_c x (popped n [] vs) p l
  performs_c (CallQualified x n) vs p o l = qualified_c x (popped n [] vs) p l
  performs_c (Require []) vs p o l = l
  performs_c (Require (k ∷ ks)) vs p o l =
      (before_more rest (Eval 0 k.condition ∷ Required k ∷ Require ks ∷ []) p.tasks (o.0, (tt, (o.1, tt))) l.0, l.1)
  performs_c (ApplyUnary op) [] p o l = tt
  performs_c (EvalRight op i right) [] p o l = tt
  performs_c (ApplyBinary op) [] p o l = tt
  performs_c Conclude [] p o l = tt
  performs_c (Required k) [] p o l = tt
  performs_c KeepOld [] p o l = tt
  performs_c Ensured [] p o l = tt
  performs_c (ApplyUnary op) (u ∷ vs) p o l = unary_c op u.value (record p { values = vs }) l
  performs_c (EvalRight op i right) (u ∷ vs) p o l = right_c (decided_by op u.value) (is_short op) op i right u
      (record p { values = vs }) o l
  performs_c (ApplyBinary op) (u ∷ vs) p o l = applies_c op u.value vs (record p { values = vs }) l
  performs_c Conclude (u ∷ vs) p o l = concludes_c u.value (record p { values = vs }) l
  performs_c (Required k) (u ∷ vs) p o l = required_c k u.value (record p { values = vs }) l
  performs_c KeepOld (u ∷ vs) p o l = l
  performs_c Ensured (u ∷ vs) p o l = tests_c cause.Postcondition u.value (record p { values = vs }) l
  performs_c (Do body) vs p o l = absurd o
  performs_c (Declare locals) vs p o l = absurd o
  performs_c (Forget depth) vs p o l = absurd o
  performs_c (Bind d x) vs p o l = absurd o
  performs_c (AssignTo x) vs p o l = absurd o
  performs_c Print vs p o l = absurd o
  performs_c (Choose depth body bs other) vs p o l = absurd o
  performs_c (Repeat until body) vs p o l = absurd o
  performs_c (EndLoop until body) vs p o l = absurd o
  performs_c Checked vs p o l = absurd o
  performs_c (CreateBy x k n) vs p o l = absurd o
  performs_c (Open xs body) vs p o l = absurd o
  performs_c (Leave depth) vs p o l = absurd o

  step_at_c : (t : Task) (ts l : List Task) (p : Point) → l ≡ t ∷ ts ++ rest → IsOfContract t → Each IsOfContract ts →
      Same p → Steps (step_at s me l p)
  step_at_c t ts l p e o a b =
      subst (λ l. Steps (step_at s me l p)) (sym e)
      (performs_c t p.values (record p { tasks = ts ++ rest }) o ((ts, refl, a), b))

module _ (s : System) (me : Reference) (rest : List Task) (p : Point) where
  stays : (q : Point) → Left s me rest p.environment p.result p.objects q → StaysInContract rest p q
  stays q l = record {
    tasks = l.0.0;
    tasks_are = l.0.1;
    of_contract = l.0.2;
    environment_is = l.1.0;
    result_is = l.1.1.0;
    objects_are = l.1.1.1;
  }

  steps_act : (a : Act) (q : Point) → Steps s me rest p.environment p.result p.objects (Does a q) →
      StepsInContract rest p (Does a q)
  steps_act (Enters c o x us g) q l = stays q l
  steps_act (Requests o x us g passes) q l = stays q l
  steps_act Starts q l = stays q l
  steps_act (Refuses k) q l = stays q l
  steps_act (Fails why) q l = tt
  steps_act (Prints text) q l = absurd l
  steps_act Until q l = absurd l
  steps_act Creates q l = absurd l
  steps_act (CreatesHandler k x us t passes) q l = absurd l
  steps_act Opens q l = absurd l
  steps_act Leaves q l = absurd l
  steps_act Exits q l = absurd l

  steps : (st : Step) → Steps s me rest p.environment p.result p.objects st → StepsInContract rest p st
  steps (Goes q) l = stays q l
  steps (Does a q) l = steps_act a q l

pub step_of_contract : StepOfContract
step_of_contract s me t ts rest p e o a =
    steps s me rest p (step s me p)
    (step_at_c s me rest p.environment p.result p.objects t ts p.tasks p e o a (refl, (refl, refl)))
