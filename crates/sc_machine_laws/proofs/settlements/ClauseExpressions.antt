-- Where a routine stands in its own precondition, each expression goes on with what contracts may call.
use Rattle.std.proofs.Common.{ℕ, ℤ, suc, ◌≡◌, ◌&&◌, ◌||◌, ◌+◌, not, Bool, true, false, List, [], ◌∷◌, ◌++◌, Option, Some, None, Ok, Err, refl, sym, ap, subst, ◌∙◌, inl, inr, append_assoc}
use Rattle.std.specs.Prelude.{if◌then◌else◌, length}
use Rattle.std.specs.List.{list_all}
use Rattle.std.specs.Option.{option_map}
use Rattle.sc_formula.specs.declared.arithmetic.ArithmeticFault.TheVariants as fault
use Rattle.sc_formula.specs.declared.arithmetic.ArithmeticOperator.{ArithmeticOperator}
use Rattle.sc_formula.specs.declared.comparison.Comparison.{Comparison}
use Rattle.sc_formula.specs.declared.connective.Connective.{Connective}
use Rattle.sc_formula.specs.Arithmetic.{ArithmeticResult, opposite_of, result_of}
use Rattle.sc_tree.specs.declared.expression.UnaryOperator.{UnaryOperator}
use Rattle.sc_tree.specs.declared.expression.UnaryOperator.TheVariants as unary
use Rattle.sc_tree.specs.declared.expression.BinaryOperator.{BinaryOperator}
use Rattle.sc_tree.specs.Plain as tree
use Rattle.sc_tree.specs.Plain.{System, FeatureKind, Expr, Exprs, expr_then}
use Rattle.sc_tree.specs.Properties.{is_print}
use Rattle.sc_class.specs.declared.identity.ClassId.{ClassId}
use Rattle.sc_class.specs.declared.identity.ClassId.TheVariants as class
use Rattle.sc_class.specs.Tables.Conformance.{is_expanded, class_conforms}
use Rattle.sc_class.specs.Tables.Features.{DeclaredFeature, feature_named}
use Rattle.sc_rules.specs.declared.entity_types.entity_type.EntityType.{EntityType}
use Rattle.sc_rules.specs.entity_types.Conformance.{integer, boolean, void}
use Rattle.sc_rules.specs.declared.position.Context.{Context}
use Rattle.sc_rules.specs.declared.position.Context.TheVariants as context
use Rattle.sc_rules.specs.declared.position.Position.{Position}
use Rattle.sc_rules.specs.declared.position.Position.TheVariants.{Plain, Source}
use Rattle.sc_rules.specs.CallRules.{count}
use Rattle.sc_rules.specs.Positions.{is_condition, operand_position}
use Rattle.sc_rules.specs.Names.{RoutineName, Entities, Signature, current, given_type, named, meaning_of, meaning_of_feature, print_signature, unqualified_meaning, entity_or, signature_of, signature_of_kind, routine_of}
use Rattle.sc_rules.specs.Types.{is_foreign, unary_result, binary_result}
use Rattle.sc_rules.specs.Typing as typing
use Rattle.sc_rules.specs.Typing.{HasType, HasTypes, Typing, typing, types, is_value, is_foreign_type, may_call}
use Rattle.sc_model.specs.declared.cause.Cause.TheVariants as cause
use Rattle.sc_model.specs.Values.{Reference, Value, Integer, Boolean, Void, Attached, Operand, operand}
use Rattle.sc_model.specs.Environments.{Binding, binding_named, known_of, scope_of}
use Rattle.sc_model.specs.Objects.{attributes_of}
use Rattle.sc_model.specs.Operators.{arithmetic_of, comparison_of, connective_of, identity_of}
use Rattle.sc_model.specs.Olds.{olds_in}
use Rattle.sc_model.specs.Routines.{Text, place_in, version_of}
use Rattle.sc_model.specs.Tasks.{Task, Eval, ApplyUnary, EvalRight, Conclude, CallUnqualified, CallQualified, evals}
use Rattle.sc_model.specs.Steps.{Point, Step, Goes, fails, comes, gives, gives_integer, gives_boolean, reads_as, reads_attribute}
use Rattle.sc_model.specs.Expressions.{gives_outcome, gives_truth, apply_unary, apply_to_integers, apply_to_booleans, is_same_object, apply_binary, evals_right, concludes, reads_result, reads_own, begins_kind, begins_feature, begins_name, evaluate}
use Rattle.sc_machine_laws.specs.states.Places.{is_routine}
use Rattle.sc_machine_laws.specs.states.Typed.{context_in, stacked}
use Rattle.sc_machine_laws.proofs.states.Names.{FeatureMeant, feature_meant, same_meaning, named_alike, unary_there, binary_there}
use Rattle.sc_machine_laws.specs.settlements.Clauses.{IsOfType, AreOfTypes, IsPureIfRoutine, InClauses, ClauseStep}
use Rattle.sc_machine_laws.specs.settlements.Clauses as clauses
use Rattle.sc_machine_laws.proofs.settlements.ExpandedValues.{binary_expanded, not_joined, plain_operand, same_some, somes, unary_expanded, values_expanded}

no : {A : Type 0} → false ≡ true → A
no e = cc

module _ (s : System) (pure : RoutineName → Bool) (t : Text) (n : Entities) (me : Reference)
    (has_type : (c : Context) (q : Position) (e : Expr) (y : Typing) → HasType (context_in s pure t) c q n e y → (a : EntityType) × (y.type ≡ Some a))
    (pure_versions : (k : ℕ) (c : ClassId) (x : List ℕ) (f g : DeclaredFeature) → class_conforms s (class.Declared k) c ≡ true → feature_named s c x ≡ Some f →
    version_of s k x ≡ Some g → pure (routine_of f) ≡ true → pure (routine_of g) ≡ true)
    (same_kind : (k : ℕ) (c : ClassId) (x : List ℕ) (f g : DeclaredFeature) → class_conforms s (class.Declared k) c ≡ true → feature_named s c x ≡ Some f →
    version_of s k x ≡ Some g → is_routine g.feature.kind ≡ true → is_routine f.feature.kind ≡ true)
    (heir : class_conforms s (class.Declared me.class) (class.Declared t.class) ≡ true) where
  abbrev Left : List Task → List EntityType → Type 0
  Left k vs = InClauses s pure t n k vs

  abbrev Fine : Step → Type 0
  Fine st = ClauseStep s pure t n st

  pub record IsAt (vs : List EntityType) (p : Point) : Type 0 where
    pub text_is : p.text ≡ t
    pub names_are : scope_of p.environment ≡ n
    pub values : AreOfTypes vs p.values

  pub if_fine : (b : Bool) (x y : Step) → Fine x → Fine y → Fine (if b then x else y)
  if_fine true x y f g = f
  if_fine false x y f g = g

  -- these tasks are next
  pub goes : (vs : List EntityType) (p : Point) → IsAt vs p → Left p.tasks vs → Fine (Goes p)
  goes vs p b d = record { types = vs; text_is = b.text_is; names_are = b.names_are; left = d; values = b.values }

  pub comes_fine : (ts : List Task) (vs : List EntityType) (p : Point) → IsAt vs p → Left (ts ++ p.tasks) vs → Fine (comes ts p)
  comes_fine ts vs p b d = record { types = vs; text_is = b.text_is; names_are = b.names_are; left = d; values = b.values }

  given : (vs : List EntityType) (a : EntityType) (p : Point) (v : Value) (u : EntityType) → IsAt vs p → Left p.tasks (a ∷ vs) → IsOfType a (operand v u) → Fine (gives v u p)
  given vs a p v u b d is = record { types = a ∷ vs; text_is = b.text_is; names_are = b.names_are; left = d; values = (is, b.values) }

  -- ---- operators

  module _ (vs : List EntityType) (a : EntityType) (p : Point) (b : IsAt vs p) (d : Left p.tasks (a ∷ vs)) (e : is_expanded a.class ≡ true) where
    integer_given : (z : ℤ) → Fine (gives_integer z p)
    integer_given z = given vs a p (Integer z) integer b d (inr (e, refl))

    boolean_given : (z : Bool) → Fine (gives_boolean z p)
    boolean_given z = given vs a p (Boolean z) boolean b d (inr (e, refl))

    outcome_fine : (o : ArithmeticResult) → Fine (gives_outcome o p)
    outcome_fine (Ok z) = integer_given z
    outcome_fine (Err fault.Overflow) = tt
    outcome_fine (Err fault.DivideByZero) = tt

    truth_fine : (o : Option Bool) → Fine (gives_truth o p)
    truth_fine None = tt
    truth_fine (Some z) = boolean_given z

    pub unary_fine : (op : UnaryOperator) (v : Value) → Fine (apply_unary op v p)
    unary_fine unary.Not (Boolean z) = boolean_given (not z)
    unary_fine unary.Plus (Integer z) = integer_given z
    unary_fine unary.Minus (Integer z) = outcome_fine (opposite_of z)
    unary_fine unary.Not (Integer z) = tt
    unary_fine unary.Not Void = tt
    unary_fine unary.Not (Attached r) = tt
    unary_fine unary.Plus (Boolean z) = tt
    unary_fine unary.Plus Void = tt
    unary_fine unary.Plus (Attached r) = tt
    unary_fine unary.Minus (Boolean z) = tt
    unary_fine unary.Minus Void = tt
    unary_fine unary.Minus (Attached r) = tt
    unary_fine unary.Old v = tt

    integers_fine : (o : Option ArithmeticOperator) (c : Option Comparison) (x y : ℤ) → Fine (apply_to_integers o c x y p)
    integers_fine (Some o) c x y = outcome_fine (result_of o x y)
    integers_fine None (Some c) x y = boolean_given _
    integers_fine None None x y = tt

    booleans_fine : (o : Option Connective) (x y : Bool) → Fine (apply_to_booleans o x y p)
    booleans_fine (Some o) x y = boolean_given _
    booleans_fine None x y = tt

    pub binary_fine : (op : BinaryOperator) (v w : Value) → Fine (apply_binary op v w p)
    binary_fine op (Integer x) (Integer y) = integers_fine (arithmetic_of op) (comparison_of op) x y
    binary_fine op (Boolean x) (Boolean y) = booleans_fine (connective_of op) x y
    binary_fine op (Attached r) (Attached q) = truth_fine (identity_of op (is_same_object r q))
    binary_fine op (Attached r) Void = truth_fine (identity_of op false)
    binary_fine op Void (Attached q) = truth_fine (identity_of op false)
    binary_fine op Void Void = truth_fine (identity_of op true)
    binary_fine op (Integer x) (Boolean y) = tt
    binary_fine op (Integer x) Void = tt
    binary_fine op (Integer x) (Attached q) = tt
    binary_fine op (Boolean x) (Integer y) = tt
    binary_fine op (Boolean x) Void = tt
    binary_fine op (Boolean x) (Attached q) = tt
    binary_fine op (Attached r) (Integer y) = tt
    binary_fine op (Attached r) (Boolean y) = tt
    binary_fine op Void (Integer y) = tt
    binary_fine op Void (Boolean y) = tt

    pub concludes_fine : (v : Value) → Fine (concludes v p)
    concludes_fine (Boolean z) = boolean_given z
    concludes_fine (Integer z) = tt
    concludes_fine Void = tt
    concludes_fine (Attached r) = tt

  -- the left operand's value is there
  pub right_fine : (o : Option Bool) (short : Bool) (op : BinaryOperator) (i : ℕ) (e : Expr) (l : Operand) (vs : List EntityType) (a c u : EntityType) (w : Bool) (q : Position)
      (p : Point) → IsAt vs p → IsOfType a l → is_condition q ≡ false → HasType (context_in s pure t) context.Require q n e (typing (Some c) w) → is_expanded u.class ≡ true →
      Left p.tasks (u ∷ vs) → Fine (evals_right o short op i e l p)
  right_fine (Some z) short op i e l vs a c u w q p b is j d x k = boolean_given vs u p b k x z
  right_fine None true op i e l vs a c u w q p b is j d x k = comes_fine (Eval i e ∷ Conclude ∷ []) vs p b (clauses.eval q j d (clauses.conclude x k))
  right_fine None false op i e l vs a c u w q p b is j d x k =
      record { types = a ∷ vs; text_is = b.text_is; names_are = b.names_are; left = clauses.eval q j d (clauses.apply_binary x k); values = (is, b.values) }

  -- ---- values that are read

  reads_fine : (vs : List EntityType) (g u : EntityType) (v : Value) (p : Point) → IsAt vs p → Left p.tasks (u ∷ vs) → Fine (reads_as g v u p)
  reads_fine vs g u Void p b d = if_fine g.attached (fails cause.UnsetEntity p) (gives Void u p) tt (given vs u p Void u b d (inl refl))
  reads_fine vs g u (Integer z) p b d = given vs u p (Integer z) u b d (inl refl)
  reads_fine vs g u (Boolean z) p b d = given vs u p (Boolean z) u b d (inl refl)
  reads_fine vs g u (Attached r) p b d = given vs u p (Attached r) u b d (inl refl)

  pub attribute_fine : (vs : List EntityType) (o : Option Binding) (u : EntityType) (p : Point) → IsAt vs p → Left p.tasks (u ∷ vs) → Fine (reads_attribute o u p)
  attribute_fine vs None u p b d = tt
  attribute_fine vs (Some x) u p b d = reads_fine vs u u x.value p b d

  retyped : (vs : List EntityType) (a u : EntityType) (p : Point) → a ≡ u → Left p.tasks (a ∷ vs) → Left p.tasks (u ∷ vs)
  retyped vs a u p e d = subst (λ (w : EntityType). Left p.tasks (w ∷ vs)) e d

  result_fine : (vs : List EntityType) (a : EntityType) (o : Option Operand) (g : Option (Option EntityType)) (p : Point) → IsAt vs p → g ≡ Some (Some a) →
      Left p.tasks (a ∷ vs) → Fine (reads_result o g p)
  result_fine vs a None g p b e d = tt
  result_fine vs a (Some u) None p b e d = tt
  result_fine vs a (Some u) (Some None) p b e d = tt
  result_fine vs a (Some u) (Some (Some g)) p b e d = reads_fine vs u.type g u.value p b (retyped vs a g p (sym (same_some (same_some e))) d)

  -- ---- actuals

  record Actuals (es : Exprs) (rs : List Typing) : Type 0 where
    all : List EntityType
    are : types rs ≡ somes all
    as_many : count es ≡ length all
    begin : (i : ℕ) (k : List Task) (vs : List EntityType) → Left k (stacked all vs) → Left (evals i es ++ k) vs

  actuals : (es : Exprs) (rs : List Typing) → HasTypes (context_in s pure t) context.Require n es rs → Actuals es rs
  actuals _ _ typing.none = record { all = []; are = refl; as_many = refl; begin = λ i k vs d. d }
  actuals _ _ (typing.more {e} {es} {t = y} {ts = ys} d ds) = of_first (has_type context.Require Source e y d) (actuals es ys ds)
    where
      typed : (a : EntityType) → y.type ≡ Some a → HasType (context_in s pure t) context.Require Source n e (typing (Some a) y.is_separate)
      typed a i = subst (λ o. HasType (context_in s pure t) context.Require Source n e (typing o y.is_separate)) i d

      of_first : (a : EntityType) × (y.type ≡ Some a) → Actuals es ys → Actuals (expr_then e es) (y ∷ ys)
      of_first (a, i) z = record {
        all = a ∷ z.all;
        are = ap (λ o. o ∷ types ys) i ∙ ap (λ os. Some a ∷ os) z.are;
        as_many = ap suc z.as_many;
        begin = λ j k vs f. clauses.eval Source refl (typed a i) (z.begin (j + olds_in e) k (a ∷ vs) f);
      }

  -- ---- calls begin

  -- a routine of Current
  own_begins : (i : ℕ) (x : List ℕ) (es : Exprs) (rs : List Typing) (f : DeclaredFeature) (a : EntityType) (vs : List EntityType) (p : Point) → IsAt vs p →
      feature_named s (class.Declared t.class) x ≡ Some f → pure (routine_of f) ≡ true → (signature_of s (current (context_in s pure t)) f).gives ≡ Some (Some a) →
      HasTypes (context_in s pure t) context.Require n es rs → Left p.tasks (a ∷ vs) → Fine (comes (evals i es ++ CallUnqualified x (count es) ∷ []) p)
  own_begins i x es rs f a vs p b there is gives ds d = by (actuals es rs ds)
    where
      by : Actuals es rs → Fine (comes (evals i es ++ CallUnqualified x (count es) ∷ []) p)
      by z = comes_fine (evals i es ++ CallUnqualified x (count es) ∷ []) vs p b
          (subst (λ (k : List Task). Left k vs) (sym (append_assoc (evals i es) (CallUnqualified x (count es) ∷ []) p.tasks))
          (z.begin i (CallUnqualified x (count es) ∷ p.tasks) vs (clauses.call_unqualified z.all there is gives z.as_many refl d)))

  -- a feature of a target
  target_begins : (i : ℕ) (x : List ℕ) (e : Expr) (es : Exprs) (y : Typing) (rs : List Typing) (u a : EntityType) (f : DeclaredFeature) (vs : List EntityType) (p : Point) →
      IsAt vs p → HasType (context_in s pure t) context.Require Plain n e y → y.type ≡ Some u → feature_named s u.class x ≡ Some f →
      IsPureIfRoutine pure f (signature_of s u f).routine → (signature_of s u f).gives ≡ Some (Some a) → HasTypes (context_in s pure t) context.Require n es rs →
      (is_foreign u.tag ≡ true → list_all is_value (types rs) ≡ true) → Left p.tasks (a ∷ vs) →
      Fine (comes (Eval i e ∷ evals (i + olds_in e) es ++ CallQualified x (count es) ∷ []) p)
  target_begins i x e es y rs u a f vs p b d typed there is gives ds alone k = by (actuals es rs ds)
    where
      by : Actuals es rs → Fine (comes (Eval i e ∷ evals (i + olds_in e) es ++ CallQualified x (count es) ∷ []) p)
      by z = comes_fine (Eval i e ∷ evals (i + olds_in e) es ++ CallQualified x (count es) ∷ []) vs p b
          (clauses.eval Plain refl (subst (λ o. HasType (context_in s pure t) context.Require Plain n e (typing o y.is_separate)) typed d)
          (subst (λ (k : List Task). Left k (u ∷ vs)) (sym (append_assoc (evals (i + olds_in e) es) (CallQualified x (count es) ∷ []) p.tasks))
          (z.begin (i + olds_in e) (CallQualified x (count es) ∷ p.tasks) (u ∷ vs)
          (clauses.call_qualified z.all u there is gives (λ g. sym (values_expanded z.all) ∙ ap (list_all is_value) (sym z.are) ∙ alone g) z.as_many refl k))))

  pure_called : (f : DeclaredFeature) (a : EntityType) → may_call (context_in s pure t) context.Require (signature_of s a f).routine ≡ true →
      IsPureIfRoutine pure f (signature_of s a f).routine
  pure_called f a may i = ap (may_call (context_in s pure t) context.Require) (sym i) ∙ may

  feature_fine : (i : ℕ) (x : List ℕ) (es : Exprs) (rs : List Typing) (f : DeclaredFeature) (a : EntityType) (vs : List EntityType) (p : Point) → IsAt vs p →
      feature_named s (class.Declared t.class) x ≡ Some f → may_call (context_in s pure t) context.Require (signature_of s (current (context_in s pure t)) f).routine ≡ true →
      (signature_of s (current (context_in s pure t)) f).gives ≡ Some (Some a) → HasTypes (context_in s pure t) context.Require n es rs → Left p.tasks (a ∷ vs) →
      Fine (begins_feature s me x (feature_named s (class.Declared p.text.class) x) i es p)
  feature_fine i x es rs f a vs p b there may gives ds d =
      subst (λ o. Fine (begins_feature s me x o i es p)) (sym (ap (λ (u : Text). feature_named s (class.Declared u.class) x) b.text_is ∙ there)) (by f.feature.kind refl)
    where
      own : (o : Option EntityType) → o ≡ Some a → Fine (reads_own o (binding_named x (attributes_of me.number p.objects)) p)
      own None e = cc
      own (Some u) e = attribute_fine vs (binding_named x (attributes_of me.number p.objects)) u p b (retyped vs a u p (sym (same_some e)) d)

      by : (k : FeatureKind) → f.feature.kind ≡ k → Fine (begins_kind s me x k i es p)
      by (tree.Attribute g) e = own (given_type s (current (place_in s p.text)) g)
          (ap (λ (u : Text). given_type s (current (place_in s u)) g) b.text_is
          ∙ same_some (sym (ap (λ k. (signature_of_kind s (current (context_in s pure t)) f k).gives) e) ∙ gives))
      by (tree.Routine c) e = own_begins i x es rs f a vs p b there
          (pure_called f (current (context_in s pure t)) may (ap (λ k. (signature_of_kind s (current (context_in s pure t)) f k).routine) e)) gives ds d

  name_fine : (i : ℕ) (x : List ℕ) (es : Exprs) (rs : List Typing) (g : Signature) (a : EntityType) (vs : List EntityType) (p : Point) → IsAt vs p →
      unqualified_meaning (context_in s pure t) n x ≡ named g → may_call (context_in s pure t) context.Require g.routine ≡ true → g.gives ≡ Some (Some a) →
      HasTypes (context_in s pure t) context.Require n es rs → Left p.tasks (a ∷ vs) → Fine (begins_name s me x (binding_named x p.environment) i es p)
  name_fine i x es rs g a vs p b m may gives ds d = by (binding_named x p.environment)
      (subst (λ o. entity_or (context_in s pure t) x o ≡ named g) (named_alike x p.environment)
      (subst (λ (ns : Entities). unqualified_meaning (context_in s pure t) ns x ≡ named g) (sym b.names_are) m))
    where
      no_value : None ≡ Some (Some a) → ⊥
      no_value e = cc

      meant : (m : FeatureMeant s (current (context_in s pure t)) (feature_named s (class.Declared t.class) x) g) →
          Fine (begins_feature s me x (feature_named s (class.Declared p.text.class) x) i es p)
      meant m = feature_fine i x es rs m.feature a vs p b m.is_there
          (subst (λ (g : Signature). may_call (context_in s pure t) context.Require g.routine ≡ true) (sym m.signature_is) may)
          (ap (λ (g : Signature). g.gives) m.signature_is ∙ gives) ds d

      by_print : (z : Bool) → (if z then named (print_signature (context_in s pure t)) else meaning_of_feature s (current (context_in s pure t)) (feature_named s (class.Declared t.class) x)) ≡ named g →
          Fine (begins_feature s me x (feature_named s (class.Declared p.text.class) x) i es p)
      by_print true e = absurd (no_value (ap (λ (g : Signature). g.gives) (same_meaning e) ∙ gives))
      by_print false e = meant (feature_meant s (current (context_in s pure t)) (feature_named s (class.Declared t.class) x) g e)

      by : (o : Option Binding) → entity_or (context_in s pure t) x (option_map known_of o) ≡ named g → Fine (begins_name s me x o i es p)
      by None e = by_print (is_print x) e
      by (Some y) e = reads_fine vs y.type y.type y.value p b
          (retyped vs a y.type p (sym (same_some (same_some (ap (λ (g : Signature). g.gives) (same_meaning e) ∙ gives)))) d)

  -- ---- an expression begins

  ordered : (op : UnaryOperator) → (op ≡ unary.Old → ⊥) → (i : ℕ) (e : Expr) (y : Typing) (a : EntityType) (vs : List EntityType) (p : Point) → IsAt vs p →
      HasType (context_in s pure t) context.Require Plain n e y → unary_result op y.type ≡ Some (Some a) → Left p.tasks (a ∷ vs) → Fine (comes (Eval i e ∷ ApplyUnary op ∷ []) p)
  ordered op ne i e y a vs p b d r k = by (has_type context.Require Plain e y d)
    where
      by : (u : EntityType) × (y.type ≡ Some u) → Fine (comes (Eval i e ∷ ApplyUnary op ∷ []) p)
      by (u, typed) = comes_fine (Eval i e ∷ ApplyUnary op ∷ []) vs p b
          (clauses.eval Plain refl (subst (λ o. HasType (context_in s pure t) context.Require Plain n e (typing o y.is_separate)) typed d)
          (clauses.apply_unary (unary_expanded op u a ne (unary_there op u a (ap (unary_result op) (sym typed) ∙ r))) k))

  pub eval_fine : (i : ℕ) (q : Position) (e : Expr) (y : Typing) (a : EntityType) (vs : List EntityType) (p : Point) → IsAt vs p → is_condition q ≡ false →
      HasType (context_in s pure t) context.Require q n e y → y.type ≡ Some a → Left p.tasks (a ∷ vs) → Fine (evaluate s me i e p)
  eval_fine i q _ _ a vs p b j (typing.number {v = z}) e k = given vs a p (Integer z) integer b k (inl (same_some e))
  eval_fine i q _ _ a vs p b j (typing.truth {v = z}) e k = given vs a p (Boolean z) boolean b k (inl (same_some e))
  eval_fine i q _ _ a vs p b j (typing.void d) e k = given vs a p Void void b k (inl (same_some e))
  eval_fine i q _ _ a vs p b j typing.current_object e k =
      given vs a p (Attached me) (current (place_in s p.text)) b k (inl (ap (λ (u : Text). current (place_in s u)) b.text_is ∙ same_some e))
  eval_fine i q _ _ a vs p b j (typing.result d) e k =
      result_fine vs a p.result p.text.result p b (ap (λ (u : Text). u.result) b.text_is ∙ d ∙ ap (λ o. Some o) e) k
  eval_fine i q _ _ a vs p b j (typing.call {a = tree.no_target} {x} {es} {ts = rs} {g} typing.implicit t m ds fits v many gives u w) e k =
      name_fine i x.text es rs g a vs p b m u (gives ∙ ap (λ o. Some o) e) ds k
  eval_fine i q _ _ a vs p b j (typing.call {a = tree.target f} {x} {es} {ts = rs} {g} (typing.explicit {t = y} d) z m ds fits v many gives u w) e k =
      by (has_type context.Require Plain f y d)
    where
      alone : (o : EntityType) → y.type ≡ Some o → is_foreign o.tag ≡ true → list_all is_value (types rs) ≡ true
      alone o typed foreign = values (is_foreign_type y.type) (ap is_foreign_type typed ∙ foreign) v
        where
          values : (c : Bool) → c ≡ true → (not (true && c) || list_all is_value (types rs)) ≡ true → list_all is_value (types rs) ≡ true
          values true i r = r
          values false i r = no i

      of_feature : (o : EntityType) → y.type ≡ Some o → FeatureMeant s o (feature_named s o.class x.text) g →
          Fine (comes (Eval i f ∷ evals (i + olds_in f) es ++ CallQualified x.text (count es) ∷ []) p)
      of_feature o typed h = target_begins i x.text f es y rs o a h.feature vs p b d typed h.is_there
          (pure_called h.feature o (subst (λ (g : Signature). may_call (context_in s pure t) context.Require g.routine ≡ true) (sym h.signature_is) u))
          (ap (λ (g : Signature). g.gives) h.signature_is ∙ gives ∙ ap (λ o. Some o) e) ds (alone o typed) k

      by : (o : EntityType) × (y.type ≡ Some o) → Fine (comes (Eval i f ∷ evals (i + olds_in f) es ++ CallQualified x.text (count es) ∷ []) p)
      by (o, typed) = of_feature o typed
          (feature_meant s o (feature_named s o.class x.text) g (ap (λ r. meaning_of (context_in s pure t) n (tree.target f) r x) (sym typed) ∙ m))
  eval_fine i q _ _ a vs p b j (typing.untyped_target_call d t ds) e k = cc
  eval_fine i q _ _ a vs p b j (typing.unary {op = unary.Old} d o r) e k = no o
  eval_fine i q _ _ a vs p b j (typing.unary {op = unary.Not} {a = f} {t = y} d o r) e k =
      ordered unary.Not (λ z. cc) i f y a vs p b d (r ∙ ap (λ o. Some o) e) k
  eval_fine i q _ _ a vs p b j (typing.unary {op = unary.Plus} {a = f} {t = y} d o r) e k =
      ordered unary.Plus (λ z. cc) i f y a vs p b d (r ∙ ap (λ o. Some o) e) k
  eval_fine i q _ _ a vs p b j (typing.unary {op = unary.Minus} {a = f} {t = y} d o r) e k =
      ordered unary.Minus (λ z. cc) i f y a vs p b d (r ∙ ap (λ o. Some o) e) k
  eval_fine i q _ _ a vs p b j (typing.binary {op} {a = f} {b = g} {t = y} {u = z} x d d' r) e k =
      by (has_type context.Require (operand_position op) f y d) (has_type context.Require (operand_position op) g z d')
    where
      by : (u : EntityType) × (y.type ≡ Some u) → (w : EntityType) × (z.type ≡ Some w) → Fine (comes (Eval i f ∷ EvalRight op (i + olds_in f) g ∷ []) p)
      by (u, typed) (w, typed') = comes_fine (Eval i f ∷ EvalRight op (i + olds_in f) g ∷ []) vs p b
          (clauses.eval (operand_position op) (plain_operand op)
          (subst (λ o. HasType (context_in s pure t) context.Require (operand_position op) n f (typing o y.is_separate)) typed d)
          (clauses.eval_right (operand_position op) (plain_operand op)
          (subst (λ o. HasType (context_in s pure t) context.Require (operand_position op) n g (typing o z.is_separate)) typed' d')
          (binary_expanded op u w a
          (binary_there op u w a (ap (λ o. binary_result op o (Some w)) (sym typed) ∙ ap (binary_result op y.type) (sym typed') ∙ r ∙ ap (λ o. Some o) e))) k))
  eval_fine i q _ _ a vs p b j (typing.and_then {op} x d g d' r) e k = absurd (not_joined q op j x)
  eval_fine i q _ _ a vs p b j (typing.test x d) e k = no (sym j)
