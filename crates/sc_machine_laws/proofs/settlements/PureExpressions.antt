-- In a function that contracts may call, operators, reads and calls go on as the rules say.
use Rattle.std.proofs.Common.{ℕ, ℤ, suc, ◌≡◌, ◌⊎◌, ◌+◌, not, Bool, true, false, List, [], ◌∷◌, ◌++◌, Option, Some, None, Ok, Err, refl, sym, ap, subst, ◌∙◌, inl, append_assoc}
use Rattle.std.specs.Prelude.{if◌then◌else◌, length, slice_get}
use Rattle.std.specs.Option.{option_map}
use Rattle.sc_formula.specs.declared.arithmetic.ArithmeticFault.TheVariants as fault
use Rattle.sc_formula.specs.declared.arithmetic.ArithmeticOperator.{ArithmeticOperator}
use Rattle.sc_formula.specs.declared.comparison.Comparison.{Comparison}
use Rattle.sc_formula.specs.declared.connective.Connective.{Connective}
use Rattle.sc_formula.specs.Arithmetic.{ArithmeticResult, opposite_of, result_of}
use Rattle.sc_text.specs.declared.token.Span.{Span}
use Rattle.sc_tree.specs.declared.expression.UnaryOperator.{UnaryOperator}
use Rattle.sc_tree.specs.declared.expression.UnaryOperator.TheVariants as unary
use Rattle.sc_tree.specs.declared.expression.BinaryOperator.{BinaryOperator}
use Rattle.sc_tree.specs.Plain as tree
use Rattle.sc_tree.specs.Plain.{System, Expr, Exprs, FeatureKind, expr_then}
use Rattle.sc_tree.specs.Properties.{is_print}
use Rattle.sc_class.specs.declared.identity.ClassId.TheVariants as class
use Rattle.sc_class.specs.Tables.Features.{DeclaredFeature, feature_named}
use Rattle.sc_rules.specs.declared.entity_types.entity_type.EntityType.{EntityType}
use Rattle.sc_rules.specs.entity_types.Conformance.{integer, boolean, void}
use Rattle.sc_rules.specs.declared.position.Context.{Context}
use Rattle.sc_rules.specs.declared.position.Context.TheVariants as context
use Rattle.sc_rules.specs.declared.position.Position.{Position}
use Rattle.sc_rules.specs.declared.position.Position.TheVariants.{Plain, Source}
use Rattle.sc_rules.specs.CallRules.{count}
use Rattle.sc_rules.specs.Laws.{are_typed}
use Rattle.sc_rules.specs.Positions.{is_condition, may_give, operand_position}
use Rattle.sc_rules.specs.Names.{RoutineName, Entities, Signature, current, entity_or, given_type, meaning_of, meaning_of_feature, named, print_signature, routine_of, signature_of, signature_of_kind, unqualified_meaning}
use Rattle.sc_rules.specs.Sites as site
use Rattle.sc_rules.specs.Sites.{IsActual, first_actual, later_actual}
use Rattle.sc_rules.specs.Types.{binary_result, binary_type, is_foreign, unary_result, unary_type}
use Rattle.sc_rules.specs.Typing as typing
use Rattle.sc_rules.specs.Typing.{HasType, HasTypes, Typing, may_target, typing, types}
use Rattle.sc_rules.proofs.OldOperands.{operand_of_old}
use Rattle.sc_model.specs.declared.cause.Cause.TheVariants as cause
use Rattle.sc_model.specs.Values.{Reference, Value, Integer, Boolean, Void, Attached, Operand}
use Rattle.sc_model.specs.Environments.{Binding, binding_named, known_of}
use Rattle.sc_model.specs.Objects.{attributes_of}
use Rattle.sc_model.specs.Operators.{arithmetic_of, comparison_of, connective_of, identity_of, is_short}
use Rattle.sc_model.specs.Olds.{olds_in}
use Rattle.sc_model.specs.Routines.{Routine, Text, place_in}
use Rattle.sc_model.specs.Tasks.{Task, ApplyUnary, CallQualified, CallUnqualified, Conclude, Eval, EvalRight, evals}
use Rattle.sc_model.specs.Steps.{Point, Step, fails, comes, gives, reads_as, reads_attribute}
use Rattle.sc_model.specs.Expressions.{gives_outcome, gives_truth, apply_unary, apply_to_integers, apply_to_booleans, is_same_object, apply_binary, decided_by, evals_right, concludes, gives_found, reads_result, reads_own, begins_kind, begins_feature, begins_name, evaluate}
use Rattle.sc_machine_laws.specs.states.Points.{types_of}
use Rattle.sc_machine_laws.specs.states.Typed.{context_in, stacked}
use Rattle.sc_machine_laws.proofs.states.Lists.{same_some}
use Rattle.sc_machine_laws.proofs.states.Names.{FeatureMeant, feature_meant, same_meaning, named_alike, unary_there, binary_there}
use Rattle.sc_machine_laws.specs.settlements.Calm.{IsCalm, at, InPure, PureStep}
use Rattle.sc_machine_laws.specs.settlements.Calm as calm
use Rattle.sc_machine_laws.specs.settlements.Clauses.{IsPureIfRoutine}
use Rattle.sc_machine_laws.proofs.settlements.ExpandedValues.{plain_operand}
use Rattle.sc_machine_laws.proofs.settlements.OperatorTypes.{boolean_is, connective_is, decided_is, identity_is, integer_is, not_joined, short_is, unary_is}
use Rattle.sc_machine_laws.proofs.settlements.PureRuns.{IsAt, PureRun, calls_calm, comes_fine, given, has_type, if_fine, near_calm, part_calm}

no : {A : Type 0} → false ≡ true → A
no e = cc

module _ (s : System) (pure : RoutineName → Bool) (r : Routine) (me : Reference) (z : PureRun s pure r me) where
  abbrev Fine : Step → Type 0
  Fine st = PureStep s pure r st

  module _ (t : Text) (own : (t ≡ r.text) ⊎ (t ≡ r.contract)) (n : Entities) (typed_n : are_typed n ≡ true) where
    abbrev Left : List Task → List EntityType → Type 0
    Left k vs = InPure s pure r k (at t n vs)

    -- ---- operators

    module _ (vs : List EntityType) (a : EntityType) (p : Point) (b : IsAt s pure r me z t own n typed_n vs p) (d : Left p.tasks (a ∷ vs)) where
      outcome_fine : integer ≡ a → (o : ArithmeticResult) → Fine (gives_outcome o p)
      outcome_fine e (Ok x) = given s pure r me z t own n typed_n vs a p (Integer x) integer b d e
      outcome_fine e (Err fault.Overflow) = tt
      outcome_fine e (Err fault.DivideByZero) = tt

      truth_fine : (o : Option Bool) → ((c : Bool) → o ≡ Some c → boolean ≡ a) → Fine (gives_truth o p)
      truth_fine None e = tt
      truth_fine (Some c) e = given s pure r me z t own n typed_n vs a p (Boolean c) boolean b d (e c refl)

      pub unary_fine : (op : UnaryOperator) (c : EntityType) (v : Value) → unary_type op c ≡ Some a → Fine (apply_unary op v p)
      unary_fine unary.Not c (Boolean x) e = given s pure r me z t own n typed_n vs a p (Boolean (not x)) boolean b d ((unary_is unary.Not c a e).0 refl)
      unary_fine unary.Plus c (Integer x) e = given s pure r me z t own n typed_n vs a p (Integer x) integer b d ((unary_is unary.Plus c a e).1 (λ i. cc) (λ i. cc))
      unary_fine unary.Minus c (Integer x) e = outcome_fine ((unary_is unary.Minus c a e).1 (λ i. cc) (λ i. cc)) (opposite_of x)
      unary_fine unary.Not c (Integer x) e = tt
      unary_fine unary.Not c Void e = tt
      unary_fine unary.Not c (Attached o) e = tt
      unary_fine unary.Plus c (Boolean x) e = tt
      unary_fine unary.Plus c Void e = tt
      unary_fine unary.Plus c (Attached o) e = tt
      unary_fine unary.Minus c (Boolean x) e = tt
      unary_fine unary.Minus c Void e = tt
      unary_fine unary.Minus c (Attached o) e = tt
      unary_fine unary.Old c v e = tt

      module _ (op : BinaryOperator) (l w : EntityType) (is : binary_type op l w ≡ Some a) where
        integers_fine : (o : Option ArithmeticOperator) → arithmetic_of op ≡ o → (c : Option Comparison) (x y : ℤ) → Fine (apply_to_integers o c x y p)
        integers_fine (Some o) i c x y = outcome_fine (integer_is op o l w a i is) (result_of o x y)
        integers_fine None i (Some c) x y = given s pure r me z t own n typed_n vs a p (Boolean _) boolean b d (boolean_is op l w a i is)
        integers_fine None i None x y = tt

        booleans_fine : (o : Option Connective) → connective_of op ≡ o → (x y : Bool) → Fine (apply_to_booleans o x y p)
        booleans_fine (Some c) i x y = given s pure r me z t own n typed_n vs a p (Boolean _) boolean b d (boolean_is op l w a (connective_is op c i) is)
        booleans_fine None i x y = tt

        same_fine : (c : Bool) → Fine (gives_truth (identity_of op c) p)
        same_fine c = truth_fine (identity_of op c) (λ e i. boolean_is op l w a (identity_is op c e i) is)

        pub binary_fine : (v u : Value) → Fine (apply_binary op v u p)
        binary_fine (Integer x) (Integer y) = integers_fine (arithmetic_of op) refl (comparison_of op) x y
        binary_fine (Boolean x) (Boolean y) = booleans_fine (connective_of op) refl x y
        binary_fine (Attached o) (Attached q) = same_fine (is_same_object o q)
        binary_fine (Attached o) Void = same_fine false
        binary_fine Void (Attached q) = same_fine false
        binary_fine Void Void = same_fine true
        binary_fine (Integer x) (Boolean y) = tt
        binary_fine (Integer x) Void = tt
        binary_fine (Integer x) (Attached q) = tt
        binary_fine (Boolean x) (Integer y) = tt
        binary_fine (Boolean x) Void = tt
        binary_fine (Boolean x) (Attached q) = tt
        binary_fine (Attached o) (Integer y) = tt
        binary_fine (Attached o) (Boolean y) = tt
        binary_fine Void (Integer y) = tt
        binary_fine Void (Boolean y) = tt

      pub concludes_fine : boolean ≡ a → (v : Value) → Fine (concludes v p)
      concludes_fine e (Boolean x) = given s pure r me z t own n typed_n vs a p (Boolean x) boolean b d e
      concludes_fine e (Integer x) = tt
      concludes_fine e Void = tt
      concludes_fine e (Attached o) = tt

    -- the left operand's value is there
    pub right_fine : (op : BinaryOperator) (i : ℕ) (e : Expr) (l : Operand) (vs : List EntityType) (a c u : EntityType) (w : Bool) (x : Context) (q : Position)
        (p : Point) → IsAt s pure r me z t own n typed_n vs p → l.type ≡ a → is_condition q ≡ false → IsCalm s pure r t x q n e → HasType (context_in s pure t) x q n e (typing (Some c) w) →
        binary_type op a c ≡ Some u → Left p.tasks (u ∷ vs) → Fine (evals_right (decided_by op l.value) (is_short op) op i e l p)
    right_fine op i e l vs a c u w x q p b is j there d ty k = by (decided_by op l.value) refl (is_short op) refl
      where
        by : (o : Option Bool) → decided_by op l.value ≡ o → (short : Bool) → is_short op ≡ short → Fine (evals_right o short op i e l p)
        by (Some v) decides short so = given s pure r me z t own n typed_n vs u p (Boolean v) boolean b k (boolean_is op a c u (decided_is op l.value v decides) ty)
        by None decides true so = comes_fine s pure r me z t own n typed_n (Eval i e ∷ Conclude ∷ []) vs p b
            (calm.eval x q j there d (calm.conclude (subst (λ (v : EntityType). Left p.tasks (v ∷ vs)) (sym (boolean_is op a c u (short_is op so) ty)) k)))
        by None decides false so = inl (record {
          text = t;
          names = n;
          types = a ∷ vs;
          text_is = b.text_is;
          names_are = b.names_are;
          left = calm.eval x q j there d (calm.apply_binary ty k);
          types_are = ap (λ (v : EntityType). v ∷ types_of p.values) is ∙ ap (λ ws. a ∷ ws) b.types_are;
        })

    -- ---- values that are read

    reads_fine : (vs : List EntityType) (g u : EntityType) (v : Value) (p : Point) → IsAt s pure r me z t own n typed_n vs p → Left p.tasks (u ∷ vs) → Fine (reads_as g v u p)
    reads_fine vs g u Void p b d = if_fine s pure r me z g.attached (fails cause.UnsetEntity p) (gives Void u p) tt (given s pure r me z t own n typed_n vs u p Void u b d refl)
    reads_fine vs g u (Integer x) p b d = given s pure r me z t own n typed_n vs u p (Integer x) u b d refl
    reads_fine vs g u (Boolean x) p b d = given s pure r me z t own n typed_n vs u p (Boolean x) u b d refl
    reads_fine vs g u (Attached o) p b d = given s pure r me z t own n typed_n vs u p (Attached o) u b d refl

    pub attribute_fine : (vs : List EntityType) (o : Option Binding) (u : EntityType) (p : Point) → IsAt s pure r me z t own n typed_n vs p → Left p.tasks (u ∷ vs) →
        Fine (reads_attribute o u p)
    attribute_fine vs None u p b d = tt
    attribute_fine vs (Some x) u p b d = reads_fine vs u u x.value p b d

    retyped : (vs : List EntityType) (a u : EntityType) (p : Point) → a ≡ u → Left p.tasks (a ∷ vs) → Left p.tasks (u ∷ vs)
    retyped vs a u p e d = subst (λ (w : EntityType). Left p.tasks (w ∷ vs)) e d

    result_fine : (vs : List EntityType) (a : EntityType) (o : Option Operand) (g : Option (Option EntityType)) (p : Point) → IsAt s pure r me z t own n typed_n vs p →
        g ≡ Some (Some a) →
        Left p.tasks (a ∷ vs) → Fine (reads_result o g p)
    result_fine vs a None g p b e d = tt
    result_fine vs a (Some u) None p b e d = tt
    result_fine vs a (Some u) (Some None) p b e d = tt
    result_fine vs a (Some u) (Some (Some g)) p b e d = reads_fine vs u.type g u.value p b (retyped vs a g p (sym (same_some (same_some e))) d)

    -- ---- actuals

    record Actuals (es : Exprs) (rs : List Typing) : Type 0 where
      all : List EntityType
      as_many : count es ≡ length all
      begin : (i : ℕ) (k : List Task) (vs : List EntityType) → Left k (stacked all vs) → Left (evals i es ++ k) vs

    actuals : (c : Context) (es : Exprs) (rs : List Typing) → ((e : Expr) → IsActual e es → IsCalm s pure r t c Source n e) → HasTypes (context_in s pure t) c n es rs →
        Actuals es rs
    actuals c _ _ each typing.none = record { all = []; as_many = refl; begin = λ i k vs d. d }
    actuals c _ _ each (typing.more {e} {es} {t = y} {ts = ys} d ds) = of_first (has_type s pure r me z t own n typed_n c Source e y d) (actuals c es ys (λ f i. each f (later_actual i)) ds)
      where
        of_first : (a : EntityType) × (y.type ≡ Some a) → Actuals es ys → Actuals (expr_then e es) (y ∷ ys)
        of_first (a, i) rest = record {
          all = a ∷ rest.all;
          as_many = ap suc rest.as_many;
          begin = λ j k vs f. calm.eval c Source refl (each e first_actual)
              (subst (λ o. HasType (context_in s pure t) c Source n e (typing o y.is_separate)) i d) (rest.begin (j + olds_in e) k (a ∷ vs) f);
        }

    -- ---- calls begin

    -- a routine of Current
    own_begins : (c : Context) (i : ℕ) (x : List ℕ) (es : Exprs) (rs : List Typing) (f : DeclaredFeature) (a : EntityType) (vs : List EntityType) (p : Point) →
        IsAt s pure r me z t own n typed_n vs p →
        feature_named s (class.Declared t.class) x ≡ Some f → pure (routine_of f) ≡ true → (signature_of s (current (context_in s pure t)) f).gives ≡ Some (Some a) →
        ((e : Expr) → IsActual e es → IsCalm s pure r t c Source n e) → HasTypes (context_in s pure t) c n es rs → Left p.tasks (a ∷ vs) →
        Fine (comes (evals i es ++ CallUnqualified x (count es) ∷ []) p)
    own_begins c i x es rs f a vs p b there is gives each ds d = by (actuals c es rs each ds)
      where
        by : Actuals es rs → Fine (comes (evals i es ++ CallUnqualified x (count es) ∷ []) p)
        by y = comes_fine s pure r me z t own n typed_n (evals i es ++ CallUnqualified x (count es) ∷ []) vs p b
            (subst (λ (k : List Task). Left k vs) (sym (append_assoc (evals i es) (CallUnqualified x (count es) ∷ []) p.tasks))
            (y.begin i (CallUnqualified x (count es) ∷ p.tasks) vs (calm.call_unqualified y.all there is gives y.as_many refl d)))

    -- a feature of a target
    target_begins : (c : Context) (i : ℕ) (x : List ℕ) (e : Expr) (es : Exprs) (y : Typing) (rs : List Typing) (u a : EntityType) (f : DeclaredFeature) (vs : List EntityType)
        (p : Point) → IsAt s pure r me z t own n typed_n vs p → IsCalm s pure r t c Plain n e → HasType (context_in s pure t) c Plain n e y → y.type ≡ Some u → feature_named s u.class x ≡ Some f →
        IsPureIfRoutine pure f (signature_of s u f).routine → (signature_of s u f).gives ≡ Some (Some a) → is_foreign u.tag ≡ false →
        ((e : Expr) → IsActual e es → IsCalm s pure r t c Source n e) → HasTypes (context_in s pure t) c n es rs → Left p.tasks (a ∷ vs) →
        Fine (comes (Eval i e ∷ evals (i + olds_in e) es ++ CallQualified x (count es) ∷ []) p)
    target_begins c i x e es y rs u a f vs p b calm_e d typed there is gives near each ds k = by (actuals c es rs each ds)
      where
        by : Actuals es rs → Fine (comes (Eval i e ∷ evals (i + olds_in e) es ++ CallQualified x (count es) ∷ []) p)
        by l = comes_fine s pure r me z t own n typed_n (Eval i e ∷ evals (i + olds_in e) es ++ CallQualified x (count es) ∷ []) vs p b
            (calm.eval c Plain refl calm_e (subst (λ o. HasType (context_in s pure t) c Plain n e (typing o y.is_separate)) typed d)
            (subst (λ (k : List Task). Left k (u ∷ vs)) (sym (append_assoc (evals (i + olds_in e) es) (CallQualified x (count es) ∷ []) p.tasks))
            (l.begin (i + olds_in e) (CallQualified x (count es) ∷ p.tasks) (u ∷ vs)
            (calm.call_qualified l.all u there is gives near l.as_many refl k))))

    feature_fine : (c : Context) (i : ℕ) (x : List ℕ) (es : Exprs) (rs : List Typing) (f : DeclaredFeature) (a : EntityType) (vs : List EntityType) (p : Point) →
        IsAt s pure r me z t own n typed_n vs p →
        feature_named s (class.Declared t.class) x ≡ Some f → IsPureIfRoutine pure f (signature_of s (current (context_in s pure t)) f).routine →
        (signature_of s (current (context_in s pure t)) f).gives ≡ Some (Some a) → ((e : Expr) → IsActual e es → IsCalm s pure r t c Source n e) →
        HasTypes (context_in s pure t) c n es rs → Left p.tasks (a ∷ vs) →
        Fine (begins_feature s me x (feature_named s (class.Declared p.text.class) x) i es p)
    feature_fine c i x es rs f a vs p b there is gives each ds d =
        subst (λ o. Fine (begins_feature s me x o i es p)) (sym (ap (λ (u : Text). feature_named s (class.Declared u.class) x) b.text_is ∙ there)) (by f.feature.kind refl)
      where
        own_read : (o : Option EntityType) → o ≡ Some a → Fine (reads_own o (binding_named x (attributes_of me.number p.objects)) p)
        own_read None e = cc
        own_read (Some u) e = attribute_fine vs (binding_named x (attributes_of me.number p.objects)) u p b (retyped vs a u p (sym (same_some e)) d)

        by : (k : FeatureKind) → f.feature.kind ≡ k → Fine (begins_kind s me x k i es p)
        by (tree.Attribute g) e = own_read (given_type s (current (place_in s p.text)) g)
            (ap (λ (u : Text). given_type s (current (place_in s u)) g) b.text_is
            ∙ same_some (sym (ap (λ k. (signature_of_kind s (current (context_in s pure t)) f k).gives) e) ∙ gives))
        by (tree.Routine g) e = own_begins c i x es rs f a vs p b there
            (is (ap (λ k. (signature_of_kind s (current (context_in s pure t)) f k).routine) e)) gives each ds d

    name_fine : (c : Context) (i : ℕ) (x : List ℕ) (es : Exprs) (rs : List Typing) (g : Signature) (a : EntityType) (vs : List EntityType) (p : Point) →
        IsAt s pure r me z t own n typed_n vs p →
        unqualified_meaning (context_in s pure t) n x ≡ named g → ((f : RoutineName) → g.routine ≡ Some f → pure f ≡ true) → g.gives ≡ Some (Some a) →
        ((e : Expr) → IsActual e es → IsCalm s pure r t c Source n e) → HasTypes (context_in s pure t) c n es rs → Left p.tasks (a ∷ vs) →
        Fine (begins_name s me x (binding_named x p.environment) i es p)
    name_fine c i x es rs g a vs p b m may gives each ds d = by (binding_named x p.environment)
        (subst (λ o. entity_or (context_in s pure t) x o ≡ named g) (named_alike x p.environment)
        (subst (λ (ns : Entities). unqualified_meaning (context_in s pure t) ns x ≡ named g) (sym b.names_are) m))
      where
        no_value : None ≡ Some (Some a) → ⊥
        no_value e = cc

        meant : (m : FeatureMeant s (current (context_in s pure t)) (feature_named s (class.Declared t.class) x) g) →
            Fine (begins_feature s me x (feature_named s (class.Declared p.text.class) x) i es p)
        meant m = feature_fine c i x es rs m.feature a vs p b m.is_there
            (λ e. may (routine_of m.feature) (sym (ap (λ (g : Signature). g.routine) m.signature_is) ∙ e))
            (ap (λ (g : Signature). g.gives) m.signature_is ∙ gives) each ds d

        by_print : (v : Bool) → (if v then named (print_signature (context_in s pure t)) else meaning_of_feature s (current (context_in s pure t)) (feature_named s (class.Declared t.class) x)) ≡ named g →
            Fine (begins_feature s me x (feature_named s (class.Declared p.text.class) x) i es p)
        by_print true e = absurd (no_value (ap (λ (g : Signature). g.gives) (same_meaning e) ∙ gives))
        by_print false e = meant (feature_meant s (current (context_in s pure t)) (feature_named s (class.Declared t.class) x) g e)

        by : (o : Option Binding) → entity_or (context_in s pure t) x (option_map known_of o) ≡ named g → Fine (begins_name s me x o i es p)
        by None e = by_print (is_print x) e
        by (Some y) e = reads_fine vs y.type y.type y.value p b
            (retyped vs a y.type p (sym (same_some (same_some (ap (λ (g : Signature). g.gives) (same_meaning e) ∙ gives)))) d)

    -- ---- an expression begins

    -- where the expression is an `old`, its value was kept, and is of its type
    abbrev pub OldsKept : ℕ → Expr → Point → Type 0
    OldsKept i e p = (sp : Span) (f : Expr) → e ≡ tree.Unary sp unary.Old f → (y : Typing) → HasType (context_in s pure t) context.Old Plain n f y →
        (o : Operand) × (slice_get p.olds i ≡ Some o) × (y.type ≡ Some o.type)

    ordered : (op : UnaryOperator) (c : Context) (i : ℕ) (e : Expr) (y : Typing) (a : EntityType) (vs : List EntityType) (p : Point) →
        IsAt s pure r me z t own n typed_n vs p → IsCalm s pure r t c Plain n e →
        HasType (context_in s pure t) c Plain n e y → unary_result op y.type ≡ Some (Some a) → Left p.tasks (a ∷ vs) → Fine (comes (Eval i e ∷ ApplyUnary op ∷ []) p)
    ordered op c i e y a vs p b calm_e d u k = by (has_type s pure r me z t own n typed_n c Plain e y d)
      where
        by : (v : EntityType) × (y.type ≡ Some v) → Fine (comes (Eval i e ∷ ApplyUnary op ∷ []) p)
        by (v, typed) = comes_fine s pure r me z t own n typed_n (Eval i e ∷ ApplyUnary op ∷ []) vs p b
            (calm.eval c Plain refl calm_e (subst (λ o. HasType (context_in s pure t) c Plain n e (typing o y.is_separate)) typed d)
            (calm.apply_unary (unary_there op v a (ap (unary_result op) (sym typed) ∙ u)) k))

    pub eval_fine : (c : Context) (i : ℕ) (q : Position) (e : Expr) (y : Typing) (a : EntityType) (vs : List EntityType) (p : Point) → IsAt s pure r me z t own n typed_n vs p →
        (is_condition q ≡ true → may_give e ≡ false) → IsCalm s pure r t c q n e → OldsKept i e p →
        HasType (context_in s pure t) c q n e y → y.type ≡ Some a → Left p.tasks (a ∷ vs) → Fine (evaluate s me i e p)
    eval_fine c i q _ _ a vs p b j w olds (typing.number {v = x}) e k = given s pure r me z t own n typed_n vs a p (Integer x) integer b k (same_some e)
    eval_fine c i q _ _ a vs p b j w olds (typing.truth {v = x}) e k = given s pure r me z t own n typed_n vs a p (Boolean x) boolean b k (same_some e)
    eval_fine c i q _ _ a vs p b j w olds (typing.void d) e k = given s pure r me z t own n typed_n vs a p Void void b k (same_some e)
    eval_fine c i q _ _ a vs p b j w olds typing.current_object e k =
        given s pure r me z t own n typed_n vs a p (Attached me) (current (place_in s p.text)) b k (ap (λ (u : Text). current (place_in s u)) b.text_is ∙ same_some e)
    eval_fine c i q _ _ a vs p b j w olds (typing.result d) e k =
        result_fine vs a p.result p.text.result p b (ap (λ (u : Text). u.result) b.text_is ∙ d ∙ ap (λ o. Some o) e) k
    eval_fine c i q _ _ a vs p b j w olds (typing.call {a = tree.no_target} {x} {es} {ts = rs} {g} typing.implicit ta m ds fits v many gives u x') e k =
        name_fine c i x.text es rs g a vs p b m (calls_calm s pure r me z t w _ g typing.implicit m u) (gives ∙ ap (λ o. Some o) e)
        (λ f act. part_calm s pure r me z t (site.actual_part act) (λ k. k) refl w) ds k
    eval_fine c i q _ _ a vs p b j w olds (typing.call {a = tree.target f} {x} {es} {ts = rs} {g} (typing.explicit {t = y} d) ta m ds fits v many gives u x') e k =
        by (has_type s pure r me z t own n typed_n c Plain f y d)
      where
        of_feature : (o : EntityType) → y.type ≡ Some o → FeatureMeant s o (feature_named s o.class x.text) g →
            Fine (comes (Eval i f ∷ evals (i + olds_in f) es ++ CallQualified x.text (count es) ∷ []) p)
        of_feature o typed h = target_begins c i x.text f es y rs o a h.feature vs p b (part_calm s pure r me z t site.target_part (λ k. k) refl w) d typed h.is_there
            (λ r'. calls_calm s pure r me z t w _ g (typing.explicit d) m u (routine_of h.feature) (sym (ap (λ (g : Signature). g.routine) h.signature_is) ∙ r'))
            (ap (λ (g : Signature). g.gives) h.signature_is ∙ gives ∙ ap (λ o. Some o) e)
            (near_calm s pure r me z t w o y.is_separate (subst (λ v. HasType (context_in s pure t) c Plain n f (typing v y.is_separate)) typed d)
            (subst (λ v. may_target v ≡ true) typed ta))
            (λ g act. part_calm s pure r me z t (site.actual_part act) (λ k. k) refl w) ds k

        by : (o : EntityType) × (y.type ≡ Some o) → Fine (comes (Eval i f ∷ evals (i + olds_in f) es ++ CallQualified x.text (count es) ∷ []) p)
        by (o, typed) = of_feature o typed
            (feature_meant s o (feature_named s o.class x.text) g (ap (λ v. meaning_of (context_in s pure t) n (tree.target f) v x) (sym typed) ∙ m))
    eval_fine c i q _ _ a vs p b j w olds (typing.untyped_target_call d ta ds) e k = cc
    eval_fine c i q _ _ a vs p b j w olds (typing.unary {s = sp} {op = unary.Old} {a = f} {t = y} d o u) e k = by (olds sp f refl y (operand_of_old c d o))
      where
        by : (v : Operand) × (slice_get p.olds i ≡ Some v) × (y.type ≡ Some v.type) → Fine (gives_found (slice_get p.olds i) p)
        by (v, there, typed) = subst (λ o. Fine (gives_found o p)) (sym there) (given s pure r me z t own n typed_n vs a p v.value v.type b k
            (same_some (unary_there unary.Old v.type a (ap (unary_result unary.Old) (sym typed) ∙ u ∙ ap (λ o. Some o) e))))
    eval_fine c i q _ _ a vs p b j w olds (typing.unary {op = unary.Not} {a = f} {t = y} d o u) e k =
        ordered unary.Not c i f y a vs p b (part_calm s pure r me z t site.operand_part (λ k. k) refl w) d (u ∙ ap (λ o. Some o) e) k
    eval_fine c i q _ _ a vs p b j w olds (typing.unary {op = unary.Plus} {a = f} {t = y} d o u) e k =
        ordered unary.Plus c i f y a vs p b (part_calm s pure r me z t site.operand_part (λ k. k) refl w) d (u ∙ ap (λ o. Some o) e) k
    eval_fine c i q _ _ a vs p b j w olds (typing.unary {op = unary.Minus} {a = f} {t = y} d o u) e k =
        ordered unary.Minus c i f y a vs p b (part_calm s pure r me z t site.operand_part (λ k. k) refl w) d (u ∙ ap (λ o. Some o) e) k
    eval_fine c i q _ _ a vs p b j w olds (typing.binary {op} {a = f} {b = g} {t = y} {u = v} x d d' u) e k =
        by (has_type s pure r me z t own n typed_n c (operand_position op) f y d) (has_type s pure r me z t own n typed_n c (operand_position op) g v d')
      where
        by : (l : EntityType) × (y.type ≡ Some l) → (l' : EntityType) × (v.type ≡ Some l') → Fine (comes (Eval i f ∷ EvalRight op (i + olds_in f) g ∷ []) p)
        by (l, typed) (l', typed') = comes_fine s pure r me z t own n typed_n (Eval i f ∷ EvalRight op (i + olds_in f) g ∷ []) vs p b
            (calm.eval c (operand_position op) (plain_operand op) (part_calm s pure r me z t (site.left_part x) (λ k. k) (plain_operand op) w)
            (subst (λ o. HasType (context_in s pure t) c (operand_position op) n f (typing o y.is_separate)) typed d)
            (calm.eval_right c (operand_position op) (plain_operand op) (part_calm s pure r me z t (site.right_part x) (λ k. k) (plain_operand op) w)
            (subst (λ o. HasType (context_in s pure t) c (operand_position op) n g (typing o v.is_separate)) typed' d')
            (binary_there op l l' a (ap (λ o. binary_result op o (Some l')) (sym typed) ∙ ap (binary_result op y.type) (sym typed') ∙ u ∙ ap (λ o. Some o) e)) k))
    eval_fine c i q _ _ a vs p b j w olds (typing.and_then {op} x d g d' u) e k = absurd (not_joined q op j x)
    eval_fine c i q _ _ a vs p b j w olds (typing.test x d) e k = no (sym (j refl))
