-- Evaluation of expressions (ECMA-367, 8.28).
use Rattle.std.specs.Prelude.{ℕ, ◌+◌, ℤ, Bool, true, false, not, ◌&&◌, ◌==◌, List, [], ◌∷◌, ◌++◌, Option, Some, None, Ok, Err, slice_get}
use Rattle.std.specs.Option.{option_and_then}
use Rattle.sc_formula.specs.declared.arithmetic.ArithmeticFault.TheVariants as fault
use Rattle.sc_formula.specs.declared.arithmetic.ArithmeticOperator.{ArithmeticOperator}
use Rattle.sc_formula.specs.declared.comparison.Comparison.{Comparison}
use Rattle.sc_formula.specs.declared.connective.Connective.{Connective}
use Rattle.sc_formula.specs.Arithmetic.{ArithmeticResult, opposite_of, result_of}
use Rattle.sc_formula.specs.Comparison.{compares}
use Rattle.sc_formula.specs.Connective.{decision_of, truth_table}
use Rattle.sc_tree.specs.declared.expression.UnaryOperator.{UnaryOperator}
use Rattle.sc_tree.specs.declared.expression.UnaryOperator.TheVariants as unary
use Rattle.sc_tree.specs.declared.expression.BinaryOperator.{BinaryOperator}
use Rattle.sc_tree.specs.Plain as tree
use Rattle.sc_tree.specs.Plain.{System, FeatureKind, Exprs}
use Rattle.sc_class.specs.declared.identity.ClassId.TheVariants as class
use Rattle.sc_class.specs.Tables.Features.{DeclaredFeature, feature_named}
use Rattle.sc_rules.specs.declared.entity_types.entity_type.EntityType.{EntityType}
use Rattle.sc_rules.specs.entity_types.Conformance.{void}
use Rattle.sc_rules.specs.CallRules.{count}
use Rattle.sc_rules.specs.Names.{current, given_type}
use Rattle.sc_model.specs.declared.cause.Cause.TheVariants as cause
use Rattle.sc_model.specs.Values.{Reference, Value, Integer, Boolean, Void, Attached, Operand}
use Rattle.sc_model.specs.Environments.{Binding, binding_named}
use Rattle.sc_model.specs.Objects.{attributes_of}
use Rattle.sc_model.specs.Operators.{arithmetic_of, comparison_of, connective_of, identity_of}
use Rattle.sc_model.specs.Routines.{place_in}
use Rattle.sc_model.specs.Olds.{olds_in}
use Rattle.sc_model.specs.Tasks.{Eval, ApplyUnary, EvalRight, ApplyBinary, Conclude, Bind, CallUnqualified, CallQualified, evals}
use Rattle.sc_model.specs.Steps.{Point, Step, Goes, fails, stuck, comes, gives, gives_integer, gives_boolean, reads, reads_as, reads_attribute}

-- ---- operators

abbrev pub gives_outcome : ArithmeticResult → Point → Step
gives_outcome (Ok z) p = gives_integer z p
gives_outcome (Err fault.Overflow) p = fails cause.Overflow p
gives_outcome (Err fault.DivideByZero) p = fails cause.DivideByZero p

abbrev pub gives_truth : Option Bool → Point → Step
gives_truth None p = stuck p
gives_truth (Some b) p = gives_boolean b p

abbrev pub apply_unary : UnaryOperator → Value → Point → Step
apply_unary unary.Not (Boolean b) p = gives_boolean (not b) p
apply_unary unary.Plus (Integer z) p = gives_integer z p
apply_unary unary.Minus (Integer z) p = gives_outcome (opposite_of z) p
apply_unary op v p = stuck p

abbrev pub apply_to_integers : Option ArithmeticOperator → Option Comparison → ℤ → ℤ → Point → Step
apply_to_integers (Some op) c a b p = gives_outcome (result_of op a b) p
apply_to_integers None (Some c) a b p = gives_boolean (compares c a b) p
apply_to_integers None None a b p = stuck p

abbrev pub apply_to_booleans : Option Connective → Bool → Bool → Point → Step
apply_to_booleans (Some c) a b p = gives_boolean (truth_table c a b) p
apply_to_booleans None a b p = stuck p

abbrev pub is_same_object : Reference → Reference → Bool
is_same_object r q = r.handler == q.handler && r.number == q.number

abbrev pub apply_binary : BinaryOperator → Value → Value → Point → Step
apply_binary op (Integer a) (Integer b) p = apply_to_integers (arithmetic_of op) (comparison_of op) a b p
apply_binary op (Boolean a) (Boolean b) p = apply_to_booleans (connective_of op) a b p
apply_binary op (Attached r) (Attached q) p = gives_truth (identity_of op (is_same_object r q)) p
apply_binary op (Attached r) Void p = gives_truth (identity_of op false) p
apply_binary op Void (Attached q) p = gives_truth (identity_of op false) p
apply_binary op Void Void p = gives_truth (identity_of op true) p
apply_binary op a b p = stuck p

-- The right operand's value is there; the left one's is the last under it.
abbrev pub applies : BinaryOperator → Value → List Operand → Point → Step
applies op right [] p = stuck p
applies op right (left ∷ vs) p = apply_binary op left.value right (record p { values = vs })

-- ---- `and then`, `or else`, `implies`

-- what the left operand decides alone
abbrev pub decided_by : BinaryOperator → Value → Option Bool
decided_by op (Boolean b) = option_and_then (λ c. decision_of c b) (connective_of op)
decided_by op v = None

-- If the left operand decides, the right one is left out; if it could have decided, the right one is the result.
abbrev pub evals_right : Option Bool → Bool → BinaryOperator → ℕ → tree.Expr → Operand → Point → Step
evals_right (Some b) short op i right left p = gives_boolean b p
evals_right None true op i right left p = comes (Eval i right ∷ Conclude ∷ []) p
evals_right None false op i right left p =
    Goes (record p { tasks = Eval i right ∷ ApplyBinary op ∷ p.tasks; values = left ∷ p.values })

abbrev pub concludes : Value → Point → Step
concludes (Boolean b) p = gives_boolean b p
concludes v p = stuck p

-- ---- entities and features

abbrev pub gives_found : Option Operand → Point → Step
gives_found None p = stuck p
gives_found (Some u) p = gives u.value u.type p

-- A Result is read as one of its own text's type; a contract that is kept may give it a wider one.
abbrev pub reads_result : Option Operand → Option (Option EntityType) → Point → Step
reads_result (Some u) (Some (Some t)) p = reads_as u.type u.value t p
reads_result u t p = stuck p

abbrev pub reads_own : Option EntityType → Option Binding → Point → Step
reads_own None b p = stuck p
reads_own (Some t) b p = reads_attribute b t p

-- an attribute of Current, or a routine with these actuals
abbrev pub begins_kind : System → Reference → List ℕ → FeatureKind → ℕ → Exprs → Point → Step
begins_kind s me x (tree.Attribute d) i es p =
    reads_own (given_type s (current (place_in s p.text)) d) (binding_named x (attributes_of me.number p.objects)) p
begins_kind s me x (tree.Routine c) i es p = comes (evals i es ++ CallUnqualified x (count es) ∷ []) p

abbrev pub begins_feature : System → Reference → List ℕ → Option DeclaredFeature → ℕ → Exprs → Point → Step
begins_feature s me x None i es p = stuck p
begins_feature s me x (Some f) i es p = begins_kind s me x f.feature.kind i es p

-- an entity of the routine, or else a feature of Current
abbrev pub begins_name : System → Reference → List ℕ → Option Binding → ℕ → Exprs → Point → Step
begins_name s me x (Some b) i es p = reads b.value b.type p
begins_name s me x None i es p = begins_feature s me x (feature_named s (class.Declared p.text.class) x) i es p

-- Operands come before their operator, the target before the actuals, these from left to right.
abbrev pub evaluate : System → Reference → ℕ → tree.Expr → Point → Step
evaluate s me i (tree.Integer q z) p = gives_integer z p
evaluate s me i (tree.Boolean q b) p = gives_boolean b p
evaluate s me i (tree.Void q) p = gives Void void p
evaluate s me i (tree.Current q) p = gives (Attached me) (current (place_in s p.text)) p
evaluate s me i (tree.Result q) p = reads_result p.result p.text.result p
evaluate s me i (tree.Call q tree.no_target x es) p =
    begins_name s me x.text (binding_named x.text p.environment) i es p
evaluate s me i (tree.Call q (tree.target a) x es) p =
    comes (Eval i a ∷ evals (i + olds_in a) es ++ CallQualified x.text (count es) ∷ []) p
evaluate s me i (tree.Unary q unary.Old a) p = gives_found (slice_get p.olds i) p
evaluate s me i (tree.Unary q op a) p = comes (Eval i a ∷ ApplyUnary op ∷ []) p
evaluate s me i (tree.Binary q op a b) p = comes (Eval i a ∷ EvalRight op (i + olds_in a) b ∷ []) p
evaluate s me i (tree.ObjectTest q d a x) p = comes (Eval i a ∷ Bind d x.text ∷ []) p
