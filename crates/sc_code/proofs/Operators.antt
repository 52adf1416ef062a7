-- Operators and reading: the operation comes to what the model's task does.
use Rattle.std.proofs.Common.{◌≡◌, ℤ, Some, None, Ok, Err, Bool, true, false, refl}
use Rattle.std.specs.Prelude.{if◌then◌else◌}
use Rattle.sc_formula.specs.declared.arithmetic.ArithmeticFault.TheVariants as fault
use Rattle.sc_formula.specs.Arithmetic as arithmetic
use Rattle.sc_formula.specs.declared.arithmetic.ArithmeticOperator.TheVariants as operation
use Rattle.sc_tree.specs.declared.expression.UnaryOperator.{UnaryOperator}
use Rattle.sc_tree.specs.declared.expression.UnaryOperator.TheVariants as unary
use Rattle.sc_tree.specs.declared.expression.BinaryOperator.{BinaryOperator}
use Rattle.sc_tree.specs.declared.expression.BinaryOperator.TheVariants as binary
use Rattle.sc_rules.specs.declared.entity_types.entity_type.EntityType.{EntityType}
use Rattle.sc_rules.specs.entity_types.Conformance.{integer}
use Rattle.sc_model.specs.declared.cause.Cause.TheVariants as cause
use Rattle.sc_model.specs.Values.{Value, Integer, Boolean, Void, Attached}
use Rattle.sc_model.specs.Operators.{identity_of, is_short}
use Rattle.sc_model.specs.Expressions.{gives_outcome, gives_truth, apply_unary, apply_binary, decided_by, is_same_object}
use Rattle.sc_model.specs.Steps as model
use Rattle.sc_model.specs.Steps.{Point}
use Rattle.sc_code.specs.Places.{unary_type, binary_type}
use Rattle.sc_code.specs.Machine.{Gives, Faults, read, outcome, truth, unary_value, binary_value}
use Rattle.sc_code.proofs.Hops.{given_as}

void_is : (b : Bool) (t : EntityType) (p : Point) → (if b then model.fails cause.UnsetEntity p else model.gives Void t p) ≡ given_as (if b then Faults cause.UnsetEntity else Gives Void) t p
void_is true t p = refl
void_is false t p = refl

pub reading_is : (d : EntityType) (v : Value) (t : EntityType) (p : Point) → model.reads_as d v t p ≡ given_as (read d.attached (Some v)) t p
reading_is d Void t p = void_is d.attached t p
reading_is d (Integer z) t p = refl
reading_is d (Boolean b) t p = refl
reading_is d (Attached r) t p = refl

outcome_is : (o : arithmetic.ArithmeticResult) (p : Point) → gives_outcome o p ≡ given_as (outcome o) integer p
outcome_is (Ok z) p = refl
outcome_is (Err fault.Overflow) p = refl
outcome_is (Err fault.DivideByZero) p = refl

pub unary_is : (op : UnaryOperator) (v : Value) (p : Point) → apply_unary op v p ≡ given_as (unary_value op v) (unary_type op) p
unary_is unary.Not (Boolean b) p = refl
unary_is unary.Plus (Integer z) p = refl
unary_is unary.Minus (Integer z) p = outcome_is (arithmetic.opposite_of z) p
unary_is unary.Not (Integer z) p = refl
unary_is unary.Not Void p = refl
unary_is unary.Not (Attached r) p = refl
unary_is unary.Plus (Boolean b) p = refl
unary_is unary.Plus Void p = refl
unary_is unary.Plus (Attached r) p = refl
unary_is unary.Minus (Boolean b) p = refl
unary_is unary.Minus Void p = refl
unary_is unary.Minus (Attached r) p = refl
unary_is unary.Old v p = refl

truth_is : (op : BinaryOperator) (b : Bool) (p : Point) → gives_truth (identity_of op b) p ≡ given_as (truth (identity_of op b)) (binary_type op) p
truth_is binary.Times b p = refl
truth_is binary.Quotient b p = refl
truth_is binary.Remainder b p = refl
truth_is binary.Plus b p = refl
truth_is binary.Minus b p = refl
truth_is binary.Equal b p = refl
truth_is binary.NotEqual b p = refl
truth_is binary.Less b p = refl
truth_is binary.Greater b p = refl
truth_is binary.LessEqual b p = refl
truth_is binary.GreaterEqual b p = refl
truth_is binary.And b p = refl
truth_is binary.AndThen b p = refl
truth_is binary.Or b p = refl
truth_is binary.OrElse b p = refl
truth_is binary.Xor b p = refl
truth_is binary.Implies b p = refl

integers_are : (op : BinaryOperator) (a b : ℤ) (p : Point) → apply_binary op (Integer a) (Integer b) p ≡ given_as (binary_value op (Integer a) (Integer b)) (binary_type op) p
integers_are binary.Times a b p = outcome_is (arithmetic.result_of operation.Times a b) p
integers_are binary.Quotient a b p = outcome_is (arithmetic.result_of operation.Quotient a b) p
integers_are binary.Remainder a b p = outcome_is (arithmetic.result_of operation.Remainder a b) p
integers_are binary.Plus a b p = outcome_is (arithmetic.result_of operation.Plus a b) p
integers_are binary.Minus a b p = outcome_is (arithmetic.result_of operation.Minus a b) p
integers_are binary.Equal a b p = refl
integers_are binary.NotEqual a b p = refl
integers_are binary.Less a b p = refl
integers_are binary.Greater a b p = refl
integers_are binary.LessEqual a b p = refl
integers_are binary.GreaterEqual a b p = refl
integers_are binary.And a b p = refl
integers_are binary.AndThen a b p = refl
integers_are binary.Or a b p = refl
integers_are binary.OrElse a b p = refl
integers_are binary.Xor a b p = refl
integers_are binary.Implies a b p = refl

booleans_are : (op : BinaryOperator) (a b : Bool) (p : Point) → apply_binary op (Boolean a) (Boolean b) p ≡ given_as (binary_value op (Boolean a) (Boolean b)) (binary_type op) p
booleans_are binary.Times a b p = refl
booleans_are binary.Quotient a b p = refl
booleans_are binary.Remainder a b p = refl
booleans_are binary.Plus a b p = refl
booleans_are binary.Minus a b p = refl
booleans_are binary.Equal a b p = refl
booleans_are binary.NotEqual a b p = refl
booleans_are binary.Less a b p = refl
booleans_are binary.Greater a b p = refl
booleans_are binary.LessEqual a b p = refl
booleans_are binary.GreaterEqual a b p = refl
booleans_are binary.And a b p = refl
booleans_are binary.AndThen a b p = refl
booleans_are binary.Or a b p = refl
booleans_are binary.OrElse a b p = refl
booleans_are binary.Xor a b p = refl
booleans_are binary.Implies a b p = refl

pub binary_is : (op : BinaryOperator) (v w : Value) (p : Point) → apply_binary op v w p ≡ given_as (binary_value op v w) (binary_type op) p
binary_is op (Integer a) (Integer b) p = integers_are op a b p
binary_is op (Boolean a) (Boolean b) p = booleans_are op a b p
binary_is op (Attached r) (Attached q) p = truth_is op (is_same_object r q) p
binary_is op (Attached r) Void p = truth_is op false p
binary_is op Void (Attached q) p = truth_is op false p
binary_is op Void Void p = truth_is op true p
binary_is op (Integer a) (Boolean b) p = refl
binary_is op (Integer a) Void p = refl
binary_is op (Integer a) (Attached q) p = refl
binary_is op (Boolean a) (Integer b) p = refl
binary_is op (Boolean a) Void p = refl
binary_is op (Boolean a) (Attached q) p = refl
binary_is op (Attached r) (Integer b) p = refl
binary_is op (Attached r) (Boolean b) p = refl
binary_is op Void (Integer b) p = refl
binary_is op Void (Boolean b) p = refl

undecided_by : (op : BinaryOperator) (b : Bool) → is_short op ≡ false → decided_by op (Boolean b) ≡ None
undecided_by binary.Times b e = refl
undecided_by binary.Quotient b e = refl
undecided_by binary.Remainder b e = refl
undecided_by binary.Plus b e = refl
undecided_by binary.Minus b e = refl
undecided_by binary.Equal b e = refl
undecided_by binary.NotEqual b e = refl
undecided_by binary.Less b e = refl
undecided_by binary.Greater b e = refl
undecided_by binary.LessEqual b e = refl
undecided_by binary.GreaterEqual b e = refl
undecided_by binary.And b e = refl
undecided_by binary.AndThen b e = absurd (cc)
undecided_by binary.Or b e = refl
undecided_by binary.OrElse b e = absurd (cc)
undecided_by binary.Xor b e = refl
undecided_by binary.Implies b e = absurd (cc)

-- any other operator evaluates both operands
pub undecided : (op : BinaryOperator) (v : Value) → is_short op ≡ false → decided_by op v ≡ None
undecided op (Boolean b) e = undecided_by op b e
undecided op (Integer z) e = refl
undecided op Void e = refl
undecided op (Attached r) e = refl
