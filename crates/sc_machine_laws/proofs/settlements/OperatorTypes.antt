-- What types the operators of each kind give.
use Rattle.std.proofs.Common.{◌≡◌, ◌&&◌, Bool, true, false, Option, Some, None, refl, sym, ◌∙◌}
use Rattle.std.specs.Option.{option_and_then}
use Rattle.sc_formula.specs.declared.arithmetic.ArithmeticOperator.{ArithmeticOperator}
use Rattle.sc_formula.specs.declared.connective.Connective.{Connective}
use Rattle.sc_formula.specs.Connective.{decision_of}
use Rattle.sc_tree.specs.declared.expression.UnaryOperator.{UnaryOperator}
use Rattle.sc_tree.specs.declared.expression.UnaryOperator.TheVariants as unary
use Rattle.sc_tree.specs.declared.expression.BinaryOperator.{BinaryOperator}
use Rattle.sc_tree.specs.declared.expression.BinaryOperator.TheVariants as binary
use Rattle.sc_rules.specs.declared.entity_types.entity_type.EntityType.{EntityType}
use Rattle.sc_rules.specs.entity_types.Conformance.{integer, boolean}
use Rattle.sc_rules.specs.declared.position.Position.{Position}
use Rattle.sc_rules.specs.declared.position.Position.TheVariants.{Plain, Source, Condition}
use Rattle.sc_rules.specs.Positions.{is_and_then, is_condition, shares_names}
use Rattle.sc_rules.specs.Types.{binary_type, is_boolean, is_comparable, is_integer, unary_type}
use Rattle.sc_model.specs.Values.{Value, Integer, Boolean, Void, Attached}
use Rattle.sc_model.specs.Operators.{arithmetic_of, connective_of, identity_of, is_short}
use Rattle.sc_model.specs.Expressions.{decided_by}
use Rattle.sc_machine_laws.proofs.states.Applications.{gives_is}

no : {A : Type 0} → false ≡ true → A
no e = cc

-- ---- what operators give

pub integer_is : (op : BinaryOperator) (o : ArithmeticOperator) (a b u : EntityType) → arithmetic_of op ≡ Some o → binary_type op a b ≡ Some u → integer ≡ u
integer_is binary.Times o a b u i e = (gives_is (is_integer a.class && is_integer b.class) integer u e).1
integer_is binary.Quotient o a b u i e = (gives_is (is_integer a.class && is_integer b.class) integer u e).1
integer_is binary.Remainder o a b u i e = (gives_is (is_integer a.class && is_integer b.class) integer u e).1
integer_is binary.Plus o a b u i e = (gives_is (is_integer a.class && is_integer b.class) integer u e).1
integer_is binary.Minus o a b u i e = (gives_is (is_integer a.class && is_integer b.class) integer u e).1
integer_is binary.Equal o a b u i e = cc
integer_is binary.NotEqual o a b u i e = cc
integer_is binary.Less o a b u i e = cc
integer_is binary.Greater o a b u i e = cc
integer_is binary.LessEqual o a b u i e = cc
integer_is binary.GreaterEqual o a b u i e = cc
integer_is binary.And o a b u i e = cc
integer_is binary.AndThen o a b u i e = cc
integer_is binary.Or o a b u i e = cc
integer_is binary.OrElse o a b u i e = cc
integer_is binary.Xor o a b u i e = cc
integer_is binary.Implies o a b u i e = cc

pub boolean_is : (op : BinaryOperator) (a b u : EntityType) → arithmetic_of op ≡ None → binary_type op a b ≡ Some u → boolean ≡ u
boolean_is binary.Times a b u i e = cc
boolean_is binary.Quotient a b u i e = cc
boolean_is binary.Remainder a b u i e = cc
boolean_is binary.Plus a b u i e = cc
boolean_is binary.Minus a b u i e = cc
boolean_is binary.Equal a b u i e = (gives_is (is_comparable a.class b.class) boolean u e).1
boolean_is binary.NotEqual a b u i e = (gives_is (is_comparable a.class b.class) boolean u e).1
boolean_is binary.Less a b u i e = (gives_is (is_integer a.class && is_integer b.class) boolean u e).1
boolean_is binary.Greater a b u i e = (gives_is (is_integer a.class && is_integer b.class) boolean u e).1
boolean_is binary.LessEqual a b u i e = (gives_is (is_integer a.class && is_integer b.class) boolean u e).1
boolean_is binary.GreaterEqual a b u i e = (gives_is (is_integer a.class && is_integer b.class) boolean u e).1
boolean_is binary.And a b u i e = (gives_is (is_boolean a.class && is_boolean b.class) boolean u e).1
boolean_is binary.AndThen a b u i e = (gives_is (is_boolean a.class && is_boolean b.class) boolean u e).1
boolean_is binary.Or a b u i e = (gives_is (is_boolean a.class && is_boolean b.class) boolean u e).1
boolean_is binary.OrElse a b u i e = (gives_is (is_boolean a.class && is_boolean b.class) boolean u e).1
boolean_is binary.Xor a b u i e = (gives_is (is_boolean a.class && is_boolean b.class) boolean u e).1
boolean_is binary.Implies a b u i e = (gives_is (is_boolean a.class && is_boolean b.class) boolean u e).1

pub connective_is : (op : BinaryOperator) (c : Connective) → connective_of op ≡ Some c → arithmetic_of op ≡ None
connective_is binary.Times c e = cc
connective_is binary.Quotient c e = cc
connective_is binary.Remainder c e = cc
connective_is binary.Plus c e = cc
connective_is binary.Minus c e = cc
connective_is binary.Equal c e = refl
connective_is binary.NotEqual c e = refl
connective_is binary.Less c e = refl
connective_is binary.Greater c e = refl
connective_is binary.LessEqual c e = refl
connective_is binary.GreaterEqual c e = refl
connective_is binary.And c e = refl
connective_is binary.AndThen c e = refl
connective_is binary.Or c e = refl
connective_is binary.OrElse c e = refl
connective_is binary.Xor c e = refl
connective_is binary.Implies c e = refl

pub identity_is : (op : BinaryOperator) (b c : Bool) → identity_of op b ≡ Some c → arithmetic_of op ≡ None
identity_is binary.Times b c e = cc
identity_is binary.Quotient b c e = cc
identity_is binary.Remainder b c e = cc
identity_is binary.Plus b c e = cc
identity_is binary.Minus b c e = cc
identity_is binary.Equal b c e = refl
identity_is binary.NotEqual b c e = refl
identity_is binary.Less b c e = refl
identity_is binary.Greater b c e = refl
identity_is binary.LessEqual b c e = refl
identity_is binary.GreaterEqual b c e = refl
identity_is binary.And b c e = refl
identity_is binary.AndThen b c e = refl
identity_is binary.Or b c e = refl
identity_is binary.OrElse b c e = refl
identity_is binary.Xor b c e = refl
identity_is binary.Implies b c e = refl

pub short_is : (op : BinaryOperator) → is_short op ≡ true → arithmetic_of op ≡ None
short_is binary.Times e = cc
short_is binary.Quotient e = cc
short_is binary.Remainder e = cc
short_is binary.Plus e = cc
short_is binary.Minus e = cc
short_is binary.Equal e = refl
short_is binary.NotEqual e = refl
short_is binary.Less e = refl
short_is binary.Greater e = refl
short_is binary.LessEqual e = refl
short_is binary.GreaterEqual e = refl
short_is binary.And e = refl
short_is binary.AndThen e = refl
short_is binary.Or e = refl
short_is binary.OrElse e = refl
short_is binary.Xor e = refl
short_is binary.Implies e = refl

-- what a left operand decides is a truth value
pub decided_is : (op : BinaryOperator) (v : Value) (z : Bool) → decided_by op v ≡ Some z → arithmetic_of op ≡ None
decided_is op (Boolean b) z e = by (connective_of op) refl e
  where
    by : (o : Option Connective) → connective_of op ≡ o → option_and_then (λ c. decision_of c b) o ≡ Some z → arithmetic_of op ≡ None
    by None i e = cc
    by (Some c) i e = connective_is op c i
decided_is op (Integer x) z e = cc
decided_is op Void z e = cc
decided_is op (Attached r) z e = cc

pub unary_is : (op : UnaryOperator) (a b : EntityType) → unary_type op a ≡ Some b → (op ≡ unary.Not → boolean ≡ b) × ((op ≡ unary.Not → ⊥) → (op ≡ unary.Old → ⊥) → integer ≡ b)
unary_is unary.Old a b e = (λ i. cc, λ f g. absurd (g refl))
unary_is unary.Not a b e = (λ i. (gives_is (is_boolean a.class) boolean b e).1, λ f g. absurd (f refl))
unary_is unary.Plus a b e = (λ i. cc, λ f g. (gives_is (is_integer a.class) integer b e).1)
unary_is unary.Minus a b e = (λ i. cc, λ f g. (gives_is (is_integer a.class) integer b e).1)

-- outside of conditions no names are shared
pub not_joined : (q : Position) (op : BinaryOperator) → (is_condition q ≡ true → is_and_then op ≡ false) → shares_names q op ≡ true → ⊥
not_joined Plain op e f = no f
not_joined Source op e f = no f
not_joined Condition op e f = no (sym (e refl) ∙ f)
