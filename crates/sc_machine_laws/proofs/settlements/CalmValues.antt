-- Where no clause of a precondition is left, tasks that constructs set out, values and object tests leave none.
use Rattle.std.proofs.Common.{◌≡◌, ℕ, ℤ, ◌+◌, List, [], ◌∷◌, ◌++◌, Option, Some, None, Ok, Err, Bool, true, false, refl}
use Rattle.std.specs.Prelude.{if◌then◌else◌}
use Rattle.sc_formula.specs.declared.arithmetic.ArithmeticFault.TheVariants as fault
use Rattle.sc_formula.specs.declared.arithmetic.ArithmeticOperator.{ArithmeticOperator}
use Rattle.sc_formula.specs.declared.comparison.Comparison.{Comparison}
use Rattle.sc_formula.specs.declared.connective.Connective.{Connective}
use Rattle.sc_formula.specs.Arithmetic.{ArithmeticResult, opposite_of, result_of}
use Rattle.sc_tree.specs.declared.expression.UnaryOperator.{UnaryOperator}
use Rattle.sc_tree.specs.declared.expression.UnaryOperator.TheVariants as unary
use Rattle.sc_tree.specs.declared.expression.BinaryOperator.{BinaryOperator}
use Rattle.sc_tree.specs.Plain as tree
use Rattle.sc_tree.specs.Plain.{System, DeclaredType, Clause, Head, Exprs, no_exprs, expr_then}
use Rattle.sc_rules.specs.declared.entity_types.entity_type.EntityType.{EntityType}
use Rattle.sc_model.specs.declared.cause.Cause.TheVariants as cause
use Rattle.sc_model.specs.Values.{Value, Integer, Boolean, Void, Attached, Operand}
use Rattle.sc_model.specs.Environments.{Binding, handler_named}
use Rattle.sc_model.specs.Operators.{arithmetic_of, comparison_of, connective_of, identity_of}
use Rattle.sc_model.specs.Olds.{olds_in}
use Rattle.sc_model.specs.Tasks.{Task, Eval, evals, head_evals, checks}
use Rattle.sc_model.specs.Steps.{Point, Step, fails, comes, gives, reads_as, reads_attribute}
use Rattle.sc_model.specs.ObjectTests.{is_tested, binds_if, binds}
use Rattle.sc_model.specs.Expressions.{gives_outcome, gives_truth, apply_unary, apply_to_integers, apply_to_booleans, is_same_object, apply_binary, applies, evals_right, concludes}
use Rattle.sc_machine_laws.specs.settlements.Entries.{is_clause, HasStarted, RefusesNone}

-- ---- tasks that constructs set out

pub calm_append : (xs ys : List Task) → HasStarted xs → HasStarted ys → HasStarted (xs ++ ys)
calm_append [] ys h k = k
calm_append (t ∷ ts) ys h k = (h.0, calm_append ts ys h.1 k)

pub comes_calm : (ts : List Task) (p : Point) → HasStarted ts → HasStarted p.tasks → RefusesNone (comes ts p)
comes_calm ts p h k = calm_append ts p.tasks h k

actuals_calm : (i : ℕ) (es : Exprs) → HasStarted (evals i es)
actuals_calm i no_exprs = tt
actuals_calm i (expr_then e es) = (refl, actuals_calm (i + olds_in e) es)

pub heads_calm : (ds : List Head) → HasStarted (head_evals ds)
heads_calm [] = tt
heads_calm (d ∷ ds) = (refl, heads_calm ds)

pub checks_calm : (ks : List Clause) → HasStarted (checks ks)
checks_calm [] = tt
checks_calm (k ∷ ks) = (refl, (refl, checks_calm ks))

-- actuals, and then a task
pub evals_calm : (i : ℕ) (es : Exprs) (t : Task) (p : Point) → is_clause t ≡ false → HasStarted p.tasks → RefusesNone (comes (evals i es ++ t ∷ []) p)
evals_calm i es t p e h = comes_calm (evals i es ++ t ∷ []) p (calm_append (evals i es) (t ∷ []) (actuals_calm i es) (e, tt)) h

-- with a target before them
pub target_calm : (i j : ℕ) (a : tree.Expr) (es : Exprs) (t : Task) (p : Point) → is_clause t ≡ false → HasStarted p.tasks → RefusesNone (comes (Eval i a ∷ evals j es ++ t ∷ []) p)
target_calm i j a es t p e h = comes_calm (Eval i a ∷ evals j es ++ t ∷ []) p (refl, calm_append (evals j es) (t ∷ []) (actuals_calm j es) (e, tt)) h

pub if_calm : (b : Bool) (x y : Step) → RefusesNone x → RefusesNone y → RefusesNone (if b then x else y)
if_calm true x y h k = h
if_calm false x y h k = k

-- ---- values

pub reads_as_calm : (d : EntityType) (v : Value) (t : EntityType) (p : Point) → HasStarted p.tasks → RefusesNone (reads_as d v t p)
reads_as_calm d Void t p h = if_calm d.attached (fails cause.UnsetEntity p) (gives Void t p) tt h
reads_as_calm d (Integer z) t p h = h
reads_as_calm d (Boolean b) t p h = h
reads_as_calm d (Attached r) t p h = h

pub attribute_calm : (b : Option Binding) (t : EntityType) (p : Point) → HasStarted p.tasks → RefusesNone (reads_attribute b t p)
attribute_calm None t p h = tt
attribute_calm (Some b) t p h = reads_as_calm t b.value t p h

outcome_calm : (o : ArithmeticResult) (p : Point) → HasStarted p.tasks → RefusesNone (gives_outcome o p)
outcome_calm (Ok z) p h = h
outcome_calm (Err fault.Overflow) p h = tt
outcome_calm (Err fault.DivideByZero) p h = tt

truth_calm : (b : Option Bool) (p : Point) → HasStarted p.tasks → RefusesNone (gives_truth b p)
truth_calm None p h = tt
truth_calm (Some b) p h = h

pub unary_calm : (op : UnaryOperator) (v : Value) (p : Point) → HasStarted p.tasks → RefusesNone (apply_unary op v p)
unary_calm unary.Not (Boolean b) p h = h
unary_calm unary.Plus (Integer z) p h = h
unary_calm unary.Minus (Integer z) p h = outcome_calm (opposite_of z) p h
unary_calm unary.Not (Integer z) p h = tt
unary_calm unary.Not Void p h = tt
unary_calm unary.Not (Attached r) p h = tt
unary_calm unary.Plus (Boolean b) p h = tt
unary_calm unary.Plus Void p h = tt
unary_calm unary.Plus (Attached r) p h = tt
unary_calm unary.Minus (Boolean b) p h = tt
unary_calm unary.Minus Void p h = tt
unary_calm unary.Minus (Attached r) p h = tt
unary_calm unary.Old v p h = tt

integers_calm : (o : Option ArithmeticOperator) (c : Option Comparison) (a b : ℤ) (p : Point) → HasStarted p.tasks → RefusesNone (apply_to_integers o c a b p)
integers_calm (Some o) c a b p h = outcome_calm (result_of o a b) p h
integers_calm None (Some c) a b p h = h
integers_calm None None a b p h = tt

booleans_calm : (o : Option Connective) (a b : Bool) (p : Point) → HasStarted p.tasks → RefusesNone (apply_to_booleans o a b p)
booleans_calm (Some o) a b p h = h
booleans_calm None a b p h = tt

binary_calm : (op : BinaryOperator) (v w : Value) (p : Point) → HasStarted p.tasks → RefusesNone (apply_binary op v w p)
binary_calm op (Integer a) (Integer b) p h = integers_calm (arithmetic_of op) (comparison_of op) a b p h
binary_calm op (Boolean a) (Boolean b) p h = booleans_calm (connective_of op) a b p h
binary_calm op (Attached r) (Attached q) p h = truth_calm (identity_of op (is_same_object r q)) p h
binary_calm op (Attached r) Void p h = truth_calm (identity_of op false) p h
binary_calm op Void (Attached q) p h = truth_calm (identity_of op false) p h
binary_calm op Void Void p h = truth_calm (identity_of op true) p h
binary_calm op (Integer a) (Boolean b) p h = tt
binary_calm op (Integer a) Void p h = tt
binary_calm op (Integer a) (Attached q) p h = tt
binary_calm op (Boolean a) (Integer b) p h = tt
binary_calm op (Boolean a) Void p h = tt
binary_calm op (Boolean a) (Attached q) p h = tt
binary_calm op (Attached r) (Integer b) p h = tt
binary_calm op (Attached r) (Boolean b) p h = tt
binary_calm op Void (Integer b) p h = tt
binary_calm op Void (Boolean b) p h = tt

pub applies_calm : (op : BinaryOperator) (v : Value) (vs : List Operand) (p : Point) → HasStarted p.tasks → RefusesNone (applies op v vs p)
applies_calm op v [] p h = tt
applies_calm op v (u ∷ vs) p h = binary_calm op u.value v (record p { values = vs }) h

pub right_calm : (d : Option Bool) (short : Bool) (op : BinaryOperator) (i : ℕ) (e : tree.Expr) (u : Operand) (p : Point) → HasStarted p.tasks → RefusesNone (evals_right d short op i e u p)
right_calm (Some b) short op i e u p h = h
right_calm None true op i e u p h = (refl, (refl, h))
right_calm None false op i e u p h = (refl, (refl, h))

pub concludes_calm : (v : Value) (p : Point) → HasStarted p.tasks → RefusesNone (concludes v p)
concludes_calm (Boolean b) p h = h
concludes_calm (Integer z) p h = tt
concludes_calm Void p h = tt
concludes_calm (Attached r) p h = tt

-- ---- object tests

binds_if_calm : (b : Bool) (x : List ℕ) (v : Value) (t : EntityType) (p : Point) → HasStarted p.tasks → RefusesNone (binds_if b x v t p)
binds_if_calm true x v t p h = h
binds_if_calm false x v t p h = h

pub binds_calm : (s : System) (me : ℕ) (d : Option DeclaredType) (x : List ℕ) (v : Value) (t : Option EntityType) (p : Point) → HasStarted p.tasks → RefusesNone (binds s me d x v t p)
binds_calm s me d x v None p h = tt
binds_calm s me d x v (Some t) p h = binds_if_calm (is_tested s me (handler_named p.environment) v d t) x v t p h
