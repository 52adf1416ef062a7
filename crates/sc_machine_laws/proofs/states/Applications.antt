-- Operators are applied to the last values, and what ends the evaluation of an operand.
use Rattle.std.specs.Prelude.{Err, Ok}
use Rattle.std.proofs.Common.{◌&&◌, Bool, List, None, Option, Some, [], false, not, refl, subst, sym, true, ℕ, ◌∷◌, ◌≡◌}
use Rattle.sc_tree.specs.Plain.{Expr, System}
use Rattle.sc_tree.specs.declared.expression.BinaryOperator.{BinaryOperator}
use Rattle.sc_tree.specs.declared.expression.BinaryOperator.TheVariants as binary
use Rattle.sc_tree.specs.declared.expression.UnaryOperator.{UnaryOperator}
use Rattle.sc_tree.specs.declared.expression.UnaryOperator.TheVariants as unary
use Rattle.sc_rules.specs.entity_types.Conformance.{boolean, integer}
use Rattle.sc_rules.specs.declared.entity_types.entity_type.EntityType.{EntityType}
use Rattle.sc_rules.specs.Names.{RoutineName}
use Rattle.sc_rules.specs.Positions.{is_condition, operand_position}
use Rattle.sc_rules.specs.Types.{binary_type, gives_if, is_boolean, is_integer}
use Rattle.sc_rules.specs.declared.position.Context.{Context}
use Rattle.sc_formula.specs.Arithmetic.{ArithmeticResult, opposite_of}
use Rattle.sc_formula.specs.declared.arithmetic.ArithmeticFault.TheVariants as fault
use Rattle.sc_model.specs.Environments.{handler_named, scope_of}
use Rattle.sc_model.specs.Expressions.{applies, apply_unary, concludes, decided_by, evals_right, gives_outcome}
use Rattle.sc_model.specs.Fits.{OperandFits}
use Rattle.sc_model.specs.Moves.{performs_on}
use Rattle.sc_model.specs.Operators.{is_short}
use Rattle.sc_model.specs.Routines.{Routine}
use Rattle.sc_model.specs.Steps.{Point}
use Rattle.sc_model.specs.Tasks.{ApplyBinary, ApplyUnary, Conclude, Eval, EvalRight}
use Rattle.sc_model.specs.Values.{Attached, Boolean, Integer, Operand, Reference, Value, Void}
use Rattle.sc_machine_laws.specs.states.Points.{types_of}
use Rattle.sc_machine_laws.specs.states.ValueSteps.{StandsSo, StepFits}
use Rattle.sc_machine_laws.specs.states.Typed as typed
use Rattle.sc_machine_laws.specs.states.Typed.{IsOf, OldsKept}
use Rattle.sc_machine_laws.proofs.states.Lists.{both}
use Rattle.sc_machine_laws.proofs.states.Operators.{binary_step, boolean_value, integer_value}
use Rattle.sc_machine_laws.proofs.states.RoutinePoints.{AllFit, BaseOf, TasksTyped, found, goes}

-- an operator that takes operands of some types gives its type
pub gives_is : (c : Bool) (t r : EntityType) → gives_if c t ≡ Some r → (c ≡ true) × (t ≡ r)
gives_is true t r e = let q : t ≡ r = cc in (refl, q)
gives_is false t r e = cc

-- the other operators decide nothing by their left operand
not_decided : (op : BinaryOperator) (v : Value) → is_short op ≡ false → decided_by op v ≡ None
not_decided op (Integer z) e = refl
not_decided op Void e = refl
not_decided op (Attached r) e = refl
not_decided binary.Equal (Boolean b) e = refl
not_decided binary.NotEqual (Boolean b) e = refl
not_decided binary.Times (Boolean b) e = refl
not_decided binary.Quotient (Boolean b) e = refl
not_decided binary.Remainder (Boolean b) e = refl
not_decided binary.Plus (Boolean b) e = refl
not_decided binary.Minus (Boolean b) e = refl
not_decided binary.Less (Boolean b) e = refl
not_decided binary.Greater (Boolean b) e = refl
not_decided binary.LessEqual (Boolean b) e = refl
not_decided binary.GreaterEqual (Boolean b) e = refl
not_decided binary.And (Boolean b) e = refl
not_decided binary.AndThen (Boolean b) e = cc
not_decided binary.Or (Boolean b) e = refl
not_decided binary.OrElse (Boolean b) e = cc
not_decided binary.Xor (Boolean b) e = refl
not_decided binary.Implies (Boolean b) e = cc

-- the short operators take two truth values
short_type : (op : BinaryOperator) (a b r : EntityType) → is_short op ≡ true → binary_type op a b ≡ Some r → gives_if (is_boolean a.class && is_boolean b.class) boolean ≡ Some r
short_type binary.Equal a b r e t = cc
short_type binary.NotEqual a b r e t = cc
short_type binary.Times a b r e t = cc
short_type binary.Quotient a b r e t = cc
short_type binary.Remainder a b r e t = cc
short_type binary.Plus a b r e t = cc
short_type binary.Minus a b r e t = cc
short_type binary.Less a b r e t = cc
short_type binary.Greater a b r e t = cc
short_type binary.LessEqual a b r e t = cc
short_type binary.GreaterEqual a b r e t = cc
short_type binary.And a b r e t = cc
short_type binary.AndThen a b r e t = t
short_type binary.Or a b r e t = cc
short_type binary.OrElse a b r e t = t
short_type binary.Xor a b r e t = cc
short_type binary.Implies a b r e t = t

-- no operand stands in a condition
pub plain_operand : (op : BinaryOperator) → is_condition (operand_position op) ≡ false
plain_operand binary.Equal = refl
plain_operand binary.NotEqual = refl
plain_operand binary.Times = refl
plain_operand binary.Quotient = refl
plain_operand binary.Remainder = refl
plain_operand binary.Plus = refl
plain_operand binary.Minus = refl
plain_operand binary.Less = refl
plain_operand binary.Greater = refl
plain_operand binary.LessEqual = refl
plain_operand binary.GreaterEqual = refl
plain_operand binary.And = refl
plain_operand binary.AndThen = refl
plain_operand binary.Or = refl
plain_operand binary.OrElse = refl
plain_operand binary.Xor = refl
plain_operand binary.Implies = refl

-- the first of values of these types
pub first_of_types : (a : EntityType) (ts : List EntityType) (vs : List Operand) → types_of vs ≡ a ∷ ts →
    (u : Operand) × (us : List Operand) × (vs ≡ u ∷ us) × (u.type ≡ a) × (types_of us ≡ ts)
first_of_types a ts [] e = cc
first_of_types a ts (u ∷ us) e = (u, us, refl, head_is, tail_is)
  where
    head_is : u.type ≡ a
    head_is = cc

    tail_is : types_of us ≡ ts
    tail_is = cc

module _ (s : System) (pure : RoutineName → Bool) (r : Routine) (me : Reference) (p : Point) (b : BaseOf s r me p) (fs : AllFit s me p p.values) where
  outcome : {u : EntityType} → integer ≡ u → TasksTyped s pure r p p.tasks (u ∷ types_of p.values) → (o : ArithmeticResult) → StepFits s pure r me (gives_outcome o p)
  outcome {u} e k (Ok z) = found s pure r me p b (Integer z) integer u e k refl fs
  outcome e k (Err fault.Overflow) = (refl, b.store)
  outcome e k (Err fault.DivideByZero) = (refl, b.store)

  -- A unary operator.
  pub apply_unary_step : (op : UnaryOperator) (u : Operand) → TasksTyped s pure r p (ApplyUnary op ∷ p.tasks) (u.type ∷ types_of p.values) → OperandFits s me.handler p.environment u →
      StepFits s pure r me (performs_on s me (ApplyUnary op) u p)
  apply_unary_step unary.Old u (typed.apply_unary o t k) f = cc
  apply_unary_step unary.Not u (typed.apply_unary {b = c} o t k) f =
      let g = gives_is (is_boolean u.type.class) boolean c t in
      let v = boolean_value s me.handler (handler_named p.environment) u.value u.type g.0 f in
      subst (λ v. StepFits s pure r me (apply_unary unary.Not v p)) (sym v.is) (found s pure r me p b (Boolean (not v.truth)) boolean c g.1 k refl fs)
  apply_unary_step unary.Plus u (typed.apply_unary {b = c} o t k) f =
      let g = gives_is (is_integer u.type.class) integer c t in
      let z = integer_value s me.handler (handler_named p.environment) u.value u.type g.0 f in
      subst (λ v. StepFits s pure r me (apply_unary unary.Plus v p)) (sym z.is) (found s pure r me p b (Integer z.integer) integer c g.1 k refl fs)
  apply_unary_step unary.Minus u (typed.apply_unary {b = c} o t k) f =
      let g = gives_is (is_integer u.type.class) integer c t in
      let z = integer_value s me.handler (handler_named p.environment) u.value u.type g.0 f in
      subst (λ v. StepFits s pure r me (apply_unary unary.Minus v p)) (sym z.is) (outcome g.1 k (opposite_of z.integer))

  -- a short operator: its left operand decides, or its right one is the result
  short_step : (op : BinaryOperator) (i : ℕ) (right : Expr) (u : Operand) {c : EntityType} → boolean ≡ c → TasksTyped s pure r p p.tasks (c ∷ types_of p.values) →
      StandsSo s pure r me [] (record p { tasks = Eval i right ∷ Conclude ∷ p.tasks }) → (o : Option Bool) → StepFits s pure r me (evals_right o true op i right u p)
  short_step op i right u {c} e k go (Some d) = found s pure r me p b (Boolean d) boolean c e k refl fs
  short_step op i right u e k go None = go

  -- The left operand of an operator is there, outside of conditions.
  pub eval_right_step : (op : BinaryOperator) (i : ℕ) (right : Expr) (u : Operand) (a c : EntityType) (x : Context) → IsOf s p.text x (operand_position op) (scope_of p.environment) right a →
      OldsKept s p.text (scope_of p.environment) i right (types_of p.olds) → binary_type op u.type a ≡ Some c → TasksTyped s pure r p p.tasks (c ∷ types_of p.values) →
      OperandFits s me.handler p.environment u → StepFits s pure r me (performs_on s me (EvalRight op i right) u p)
  eval_right_step op i right u a c x d l t k f = by (is_short op) refl
    where
      by : (d : Bool) → is_short op ≡ d → StepFits s pure r me (evals_right (decided_by op u.value) (is_short op) op i right u p)
      by true e =
          let g = gives_is (is_boolean u.type.class && is_boolean a.class) boolean c (short_type op u.type a c e t) in
          subst (λ c. StepFits s pure r me (evals_right (decided_by op u.value) c op i right u p)) (sym e)
          (short_step op i right u g.1 k
          (goes s pure r me p b [] (Eval i right ∷ Conclude ∷ p.tasks) p.values
          (typed.eval x (operand_position op) (plain_operand op) d l (typed.conclude (both (is_boolean u.type.class) (is_boolean a.class) g.0).1
          (subst (λ c. TasksTyped s pure r p p.tasks (c ∷ types_of p.values)) (sym g.1) k))) fs)
          (decided_by op u.value))
      by false e =
          subst (λ o. StepFits s pure r me (evals_right o (is_short op) op i right u p)) (sym (not_decided op u.value e))
          (subst (λ c. StepFits s pure r me (evals_right None c op i right u p)) (sym e)
          (goes s pure r me p b [] (Eval i right ∷ ApplyBinary op ∷ p.tasks) (u ∷ p.values)
          (typed.eval x (operand_position op) (plain_operand op) d l (typed.apply_binary t k)) (f, fs)))

  -- Both operands are there.
  pub apply_binary_step : (op : BinaryOperator) (u : Operand) (a c : EntityType) (ts : List EntityType) → binary_type op a u.type ≡ Some c → TasksTyped s pure r p p.tasks (c ∷ ts) →
      types_of p.values ≡ a ∷ ts → OperandFits s me.handler p.environment u → StepFits s pure r me (performs_on s me (ApplyBinary op) u p)
  apply_binary_step op u a c ts t k q f = of_left (first_of_types a ts p.values q)
    where
      of_left : (l : Operand) × (vs : List Operand) × (p.values ≡ l ∷ vs) × (l.type ≡ a) × (types_of vs ≡ ts) → StepFits s pure r me (applies op u.value p.values p)
      of_left (l, vs, e, i, j) =
          let fits : AllFit s me p (l ∷ vs) = subst (AllFit s me p) e fs in
          subst (λ us. StepFits s pure r me (applies op u.value us p)) (sym e)
          (binary_step s pure r me (record p { values = vs }) b l.type u.type c l.value u.value fits.0 f
          (subst (λ ts. TasksTyped s pure r p p.tasks (c ∷ ts)) (sym j) k) fits.1 op (subst (λ a. binary_type op a u.type ≡ Some c) (sym i) t))

  -- The right operand of a short operator is the result.
  pub conclude_step : (u : Operand) → is_boolean u.type.class ≡ true → TasksTyped s pure r p p.tasks (boolean ∷ types_of p.values) → OperandFits s me.handler p.environment u →
      StepFits s pure r me (performs_on s me Conclude u p)
  conclude_step u c k f =
      let v = boolean_value s me.handler (handler_named p.environment) u.value u.type c f in
      subst (λ v. StepFits s pure r me (concludes v p)) (sym v.is) (found s pure r me p b (Boolean v.truth) boolean boolean refl k refl fs)
