-- Operators on values that fit.
use Rattle.std.specs.Prelude.{Err, Ok, ℤ}
use Rattle.std.proofs.Common.{◌&&◌, Bool, Option, Some, [], false, inl, inr, not, refl, subst, sym, true, ℕ, ◌∷◌, ◌≡◌, ◌⊎◌}
use Rattle.std.proofs.lemmas.Int.{ints}
use Rattle.sc_tree.specs.Plain.{System}
use Rattle.sc_tree.specs.declared.expression.BinaryOperator.{BinaryOperator}
use Rattle.sc_tree.specs.declared.expression.BinaryOperator.TheVariants as binary
use Rattle.sc_class.specs.Tables.Conformance.{class_conforms, is_expanded}
use Rattle.sc_class.specs.declared.identity.ClassId.{ClassId}
use Rattle.sc_class.specs.declared.identity.ClassId.TheVariants as class
use Rattle.sc_rules.specs.entity_types.Conformance.{boolean, integer}
use Rattle.sc_rules.specs.declared.entity_types.entity_type.EntityType.{EntityType}
use Rattle.sc_rules.specs.declared.entity_types.tag.Reserved.{Reserved}
use Rattle.sc_rules.specs.Names.{RoutineName}
use Rattle.sc_rules.specs.Types.{binary_type, gives_if, is_boolean, is_comparable, is_integer}
use Rattle.sc_formula.specs.Arithmetic.{ArithmeticResult, result_of}
use Rattle.sc_formula.specs.Comparison.{compares}
use Rattle.sc_formula.specs.Connective.{truth_table}
use Rattle.sc_formula.specs.declared.arithmetic.ArithmeticFault.TheVariants as fault
use Rattle.sc_formula.specs.declared.arithmetic.ArithmeticOperator.TheVariants as arithmetic
use Rattle.sc_formula.specs.declared.comparison.Comparison.TheVariants as comparison
use Rattle.sc_formula.specs.declared.connective.Connective.TheVariants as connective
use Rattle.sc_model.specs.Environments.{handler_named}
use Rattle.sc_model.specs.Expressions.{apply_binary, gives_outcome, gives_truth, is_same_object}
use Rattle.sc_model.specs.Fits.{Fits}
use Rattle.sc_model.specs.Operators.{identity_of}
use Rattle.sc_model.specs.Routines.{Routine}
use Rattle.sc_model.specs.Steps.{Point, Step, comes, gives_boolean}
use Rattle.sc_model.specs.Values.{Attached, Boolean, Integer, Reference, Value, Void, operand}
use Rattle.sc_machine_laws.specs.states.Points.{types_of}
use Rattle.sc_machine_laws.specs.states.ValueSteps.{StandsSo, StepFits}
use Rattle.sc_machine_laws.proofs.states.Lists.{both}
use Rattle.sc_machine_laws.proofs.states.RoutinePoints.{AllFit, BaseOf, TasksTyped, found}

-- a value of type INTEGER is an integer, one of BOOLEAN a truth value, and any other is neither
pub record IsInteger (v : Value) : Type 0 where
  pub integer : ℤ
  pub is : v ≡ Integer integer

pub record IsTruth (v : Value) : Type 0 where
  pub truth : Bool
  pub is : v ≡ Boolean truth

abbrev IsReference : Value → Type 0
IsReference v = (v ≡ Void) ⊎ ((r : Reference) × (v ≡ Attached r))

integer_class : (c : ClassId) → is_integer c ≡ true → c ≡ class.Integer
integer_class class.Integer e = refl
integer_class class.Boolean e = cc
integer_class class.Any e = cc
integer_class class.None e = cc
integer_class (class.Declared k) e = cc

boolean_class : (c : ClassId) → is_boolean c ≡ true → c ≡ class.Boolean
boolean_class class.Boolean e = refl
boolean_class class.Integer e = cc
boolean_class class.Any e = cc
boolean_class class.None e = cc
boolean_class (class.Declared k) e = cc

module _ (s : System) (me : ℕ) (of : Reserved → Option ℕ) where
  pub integer_value : (v : Value) (t : EntityType) → is_integer t.class ≡ true → Fits s me of v t → IsInteger v
  integer_value (Integer z) t e f = record { integer = z; is = refl }
  integer_value (Boolean b) t e f = let x : class_conforms s class.Boolean class.Integer ≡ true = subst (λ c. class_conforms s class.Boolean c ≡ true) (integer_class t.class e) f in cc
  integer_value Void t e f = let x : is_expanded class.Integer ≡ false = subst (λ c. is_expanded c ≡ false) (integer_class t.class e) f.1 in cc
  integer_value (Attached r) t e f =
      let x : class_conforms s (class.Declared r.class) class.Integer ≡ true = subst (λ c. class_conforms s (class.Declared r.class) c ≡ true) (integer_class t.class e) f.0 in cc

  pub boolean_value : (v : Value) (t : EntityType) → is_boolean t.class ≡ true → Fits s me of v t → IsTruth v
  boolean_value (Boolean b) t e f = record { truth = b; is = refl }
  boolean_value (Integer z) t e f = let x : class_conforms s class.Integer class.Boolean ≡ true = subst (λ c. class_conforms s class.Integer c ≡ true) (boolean_class t.class e) f in cc
  boolean_value Void t e f = let x : is_expanded class.Boolean ≡ false = subst (λ c. is_expanded c ≡ false) (boolean_class t.class e) f.1 in cc
  boolean_value (Attached r) t e f =
      let x : class_conforms s (class.Declared r.class) class.Boolean ≡ true = subst (λ c. class_conforms s (class.Declared r.class) c ≡ true) (boolean_class t.class e) f.0 in cc

  reference_value : (v : Value) (t : EntityType) → is_expanded t.class ≡ false → Fits s me of v t → IsReference v
  reference_value Void t e f = inl refl
  reference_value (Attached r) t e f = inr (r, refl)
  reference_value (Integer z) t e f = absurd (by t.class f e)
    where
      by : (c : ClassId) → class_conforms s class.Integer c ≡ true → is_expanded c ≡ false → ⊥
      by class.Integer e f = cc
      by class.Boolean e f = cc
      by class.Any e f = cc
      by class.None e f = cc
      by (class.Declared j) e f = cc
  reference_value (Boolean z) t e f = absurd (by t.class f e)
    where
      by : (c : ClassId) → class_conforms s class.Boolean c ≡ true → is_expanded c ≡ false → ⊥
      by class.Integer e f = cc
      by class.Boolean e f = cc
      by class.Any e f = cc
      by class.None e f = cc
      by (class.Declared j) e f = cc

-- two classes whose values are compared
data Kinds (a b : ClassId) : Type 0 where
  two_integers : (is_integer a && is_integer b) ≡ true → Kinds a b
  two_booleans : (is_boolean a && is_boolean b) ≡ true → Kinds a b
  two_references : is_expanded a ≡ false → is_expanded b ≡ false → Kinds a b

unexpanded : (b : Bool) → not b ≡ true → b ≡ false
unexpanded true e = cc
unexpanded false e = refl

kinds : (a b : ClassId) → is_comparable a b ≡ true → Kinds a b
kinds class.Integer b e = two_integers e
kinds class.Boolean b e = two_booleans e
kinds class.Any b e = two_references refl (unexpanded (is_expanded b) e)
kinds class.None b e = two_references refl (unexpanded (is_expanded b) e)
kinds (class.Declared k) b e = two_references refl (unexpanded (is_expanded b) e)

-- the operator takes both
record Takes (test : EntityType → EntityType → Bool) (result : EntityType) (a b r : EntityType) : Type 0 where
  pub taken : test a b ≡ true
  pub is : result ≡ r

takes : (test : EntityType → EntityType → Bool) (result a b r : EntityType) → gives_if (test a b) result ≡ Some r → Takes test result a b r
takes test result a b r e = by (test a b) refl e
  where
    by : (c : Bool) → test a b ≡ c → gives_if c result ≡ Some r → Takes test result a b r
    by true i e = let q : result ≡ r = cc in record { taken = i; is = q }
    by false i e = cc

module _ (s : System) (pure : RoutineName → Bool) (r : Routine) (me : Reference) (p : Point) (base : BaseOf s r me p) (a b u : EntityType) (v w : Value)
    (fa : Fits s me.handler (handler_named p.environment) v a) (fb : Fits s me.handler (handler_named p.environment) w b)
    (k : TasksTyped s pure r p p.tasks (u ∷ types_of p.values)) (fs : AllFit s me p p.values) where
  comes_to : (x : Value) (t : EntityType) → t ≡ u → Fits s me.handler (handler_named p.environment) x t → StandsSo s pure r me [] (record p { values = operand x t ∷ p.values })
  comes_to x t e f = found s pure r me p base x t u e k f fs

  outcome : integer ≡ u → (o : ArithmeticResult) → StepFits s pure r me (gives_outcome o p)
  outcome e (Ok z) = comes_to (Integer z) integer e refl
  outcome e (Err fault.Overflow) = (refl, base.store)
  outcome e (Err fault.DivideByZero) = (refl, base.store)

  -- on integers: what the step on any two of them is, the step is
  on_integers : (f : Value → Value → Point → Step) → (is_integer a.class && is_integer b.class) ≡ true → ((x y : ℤ) → StepFits s pure r me (f (Integer x) (Integer y) p)) → StepFits s pure r me (f v w p)
  on_integers f e go =
      let c = both (is_integer a.class) (is_integer b.class) e in
      let x = integer_value s me.handler (handler_named p.environment) v a c.0 fa in
      let y = integer_value s me.handler (handler_named p.environment) w b c.1 fb in
      subst (λ v. StepFits s pure r me (f v w p)) (sym x.is) (subst (λ w. StepFits s pure r me (f (Integer x.integer) w p)) (sym y.is) (go x.integer y.integer))

  on_booleans : (f : Value → Value → Point → Step) → (is_boolean a.class && is_boolean b.class) ≡ true → ((x y : Bool) → StepFits s pure r me (f (Boolean x) (Boolean y) p)) → StepFits s pure r me (f v w p)
  on_booleans f e go =
      let c = both (is_boolean a.class) (is_boolean b.class) e in
      let x = boolean_value s me.handler (handler_named p.environment) v a c.0 fa in
      let y = boolean_value s me.handler (handler_named p.environment) w b c.1 fb in
      subst (λ v. StepFits s pure r me (f v w p)) (sym x.is) (subst (λ w. StepFits s pure r me (f (Boolean x.truth) w p)) (sym y.is) (go x.truth y.truth))

  -- two references are the same, or not
  on_references : (op : BinaryOperator) → ((x : Bool) → StepFits s pure r me (gives_truth (identity_of op x) p)) → IsReference v → IsReference w → StepFits s pure r me (apply_binary op v w p)
  on_references op go (inl e) (inl f) = subst (λ v. StepFits s pure r me (apply_binary op v w p)) (sym e) (subst (λ w. StepFits s pure r me (apply_binary op Void w p)) (sym f) (go true))
  on_references op go (inl e) (inr f) = subst (λ v. StepFits s pure r me (apply_binary op v w p)) (sym e) (subst (λ w. StepFits s pure r me (apply_binary op Void w p)) (sym f.1) (go false))
  on_references op go (inr e) (inl f) = subst (λ v. StepFits s pure r me (apply_binary op v w p)) (sym e.1) (subst (λ w. StepFits s pure r me (apply_binary op (Attached e.0) w p)) (sym f) (go false))
  on_references op go (inr e) (inr f) =
      subst (λ v. StepFits s pure r me (apply_binary op v w p)) (sym e.1) (subst (λ w. StepFits s pure r me (apply_binary op (Attached e.0) w p)) (sym f.1) (go (is_same_object e.0 f.0)))

  arithmetic_step : (op : BinaryOperator) → ((x y : ℤ) → (o : ArithmeticResult) × (apply_binary op (Integer x) (Integer y) p ≡ gives_outcome o p)) → gives_if (is_integer a.class && is_integer b.class) integer ≡ Some u →
      StepFits s pure r me (apply_binary op v w p)
  arithmetic_step op comes e =
      let t = takes (λ a b. is_integer a.class && is_integer b.class) integer a b u e in
      on_integers (apply_binary op) t.taken (λ x y. let o = comes x y in subst (StepFits s pure r me) (sym o.1) (outcome t.is o.0))

  order_step : (op : BinaryOperator) → ((x y : ℤ) → (o : Bool) × (apply_binary op (Integer x) (Integer y) p ≡ gives_boolean o p)) → gives_if (is_integer a.class && is_integer b.class) boolean ≡ Some u →
      StepFits s pure r me (apply_binary op v w p)
  order_step op comes e =
      let t = takes (λ a b. is_integer a.class && is_integer b.class) boolean a b u e in
      on_integers (apply_binary op) t.taken (λ x y. let o = comes x y in subst (StepFits s pure r me) (sym o.1) (comes_to (Boolean o.0) boolean t.is refl))

  logic_step : (op : BinaryOperator) → ((x y : Bool) → (o : Bool) × (apply_binary op (Boolean x) (Boolean y) p ≡ gives_boolean o p)) → gives_if (is_boolean a.class && is_boolean b.class) boolean ≡ Some u →
      StepFits s pure r me (apply_binary op v w p)
  logic_step op comes e =
      let t = takes (λ a b. is_boolean a.class && is_boolean b.class) boolean a b u e in
      on_booleans (apply_binary op) t.taken (λ x y. let o = comes x y in subst (StepFits s pure r me) (sym o.1) (comes_to (Boolean o.0) boolean t.is refl))

  equality_step : (op : BinaryOperator) → ((x y : ℤ) → (o : Bool) × (apply_binary op (Integer x) (Integer y) p ≡ gives_boolean o p)) →
      ((x y : Bool) → (o : Bool) × (apply_binary op (Boolean x) (Boolean y) p ≡ gives_boolean o p)) → ((x : Bool) → (o : Bool) × (identity_of op x ≡ Some o)) →
      gives_if (is_comparable a.class b.class) boolean ≡ Some u → StepFits s pure r me (apply_binary op v w p)
  equality_step op ints bools refs e = by (kinds a.class b.class t.taken)
    where
      t : Takes (λ a b. is_comparable a.class b.class) boolean a b u
      t = takes (λ a b. is_comparable a.class b.class) boolean a b u e

      on_true : (x : Bool) → StepFits s pure r me (gives_truth (identity_of op x) p)
      on_true x = let o = refs x in subst (λ q. StepFits s pure r me (gives_truth q p)) (sym o.1) (comes_to (Boolean o.0) boolean t.is refl)

      by : Kinds a.class b.class → StepFits s pure r me (apply_binary op v w p)
      by (two_integers e) = on_integers (apply_binary op) e (λ x y. let o = ints x y in subst (StepFits s pure r me) (sym o.1) (comes_to (Boolean o.0) boolean t.is refl))
      by (two_booleans e) = on_booleans (apply_binary op) e (λ x y. let o = bools x y in subst (StepFits s pure r me) (sym o.1) (comes_to (Boolean o.0) boolean t.is refl))
      by (two_references e f) = on_references op on_true (reference_value s me.handler (handler_named p.environment) v a e fa) (reference_value s me.handler (handler_named p.environment) w b f fb)

  -- A binary operator finds a value of its type, or fails by its own cause.
  pub binary_step : (op : BinaryOperator) → binary_type op a b ≡ Some u → StepFits s pure r me (apply_binary op v w p)
  binary_step binary.Plus e = arithmetic_step binary.Plus (λ x y. (result_of arithmetic.Plus x y, refl)) e
  binary_step binary.Minus e = arithmetic_step binary.Minus (λ x y. (result_of arithmetic.Minus x y, refl)) e
  binary_step binary.Times e = arithmetic_step binary.Times (λ x y. (result_of arithmetic.Times x y, refl)) e
  binary_step binary.Quotient e = arithmetic_step binary.Quotient (λ x y. (result_of arithmetic.Quotient x y, refl)) e
  binary_step binary.Remainder e = arithmetic_step binary.Remainder (λ x y. (result_of arithmetic.Remainder x y, refl)) e
  binary_step binary.Less e = order_step binary.Less (λ x y. (compares comparison.Less x y, refl)) e
  binary_step binary.Greater e = order_step binary.Greater (λ x y. (compares comparison.Greater x y, refl)) e
  binary_step binary.LessEqual e = order_step binary.LessEqual (λ x y. (compares comparison.LessOrEqual x y, refl)) e
  binary_step binary.GreaterEqual e = order_step binary.GreaterEqual (λ x y. (compares comparison.GreaterOrEqual x y, refl)) e
  binary_step binary.And e = logic_step binary.And (λ x y. (truth_table connective.And x y, refl)) e
  binary_step binary.AndThen e = logic_step binary.AndThen (λ x y. (truth_table connective.AndThen x y, refl)) e
  binary_step binary.Or e = logic_step binary.Or (λ x y. (truth_table connective.Or x y, refl)) e
  binary_step binary.OrElse e = logic_step binary.OrElse (λ x y. (truth_table connective.OrElse x y, refl)) e
  binary_step binary.Xor e = logic_step binary.Xor (λ x y. (truth_table connective.Xor x y, refl)) e
  binary_step binary.Implies e = logic_step binary.Implies (λ x y. (truth_table connective.Implies x y, refl)) e
  binary_step binary.Equal e = equality_step binary.Equal (λ x y. (compares comparison.Equal x y, refl)) (λ x y. (truth_table connective.Equal x y, refl)) (λ x. (x, refl)) e
  binary_step binary.NotEqual e = equality_step binary.NotEqual (λ x y. (compares comparison.NotEqual x y, refl)) (λ x y. (truth_table connective.NotEqual x y, refl)) (λ x. (not x, refl)) e
