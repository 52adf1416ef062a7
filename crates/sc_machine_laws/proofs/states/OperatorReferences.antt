-- What it means that a step makes no reference, and operators make none.
use Rattle.std.specs.Prelude.{◌==◌, Err, Ok, if◌then◌else◌, slice_get, slice_set, ℤ}
use Rattle.std.proofs.Common.{◌++◌, ◌-◌, Bool, List, None, Option, Some, [], ap, false, not, pos, refl, suc, sym, true, zero, ℕ, ◌∙◌, ◌∷◌, ◌≡◌}
use Rattle.sc_tree.specs.Plain.{Expr}
use Rattle.sc_tree.specs.declared.expression.BinaryOperator.{BinaryOperator}
use Rattle.sc_tree.specs.declared.expression.UnaryOperator.{UnaryOperator}
use Rattle.sc_tree.specs.declared.expression.UnaryOperator.TheVariants as unary
use Rattle.sc_class.specs.declared.identity.ClassId.{ClassId}
use Rattle.sc_class.specs.declared.identity.ClassId.TheVariants as class
use Rattle.sc_rules.specs.entity_types.Conformance.{boolean, integer}
use Rattle.sc_rules.specs.declared.entity_types.entity_type.EntityType.{EntityType}
use Rattle.sc_formula.specs.Arithmetic.{ArithmeticResult, opposite_of, result_of}
use Rattle.sc_formula.specs.Comparison.{compares}
use Rattle.sc_formula.specs.Connective.{truth_table}
use Rattle.sc_formula.specs.declared.arithmetic.ArithmeticFault.TheVariants as fault
use Rattle.sc_formula.specs.declared.arithmetic.ArithmeticOperator.{ArithmeticOperator}
use Rattle.sc_formula.specs.declared.comparison.Comparison.{Comparison}
use Rattle.sc_formula.specs.declared.connective.Connective.{Connective}
use Rattle.sc_model.specs.Environments.{Binding, binding_named}
use Rattle.sc_model.specs.Expressions.{apply_binary, apply_to_booleans, apply_to_integers, apply_unary, concludes, evals_right, gives_outcome, gives_truth, is_same_object}
use Rattle.sc_model.specs.Objects.{Object, attributes_in, attributes_of, object_numbered}
use Rattle.sc_model.specs.Operators.{arithmetic_of, comparison_of, connective_of, identity_of}
use Rattle.sc_model.specs.Steps as act
use Rattle.sc_model.specs.Steps.{Act, Does, Goes, Point, Step, comes, fails, gives, reads_as, reads_attribute}
use Rattle.sc_model.specs.Tasks.{ApplyBinary, Conclude, Eval, Task}
use Rattle.sc_model.specs.Values.{Attached, Boolean, Integer, Operand, Reference, Value, Void, default_of, operand}
use Rattle.sc_model.specs.declared.cause.Cause.TheVariants as cause
use Rattle.sc_machine_laws.specs.states.Points.{IsAmong}
use Rattle.sc_machine_laws.specs.states.ValueSteps.{BindingsDo, OperandsDo, ValuesDo}
use Rattle.sc_machine_laws.proofs.states.Attributes.{found_each}
use Rattle.sc_machine_laws.proofs.states.Calls.{numbered_fits}

-- what is true of each value but references, and of Current
pub record HoldsOfOwn (P : Value → Type 0) (me : Reference) : Type 0 where
  pub of_integer : (z : ℤ) → P (Integer z)
  pub of_boolean : (b : Bool) → P (Boolean b)
  pub of_void : P Void
  pub of_current : P (Attached me)

-- the attributes of an object change: each object is there
pub set_among : (objects : List Object) (number : ℕ) (y x : Object) → object_numbered number objects ≡ Some x → y.class ≡ x.class → (o : Reference) → IsAmong objects o →
    IsAmong (slice_set objects (number - 1) y) o
set_among objects number y x e same o z = by (o.number == 0) refl z.is_there
  where
    placed : (xs : List Object) (i j : ℕ) (w : Object) → slice_get xs i ≡ Some x → slice_get xs j ≡ Some w → w.class ≡ o.class →
        (v : Object) × (slice_get (slice_set xs i y) j ≡ Some v) × (v.class ≡ o.class)
    placed [] i j w e f c = cc
    placed (q ∷ xs) zero zero w e f c = let i : q ≡ x = cc in let j : q ≡ w = cc in (y, refl, same ∙ ap (λ (o : Object). o.class) (sym i ∙ j) ∙ c)
    placed (q ∷ xs) zero (suc j) w e f c = (w, f, c)
    placed (q ∷ xs) (suc i) zero w e f c = (w, f, c)
    placed (q ∷ xs) (suc i) (suc j) w e f c = placed xs i j w e f c

    at_place : (b : Bool) → (if b then None else slice_get objects (number - 1)) ≡ Some x → slice_get objects (number - 1) ≡ Some x
    at_place true e = cc
    at_place false e = e

    by : (b : Bool) → (o.number == 0) ≡ b → (if b then None else slice_get objects (o.number - 1)) ≡ Some z.object → IsAmong (slice_set objects (number - 1) y) o
    by true i f = cc
    by false i f =
        let v = placed objects (number - 1) (o.number - 1) z.object (at_place (number == 0) e) f z.of_class in
        record { object = v.0; is_there = ap (λ b. if b then None else slice_get (slice_set objects (number - 1) y) (o.number - 1)) i ∙ v.1; of_class = v.2 }

-- So is each value at the point, and each object that was there is there.
pub record Stays (P : Value → Type 0) (objects : List Object) (p : Point) : Type 0 where
  pub values : ValuesDo P p
  pub there : (o : Reference) → IsAmong objects o → IsAmong p.objects o

module _ (P : Value → Type 0) (me : Reference) (own : HoldsOfOwn P me) (objects : List Object) where
  -- so is each object of the handler that is there
  abbrev pub OwnDo : List Object → Type 0
  OwnDo os = (o : Reference) → o.handler ≡ me.handler → IsAmong os o → P (Attached o)

  -- after a visible step, and so is what goes with it
  abbrev pub ActStays : Act → Point → Type 0
  ActStays (act.Enters c o x us gives) q = Stays P objects q × OperandsDo P us
  ActStays (act.Requests o x us gives passes) q = Stays P objects q × OperandsDo P us × P (Attached o)
  ActStays (act.CreatesHandler k x us t passes) q = Stays P objects q × OperandsDo P us
  ActStays a q = Stays P objects q

  -- after a step
  abbrev pub StepStays : Step → Type 0
  StepStays (Goes q) = Stays P objects q
  StepStays (Does a q) = OwnDo q.objects → ActStays a q

  pub default_does : (c : ClassId) → P (default_of c)
  default_does class.Integer = own.of_integer (pos 0)
  default_does class.Boolean = own.of_boolean false
  default_does class.Any = own.of_void
  default_does class.None = own.of_void
  default_does (class.Declared k) = own.of_void

  module _ (p : Point) (h : Stays P objects p) where
    -- these tasks and values are next
    pub same : (k : List Task) (vs : List Operand) → OperandsDo P vs → Stays P objects (record p { tasks = k; values = vs })
    same k vs f = record {
      values = record { objects_do = h.values.objects_do; names_do = h.values.names_do; result_does = h.values.result_does; olds_do = h.values.olds_do; values_do = f };
      there = h.there;
    }

    -- a failure leaves the objects
    pub fell : OwnDo p.objects → Stays P objects (record p { environment = []; result = None; olds = []; tasks = []; values = [] })
    fell own = record { values = record { objects_do = h.values.objects_do; names_do = tt; result_does = tt; olds_do = tt; values_do = tt }; there = h.there }

    pub come : (ts : List Task) → StepStays (comes ts p)
    come ts = same (ts ++ p.tasks) p.values h.values.values_do

    pub give : (v : Value) (t : EntityType) → P v → StepStays (gives v t p)
    give v t f = same p.tasks (operand v t ∷ p.values) (f, h.values.values_do)

    pub read_as : (d : EntityType) (v : Value) (t : EntityType) → P v → StepStays (reads_as d v t p)
    read_as d (Integer z) t f = give (Integer z) t f
    read_as d (Boolean b) t f = give (Boolean b) t f
    read_as d (Attached o) t f = give (Attached o) t f
    read_as d Void t f = by d.attached
      where
        by : (b : Bool) → StepStays (if b then fails cause.UnsetEntity p else gives Void t p)
        by true = fell
        by false = give Void t f

    pub read_attribute : (bs : List Binding) (x : List ℕ) (t : EntityType) → BindingsDo P bs → StepStays (reads_attribute (binding_named x bs) t p)
    read_attribute bs x t f = by (binding_named x bs) refl
      where
        by : (o : Option Binding) → binding_named x bs ≡ o → StepStays (reads_attribute o t p)
        by None e = fell
        by (Some b) e = read_as t b.value t (found_each (λ (b : Binding). P b.value) x bs b f e)

    pub object_there : (number : ℕ) → BindingsDo P (attributes_of number p.objects)
    object_there number = by (object_numbered number p.objects) refl
      where
        by : (o : Option Object) → object_numbered number p.objects ≡ o → BindingsDo P (attributes_in o)
        by None e = tt
        by (Some o) e = numbered_fits (λ (o : Object). BindingsDo P o.attributes) p.objects number o h.values.objects_do e

    -- ---- operators

    outcome : (o : ArithmeticResult) → StepStays (gives_outcome o p)
    outcome (Ok z) = give (Integer z) integer (own.of_integer z)
    outcome (Err fault.Overflow) = fell
    outcome (Err fault.DivideByZero) = fell

    truth : (o : Option Bool) → StepStays (gives_truth o p)
    truth None = fell
    truth (Some b) = give (Boolean b) boolean (own.of_boolean b)

    pub unary_stays : (op : UnaryOperator) (v : Value) → StepStays (apply_unary op v p)
    unary_stays unary.Not (Boolean b) = give (Boolean (not b)) boolean (own.of_boolean (not b))
    unary_stays unary.Plus (Integer z) = give (Integer z) integer (own.of_integer z)
    unary_stays unary.Minus (Integer z) = outcome (opposite_of z)
    unary_stays unary.Old v = fell
    unary_stays unary.Not (Integer z) = fell
    unary_stays unary.Not Void = fell
    unary_stays unary.Not (Attached o) = fell
    unary_stays unary.Plus (Boolean b) = fell
    unary_stays unary.Plus Void = fell
    unary_stays unary.Plus (Attached o) = fell
    unary_stays unary.Minus (Boolean b) = fell
    unary_stays unary.Minus Void = fell
    unary_stays unary.Minus (Attached o) = fell

    integers_stay : (op : Option ArithmeticOperator) (c : Option Comparison) (x y : ℤ) → StepStays (apply_to_integers op c x y p)
    integers_stay (Some op) c x y = outcome (result_of op x y)
    integers_stay None (Some c) x y = give (Boolean (compares c x y)) boolean (own.of_boolean (compares c x y))
    integers_stay None None x y = fell

    booleans_stay : (c : Option Connective) (x y : Bool) → StepStays (apply_to_booleans c x y p)
    booleans_stay (Some c) x y = give (Boolean (truth_table c x y)) boolean (own.of_boolean (truth_table c x y))
    booleans_stay None x y = fell

    pub binary_stays : (op : BinaryOperator) (v w : Value) → StepStays (apply_binary op v w p)
    binary_stays op (Integer x) (Integer y) = integers_stay (arithmetic_of op) (comparison_of op) x y
    binary_stays op (Boolean x) (Boolean y) = booleans_stay (connective_of op) x y
    binary_stays op (Attached x) (Attached y) = truth (identity_of op (is_same_object x y))
    binary_stays op (Attached x) Void = truth (identity_of op false)
    binary_stays op Void (Attached y) = truth (identity_of op false)
    binary_stays op Void Void = truth (identity_of op true)
    binary_stays op (Integer x) (Boolean y) = fell
    binary_stays op (Integer x) Void = fell
    binary_stays op (Integer x) (Attached y) = fell
    binary_stays op (Boolean x) (Integer y) = fell
    binary_stays op (Boolean x) Void = fell
    binary_stays op (Boolean x) (Attached y) = fell
    binary_stays op Void (Integer y) = fell
    binary_stays op Void (Boolean y) = fell
    binary_stays op (Attached x) (Integer y) = fell
    binary_stays op (Attached x) (Boolean y) = fell

    pub right_stays : (o : Option Bool) (short : Bool) (op : BinaryOperator) (i : ℕ) (right : Expr) (u : Operand) → P u.value → StepStays (evals_right o short op i right u p)
    right_stays (Some b) short op i right u f = give (Boolean b) boolean (own.of_boolean b)
    right_stays None true op i right u f = come (Eval i right ∷ Conclude ∷ [])
    right_stays None false op i right u f = same (Eval i right ∷ ApplyBinary op ∷ p.tasks) (u ∷ p.values) (f, h.values.values_do)

    pub conclude_stays : (v : Value) → StepStays (concludes v p)
    conclude_stays (Boolean b) = give (Boolean b) boolean (own.of_boolean b)
    conclude_stays (Integer z) = fell
    conclude_stays Void = fell
    conclude_stays (Attached o) = fell
