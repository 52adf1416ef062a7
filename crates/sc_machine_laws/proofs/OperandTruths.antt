-- The steps of two operands come to the value of their operator.
use Rattle.std.proofs.Common.{◌≡◌, ℕ, ℤ, Bool, true, false, List, ◌∷◌, Option, Some, None, refl, sym, ap, subst, ◌∙◌}
use Rattle.std.specs.Prelude.{◌+◌, not}
use Rattle.std.specs.Option.{option_map, option_and_then}
use Rattle.std.specs.Result.{result_ok}
use Rattle.sc_formula.specs.declared.arithmetic.ArithmeticOperator.{ArithmeticOperator}
use Rattle.sc_formula.specs.declared.comparison.Comparison.{Comparison}
use Rattle.sc_formula.specs.declared.connective.Connective.{Connective}
use Rattle.sc_formula.specs.Arithmetic.{opposite_of, result_of}
use Rattle.sc_formula.specs.Comparison.{compares}
use Rattle.sc_formula.specs.Connective.{decision_of, decision_or, truth_table, connection_of}
use Rattle.sc_formula.specs.Term.{with_both}
use Rattle.sc_text.specs.declared.token.Span.{Span}
use Rattle.sc_tree.specs.declared.expression.UnaryOperator.TheVariants as unary
use Rattle.sc_tree.specs.declared.expression.BinaryOperator.{BinaryOperator}
use Rattle.sc_tree.specs.Plain as tree
use Rattle.sc_tree.specs.Plain.{System, Expr}
use Rattle.sc_rules.specs.entity_types.Conformance.{integer, boolean}
use Rattle.sc_rules.specs.declared.entity_types.entity_type.EntityType.{EntityType}
use Rattle.sc_model.specs.Values.{Reference, Value, Integer, Boolean, Operand, operand}
use Rattle.sc_model.specs.Operators.{arithmetic_of, comparison_of, connective_of, is_short}
use Rattle.sc_model.specs.Olds.{olds_in}
use Rattle.sc_model.specs.Tasks.{Task, Eval, ApplyUnary, EvalRight, ApplyBinary, Conclude}
use Rattle.sc_model.specs.Steps.{Point, Goes}
use Rattle.sc_model.specs.Expressions.{apply_binary, apply_to_integers, apply_to_booleans, evals_right, decided_by}
use Rattle.sc_model.specs.Moves.{step}
use Rattle.sc_machine_laws.proofs.LeadingSteps.{Comes, Faults, Leads, comes_after, compares_alone, compares_long, computes_long, leads_next, leads_once, leads_then, outcome_comes, truth_is_right}

module _ (s : System) (me : Reference) where
  module _ (p : Point) where
    -- the point with these tasks and values
    abbrev at : List Task → List Operand → Point
    at ts vs = record p { tasks = ts; values = vs }

    abbrev integer_value : Option ℤ → Option Value
    integer_value o = option_map Integer o

    abbrev truth_value : Option Bool → Option Value
    truth_value o = option_map Boolean o

    -- ---- expressions

    -- wherever it is evaluated, the expression comes to this value, or to a fault
    abbrev pub Evaluates : Expr → Option Value → Type 0
    Evaluates e v = (i : ℕ) (ts : List Task) (vs : List Operand) → Comes s me p (at (Eval i e ∷ ts) vs) ts vs v

    pub negated : (q : Span) (a : Expr) (o : Option Bool) → Evaluates a (truth_value o) →
        Evaluates (tree.Unary q unary.Not a) (truth_value (option_map not o))
    negated q a None h i ts vs = comes_after s me p ts vs None (leads_once s me refl) (h i (ApplyUnary unary.Not ∷ ts) vs)
    negated q a (Some b) h i ts vs =
        let g = h i (ApplyUnary unary.Not ∷ ts) vs in
        record { type = boolean; leads = leads_next s me refl (leads_then s me g.leads (leads_once s me refl)) }

    pub same : (q : Span) (a : Expr) (o : Option ℤ) → Evaluates a (integer_value o) →
        Evaluates (tree.Unary q unary.Plus a) (integer_value o)
    same q a None h i ts vs = comes_after s me p ts vs None (leads_once s me refl) (h i (ApplyUnary unary.Plus ∷ ts) vs)
    same q a (Some b) h i ts vs =
        let g = h i (ApplyUnary unary.Plus ∷ ts) vs in
        record { type = integer; leads = leads_next s me refl (leads_then s me g.leads (leads_once s me refl)) }

    pub opposite : (q : Span) (a : Expr) (o : Option ℤ) → Evaluates a (integer_value o) →
        Evaluates (tree.Unary q unary.Minus a)
        (integer_value (option_and_then (λ z. result_ok (opposite_of z)) o))
    opposite q a None h i ts vs = comes_after s me p ts vs None (leads_once s me refl) (h i (ApplyUnary unary.Minus ∷ ts) vs)
    opposite q a (Some z) h i ts vs =
        let g = h i (ApplyUnary unary.Minus ∷ ts) vs in
        comes_after s me p ts vs (integer_value (result_ok (opposite_of z))) (leads_next s me refl g.leads)
        (outcome_comes s me p (at (ApplyUnary unary.Minus ∷ ts) (operand (Integer z) g.type ∷ vs)) ts vs (opposite_of z) refl)

    -- ---- two operands

    module _ (q : Span) (op : BinaryOperator) (a b : Expr) where
      abbrev e : Expr
      e = tree.Binary q op a b

      abbrev right : ℕ → List Task → List Task
      right i ts = EvalRight op (i + olds_in a) b ∷ ts

      left_faults : (i : ℕ) (ts : List Task) (vs : List Operand) → Evaluates a None → Faults s me p (at (Eval i e ∷ ts) vs)
      left_faults i ts vs h = comes_after s me p ts vs None (leads_once s me refl) (h i (right i ts) vs)

      -- where the left operand's value is there
      record Left (i : ℕ) (ts : List Task) (vs : List Operand) (v : Value) : Type 0 where
        type : EntityType
        leads : Leads s me (at (Eval i e ∷ ts) vs) (Goes (at (right i ts) (operand v type ∷ vs)))

      left : (i : ℕ) (ts : List Task) (vs : List Operand) (v : Value) → Evaluates a (Some v) → Left i ts vs v
      left i ts vs v h =
          let g = h i (right i ts) vs in
          record { type = g.type; leads = leads_next s me refl g.leads }

      -- where that decides nothing and both are needed
      goes_right : (i : ℕ) (ts : List Task) (vs : List Operand) (u : Operand) → decided_by op u.value ≡ None →
          is_short op ≡ false →
          step s me (at (right i ts) (u ∷ vs)) ≡ Goes (at (Eval (i + olds_in a) b ∷ ApplyBinary op ∷ ts) (u ∷ vs))
      goes_right i ts vs u d f =
          ap (λ d. evals_right d (is_short op) op (i + olds_in a) b u (at ts vs)) d
          ∙ ap (λ f. evals_right None f op (i + olds_in a) b u (at ts vs)) f

      -- where the right one is the whole
      goes_short : (i : ℕ) (ts : List Task) (vs : List Operand) (u : Operand) → decided_by op u.value ≡ None →
          is_short op ≡ true →
          step s me (at (right i ts) (u ∷ vs)) ≡ Goes (at (Eval (i + olds_in a) b ∷ Conclude ∷ ts) vs)
      goes_short i ts vs u d f =
          ap (λ d. evals_right d (is_short op) op (i + olds_in a) b u (at ts vs)) d
          ∙ ap (λ f. evals_right None f op (i + olds_in a) b u (at ts vs)) f

      -- both are there, or the right one is a fault
      pub both : (v w : Value) (result : Option Value) → decided_by op v ≡ None → is_short op ≡ false →
          Evaluates a (Some v) → Evaluates b (Some w) →
          ((ts : List Task) (vs : List Operand) (x : Point) →
          step s me x ≡ apply_binary op v w (at ts vs) → Comes s me p x ts vs result) →
          Evaluates e result
      both v w result d f h k then i ts vs =
          let l = left i ts vs v h in
          let u = operand v l.type in
          let r = k (i + olds_in a) (ApplyBinary op ∷ ts) (u ∷ vs) in
          comes_after s me p ts vs result
          (leads_then s me l.leads (leads_next s me (goes_right i ts vs u d f) r.leads))
          (then ts vs (at (ApplyBinary op ∷ ts) (operand w r.type ∷ u ∷ vs)) refl)

      right_faults : (v : Value) → decided_by op v ≡ None → Evaluates a (Some v) → Evaluates b None → Evaluates e None
      right_faults v d h k i ts vs = by (is_short op) refl
        where
          l : Left i ts vs v
          l = left i ts vs v h

          by : (f : Bool) → is_short op ≡ f → Faults s me p (at (Eval i e ∷ ts) vs)
          by false f =
              let u = operand v l.type in
              comes_after s me p ts vs None (leads_then s me l.leads (leads_once s me (goes_right i ts vs u d f)))
              (k (i + olds_in a) (ApplyBinary op ∷ ts) (u ∷ vs))
          by true f =
              let u = operand v l.type in
              comes_after s me p ts vs None (leads_then s me l.leads (leads_once s me (goes_short i ts vs u d f)))
              (k (i + olds_in a) (Conclude ∷ ts) vs)

      pub computed : (o : ArithmeticOperator) (x y : Option ℤ) → arithmetic_of op ≡ Some o →
          Evaluates a (integer_value x) → Evaluates b (integer_value y) →
          Evaluates e (integer_value (with_both (λ a b. result_ok (result_of o a b)) x y))
      computed o None y f h k = λ i ts vs. left_faults i ts vs h
      computed o (Some x) None f h k = right_faults (Integer x) refl h k
      computed o (Some x) (Some y) f h k =
          both (Integer x) (Integer y) (integer_value (result_ok (result_of o x y))) refl (computes_long op o f) h k
          (λ ts vs z g. outcome_comes s me p z ts vs (result_of o x y)
          (g ∙ ap (λ o. apply_to_integers o (comparison_of op) x y (at ts vs)) f))

      pub compared : (o : Comparison) (x y : Option ℤ) → comparison_of op ≡ Some o →
          Evaluates a (integer_value x) → Evaluates b (integer_value y) →
          Evaluates e (truth_value (with_both (λ a b. Some (compares o a b)) x y))
      compared o None y f h k = λ i ts vs. left_faults i ts vs h
      compared o (Some x) None f h k = right_faults (Integer x) refl h k
      compared o (Some x) (Some y) f h k =
          both (Integer x) (Integer y) (Some (Boolean (compares o x y))) refl (compares_long op o f) h k
          (λ ts vs z g. record {
            type = boolean;
            leads = leads_once s me (g
                ∙ ap (λ c. apply_to_integers c (comparison_of op) x y (at ts vs)) (compares_alone op o f)
                ∙ ap (λ c. apply_to_integers None c x y (at ts vs)) f);
          })

      -- the left side alone
      decided : (l c : Bool) → decided_by op (Boolean l) ≡ Some c → Evaluates a (Some (Boolean l)) →
          Evaluates e (Some (Boolean c))
      decided l c d h i ts vs =
          let g = left i ts vs (Boolean l) h in
          let u = operand (Boolean l) g.type in
          record {
            type = boolean;
            leads = leads_then s me g.leads
                (leads_once s me (ap (λ d. evals_right d (is_short op) op (i + olds_in a) b u (at ts vs)) d));
          }

      -- the right side alone
      concluded : (l r : Bool) → decided_by op (Boolean l) ≡ None → is_short op ≡ true →
          Evaluates a (Some (Boolean l)) → Evaluates b (Some (Boolean r)) → Evaluates e (Some (Boolean r))
      concluded l r d f h k i ts vs =
          let g = left i ts vs (Boolean l) h in
          let u = operand (Boolean l) g.type in
          let t = k (i + olds_in a) (Conclude ∷ ts) vs in
          record {
            type = boolean;
            leads = leads_then s me g.leads (leads_next s me (goes_short i ts vs u d f) (leads_then s me t.leads (leads_once s me refl)));
          }

      pub connected : (c : Connective) (x y : Option Bool) → connective_of op ≡ Some c →
          Evaluates a (truth_value x) → Evaluates b (truth_value y) → Evaluates e (truth_value (connection_of c x y))
      connected c None y f h k = λ i ts vs. left_faults i ts vs h
      connected c (Some l) y f h k = by (decision_of c l) refl
        where
          decides : decided_by op (Boolean l) ≡ decision_of c l
          decides = ap (option_and_then (λ c. decision_of c l)) f

          undecided : (y : Option Bool) (short : Bool) → decision_of c l ≡ None → is_short op ≡ short →
              Evaluates b (truth_value y) → Evaluates e (truth_value (option_map (truth_table c l) y))
          undecided None short d g k = right_faults (Boolean l) (decides ∙ d) h k
          undecided (Some r) false d g k =
              both (Boolean l) (Boolean r) (Some (Boolean (truth_table c l r))) (decides ∙ d) g h k
              (λ ts vs z g. record {
                type = boolean;
                leads = leads_once s me (g ∙ ap (λ c. apply_to_booleans c l r (at ts vs)) f);
              })
          undecided (Some r) true d g k =
              subst (λ t. Evaluates e (Some (Boolean t))) (sym (truth_is_right op c l r f g d))
              (concluded l r (decides ∙ d) g h k)

          by : (d : Option Bool) → decision_of c l ≡ d →
              Evaluates e (truth_value (decision_or d (option_map (truth_table c l) y)))
          by (Some t) d = decided l t (decides ∙ d) h
          by None d = undecided y (is_short op) d refl k
