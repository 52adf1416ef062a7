-- The steps of an expression come to the truth of its formula.
use Rattle.std.proofs.Common.{◌≡◌, ℕ, Bool, List, [], ◌∷◌, Option, Some, None, refl, ap, subst}
use Rattle.std.specs.Option.{option_map, option_or}
use Rattle.sc_formula.specs.declared.arithmetic.ArithmeticOperator.{ArithmeticOperator}
use Rattle.sc_formula.specs.declared.comparison.Comparison.{Comparison}
use Rattle.sc_formula.specs.declared.connective.Connective.{Connective}
use Rattle.sc_formula.specs.Formula.{PlainFormula, truth_of}
use Rattle.sc_formula.specs.Term.{PlainTerm, value_of}
use Rattle.sc_text.specs.declared.token.Span.{Span}
use Rattle.sc_tree.specs.declared.expression.UnaryOperator.{UnaryOperator}
use Rattle.sc_tree.specs.declared.expression.UnaryOperator.TheVariants as unary
use Rattle.sc_tree.specs.declared.expression.BinaryOperator.{BinaryOperator}
use Rattle.sc_tree.specs.Plain as tree
use Rattle.sc_tree.specs.Plain.{System, Expr, no_exprs}
use Rattle.sc_rules.specs.entity_types.Conformance.{integer, boolean}
use Rattle.sc_model.specs.Values.{Reference, Value, Boolean, Operand, operand}
use Rattle.sc_model.specs.Environments.{Binding}
use Rattle.sc_model.specs.Objects.{attributes_of}
use Rattle.sc_model.specs.Invariants.{atoms_of, attribute_named, unary_term, arithmetic_term, term_of, unary_formula, comparison_formula, connective_formula, formula_of}
use Rattle.sc_model.specs.Operators.{arithmetic_of, comparison_of, connective_of}
use Rattle.sc_model.specs.Tasks.{Task}
use Rattle.sc_model.specs.Steps.{Point, Exits, Fails, Does, fails}
use Rattle.sc_machine_laws.specs.Formulas.{ReadsAttributes, evaluating, EndsWith, StepsTo, FormulasAreSteps}
use Rattle.sc_machine_laws.proofs.LeadingSteps.{Comes, Given, Leads, last_truth, leads_once, leads_then, visible_alone}
use Rattle.sc_machine_laws.proofs.OperandTruths.{compared, computed, connected, negated, opposite, same}
use Rattle.sc_machine_laws.proofs.AttributeFormulas.{IsFormula, IsTerm, atoms, attribute_formula, attribute_term, void_is_formula}

module _ (s : System) (me : Reference) where
  module _ (p : Point) where
    -- the point with these tasks and values
    abbrev at : List Task → List Operand → Point
    at ts vs = record p { tasks = ts; values = vs }

    abbrev truth_value : Option Bool → Option Value
    truth_value o = option_map Boolean o

    module _ (defaults : List Binding) (reads : ReadsAttributes s me defaults p) where
      -- ---- all expressions

      first_of : (e : Expr) (f g : Option PlainFormula) → IsFormula s me p defaults reads e f → IsFormula s me p defaults reads e g →
          IsFormula s me p defaults reads e (option_or f g)
      first_of e None g h k = k
      first_of e (Some f) g h k = h

      unary_is_term : (q : Span) (op : UnaryOperator) (a : Expr) (t : Option PlainTerm) → IsTerm s me p defaults reads a t →
          IsTerm s me p defaults reads (tree.Unary q op a) (unary_term op t)
      unary_is_term q unary.Plus a None h = _
      unary_is_term q unary.Plus a (Some t) h = same s me p q a (value_of t (atoms s me p defaults reads)) h
      unary_is_term q unary.Minus a None h = _
      unary_is_term q unary.Minus a (Some t) h = opposite s me p q a (value_of t (atoms s me p defaults reads)) h
      unary_is_term q unary.Not a t h = _
      unary_is_term q unary.Old a t h = _

      unary_is_formula : (q : Span) (op : UnaryOperator) (a : Expr) (f : Option PlainFormula) → IsFormula s me p defaults reads a f →
          IsFormula s me p defaults reads (tree.Unary q op a) (unary_formula op f)
      unary_is_formula q unary.Not a None h = _
      unary_is_formula q unary.Not a (Some f) h = λ fit. negated s me p q a (truth_of f (atoms s me p defaults reads)) (h fit)
      unary_is_formula q unary.Plus a f h = _
      unary_is_formula q unary.Minus a f h = _
      unary_is_formula q unary.Old a f h = _

      module _ (q : Span) (op : BinaryOperator) (a b : Expr) where
        arithmetic_is_term : (o : Option ArithmeticOperator) (t u : Option PlainTerm) → arithmetic_of op ≡ o →
            IsTerm s me p defaults reads a t → IsTerm s me p defaults reads b u → IsTerm s me p defaults reads (tree.Binary q op a b) (arithmetic_term o t u)
        arithmetic_is_term None t u e h k = _
        arithmetic_is_term (Some o) None u e h k = _
        arithmetic_is_term (Some o) (Some t) None e h k = _
        arithmetic_is_term (Some o) (Some t) (Some u) e h k =
            computed s me p q op a b o (value_of t (atoms s me p defaults reads)) (value_of u (atoms s me p defaults reads)) e h k

        comparison_is_formula : (o : Option Comparison) (t u : Option PlainTerm) → comparison_of op ≡ o →
            IsTerm s me p defaults reads a t → IsTerm s me p defaults reads b u → IsFormula s me p defaults reads (tree.Binary q op a b) (comparison_formula o t u)
        comparison_is_formula None t u e h k = _
        comparison_is_formula (Some o) None u e h k = _
        comparison_is_formula (Some o) (Some t) None e h k = _
        comparison_is_formula (Some o) (Some t) (Some u) e h k = λ fit.
            compared s me p q op a b o (value_of t (atoms s me p defaults reads)) (value_of u (atoms s me p defaults reads)) e h k

        connective_is_formula : (o : Option Connective) (t u : Option PlainFormula) → connective_of op ≡ o →
            IsFormula s me p defaults reads a t → IsFormula s me p defaults reads b u → IsFormula s me p defaults reads (tree.Binary q op a b) (connective_formula o t u)
        connective_is_formula None t u e h k = _
        connective_is_formula (Some o) None u e h k = _
        connective_is_formula (Some o) (Some t) None e h k = _
        connective_is_formula (Some o) (Some t) (Some u) e h k = λ fit.
            connected s me p q op a b o (truth_of t (atoms s me p defaults reads)) (truth_of u (atoms s me p defaults reads)) e (h fit.0) (k fit.1)

        either_is_formula : IsTerm s me p defaults reads a (term_of defaults a) → IsTerm s me p defaults reads b (term_of defaults b) →
            IsFormula s me p defaults reads a (formula_of defaults a) → IsFormula s me p defaults reads b (formula_of defaults b) →
            IsFormula s me p defaults reads (tree.Binary q op a b)
            (option_or (comparison_formula (comparison_of op) (term_of defaults a) (term_of defaults b))
            (connective_formula (connective_of op) (formula_of defaults a) (formula_of defaults b)))
        either_is_formula t u f g =
            first_of (tree.Binary q op a b)
            (comparison_formula (comparison_of op) (term_of defaults a) (term_of defaults b))
            (connective_formula (connective_of op) (formula_of defaults a) (formula_of defaults b))
            (comparison_is_formula (comparison_of op) (term_of defaults a) (term_of defaults b) refl t u)
            (connective_is_formula (connective_of op) (formula_of defaults a) (formula_of defaults b) refl f g)

      term_evaluated : (e : Expr) → IsTerm s me p defaults reads e (term_of defaults e)
      term_evaluated (tree.Integer q z) = λ i ts vs. record { type = integer; leads = leads_once s me refl }
      term_evaluated (tree.Call q tree.no_target x no_exprs) =
          attribute_term s me p defaults reads q x (attribute_named x.text defaults) refl
      term_evaluated (tree.Unary q op a) = unary_is_term q op a (term_of defaults a) (term_evaluated a)
      term_evaluated (tree.Binary q op a b) =
          arithmetic_is_term q op a b (arithmetic_of op) (term_of defaults a) (term_of defaults b) refl
          (term_evaluated a) (term_evaluated b)
      term_evaluated e = _

      -- the right operand says whether the operator is a test for Void
      binary_is_formula : (q : Span) (op : BinaryOperator) (a b : Expr) → IsFormula s me p defaults reads a (formula_of defaults a) →
          IsFormula s me p defaults reads b (formula_of defaults b) →
          IsFormula s me p defaults reads (tree.Binary q op a b) (formula_of defaults (tree.Binary q op a b))
      binary_is_formula q op a (tree.Void here) f g = void_is_formula s me p defaults reads q op a here
      binary_is_formula q op a b f g =
          either_is_formula q op a b (term_evaluated a) (term_evaluated b) f g

      formula_evaluated : (e : Expr) → IsFormula s me p defaults reads e (formula_of defaults e)
      formula_evaluated (tree.Boolean q b) = λ fit i ts vs. record { type = boolean; leads = leads_once s me refl }
      formula_evaluated (tree.Call q tree.no_target x no_exprs) =
          attribute_formula s me p defaults reads q x (attribute_named x.text defaults) refl
      formula_evaluated (tree.Unary q op a) = unary_is_formula q op a (formula_of defaults a) (formula_evaluated a)
      formula_evaluated (tree.Binary q op a b) =
          binary_is_formula q op a b (formula_evaluated a) (formula_evaluated b)
      formula_evaluated e = _

    -- ---- the end

    -- where no task is left the routine exits
    ended : (y : Point) (v : Value) (g : Given s me p y [] [] v) → Leads s me y (Does Exits (at [] (operand v g.type ∷ [])))
    ended y v g = leads_then s me g.leads (leads_once s me refl)

    ends_so : (i : ℕ) (x : Expr) (o : Option Bool) → Comes s me p (evaluating i x p) [] [] (truth_value o) →
        StepsTo s me (evaluating i x p) o
    ends_so i x None c = record {
      truths = λ b. (
        (λ w. let same = visible_alone s me w.steps c.leads.steps (evaluating i x p) _ c.end Exits (Fails c.why)
            w.ends c.leads.leads in cc),
        (λ f. cc),
      );
      faults = (
        (λ w. refl),
        (λ f. record {
          steps = c.leads.steps;
          why = c.why;
          end = c.end;
          fails = c.leads.leads;
          is_fault = c.is_fault;
        }),
      );
    }
    ends_so i x (Some t) c =
        let l = ended (evaluating i x p) (Boolean t) c in record {
          truths = λ b. (
            (λ w. ap last_truth (visible_alone s me l.steps w.steps (evaluating i x p) _ _ Exits Exits l.leads w.ends)),
            (λ f. subst (λ o. Ended o) f (record { steps = l.steps; type = c.type; ends = l.leads })),
          );
          faults = (
            (λ w. let same = visible_alone s me w.steps l.steps (evaluating i x p) w.end _ (Fails w.why) Exits
                w.fails l.leads in cc),
            (λ f. cc),
          );
        }
      where
        Ended : Option Bool → Type 0
        Ended None = Unit {0}
        Ended (Some b) = EndsWith s me (evaluating i x p) (Boolean b)

pub formulas_are_steps : FormulasAreSteps
formulas_are_steps s me defaults p i e f reads is_formula fits =
    ends_so s me p i e (truth_of f (atoms_of (attributes_of me.number p.objects)))
    (subst (λ o. IsFormula s me p defaults reads e o) is_formula (formula_evaluated s me p defaults reads e)
    fits i [] [])
