use Rattle.std.proofs.Common.{◌≡◌, Some, Option, map, sym, ap, subst, ◌∙◌}
use Rattle.std.specs.Prelude.{IfOk}
use Rattle.std.specs.Option.{option_map}
use Rattle.sc_formula.specs.Formula.{PlainFormula}
use Rattle.sc_formula.specs.Plain.{plain_formula}
use Rattle.sc_tree.specs.declared.expression.Expr.{Expr}
use Rattle.sc_tree.specs.View.{expr_of}
use Rattle.sc_tree.proofs.ViewLemmas.{expr_of-binary}
use Rattle.sc_model.specs.Operators.{comparison_of}
use Rattle.sc_model.specs.Invariants.{term_of, formula_of, comparison_formula, connective_formula}
use Rattle.sc_lower.specs.AttributeBindings.{binding_of}
use Rattle.sc_lower.proofs.Formulas.{compared_formula, connected_formula}
use Rattle.sc_lower.proofs.program.invariant.+formula.Goals as goal

pub returns-in-Some : goal.returns-in-Some
returns-in-Some t c =
    let bs = map binding_of c.args.attributes.now in
    let op = c.in-Binary.operator in
    let l = c.in-Binary.left.value in
    let r = c.in-Binary.right.value in
    let tested : c.deref-in-Binary.result.now ≡ r = cc (c.deref-in-Binary.ensures) in
    let left : c.deref-in-Binary-2.result.now ≡ l = cc (c.deref-in-Binary-2.ensures) in
    let right : c.deref-in-Binary-3.result.now ≡ r = cc (c.deref-in-Binary-3.ensures) in
    compared_formula bs c.in-Binary.field-0 op (expr_of l) r (λ x e. c.in_default.not-Void x (tested ∙ e)) c.in_ok-compared-in-Binary.field-0
    (c.in_ok-compared-in-Binary.ensures
    ∙ ap (λ (a : Expr). comparison_formula (comparison_of op) (term_of bs (expr_of a)) (term_of bs (expr_of c.deref-in-Binary-3.result.now))) left
    ∙ ap (λ (a : Expr). comparison_formula (comparison_of op) (term_of bs (expr_of l)) (term_of bs (expr_of a))) right)
    c.in-Some.compared c.in-Some.is
    (expr_of c.args.expression.now) (ap expr_of c.in-Binary.is ∙ expr_of-binary c.in-Binary.field-0 op c.in-Binary.left c.in-Binary.right)

pub returns-in_ok-right-in-Binary : goal.returns-in_ok-right-in-Binary
returns-in_ok-right-in-Binary t c =
    let bs = map binding_of c.args.attributes.now in
    let op = c.in-Binary.operator in
    let l = c.in-Binary.left.value in
    let r = c.in-Binary.right.value in
    let k = c.in-Some-connective.connective in
    let tested : c.deref-in-Binary.result.now ≡ r = cc (c.deref-in-Binary.ensures) in
    let left : c.deref-in-Binary-2.result.now ≡ l = cc (c.deref-in-Binary-2.ensures) in
    let right : c.deref-in-Binary-3.result.now ≡ r = cc (c.deref-in-Binary-3.ensures) in
    let first : c.deref-in-Binary-4.result.now ≡ l = cc (c.deref-in-Binary-4.ensures) in
    let second : c.deref-in-Binary-5.result.now ≡ r = cc (c.deref-in-Binary-5.ensures) in
    let whole = connected_formula bs c.in-Binary.field-0 op (expr_of l) r (λ x e. c.in_default.not-Void x (tested ∙ e)) c.in_ok-compared-in-Binary.field-0
    (c.in_ok-compared-in-Binary.ensures
    ∙ ap (λ (a : Expr). comparison_formula (comparison_of op) (term_of bs (expr_of a)) (term_of bs (expr_of c.deref-in-Binary-3.result.now))) left
    ∙ ap (λ (a : Expr). comparison_formula (comparison_of op) (term_of bs (expr_of l)) (term_of bs (expr_of a))) right)
    c.in_default-2.not-Some k (sym c.connective.ensures ∙ c.in-Some-connective.is)
    (expr_of c.args.expression.now) (ap expr_of c.in-Binary.is ∙ expr_of-binary c.in-Binary.field-0 op c.in-Binary.left c.in-Binary.right) in
    let one : option_map plain_formula c.in_ok-left-in-Binary.left ≡ formula_of bs (expr_of l) = c.in_ok-left-in-Binary.ensures ∙ ap (λ (a : Expr). formula_of bs (expr_of a)) first in
    let other : option_map plain_formula c.in_ok-right-in-Binary.right ≡ formula_of bs (expr_of r) = c.in_ok-right-in-Binary.ensures ∙ ap (λ (a : Expr). formula_of bs (expr_of a)) second in
    let sides = ap (λ (a : Option PlainFormula). connective_formula (Some k) a (option_map plain_formula c.in_ok-right-in-Binary.right)) one
    ∙ ap (λ (b : Option PlainFormula). connective_formula (Some k) (formula_of bs (expr_of l)) b) other in
    subst (λ (x : Option PlainFormula). IfOk c.connected.result (λ formula. option_map plain_formula formula ≡ x)) (sides ∙ whole) c.connected.ensures
