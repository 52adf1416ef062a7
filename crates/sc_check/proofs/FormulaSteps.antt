-- A call that may be a formula, or the name of an attribute.
use Rattle.std.proofs.Common.{◌≡◌, ℕ, ◌≤◌, Bool, true, false, List, [], ◌∷◌, length, refl, ap, sym, ◌∙◌, arith}
use Rattle.sc_text.specs.declared.token.Span.{Span}
use Rattle.sc_tree.specs.declared.expression.Expr.{Expr}
use Rattle.sc_tree.specs.declared.expression.Expr.TheVariants as expr
use Rattle.sc_tree.specs.declared.expression.Call.{Call}
use Rattle.sc_tree.specs.Plain as plain
use Rattle.sc_tree.specs.Plain.{System, Name, Target, no_target, target}
use Rattle.sc_tree.specs.View.{expr_of, exprs_of, name_of, target_of}
use Rattle.sc_tree.proofs.ViewLemmas.{expr_of-call}
use Rattle.sc_rules.specs.SystemRules.{is_reference_attribute, is_formula_where, may_be_formula}

-- a call with actuals is no name alone
pub no_value_attribute : (s : System) (k : ℕ) (p : Span) (a : Target) (x : Name) (es : List Expr) → 1 ≤ length es →
    false ≡ may_be_formula s k (plain.Call p a x (exprs_of es))
unfolding is_formula_where
no_value_attribute s k p a x [] l = absurd (omega (arith, l))
no_value_attribute s k p no_target x (e ∷ es) l = refl
no_value_attribute s k p (target b) x (e ∷ es) l = refl

pub no_reference_attribute : (s : System) (k : ℕ) (p : Span) (a : Target) (x : Name) (es : List Expr) → 1 ≤ length es →
    false ≡ is_reference_attribute true s k (plain.Call p a x (exprs_of es))
no_reference_attribute s k p a x [] l = absurd (omega (arith, l))
no_reference_attribute s k p no_target x (e ∷ es) l = refl
no_reference_attribute s k p (target b) x (e ∷ es) l = refl

-- what is said of a call is said of the expression that it is
pub formula_call : (s : System) (k : ℕ) (e : Expr) (d : Call) (b : Bool) → e ≡ expr.Call d →
    b ≡ may_be_formula s k (plain.Call d.span (target_of d.target) (name_of d.name) (exprs_of d.actuals.items)) → b ≡ may_be_formula s k (expr_of e)
formula_call s k e d b q f = f ∙ sym (ap (λ (e : Expr). may_be_formula s k (expr_of e)) q ∙ ap (may_be_formula s k) (expr_of-call d))
