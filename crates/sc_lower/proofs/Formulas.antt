-- Clauses as formulas, one after the other.
use Rattle.std.proofs.Common.{◌≡◌, ℕ, suc, ◌+◌, ◌<◌, ◌≤◌, List, [], ◌∷◌, ◌++◌, Option, Some, None, length, map, drop, get_or, drop-cons, append_assoc, refl, sym, ap, ◌∙◌, arith}
use Rattle.std.specs.Option.{option_map, option_or}
use Rattle.sc_text.specs.declared.token.Span.{Span}
use Rattle.sc_formula.specs.declared.formula.Formula.{Formula}
use Rattle.sc_formula.specs.Formula.{PlainFormula}
use Rattle.sc_formula.specs.Plain.{plain_formula}
use Rattle.sc_formula.specs.declared.connective.Connective.{Connective}
use Rattle.sc_tree.specs.declared.expression.BinaryOperator.{BinaryOperator}
use Rattle.sc_tree.specs.declared.expression.Expr.{Expr}
use Rattle.sc_tree.specs.declared.expression.Expr.TheVariants as expr
use Rattle.sc_tree.specs.declared.instruction.Clause.{Clause}
use Rattle.sc_tree.specs.Plain as plain
use Rattle.sc_tree.specs.View.{expr_of, exprs_of, clause_of}
use Rattle.sc_model.specs.Environments.{Binding}
use Rattle.sc_model.specs.Operators.{comparison_of, connective_of}
use Rattle.sc_model.specs.Invariants.{term_of, formula_of, comparison_formula, connective_formula, void_test, with_clause, clauses_of}
use Rattle.sc_lower.proofs.Views.{clause_condition}

pub term_with_actuals : (attributes : List Binding) (s : Span) (t : plain.Target) (n : plain.Name) (es : List Expr) → 1 ≤ length es → None ≡ term_of attributes (plain.Call s t n (exprs_of es))
term_with_actuals attributes s t n [] l = absurd (omega arith)
term_with_actuals attributes s plain.no_target n (e ∷ es) l = refl
term_with_actuals attributes s (plain.target x) n (e ∷ es) l = refl

pub formula_with_actuals : (attributes : List Binding) (s : Span) (t : plain.Target) (n : plain.Name) (es : List Expr) → 1 ≤ length es → None ≡ formula_of attributes (plain.Call s t n (exprs_of es))
formula_with_actuals attributes s t n [] l = absurd (omega arith)
formula_with_actuals attributes s plain.no_target n (e ∷ es) l = refl
formula_with_actuals attributes s (plain.target x) n (e ∷ es) l = refl

pub void_with_actuals : (attributes : List Binding) (s : Span) (t : plain.Target) (n : plain.Name) (es : List Expr) → 1 ≤ length es → None ≡ void_test attributes (plain.Call s t n (exprs_of es))
void_with_actuals attributes s t n [] l = absurd (omega arith)
void_with_actuals attributes s plain.no_target n (e ∷ es) l = refl
void_with_actuals attributes s (plain.target x) n (e ∷ es) l = refl

pub ruleset calls = (term_with_actuals, formula_with_actuals, void_with_actuals)

dropped : {A : Type 0} (xs : List A) (i : ℕ) (x : A) → i < length xs → x ≡ get_or xs i x → drop i xs ≡ x ∷ drop (i + 1) xs
dropped xs i x l e =
    let next : suc i ≡ i + 1 = omega arith in
    drop-cons xs i x l ∙ ap (λ y. y ∷ drop (suc i) xs) (sym e) ∙ ap (λ n. x ∷ drop n xs) next

abbrev clauses_at : List Clause → List plain.Clause
clauses_at cs = map clause_of cs

-- a clause's formula comes before those of the others
pub clause_here : (attributes : List Binding) (cs : List Clause) (i : ℕ) (c : Clause) → i < length cs → c ≡ get_or cs i c →
    clauses_of attributes (clauses_at (drop i cs)) ≡ with_clause (formula_of attributes (expr_of c.condition)) (clauses_of attributes (clauses_at (drop (i + 1) cs)))
clause_here attributes cs i c l e =
    ap (λ r. clauses_of attributes (clauses_at r)) (dropped cs i c l e)
    ∙ ap (λ x. with_clause (formula_of attributes x) (clauses_of attributes (clauses_at (drop (i + 1) cs)))) (clause_condition c)

map_push : (fs : List Formula) (f : Formula) → map plain_formula (fs ++ f ∷ []) ≡ map plain_formula fs ++ plain_formula f ∷ []
map_push [] f = refl
map_push (g ∷ fs) f = ap (λ r. plain_formula g ∷ r) (map_push fs f)

-- one formula more before those of the others
pub clause_pushed : (fs : List Formula) (f : Formula) (others : Option (List PlainFormula)) →
    option_map (λ r. map plain_formula fs ++ r) (with_clause (Some (plain_formula f)) others) ≡ option_map (λ r. map plain_formula (fs ++ f ∷ []) ++ r) others
clause_pushed fs f None = refl
clause_pushed fs f (Some r) = ap Some (sym (append_assoc (map plain_formula fs) (plain_formula f ∷ []) r) ∙ ap (λ l. l ++ r) (sym (map_push fs f)))

-- ---- an operator whose right operand isn't Void

abbrev either_formula : List Binding → BinaryOperator → plain.Expr → plain.Expr → Option PlainFormula
either_formula bs op l r =
    option_or (comparison_formula (comparison_of op) (term_of bs l) (term_of bs r)) (connective_formula (connective_of op) (formula_of bs l) (formula_of bs r))

apart : (bs : List Binding) (q : Span) (op : BinaryOperator) (l : plain.Expr) (r : Expr) → ((x : Span) → r ≡ expr.Void x → ⊥) →
    formula_of bs (plain.Binary q op l (expr_of r)) ≡ either_formula bs op l (expr_of r)
unfolding expr_of
apart bs q op l (expr.Void x) d = absurd (d x refl)
apart bs q op l r d = refl

-- a comparison is one
pub compared_formula : (bs : List Binding) (q : Span) (op : BinaryOperator) (l : plain.Expr) (r : Expr) → ((x : Span) → r ≡ expr.Void x → ⊥) → (f : Option Formula) →
    option_map plain_formula f ≡ comparison_formula (comparison_of op) (term_of bs l) (term_of bs (expr_of r)) → (x : Formula) → f ≡ Some x →
    (e : plain.Expr) → e ≡ plain.Binary q op l (expr_of r) → Some (plain_formula x) ≡ formula_of bs e
compared_formula bs q op l r d f h x g e k =
    ap (λ o. option_or o (connective_formula (connective_of op) (formula_of bs l) (formula_of bs (expr_of r)))) (ap (option_map plain_formula) (sym g) ∙ h)
    ∙ sym (apart bs q op l r d)
    ∙ ap (formula_of bs) (sym k)

none_from : {A : Type 0} (o : Option A) → ((x : A) → o ≡ Some x → ⊥) → o ≡ None
none_from None d = refl
none_from (Some x) d = absurd (d x refl)

-- and else what the connective makes of both sides
pub connected_formula : (bs : List Binding) (q : Span) (op : BinaryOperator) (l : plain.Expr) (r : Expr) → ((x : Span) → r ≡ expr.Void x → ⊥) → (f : Option Formula) →
    option_map plain_formula f ≡ comparison_formula (comparison_of op) (term_of bs l) (term_of bs (expr_of r)) → ((x : Formula) → f ≡ Some x → ⊥) →
    (k : Connective) → connective_of op ≡ Some k → (e : plain.Expr) → e ≡ plain.Binary q op l (expr_of r) →
    connective_formula (Some k) (formula_of bs l) (formula_of bs (expr_of r)) ≡ formula_of bs e
connected_formula bs q op l r d f h g k i e j =
    ap (λ c. connective_formula c (formula_of bs l) (formula_of bs (expr_of r))) (sym i)
    ∙ ap (λ o. option_or o (connective_formula (connective_of op) (formula_of bs l) (formula_of bs (expr_of r)))) (ap (option_map plain_formula) (sym (none_from f g)) ∙ h)
    ∙ sym (apart bs q op l r d)
    ∙ ap (formula_of bs) (sym j)
