-- The plain tree of a term and of a formula: what it is without boxes.
use Rattle.sc_formula.specs.declared.term.Term.{Term}
use Rattle.sc_formula.specs.declared.term.Term.TheVariants as code_term
use Rattle.sc_formula.specs.declared.formula.Formula.{Formula}
use Rattle.sc_formula.specs.declared.formula.Formula.TheVariants as code_formula
use Rattle.sc_formula.specs.Term as term
use Rattle.sc_formula.specs.Formula as formula

unfoldable pub plain_term : Term → term.PlainTerm
plain_term (code_term.Integer z) = term.Integer z
plain_term (code_term.Attribute n) = term.Attribute n
plain_term (code_term.Identity' p t) = term.Identity (plain_term t)
plain_term (code_term.Opposite' p t) = term.Opposite (plain_term t)
plain_term (code_term.Arithmetic' p l op q r) = term.Arithmetic (plain_term l) op (plain_term r)

unfoldable pub plain_formula : Formula → formula.PlainFormula
plain_formula (code_formula.Constant b) = formula.Constant b
plain_formula (code_formula.Attribute n) = formula.Attribute n
plain_formula (code_formula.IsVoid n) = formula.IsVoid n
plain_formula (code_formula.NotVoid n) = formula.NotVoid n
plain_formula (code_formula.Not' p f) = formula.Not (plain_formula f)
plain_formula (code_formula.Compared l c r) = formula.Compared (plain_term l) c (plain_term r)
plain_formula (code_formula.Connected' p l c q r) = formula.Connected (plain_formula l) c (plain_formula r)
