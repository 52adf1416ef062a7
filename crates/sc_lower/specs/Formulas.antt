-- Class invariants as formulas over the attributes of a class that is lowered.
use Rattle.std.specs.Prelude.{List, Option, Some, map}
use Rattle.std.specs.Option.{option_map}
use Rattle.sc_formula.specs.declared.connective.Connective.{Connective}
use Rattle.sc_formula.specs.declared.formula.Formula.{Formula}
use Rattle.sc_formula.specs.Formula.{PlainFormula}
use Rattle.sc_formula.specs.Plain.{plain_formula}
use Rattle.sc_tree.specs.declared.instruction.Clause.{Clause}
use Rattle.sc_tree.specs.declared.expression.BinaryOperator.{BinaryOperator}
use Rattle.sc_tree.specs.declared.expression.Expr.{Expr}
use Rattle.sc_tree.specs.View.{clause_of, expr_of}
use Rattle.sc_model.specs.Invariants.{clauses_of, comparison_formula, connective_formula, term_of}
use Rattle.sc_model.specs.Operators.{comparison_of}
use Rattle.sc_lower.specs.declared.program.attributes.Attribute.{Attribute}
use Rattle.sc_lower.specs.AttributeBindings.{binding_of}

-- the clauses over these attributes, if each is a formula
abbrev pub clauses_over : List Attribute → List Clause → Option (List PlainFormula)
clauses_over attributes clauses = clauses_of (map binding_of attributes) (map clause_of clauses)

-- the comparison of these two over the attributes, if it is one
abbrev pub comparison_over : List Attribute → BinaryOperator → Expr → Expr → Option PlainFormula
comparison_over attributes operator left right =
    comparison_formula (comparison_of operator) (term_of (map binding_of attributes) (expr_of left))
    (term_of (map binding_of attributes) (expr_of right))

-- the two formulas one after the other, if both are there
abbrev pub connected : Connective → Option Formula → Option Formula → Option PlainFormula
connected connective left right =
    connective_formula (Some connective) (option_map plain_formula left) (option_map plain_formula right)
