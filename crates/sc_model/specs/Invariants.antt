-- Class invariants: each clause as a formula over the attributes, by number in the order of the class's features.
use Rattle.std.specs.Prelude.{ℕ, suc, zero, Bool, true, false, List, [], ◌∷◌, Option, Some, None, map, bytes_eq, unwrap_or, if◌then◌else◌}
use Rattle.std.specs.List.{list_all}
use Rattle.std.specs.Option.{option_map, option_and_then, option_or}
use Rattle.sc_formula.specs.declared.arithmetic.ArithmeticOperator.{ArithmeticOperator}
use Rattle.sc_formula.specs.declared.atom.Atom.{Atom}
use Rattle.sc_formula.specs.declared.atom.Atom.TheVariants as atom
use Rattle.sc_formula.specs.declared.comparison.Comparison.{Comparison}
use Rattle.sc_formula.specs.declared.connective.Connective.{Connective}
use Rattle.sc_formula.specs.Formula.{PlainFormula, truth_of}
use Rattle.sc_formula.specs.Formula as formula
use Rattle.sc_formula.specs.Term.{PlainTerm}
use Rattle.sc_formula.specs.Term as term
use Rattle.sc_formula.specs.Invariant.{Meets}
use Rattle.sc_tree.specs.declared.expression.UnaryOperator.{UnaryOperator}
use Rattle.sc_tree.specs.declared.expression.UnaryOperator.TheVariants.{Not, Plus, Minus}
use Rattle.sc_tree.specs.declared.expression.BinaryOperator.{BinaryOperator}
use Rattle.sc_tree.specs.declared.expression.BinaryOperator.TheVariants as binary
use Rattle.sc_tree.specs.Plain as tree
use Rattle.sc_tree.specs.Plain.{Expr, Integer, Boolean, Call, no_target, no_exprs, Unary, Binary, Clause, System}
use Rattle.sc_class.specs.Tables.Features.{features, invariant_of}
use Rattle.sc_model.specs.Values as value
use Rattle.sc_model.specs.Values.{Value}
use Rattle.sc_model.specs.Environments.{Binding}
use Rattle.sc_model.specs.Objects.{Object, fresh_attributes}
use Rattle.sc_model.specs.Operators.{arithmetic_of, comparison_of, connective_of}

-- what an invariant sees of a value
abbrev pub atom_of : Value → Atom
atom_of (value.Integer z) = atom.Integer z
atom_of (value.Boolean b) = atom.Boolean b
atom_of value.Void = atom.Reference true
atom_of (value.Attached r) = atom.Reference false

abbrev pub atoms_of : List Binding → List Atom
atoms_of attributes = map (λ (b : Binding). atom_of b.value) attributes

-- the number of the first attribute of the name, with its default, which says what it is
abbrev pub attribute_named : List ℕ → List Binding → Option (ℕ × Value)
attribute_named name [] = None
attribute_named name (attribute ∷ others) =
    if bytes_eq attribute.name name
    then Some (zero, attribute.value)
    else option_map (λ found. (suc found.0, found.1)) (attribute_named name others)

-- the attribute of the number as a term, if it is an integer
abbrev pub integer_numbered : ℕ → Value → Option PlainTerm
integer_numbered number (value.Integer z) = Some (term.Attribute number)
integer_numbered number other = None

-- the attribute of the number as a formula, if it is a truth value
abbrev pub boolean_numbered : ℕ → Value → Option PlainFormula
boolean_numbered number (value.Boolean b) = Some (formula.Attribute number)
boolean_numbered number other = None

abbrev pub unary_term : UnaryOperator → Option PlainTerm → Option PlainTerm
unary_term Plus operand = option_map term.Identity operand
unary_term Minus operand = option_map term.Opposite operand
unary_term other operand = None

abbrev pub arithmetic_term : Option ArithmeticOperator → Option PlainTerm → Option PlainTerm → Option PlainTerm
arithmetic_term (Some operator) (Some left) (Some right) = Some (term.Arithmetic left operator right)
arithmetic_term operator left right = None

-- An expression as a term over these attributes, if it is one.
abbrev pub term_of : List Binding → Expr → Option PlainTerm
term_of attributes (Integer span z) = Some (term.Integer z)
term_of attributes (Call span no_target name no_exprs) =
    option_and_then (λ found. integer_numbered found.0 found.1) (attribute_named name.text attributes)
term_of attributes (Unary span operator operand) = unary_term operator (term_of attributes operand)
term_of attributes (Binary span operator left right) =
    arithmetic_term (arithmetic_of operator) (term_of attributes left) (term_of attributes right)
term_of attributes other = None

abbrev pub unary_formula : UnaryOperator → Option PlainFormula → Option PlainFormula
unary_formula Not operand = option_map formula.Not operand
unary_formula other operand = None

abbrev pub comparison_formula : Option Comparison → Option PlainTerm → Option PlainTerm → Option PlainFormula
comparison_formula (Some operator) (Some left) (Some right) = Some (formula.Compared left operator right)
comparison_formula operator left right = None

abbrev pub connective_formula : Option Connective → Option PlainFormula → Option PlainFormula → Option PlainFormula
connective_formula (Some operator) (Some left) (Some right) = Some (formula.Connected left operator right)
connective_formula operator left right = None

-- the number of the attribute that is compared with Void
abbrev pub void_test : List Binding → Expr → Option ℕ
void_test attributes (Call span no_target name no_exprs) =
    option_map (λ found. found.0) (attribute_named name.text attributes)
void_test attributes other = None

abbrev pub void_formula : BinaryOperator → Option ℕ → Option PlainFormula
void_formula binary.Equal (Some number) = Some (formula.IsVoid number)
void_formula binary.NotEqual (Some number) = Some (formula.NotVoid number)
void_formula operator number = None

-- An expression as a formula over these attributes, if it is one.
abbrev pub formula_of : List Binding → Expr → Option PlainFormula
formula_of attributes (Boolean span b) = Some (formula.Constant b)
formula_of attributes (Call span no_target name no_exprs) =
    option_and_then (λ found. boolean_numbered found.0 found.1) (attribute_named name.text attributes)
formula_of attributes (Unary span operator operand) = unary_formula operator (formula_of attributes operand)
formula_of attributes (Binary span operator left (tree.Void here)) = void_formula operator (void_test attributes left)
formula_of attributes (Binary span operator left right) =
    option_or
    (comparison_formula (comparison_of operator) (term_of attributes left) (term_of attributes right))
    (connective_formula (connective_of operator) (formula_of attributes left) (formula_of attributes right))
formula_of attributes other = None

abbrev pub with_clause : Option PlainFormula → Option (List PlainFormula) → Option (List PlainFormula)
with_clause (Some clause) (Some others) = Some (clause ∷ others)
with_clause clause others = None

-- the clauses as formulas over these attributes, where each is one
abbrev pub clauses_of : List Binding → List Clause → Option (List PlainFormula)
clauses_of attributes [] = Some []
clauses_of attributes (clause ∷ others) =
    with_clause (formula_of attributes clause.condition) (clauses_of attributes others)

-- the joined invariant of the class at the number as formulas
abbrev pub formulas_of : System → ℕ → Option (List PlainFormula)
formulas_of s k = clauses_of (fresh_attributes s (features s k)) (invariant_of s k)

-- each clause is a formula that is true of the atoms
abbrev pub MeetsClauses : Option (List PlainFormula) → List Atom → Type 0
MeetsClauses None atoms = ⊥
MeetsClauses (Some clauses) atoms = Meets clauses atoms

-- The object meets its class invariant (ECMA-367, 8.9.16).
abbrev pub MeetsInvariant : System → Object → Type 0
MeetsInvariant s object = MeetsClauses (formulas_of s object.class) (atoms_of object.attributes)

-- The tests of the clauses.
abbrev pub meets_clauses : Option (List PlainFormula) → List Atom → Bool
meets_clauses None atoms = false
meets_clauses (Some clauses) atoms = list_all (λ clause. unwrap_or (truth_of clause atoms) false) clauses

abbrev pub meets_invariant : System → Object → Bool
meets_invariant s object = meets_clauses (formulas_of s object.class) (atoms_of object.attributes)
