-- The attributes of a class, and its invariant over them.
use Rattle.std.specs.Prelude.{ℕ, ◌==◌, Bool, false, not, List, [], ◌∷◌, Option, Some, None, filter, length}
use Rattle.std.specs.Option.{option_map}
use Rattle.sc_formula.specs.Formula.{PlainFormula}
use Rattle.sc_formula.specs.Formula as formula
use Rattle.sc_tree.specs.Plain.{System}
use Rattle.sc_class.specs.Tables.Ancestors.{ancestors}
use Rattle.sc_class.specs.Tables.Features.{declared_invariant, features}
use Rattle.sc_model.specs.Environments.{Binding}
use Rattle.sc_model.specs.Invariants.{attribute_named, clauses_of}
use Rattle.sc_model.specs.Objects.{fresh_attributes}

-- the number of the first attribute of the name
abbrev pub attribute_number : List ℕ → List Binding → Option ℕ
attribute_number x bs = option_map (λ found. found.0) (attribute_named x bs)

-- The clauses of an invariant, if each is a formula; an invariant that has another clause is never met.
abbrev pub known_formulas : Option (List PlainFormula) → List PlainFormula
known_formulas (Some clauses) = clauses
known_formulas None = formula.Constant false ∷ []

-- the clauses that the class at the number declares itself, over its attributes
abbrev pub own_formulas : System → ℕ → List PlainFormula
own_formulas s k = known_formulas (clauses_of (fresh_attributes s (features s k)) (declared_invariant s k))

-- whether it declares any
abbrev pub has_clauses : System → ℕ → Bool
has_clauses s k = not (length (declared_invariant s k) == 0)

-- Of these classes those that declare any.
abbrev pub with_clauses : System → List ℕ → List ℕ
with_clauses s ks = filter (has_clauses s) ks

-- The classes whose clauses make up the joined invariant of the class at the number: itself, then its parent and so on.
abbrev pub invariant_classes : System → ℕ → List ℕ
invariant_classes s k = with_clauses s (ancestors s k)
