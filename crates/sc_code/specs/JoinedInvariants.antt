-- The joined invariant of a class in flat code (ECMA-367, 8.9.16). In an heir's object the attributes that the heir
-- declares come before those that it inherits, so that clauses of these use other numbers there.
use Rattle.std.specs.Prelude.{ℕ, ◌+◌, ◌-◌, List, [], ◌∷◌, ◌++◌, Option, Some, None, length, map, slice_get}
use Rattle.sc_formula.specs.Formula.{PlainFormula, Constant, Attribute, IsVoid, NotVoid, Not, Compared, Connected}
use Rattle.sc_formula.specs.Term as term
use Rattle.sc_formula.specs.Term.{PlainTerm}
use Rattle.sc_code.specs.Programs.{PlainClass}

-- The term of an object with `n` further attributes before its own.
abbrev pub moved_term : ℕ → PlainTerm → PlainTerm
moved_term n (term.Integer z) = term.Integer z
moved_term n (term.Attribute k) = term.Attribute (n + k)
moved_term n (term.Identity t) = term.Identity (moved_term n t)
moved_term n (term.Opposite t) = term.Opposite (moved_term n t)
moved_term n (term.Arithmetic l op r) = term.Arithmetic (moved_term n l) op (moved_term n r)

-- The formula of an object with `n` further attributes before its own.
abbrev pub moved : ℕ → PlainFormula → PlainFormula
moved n (Constant b) = Constant b
moved n (Attribute k) = Attribute (n + k)
moved n (IsVoid k) = IsVoid (n + k)
moved n (NotVoid k) = NotVoid (n + k)
moved n (Not f) = Not (moved n f)
moved n (Compared l c r) = Compared (moved_term n l) c (moved_term n r)
moved n (Connected l c r) = Connected (moved n l) c (moved n r)

-- the clauses that an heir with this number of attributes keeps of a class: each of its own, of the attributes at
-- the end
abbrev pub kept_from : ℕ → Option PlainClass → List PlainFormula
kept_from n None = []
kept_from n (Some c) = map (moved (n - length c.attributes)) c.invariant

-- the clauses of these classes that such an heir keeps, those of the last class first
abbrev pub kept_along : List PlainClass → ℕ → List ℕ → List PlainFormula
kept_along classes n [] = []
kept_along classes n (k ∷ ks) = kept_along classes n ks ++ kept_from n (slice_get classes k)

abbrev pub joined_in : List PlainClass → Option PlainClass → List PlainFormula
joined_in classes None = []
joined_in classes (Some c) = kept_along classes (length c.attributes) c.invariant_classes

-- the joined invariant of the class at the number: its ancestors' clauses, then its own
abbrev pub joined_invariant : List PlainClass → ℕ → List PlainFormula
joined_invariant classes k = joined_in classes (slice_get classes k)
