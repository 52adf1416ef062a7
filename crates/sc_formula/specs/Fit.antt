-- Which objects a formula speaks of: each attribute that it names has an atom of its kind.
use Rattle.std.specs.Prelude.{ℕ, List, slice_get, Some, ◌≡◌, ⊤}
use Rattle.sc_formula.specs.declared.atom.AtomKind.{AtomKind}
use Rattle.sc_formula.specs.declared.atom.AtomKind.TheVariants as kind
use Rattle.sc_formula.specs.Term as term
use Rattle.sc_formula.specs.Formula as formula

-- there is an attribute of this number, and it is of this kind
abbrev pub HasKind : List AtomKind → ℕ → AtomKind → Type 0
HasKind kinds n k = slice_get kinds n ≡ Some k

-- each attribute that the term names is an integer
abbrev pub IsFitTerm : term.PlainTerm → List AtomKind → Type 0
IsFitTerm (term.Integer z) kinds = ⊤
IsFitTerm (term.Attribute n) kinds = HasKind kinds n kind.Integer
IsFitTerm (term.Identity t) kinds = IsFitTerm t kinds
IsFitTerm (term.Opposite t) kinds = IsFitTerm t kinds
IsFitTerm (term.Arithmetic l op r) kinds = IsFitTerm l kinds × IsFitTerm r kinds

-- each attribute that the formula names is of the kind that it is used as
abbrev pub IsFit : formula.PlainFormula → List AtomKind → Type 0
IsFit (formula.Constant b) kinds = ⊤
IsFit (formula.Attribute n) kinds = HasKind kinds n kind.Boolean
IsFit (formula.IsVoid n) kinds = HasKind kinds n kind.Reference
IsFit (formula.NotVoid n) kinds = HasKind kinds n kind.Reference
IsFit (formula.Not f) kinds = IsFit f kinds
IsFit (formula.Compared l c r) kinds = IsFitTerm l kinds × IsFitTerm r kinds
IsFit (formula.Connected l c r) kinds = IsFit l kinds × IsFit r kinds
