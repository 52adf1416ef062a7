-- The plain tree of each variant.
use Rattle.std.proofs.Common.{◌≡◌, ℕ, ℤ, Bool, refl}
use Rattle.std.specs.declared.alloc.Global.{Global}
use Rattle.std.specs.declared.boxed.Box.{Box}
use Rattle.sc_formula.specs.declared.arithmetic.ArithmeticOperator.{ArithmeticOperator}
use Rattle.sc_formula.specs.declared.comparison.Comparison.{Comparison}
use Rattle.sc_formula.specs.declared.connective.Connective.{Connective}
use Rattle.sc_formula.specs.declared.term.Term.{Term}
use Rattle.sc_formula.specs.declared.term.Term.TheVariants as code_term
use Rattle.sc_formula.specs.declared.formula.Formula.{Formula}
use Rattle.sc_formula.specs.declared.formula.Formula.TheVariants as code_formula
use Rattle.sc_formula.specs.Term as term
use Rattle.sc_formula.specs.Formula as formula
use Rattle.sc_formula.specs.Plain.{plain_term, plain_formula}

pub plain_term-integer : (z : ℤ) → plain_term (code_term.Integer z) ≡ term.Integer z
unfolding plain_term
plain_term-integer z = refl

pub plain_term-attribute : (n : ℕ) → plain_term (code_term.Attribute n) ≡ term.Attribute n
unfolding plain_term
plain_term-attribute n = refl

pub plain_term-identity : (t : Box Term Global) → plain_term (code_term.Identity t) ≡ term.Identity (plain_term t.value)
unfolding plain_term
plain_term-identity t = refl

pub plain_term-opposite : (t : Box Term Global) → plain_term (code_term.Opposite t) ≡ term.Opposite (plain_term t.value)
unfolding plain_term
plain_term-opposite t = refl

pub plain_term-arithmetic : (l : Box Term Global) (op : ArithmeticOperator) (r : Box Term Global) → plain_term (code_term.Arithmetic l op r) ≡ term.Arithmetic (plain_term l.value) op (plain_term r.value)
unfolding plain_term
plain_term-arithmetic l op r = refl

pub plain_formula-constant : (b : Bool) → plain_formula (code_formula.Constant b) ≡ formula.Constant b
unfolding plain_formula
plain_formula-constant b = refl

pub plain_formula-attribute : (n : ℕ) → plain_formula (code_formula.Attribute n) ≡ formula.Attribute n
unfolding plain_formula
plain_formula-attribute n = refl

pub plain_formula-is_void : (n : ℕ) → plain_formula (code_formula.IsVoid n) ≡ formula.IsVoid n
unfolding plain_formula
plain_formula-is_void n = refl

pub plain_formula-not_void : (n : ℕ) → plain_formula (code_formula.NotVoid n) ≡ formula.NotVoid n
unfolding plain_formula
plain_formula-not_void n = refl

pub plain_formula-not : (f : Box Formula Global) → plain_formula (code_formula.Not f) ≡ formula.Not (plain_formula f.value)
unfolding plain_formula
plain_formula-not f = refl

pub plain_formula-compared : (l : Term) (c : Comparison) (r : Term) → plain_formula (code_formula.Compared l c r) ≡ formula.Compared (plain_term l) c (plain_term r)
unfolding plain_formula
plain_formula-compared l c r = refl

pub plain_formula-connected : (l : Box Formula Global) (c : Connective) (r : Box Formula Global) → plain_formula (code_formula.Connected l c r) ≡ formula.Connected (plain_formula l.value) c (plain_formula r.value)
unfolding plain_formula
plain_formula-connected l c r = refl

-- all of these, to rewrite by
pub ruleset plain_trees = (plain_term-integer, plain_term-attribute, plain_term-identity, plain_term-opposite, plain_term-arithmetic, plain_formula-constant, plain_formula-attribute, plain_formula-is_void, plain_formula-not_void, plain_formula-not, plain_formula-compared, plain_formula-connected)
