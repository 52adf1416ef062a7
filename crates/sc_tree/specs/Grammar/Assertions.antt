-- Assertions (ECMA-367, 8.9).
use Rattle.std.specs.Prelude.{◌≡◌, ℕ, max, Bool, true, false, List, [], ◌∷◌, ◌++◌, None, Some}
use Rattle.sc_text.specs.Kind.{Kind, NAME, TERMINAL}
use Rattle.sc_text.specs.declared.token.Terminal.{Terminal}
use Rattle.sc_text.specs.declared.token.Terminal.TheVariants as terminal
use Rattle.sc_tree.specs.Plain.{Expr, Clause}
use Rattle.sc_tree.specs.Bare.{named}
use Rattle.sc_tree.specs.Grammar.Operators.{top}
use Rattle.sc_tree.specs.Grammar.Expressions.{IsExpr}

pub data IsClause : Clause → List Kind → ℕ → Type 0 where
  untagged : {t : Expr} {c : List Kind} {h : ℕ} → IsExpr top t c h → IsClause (record { tag = None; condition = t }) c h
  tagged : (x : List ℕ) {t : Expr} {c : List Kind} {h : ℕ} →
      IsExpr top t c h →
      IsClause (record { tag = Some (named x); condition = t }) (NAME x ∷ TERMINAL terminal.Colon ∷ c) h

abbrev pub goes_on_by : Terminal → Bool
goes_on_by terminal.OpenParenthesis = true
goes_on_by terminal.Plus = true
goes_on_by terminal.Minus = true
goes_on_by _ = false

-- whether the next token would go on with an expression before it, and might begin one: `(`, `+` or `-`
abbrev pub goes_on : List Kind → Bool
goes_on (TERMINAL m ∷ r) = goes_on_by m
goes_on _ = false

-- Right after a clause no other begins with `(`, `+` or `-`.
pub data IsClauses : List Clause → List Kind → ℕ → Type 0 where
  no_clause : IsClauses [] [] 0
  semicolon_clauses : {xs : List Clause} {c : List Kind} {h : ℕ} → IsClauses xs c h →
      IsClauses xs (TERMINAL terminal.Semicolon ∷ c) h
  clause : {x : Clause} {xs : List Clause} {c cs : List Kind} {h hs : ℕ} →
      IsClause x c h → goes_on cs ≡ false → IsClauses xs cs hs → IsClauses (x ∷ xs) (c ++ cs) (max h hs)

-- The word is `require`, `ensure` or `invariant`. With nothing under it, it is the same tree as none.
pub data IsAssertion (m : Terminal) : List Clause → List Kind → ℕ → Type 0 where
  no_assertion : IsAssertion m [] [] 0
  assertion : {xs : List Clause} {c : List Kind} {h : ℕ} → IsClauses xs c h → IsAssertion m xs (TERMINAL m ∷ c) h
