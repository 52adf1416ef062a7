-- What holds of the grammar.
use Rattle.std.specs.Prelude.{◌≡◌, ℕ, List, length}
use Rattle.sc_text.specs.Kind.{Kind}
use Rattle.sc_tree.specs.Plain.{System}
use Rattle.sc_tree.specs.Grammar.{IsSystem}
use Rattle.sc_tree.specs.Nesting.{greatest, classes_depths}

-- No list of tokens has two trees.
abbrev pub OneTree : Type 0
OneTree = (ts : List Kind) (s t : System) (g h : ℕ) → IsSystem s ts g → IsSystem t ts h → s ≡ t

-- No list of tokens has two nestings.
abbrev pub OneNesting : Type 0
OneNesting = (ts : List Kind) (s t : System) (g h : ℕ) → IsSystem s ts g → IsSystem t ts h → g ≡ h

-- Each token has its depth.
abbrev pub EachTokenHasDepth : Type 0
EachTokenHasDepth = (s : System) (ts : List Kind) (h : ℕ) (d : IsSystem s ts h) → length (classes_depths d) ≡ length ts

-- The nesting that the grammar gives is the greatest depth of a token.
abbrev pub NestingIsDepth : Type 0
NestingIsDepth = (s : System) (ts : List Kind) (h : ℕ) (d : IsSystem s ts h) → h ≡ greatest (classes_depths d)
