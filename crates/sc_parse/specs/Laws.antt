-- What holds of places.
use Rattle.std.specs.Prelude.{◌≡◌, ℕ, List}
use Rattle.sc_text.specs.Spelling.{Lexeme}
use Rattle.sc_tree.specs.Plain.{System}
use Rattle.sc_tree.specs.Bare.{bare_system}
use Rattle.sc_tree.specs.Grammar.Classes.{IsSystem}
use Rattle.sc_tree.specs.CanonicalLaws.{kinds_of_lexemes}
use Rattle.sc_parse.specs.Places.{IsPlaced}

-- No list of tokens has two trees, places included.
abbrev pub OnePlacedTree : Type 0
OnePlacedTree = (ts : List Lexeme) (s t : System) (g h : ℕ) →
    IsSystem (bare_system s) (kinds_of_lexemes ts) g → IsSystem (bare_system t) (kinds_of_lexemes ts) h →
    IsPlaced s ts → IsPlaced t ts → s ≡ t
