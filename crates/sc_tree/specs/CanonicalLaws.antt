-- What holds of canonical text.
use Rattle.std.specs.Prelude.{◌≡◌, ℕ, ◌≤◌, List, map}
use Rattle.sc_text.specs.Kind.{Kind}
use Rattle.sc_text.specs.Spelling.{Lexeme, Spells}
use Rattle.sc_tree.specs.Plain.{System}
use Rattle.sc_tree.specs.Bare.{bare_system}
use Rattle.sc_tree.specs.Grammar.{IsSystem}
use Rattle.sc_tree.specs.Canonical.{canonical_text, canonical_tokens}

abbrev pub kinds_of_lexemes : List Lexeme → List Kind
kinds_of_lexemes = map (λ t. t.kind)

-- Where some tokens spell a tree, the tokens of its canonical text spell it again, with no greater nesting.
abbrev pub CanonicalTokensSpell : Type 0
CanonicalTokensSpell = (s : System) (ts : List Kind) (h : ℕ) →
    IsSystem (bare_system s) ts h → (g : ℕ) × (g ≤ h) × IsSystem (bare_system s) (canonical_tokens s) g

-- The canonical text of a tree spells the canonical tokens, and these spell the tree, with no greater nesting.
pub record IsSpelledAgain (s : System) (h : ℕ) : Type 0 where
  pub lexemes : List Lexeme
  pub nesting : ℕ
  pub spelled : Spells (canonical_text s) lexemes
  pub canonical : kinds_of_lexemes lexemes ≡ canonical_tokens s
  pub again : IsSystem (bare_system s) (kinds_of_lexemes lexemes) nesting
  pub low : nesting ≤ h

-- Where some text spells tokens that spell a tree, the canonical text of the tree spells tokens that spell it again.
abbrev pub CanonicalTextSpells : Type 0
CanonicalTextSpells = (text : List ℕ) (ts : List Lexeme) (s : System) (h : ℕ) →
    Spells text ts → IsSystem (bare_system s) (kinds_of_lexemes ts) h → IsSpelledAgain s h

-- What the canonical text of such a tree is read as is that tree again, and has that canonical text.
abbrev pub CanonicalTextStays : Type 0
CanonicalTextStays = (text : List ℕ) (ts us : List Lexeme) (s t : System) (g h : ℕ) →
    Spells text ts → IsSystem (bare_system s) (kinds_of_lexemes ts) h → Spells (canonical_text s) us →
    IsSystem (bare_system t) (kinds_of_lexemes us) g →
    (bare_system t ≡ bare_system s) × (canonical_text t ≡ canonical_text s)
