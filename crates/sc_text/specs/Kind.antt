-- What a token is, without where its text lies in memory.
use Rattle.std.specs.Prelude.{ℕ, ℤ, List, [], ◌∷◌, string_bytes}
use Rattle.sc_text.specs.declared.token.Terminal.{Terminal}
use Rattle.sc_text.specs.declared.token.Token.{Token}
use Rattle.sc_text.specs.declared.token.TokenKind.{TokenKind}
use Rattle.sc_text.specs.declared.token.TokenKind.TheVariants as kind

-- A name in lower case, an integer's value, a string with its marks read, a reserved word or symbol.
pub data Kind : Type 0 where
  NAME : List ℕ → Kind
  INTEGER : ℤ → Kind
  STRING : List ℕ → Kind
  TERMINAL : Terminal → Kind

abbrev pub kind_of : TokenKind → Kind
kind_of (kind.Name s) = NAME (string_bytes s.value)
kind_of (kind.Integer n) = INTEGER n
kind_of (kind.ManifestString s) = STRING (string_bytes s.value)
kind_of (kind.Terminal t) = TERMINAL t

-- the kinds of tokens, in order
abbrev pub kinds_of : List Token → List Kind
kinds_of [] = []
kinds_of (t ∷ ts) = kind_of t.kind ∷ kinds_of ts
