-- Finds the name in a part of the value of `--root`, among the tokens of that part.
use Rattle.std.specs.Prelude.{ℕ, ◌==◌, ◌&&◌, List, [], ◌∷◌, Option, Some, None, if◌then◌else◌}
use Rattle.sc_text.specs.Kind.{Kind, NAME, INTEGER, STRING, TERMINAL}
use Rattle.sc_text.specs.Spelling.{Lexeme}

abbrev pub name_in : Kind → Option (List ℕ)
name_in (NAME n) = Some n
name_in (INTEGER i) = None
name_in (STRING s) = None
name_in (TERMINAL t) = None

-- the name that is the only token of a text of `len` bytes and takes up the whole text, if there is one
abbrev pub sole_name : ℕ → List Lexeme → Option (List ℕ)
sole_name len [] = None
sole_name len (t ∷ []) = if t.span.start == 0 && t.span.end == len then name_in t.kind else None
sole_name len (t ∷ u ∷ ts) = None
