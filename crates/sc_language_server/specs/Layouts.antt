-- The layout of a document.
use Rattle.std.specs.Prelude.{ℕ, List}
use Rattle.sc_format.specs.Elements.{HaveSame}
use Rattle.sc_format.specs.Formatted.{IsLaidOut}

-- It is a layout of the text, with the same tokens and comments.
abbrev pub IsLayoutOf : List ℕ → List ℕ → Type 0
IsLayoutOf text layout = IsLaidOut text layout × HaveSame text layout
