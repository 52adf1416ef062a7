-- A text with a table of positions.
use Rattle.std.specs.Prelude.{ℕ, List, Some, ◌≡◌, ◌*◌, ◌≤◌, length, slice_get}
use Rattle.sc_documents.specs.Positions.{position_of}
use Rattle.sc_documents.specs.declared.position.Position.{Position}

-- The positions of the first byte of a text, of the one 256 bytes after it, and so on; none is after the end.
abbrev pub IsTable : List ℕ → List Position → Type 0
IsTable text marks =
    (index : ℕ) (mark : Position) → slice_get marks index ≡ Some mark
    → (256 * index ≤ length text) × (mark ≡ position_of text (256 * index))
