-- What a change makes of a text.
use Rattle.std.specs.Prelude.{ℕ, List, ◌++◌, take, drop, max}
use Rattle.sc_documents.specs.Positions.{offset_of}
use Rattle.sc_documents.specs.declared.position.Range.{Range}

-- The text with `new` in place of what is in the range: what was before, `new`, and what was after. A range that ends
-- before it begins is empty.
abbrev pub replaced : List ℕ → Range → List ℕ → List ℕ
replaced text range new =
    take (offset_of text range.start) text
    ++ (new ++ drop (max (offset_of text range.start) (offset_of text range.end)) text)
