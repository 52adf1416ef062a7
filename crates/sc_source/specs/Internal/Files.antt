-- The files of a source text, as the code holds them.
use Rattle.std.specs.Prelude.{ℕ, ◌+◌, List, [], ◌∷◌, take, drop, string_bytes}
use Rattle.sc_source.specs.declared.source.SourceFile.{SourceFile}
use Rattle.sc_source.specs.Source.{File}

-- the files whose source text this is, by their names and the lengths of their texts
abbrev pub files_in : List ℕ → List SourceFile → List File
files_in text [] = []
files_in text (f ∷ fs) =
    record { name = string_bytes f.name; text = take f.length text } ∷ files_in (drop (f.length + 1) text) fs
