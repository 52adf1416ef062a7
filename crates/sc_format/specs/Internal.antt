-- What the code reads of a gap, one definition for a function. No public contract mentions these.
use Rattle.std.specs.Prelude.{ℕ, ◌+◌, if◌then◌else◌, List, [], ◌∷◌}
use Rattle.sc_text.specs.Characters.{is_white_space}
use Rattle.sc_format.specs.Gaps.{lines_of}

-- the length of a text up to the white space at its end, if this many bytes come before it and these up to there
abbrev pub end_from : ℕ → ℕ → List ℕ → ℕ
end_from at end [] = end
end_from at end (c ∷ cs) = end_from (at + 1) (if is_white_space c then end else at + 1) cs

-- the lines of a text that begins with a line feed, or is empty
abbrev pub lines_after : List ℕ → List (List ℕ)
lines_after [] = []
lines_after (c ∷ cs) = lines_of cs
