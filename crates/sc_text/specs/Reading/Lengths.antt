-- How far the parts of a text go.
use Rattle.std.specs.Prelude.{ℕ, ◌+◌, Bool, not, ◌&&◌, ◌==◌, if◌then◌else◌, List, [], ◌∷◌, Option, Some, None}
use Rattle.sc_text.specs.Characters.{is_digit, is_underscore, ends_line, quote, percent}

-- behind the last digit, where this many bytes lie behind and the last digit so far ends at `end`
abbrev pub integer_end : ℕ → ℕ → List ℕ → ℕ
integer_end at end [] = end
integer_end at end (c ∷ cs) =
    if is_digit c then integer_end (at + 1) (at + 1) cs
    else (if is_underscore c then integer_end (at + 1) end cs else end)

-- the place of the closing quote; `marked` where a percent sign lies just behind
abbrev pub closing : ℕ → Bool → List ℕ → Option ℕ
closing at marked [] = None
closing at marked (c ∷ cs) =
    if ends_line c then None
    else (if not marked && c == quote then Some at else closing (at + 1) (not marked && c == percent) cs)

-- what stands for itself before the first mark
abbrev pub is_bare : ℕ → Bool
is_bare c = not (c == percent)
