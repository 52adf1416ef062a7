-- Which page a word asks for.
use Rattle.std.specs.Prelude.{ℕ, ◌≡◌, ◌⊎◌, ◌==◌, List, map}
use Rattle.std.specs.List.{before_first, after_first}
use Rattle.std.specs.Char.{to_ascii_lowercase}

-- The texts differ in the case of ASCII letters alone.
abbrev pub IsSameWord : List ℕ → List ℕ → Type 0
IsSameWord a b = map to_ascii_lowercase a ≡ map to_ascii_lowercase b

-- a page's first line
abbrev pub heading_of : List ℕ → List ℕ
heading_of page = before_first (λ b. b == 10) page

-- The word is the code, before the first space of the page's first line, or the name after it.
abbrev pub IsPageOf : List ℕ → List ℕ → Type 0
IsPageOf page word =
    IsSameWord (before_first (λ b. b == 32) (heading_of page)) word
    ⊎ IsSameWord (after_first (λ b. b == 32) (heading_of page)) word
