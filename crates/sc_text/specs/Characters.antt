-- The characters of a text by what they may be part of (ECMA-367, 8.32). A text is the list of its bytes.
use Rattle.std.specs.Prelude.{ℕ, ◌+◌, ◌-◌, ◌*◌, ◌==◌, ◌||◌, Bool, false, not, List, [], ◌∷◌, if◌then◌else◌, Option, Some, None}
use Rattle.std.specs.Str.{byte}
use Rattle.std.specs.Char.{is_ascii_alphabetic, is_ascii_alphanumeric, is_ascii_digit}

abbrev pub tab : ℕ
tab = 9

abbrev pub line_feed : ℕ
line_feed = 10

abbrev pub carriage_return : ℕ
carriage_return = 13

abbrev pub space : ℕ
space = 32

abbrev pub quote : ℕ
quote = 34

abbrev pub percent : ℕ
percent = 37

abbrev pub apostrophe : ℕ
apostrophe = 39

abbrev pub hyphen : ℕ
hyphen = 45

abbrev pub underscore : ℕ
underscore = 95

abbrev pub is_white_space : ℕ → Bool
is_white_space c = c == space || c == tab || c == carriage_return || c == line_feed

abbrev pub is_letter : ℕ → Bool
is_letter c = is_ascii_alphabetic c

abbrev pub is_digit : ℕ → Bool
is_digit c = is_ascii_digit c

abbrev pub is_underscore : ℕ → Bool
is_underscore c = c == underscore

-- what a name goes on with: letters, digits and underscores
abbrev pub is_name_part : ℕ → Bool
is_name_part c = is_ascii_alphanumeric c || c == underscore

-- what a comment goes on with: all that doesn't end its line
abbrev pub is_comment_part : ℕ → Bool
is_comment_part c = not (c == line_feed)

-- what a manifest string can't hold, since it is on one line
abbrev pub ends_line : ℕ → Bool
ends_line c = c == line_feed || c == carriage_return

-- what means itself in a manifest string
abbrev pub is_plain : ℕ → Bool
is_plain c = not (c == quote || c == percent || ends_line c)

-- the character that an escape means, by what follows its percent sign
abbrev pub escape : ℕ → Option ℕ
escape c =
    if c == byte "N" then Some line_feed
    else (if c == byte "T" then Some tab
    else (if c == percent then Some percent
    else (if c == quote then Some quote
    else (if c == apostrophe then Some apostrophe
    else None))))

-- whether the text begins with such a character
abbrev pub begins_with : (ℕ → Bool) → List ℕ → Bool
begins_with is_part [] = false
begins_with is_part (c ∷ cs) = is_part c

-- whether a digit comes next, after underscores or at once
abbrev pub digit_follows : List ℕ → Bool
digit_follows [] = false
digit_follows (c ∷ cs) = if is_underscore c then digit_follows cs else is_digit c

-- the number that digits write after those of n; underscores between them count for nothing
abbrev pub decimal_from : ℕ → List ℕ → ℕ
decimal_from n [] = n
decimal_from n (c ∷ cs) = decimal_from (if is_digit c then 10 * n + (c - 48) else n) cs

abbrev pub decimal : List ℕ → ℕ
decimal cs = decimal_from 0 cs
