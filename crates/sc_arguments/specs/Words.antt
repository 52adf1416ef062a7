-- The words after a command: options with their values, and what is given besides them.
use Rattle.std.specs.Prelude.{ℕ, ◌≡◌, ◌≤◌, ◌==◌, ◌||◌, Bool, true, false, List, [], ◌∷◌, Option, Some, None, codes, if◌then◌else◌, length, slice_get, unwrap_or}
use Rattle.std.specs.List.{list_any}
use Rattle.std.specs.Str.{bytes_eq}
use Rattle.std.specs.Str.Parse.{IsNumeral, digits_value, without_leading_plus}

-- the word is `--`: there are no options after it
abbrev pub ends_options : List ℕ → Bool
ends_options word = bytes_eq word (codes "--")

-- the options whose value may be the next word
abbrev pub valued_options : List (List ℕ)
valued_options =
    codes "--root" ∷ codes "--root-class" ∷ codes "--workers" ∷ codes "--turns" ∷ codes "--output-limit" ∷
    codes "--record" ∷ codes "--format" ∷ codes "--for" ∷ codes "--states" ∷ codes "--memory" ∷ codes "--seed" ∷
    codes "--times" ∷ codes "--until" ∷ codes "--trace-events" ∷
    codes "--timeline" ∷ []

-- the word is an option whose value is the next word
abbrev pub has_value : List ℕ → Bool
has_value word = list_any (bytes_eq word) valued_options

-- The word is an option: it begins with `-`. A `-` alone is a file.
abbrev pub is_option : List ℕ → Bool
is_option [] = false
is_option (c ∷ []) = false
is_option (c ∷ d ∷ cs) = c == 45

-- ---- what is given besides options

-- What is given to a command by the words after it: all but options and their values, and everything after `--`. If
-- `is_value`, the first word is the value of the option before it.
abbrev pub given_in : Bool → List (List ℕ) → List (List ℕ)
given_in is_value [] = []
given_in true (word ∷ words) = given_in false words
given_in false (word ∷ words) =
    if ends_options word then words
    else if has_value word then given_in true words
    else if is_option word then given_in false words
    else word ∷ given_in false words

-- ---- one option

-- the rest of a word after a text, if the word begins with the text
abbrev pub after : List ℕ → List ℕ → Option (List ℕ)
after [] word = Some word
after (c ∷ cs) [] = None
after (c ∷ cs) (d ∷ ds) = if c == d then after cs ds else None

-- A word with this rest after an option's name uses the option: the rest is empty, or `=` and a value. If the option
-- is short, the rest may be anything.
abbrev pub ends_use : Bool → Option (List ℕ) → Bool
ends_use is_short None = false
ends_use is_short (Some []) = true
ends_use is_short (Some (c ∷ cs)) = is_short || c == 61

-- the word uses the option
abbrev pub uses : List ℕ → List ℕ → Bool
uses option word = ends_use (length option == 2) (after option word)

-- The words from the first one that uses the option on; none if it isn't used. The value of another option doesn't
-- use the option, nor does a word after `--`. If `is_value`, the first word is the value of the option before it.
abbrev pub words_from : List ℕ → Bool → List (List ℕ) → List (List ℕ)
words_from option is_value [] = []
words_from option true (word ∷ words) = words_from option false words
words_from option false (word ∷ words) =
    if ends_options word then []
    else if uses option word then word ∷ words
    else words_from option (has_value word) words

abbrev pub is_any : List (List ℕ) → Bool
is_any [] = false
is_any (word ∷ words) = true

-- one of the words uses the option
abbrev pub has_option : List ℕ → List (List ℕ) → Bool
has_option option words = is_any (words_from option false words)

-- the value of an option, by the rest of the word after the option's name: what follows `=`, or the next word if the
-- rest is empty
abbrev pub value_by : List (List ℕ) → Option (List ℕ) → Option (List ℕ)
value_by words None = None
value_by words (Some []) = slice_get words 0
value_by words (Some (c ∷ cs)) = if c == 61 then Some cs else None

abbrev pub value_at : List ℕ → List (List ℕ) → Option (List ℕ)
value_at option [] = None
value_at option (word ∷ words) = value_by words (after option word)

-- the value of the option, if it is used
abbrev pub value_of : List ℕ → List (List ℕ) → Option (List ℕ)
value_of option words = value_at option (words_from option false words)

-- the value of the option, or else `default`
abbrev pub value_or : List ℕ → List ℕ → List (List ℕ) → List ℕ
value_or option default words = unwrap_or (value_of option words) default

-- The text writes the number in decimal digits, perhaps with a plus in front.
abbrev pub Writes : List ℕ → ℕ → Type 0
Writes text n =
    IsNumeral 10 (without_leading_plus text) × (digits_value 10 (without_leading_plus text) ≡ n)

-- It writes the number, which is one from 1 to `most`.
pub record WritesUpTo (most : ℕ) (text : List ℕ) (n : ℕ) : Type 0 where
  pub writes : Writes text n
  pub some : 1 ≤ n
  pub few : n ≤ most
