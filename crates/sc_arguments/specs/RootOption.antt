-- What `--root` may name.
use Rattle.std.specs.Prelude.{◌≡◌, ℕ, List, ◌∷◌, ◌++◌, None, map}
use Rattle.std.specs.Char.{to_ascii_lowercase}
use Rattle.sc_text.specs.Spelling.{IsWord}
use Rattle.sc_text.specs.Words.{reserved}

abbrev pub dot : ℕ
dot = 46

-- The text is a name: a letter, then letters, digits and underscores, and no reserved word.
pub record IsName (text : List ℕ) : Type 0 where
  pub word : IsWord text
  pub free : reserved text ≡ None

-- The text is two names with a dot between them. `class` and `procedure` are these names in lower case.
pub record NamesRoot (text class procedure : List ℕ) : Type 0 where
  pub before : List ℕ
  pub after : List ℕ
  pub split : text ≡ before ++ dot ∷ after
  pub first : IsName before
  pub second : IsName after
  pub class_is : class ≡ map to_ascii_lowercase before
  pub procedure_is : procedure ≡ map to_ascii_lowercase after
