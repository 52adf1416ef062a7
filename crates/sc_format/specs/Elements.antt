-- What a source text has besides white space: tokens, each as the text spells it, and comments, each without the white
-- space at its end.
use Rattle.std.specs.Prelude.{ℕ, ◌≡◌, List, [], ◌∷◌, ◌++◌, IsFalse, IsTrue}
use Rattle.std.specs.List.{list_all}
use Rattle.sc_text.specs.Characters.{begins_with, hyphen, is_comment_part, is_white_space}
use Rattle.sc_text.specs.Kind.{Kind}
use Rattle.sc_text.specs.Spelling.{IsToken}
use Rattle.sc_format.specs.Gaps.{trimmed_end}

pub data Element : Type 0 where
  TOKEN : Kind → List ℕ → Element
  COMMENT : List ℕ → Element

-- The text has these elements, in order, and between them nothing but white space.
pub data Has : List ℕ → List Element → Type 0 where
  nothing : Has [] []
  white_first : {c : ℕ} {rest : List ℕ} {es : List Element} → IsTrue (is_white_space c) → Has rest es → Has (c ∷ rest) es
  comment_first : (cs : List ℕ) {rest : List ℕ} {es : List Element} → IsTrue (list_all is_comment_part cs) →
      IsFalse (begins_with is_comment_part rest) → Has rest es →
      Has (hyphen ∷ hyphen ∷ (cs ++ rest)) (COMMENT (trimmed_end (hyphen ∷ hyphen ∷ cs)) ∷ es)
  token_first : {k : Kind} {cs rest : List ℕ} {es : List Element} → IsToken k cs rest → Has rest es →
      Has (cs ++ rest) (TOKEN k cs ∷ es)

-- The two texts have the same tokens, and the same comments between the same tokens.
pub record HaveSame (text output : List ℕ) : Type 0 where
  pub elements : List Element
  pub before : Has text elements
  pub after : Has output elements

-- No text has two lists of elements.
abbrev pub OneListOfElements : Type 0
OneListOfElements = (text : List ℕ) (es fs : List Element) → Has text es → Has text fs → es ≡ fs
