-- The layout of canonical text: lines of tokens, each line after its tabs.
use Rattle.std.specs.Prelude.{ℕ, ◌==◌, ◌||◌, ◌&&◌, Bool, true, false, not, if◌then◌else◌, List, [], ◌∷◌, ◌++◌, map, replicate, codes}
use Rattle.std.specs.Fmt.{signed_decimal}
use Rattle.std.specs.Char.{to_ascii_uppercase}
use Rattle.sc_text.specs.Kind.{Kind, NAME, INTEGER, STRING, TERMINAL}
use Rattle.sc_text.specs.Characters.{tab, line_feed, space, quote, percent}
use Rattle.sc_text.specs.declared.token.Terminal.{Terminal}
use Rattle.sc_text.specs.declared.token.Terminal.TheVariants as terminal
use Rattle.sc_tree.specs.Grammar.{handler_name}
use Rattle.sc_tree.specs.Canonical.Terminals.{terminal_text}

-- what a line is made of
pub data Part : Type 0 where
  -- a token, with a name in lower case
  Token : Kind → Part
  -- the name of a class, in upper case
  ClassName : List ℕ → Part
  -- `<x.handler>`
  HandlerOfName : List ℕ → Part

abbrev pub word : Terminal → Part
word t = Token (TERMINAL t)

-- a line and the number of its tabs
pub record Line : Type 0 where
  pub indent : ℕ
  pub parts : List Part

abbrev pub line : ℕ → List Part → Line
line n ps = record { indent = n; parts = ps }

-- what each of these is written as, with such a part before it
abbrev pub behind_each : {A : Type 0} → Part → (A → List Part) → List A → List Part
behind_each separator parts [] = []
behind_each separator parts (x ∷ xs) = separator ∷ (parts x ++ behind_each separator parts xs)

-- what each of these is written as, with such a part between two
abbrev pub separated : {A : Type 0} → Part → (A → List Part) → List A → List Part
separated separator parts [] = []
separated separator parts (x ∷ xs) = parts x ++ behind_each separator parts xs

-- ---- tokens

abbrev pub tokens_of_part : Part → List Kind
tokens_of_part (Token k) = k ∷ []
tokens_of_part (ClassName x) = NAME x ∷ []
tokens_of_part (HandlerOfName x) =
    TERMINAL terminal.Less ∷ NAME x ∷ TERMINAL terminal.Dot ∷ NAME handler_name ∷ TERMINAL terminal.Greater ∷ []

abbrev pub tokens_of_parts : List Part → List Kind
tokens_of_parts [] = []
tokens_of_parts (p ∷ ps) = tokens_of_part p ++ tokens_of_parts ps

abbrev pub tokens_of_lines : List Line → List Kind
tokens_of_lines [] = []
tokens_of_lines (l ∷ ls) = tokens_of_parts l.parts ++ tokens_of_lines ls

-- ---- text

-- how a character of a manifest string is written
abbrev pub marked : ℕ → List ℕ
marked c =
    if c == line_feed then codes "%N"
    else (if c == tab then codes "%T"
    else (if c == percent || c == quote then percent ∷ c ∷ []
    else c ∷ []))

abbrev pub manifest : List ℕ → List ℕ
manifest [] = []
manifest (c ∷ cs) = marked c ++ manifest cs

abbrev pub text_of_kind : Kind → List ℕ
text_of_kind (NAME x) = x
text_of_kind (INTEGER n) = signed_decimal n
text_of_kind (STRING s) = quote ∷ (manifest s ++ quote ∷ [])
text_of_kind (TERMINAL t) = terminal_text t

unfoldable pub text_of_part : Part → List ℕ
text_of_part (Token k) = text_of_kind k
text_of_part (ClassName x) = map to_ascii_uppercase x
text_of_part (HandlerOfName x) = codes "<" ++ (x ++ codes ".handler>")

-- whether the next token follows with no space
abbrev pub is_opening : Terminal → Bool
is_opening terminal.OpenParenthesis = true
is_opening terminal.OpenBrace = true
is_opening terminal.Dot = true
is_opening _ = false

-- whether it follows the token before it with no space
abbrev pub is_closing : Terminal → Bool
is_closing terminal.CloseParenthesis = true
is_closing terminal.CloseBrace = true
is_closing terminal.Dot = true
is_closing terminal.Comma = true
is_closing terminal.Semicolon = true
is_closing terminal.Colon = true
is_closing _ = false

unfoldable pub opens : Part → Bool
opens (Token (TERMINAL t)) = is_opening t
opens _ = false

unfoldable pub closes : Part → Bool
closes (Token (TERMINAL t)) = is_closing t
closes _ = false

-- One space is between two tokens unless one is written close to the other. The test says whether a token that wants
-- a space before the next one comes before.
abbrev pub row : Bool → List Part → List ℕ
row apart [] = []
row apart (p ∷ ps) = (if apart && not (closes p) then space ∷ [] else []) ++ (text_of_part p ++ row (not (opens p)) ps)

abbrev pub line_text : Line → List ℕ
line_text l = replicate l.indent tab ++ (row false l.parts ++ line_feed ∷ [])

abbrev pub text_of_lines : List Line → List ℕ
text_of_lines [] = []
text_of_lines (l ∷ ls) = line_text l ++ text_of_lines ls
