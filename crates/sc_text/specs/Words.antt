-- The reserved words and the special symbols (ECMA-367, 8.32).
use Rattle.std.specs.Prelude.{ℕ, ◌==◌, ◌&&◌, ◌||◌, Bool, false, List, [], ◌∷◌, if◌then◌else◌, Option, Some, None, is_some, codes}
use Rattle.std.specs.Str.{byte, str_eq_ignore_ascii_case}
use Rattle.sc_text.specs.declared.token.Terminal.{Terminal}
use Rattle.sc_text.specs.declared.token.Terminal.TheVariants as terminal
use Rattle.sc_text.specs.Characters.{hyphen}

-- each reserved word, in lower case
unfoldable pub reserved_words : List (List ℕ × Terminal)
reserved_words =
    (codes "and", terminal.And) ∷ (codes "as", terminal.As) ∷ (codes "attached", terminal.Attached) ∷
    (codes "check", terminal.Check) ∷ (codes "class", terminal.Class) ∷ (codes "create", terminal.Create) ∷
    (codes "current", terminal.Current) ∷ (codes "deferred", terminal.Deferred) ∷
    (codes "detachable", terminal.Detachable) ∷ (codes "do", terminal.Do) ∷ (codes "else", terminal.Else) ∷
    (codes "elseif", terminal.Elseif) ∷ (codes "end", terminal.End) ∷ (codes "ensure", terminal.Ensure) ∷
    (codes "expanded", terminal.Expanded) ∷ (codes "false", terminal.False) ∷ (codes "feature", terminal.Feature) ∷
    (codes "from", terminal.From) ∷ (codes "frozen", terminal.Frozen) ∷ (codes "if", terminal.If) ∷
    (codes "implies", terminal.Implies) ∷ (codes "indexing", terminal.Indexing) ∷
    (codes "inherit", terminal.Inherit) ∷ (codes "invariant", terminal.Invariant) ∷ (codes "is", terminal.Is) ∷
    (codes "local", terminal.Local) ∷ (codes "loop", terminal.Loop) ∷ (codes "not", terminal.Not) ∷
    (codes "note", terminal.Note) ∷ (codes "old", terminal.Old) ∷ (codes "or", terminal.Or) ∷
    (codes "redefine", terminal.Redefine) ∷ (codes "require", terminal.Require) ∷ (codes "result", terminal.Result) ∷
    (codes "separate", terminal.Separate) ∷ (codes "then", terminal.Then) ∷ (codes "true", terminal.True) ∷
    (codes "until", terminal.Until) ∷ (codes "void", terminal.Void) ∷ (codes "xor", terminal.Xor) ∷
    (codes "across", terminal.Across) ∷ (codes "agent", terminal.Agent) ∷ (codes "alias", terminal.Alias) ∷
    (codes "assign", terminal.Assign) ∷ (codes "debug", terminal.Debug) ∷ (codes "export", terminal.Export) ∷
    (codes "external", terminal.External) ∷ (codes "inspect", terminal.Inspect) ∷ (codes "like", terminal.Like) ∷
    (codes "once", terminal.Once) ∷ (codes "rename", terminal.Rename) ∷ (codes "rescue", terminal.Rescue) ∷
    (codes "retry", terminal.Retry) ∷ (codes "select", terminal.Select) ∷ (codes "undefine", terminal.Undefine) ∷
    (codes "variant", terminal.Variant) ∷ (codes "when", terminal.When) ∷ []

-- the first of these words that a text is, in any letter case
abbrev pub word_among : List (List ℕ × Terminal) → List ℕ → Option Terminal
word_among [] text = None
word_among (w ∷ ws) text = if str_eq_ignore_ascii_case text w.0 then Some w.1 else word_among ws text

-- the reserved word that a text is
unfoldable pub reserved : List ℕ → Option Terminal
reserved text = word_among reserved_words text

-- the special symbol of these two characters
unfoldable pub long_symbol : ℕ → ℕ → Option Terminal
long_symbol a b =
    if (a == byte ":" && b == byte "=") then Some terminal.Becomes
    else (if (a == byte "/" && b == byte "=") then Some terminal.NotEqual
    else (if (a == byte "<" && b == byte "=") then Some terminal.LessEqual
    else (if (a == byte ">" && b == byte "=") then Some terminal.GreaterEqual
    else (if (a == byte "/" && b == byte "/") then Some terminal.Quotient
    else (if (a == byte "\\" && b == byte "\\") then Some terminal.Remainder
    else None)))))

-- the special symbol of this one character
unfoldable pub short_symbol : ℕ → Option Terminal
short_symbol a =
    if a == byte "." then Some terminal.Dot
    else (if a == byte "," then Some terminal.Comma
    else (if a == byte ":" then Some terminal.Colon
    else (if a == byte ";" then Some terminal.Semicolon
    else (if a == byte "(" then Some terminal.OpenParenthesis
    else (if a == byte ")" then Some terminal.CloseParenthesis
    else (if a == byte "{" then Some terminal.OpenBrace
    else (if a == byte "}" then Some terminal.CloseBrace
    else (if a == byte "?" then Some terminal.Question
    else (if a == byte "!" then Some terminal.Exclamation
    else (if a == byte "=" then Some terminal.Equal
    else (if a == byte "<" then Some terminal.Less
    else (if a == byte ">" then Some terminal.Greater
    else (if a == byte "+" then Some terminal.Plus
    else (if a == byte "-" then Some terminal.Minus
    else (if a == byte "*" then Some terminal.Times
    else None)))))))))))))))

-- whether the character and the next make a longer symbol, or begin a comment
abbrev pub goes_on : ℕ → List ℕ → Bool
goes_on a [] = false
goes_on a (b ∷ cs) = is_some (long_symbol a b) || (a == hyphen && b == hyphen)
