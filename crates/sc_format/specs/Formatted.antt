-- A source text in its layout.
use Rattle.std.specs.Prelude.{ℕ, ◌≡◌, ◌+◌, ◌-◌, ◌==◌, ◌&&◌, ◌||◌, Bool, false, not, if◌then◌else◌, List, [], ◌∷◌, ◌++◌, drop, take}
use Rattle.std.specs.Str.{byte}
use Rattle.sc_text.specs.Characters.{is_letter, is_name_part, line_feed}
use Rattle.sc_text.specs.Spelling.{Lexeme, Spells}
use Rattle.sc_format.specs.declared.layout.Blank.TheVariants as blank
use Rattle.sc_format.specs.declared.layout.Lead.{Lead}
use Rattle.sc_format.specs.declared.layout.Lead.TheVariants as lead
use Rattle.sc_format.specs.declared.layout.State.{State}
use Rattle.sc_format.specs.declared.layout.Want.{Want}
use Rattle.sc_format.specs.declared.role.Role.{Role}
use Rattle.sc_format.specs.Gaps.{is_empty, laid_gap}
use Rattle.sc_format.specs.Layout.{after, line, role_of, start, want_of}

-- no token goes on with this byte
abbrev pub ends_token : ℕ → Bool
ends_token c = not (is_name_part c || (c == byte "=" || (c == byte "/" || (c == byte "\\" || c == byte "-"))))

-- these symbols go on with nothing
abbrev pub is_whole : ℕ → Bool
is_whole c = c == byte "(" || (c == byte "{" || (c == byte "." || (c == byte "?" || c == byte "!")))

abbrev pub is_lone : List ℕ → List ℕ → Bool
is_lone (c ∷ []) (d ∷ ds) = is_whole c || (c == byte "<" && is_letter d)
is_lone _ _ = false

abbrev pub begins_apart : List ℕ → Bool
begins_apart [] = false
begins_apart (c ∷ cs) = ends_token c

-- The two tokens are still two if nothing is between them.
abbrev pub may_touch : List ℕ → List ℕ → Bool
may_touch before word = begins_apart word || is_lone before word

abbrev pub lead_between : Lead → Bool → Lead
lead_between lead.Close touches = if touches then lead.Close else lead.Apart
lead_between lead.Apart touches = lead.Apart
lead_between lead.Line touches = lead.Line

abbrev pub joined : Want → List ℕ → List ℕ → Want
joined w before word = record w { lead = lead_between w.lead (may_touch before word) }

-- the white space before a token with this text, after the token `before`; the first token has none before it
abbrev pub wanted : State → Role → List ℕ → List ℕ → Want
wanted s r before word = if is_empty before then line 0 blank.Start else joined (want_of s r) before word

-- the token with this role and text, after its gap, and what follows it
abbrev pub laid_token : State → Role → List ℕ → List ℕ → List ℕ → List ℕ → List ℕ
laid_token s r before gap word rest = laid_gap (wanted s r before word) gap ++ (word ++ rest)

-- The text from this place on with these tokens, in its layout. Each place is one more than that of the source text,
-- since a line feed is put before it.
abbrev pub laid : List ℕ → ℕ → List Lexeme → State → List ℕ → List ℕ
laid text from [] s before = laid_gap (line 0 blank.Never) text
laid text from (t ∷ ts) s before =
    laid_token s (role_of t.kind) before (take (t.span.start + 1 - from) text)
    (take (t.span.end - t.span.start) (drop (t.span.start + 1 - from) text))
    (laid (drop (t.span.end + 1 - from) text) (t.span.end + 1) ts (after s (role_of t.kind))
    (take (t.span.end - t.span.start) (drop (t.span.start + 1 - from) text)))

-- the text with these tokens in its layout, after a line feed
abbrev pub laid_out : List ℕ → List Lexeme → List ℕ
laid_out text ts = laid (line_feed ∷ text) 0 ts start []

-- The output is the text in its layout.
pub record IsLaidOut (text output : List ℕ) : Type 0 where
  pub tokens : List Lexeme
  pub spelled : Spells text tokens
  pub laid : line_feed ∷ output ≡ laid_out text tokens
