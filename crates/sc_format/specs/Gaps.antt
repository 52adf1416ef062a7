-- What is between two tokens: comments, on the line of the token before or on lines of their own, and empty lines.
use Rattle.std.specs.Prelude.{ℕ, ◌==◌, ◌&&◌, ◌||◌, Bool, true, false, not, if◌then◌else◌, List, [], ◌∷◌, ◌++◌, drop, map, replicate}
use Rattle.std.specs.List.{prefix_len}
use Rattle.sc_text.specs.Characters.{is_white_space, line_feed, space, tab}
use Rattle.sc_format.specs.declared.gap.Remark as code
use Rattle.sc_format.specs.declared.gap.Gap as code_gap
use Rattle.sc_format.specs.declared.layout.Blank.{Blank}
use Rattle.sc_format.specs.declared.layout.Blank.TheVariants as blank
use Rattle.sc_format.specs.declared.layout.Lead.{Lead}
use Rattle.sc_format.specs.declared.layout.Lead.TheVariants as lead
use Rattle.sc_format.specs.declared.layout.Want.{Want}

abbrev pub is_empty : List ℕ → Bool
is_empty [] = true
is_empty (c ∷ cs) = false

-- ---- lines

-- the text without the white space at its end
abbrev pub trimmed_end : List ℕ → List ℕ
trimmed_end [] = []
trimmed_end (c ∷ cs) = if is_white_space c && is_empty (trimmed_end cs) then [] else c ∷ trimmed_end cs

-- the text without the white space around it
abbrev pub trimmed : List ℕ → List ℕ
trimmed cs = trimmed_end (drop (prefix_len is_white_space cs) cs)

abbrev pub onto : ℕ → List (List ℕ) → List (List ℕ)
onto c [] = (c ∷ []) ∷ []
onto c (l ∷ ls) = (c ∷ l) ∷ ls

-- what the line feeds of a text divide it into
abbrev pub lines_of : List ℕ → List (List ℕ)
lines_of [] = [] ∷ []
lines_of (c ∷ cs) = if c == line_feed then [] ∷ lines_of cs else onto c (lines_of cs)

-- ---- comments

-- a comment on a line of its own, and whether an empty line comes before it
pub record Remark : Type 0 where
  pub is_apart : Bool
  pub text : List ℕ

-- the comment on the line of the token before, or nothing; the other comments; and whether an empty line comes before
-- the token after them
pub record Gap : Type 0 where
  pub beside : List ℕ
  pub above : List Remark
  pub is_apart : Bool

abbrev pub remark_then : Bool → List ℕ → List Remark → List Remark
remark_then after_empty [] rs = rs
remark_then after_empty (c ∷ cs) rs = record { is_apart = after_empty; text = c ∷ cs } ∷ rs

-- the comments of these lines, if the line before them is empty or not
abbrev pub remarks_of : Bool → List (List ℕ) → List Remark
remarks_of after_empty [] = []
remarks_of after_empty (l ∷ ls) = remark_then after_empty (trimmed l) (remarks_of (is_empty (trimmed l)) ls)

-- The last two of these lines are empty, if `one` says that of the line before them and `two` of the two before them.
abbrev pub ends_apart : Bool → Bool → List (List ℕ) → Bool
ends_apart one two [] = two
ends_apart one two (l ∷ ls) = ends_apart (is_empty (trimmed l)) (one && is_empty (trimmed l)) ls

abbrev pub gap_of_lines : List (List ℕ) → Gap
gap_of_lines [] = record { beside = []; above = []; is_apart = false }
gap_of_lines (l ∷ ls) =
    record { beside = trimmed l; above = remarks_of false ls; is_apart = ends_apart false false ls }

-- what the text between two tokens has
abbrev pub gap_of : List ℕ → Gap
gap_of text = gap_of_lines (lines_of text)

abbrev pub comment_then : List ℕ → List (List ℕ) → List (List ℕ)
comment_then [] cs = cs
comment_then (c ∷ text) cs = (c ∷ text) ∷ cs

-- the comments, in order
abbrev pub comments_of : Gap → List (List ℕ)
comments_of g = comment_then g.beside (map (λ r. r.text) g.above)

-- ---- the gap in the memory of the program

abbrev pub remark_in : code.Remark → Remark
remark_in r = record { is_apart = r.is_apart; text = r.text.now }

abbrev pub gap_in : code_gap.Gap → Gap
gap_in g = record { beside = g.beside.now; above = map remark_in g.above.items; is_apart = g.is_apart }

-- ---- how a gap is written

abbrev pub has_remark : List Remark → Bool
has_remark [] = false
has_remark (r ∷ rs) = true

abbrev pub has_comment : Gap → Bool
has_comment g = not (is_empty g.beside) || has_remark g.above

abbrev pub is_line : Lead → Bool
is_line lead.Line = true
is_line lead.Close = false
is_line lead.Apart = false

-- The token after the gap is on a line of its own: it wants to be, or a comment ends the line before.
abbrev pub has_line : Want → Gap → Bool
has_line w g = is_line w.lead || has_comment g

abbrev pub first_apart : Blank → Bool → Bool
first_apart blank.Never apart = apart
first_apart blank.Kept apart = apart
first_apart blank.Always apart = true
first_apart blank.Start apart = false

abbrev pub with_first : Blank → List Remark → List Remark
with_first b [] = []
with_first b (r ∷ rs) = record { is_apart = first_apart b r.is_apart; text = r.text } ∷ rs

abbrev pub keeps_blank : Blank → Gap → Bool
keeps_blank blank.Never g = false
keeps_blank blank.Kept g = g.is_apart
keeps_blank blank.Always g = g.is_apart || not (has_remark g.above)
keeps_blank blank.Start g = has_comment g && g.is_apart

-- the gap with the empty lines that are wanted
abbrev pub tidied : Want → Gap → Gap
tidied w g =
    record { beside = g.beside; above = with_first w.blank g.above; is_apart = has_line w g && keeps_blank w.blank g }

-- a new line with these tabs, after an empty one or not
abbrev pub line_start : ℕ → Bool → List ℕ
line_start n apart = line_feed ∷ ((if apart then line_feed ∷ [] else []) ++ replicate n tab)

abbrev pub beside_text : List ℕ → List ℕ
beside_text [] = []
beside_text (c ∷ cs) = space ∷ c ∷ cs

abbrev pub above_text : ℕ → List Remark → List ℕ
above_text n [] = []
above_text n (r ∷ rs) = line_start n r.is_apart ++ (r.text ++ above_text n rs)

abbrev pub inline_text : Lead → List ℕ
inline_text lead.Line = []
inline_text lead.Close = []
inline_text lead.Apart = space ∷ []

abbrev pub last_text : Want → Gap → List ℕ
last_text w g = if has_line w g then line_start w.indent g.is_apart else inline_text w.lead

abbrev pub written : Want → Gap → List ℕ
written w g = beside_text g.beside ++ (above_text w.indent g.above ++ last_text w g)

-- what a gap with this text is written as
abbrev pub laid_gap : Want → List ℕ → List ℕ
laid_gap w text = written w (tidied w (gap_of text))
