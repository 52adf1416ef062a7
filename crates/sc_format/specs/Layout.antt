-- Which white space comes before a token, by the tokens before it: the layout of canonical text, token by token.
use Rattle.std.specs.Prelude.{ℕ, ◌+◌, ◌-◌, ◌==◌, ◌&&◌, nat_lt, Bool, true, false, if◌then◌else◌}
use Rattle.sc_text.specs.Kind.{Kind, NAME, INTEGER, STRING, TERMINAL}
use Rattle.sc_text.specs.declared.token.Terminal.{Terminal}
use Rattle.sc_text.specs.declared.token.Terminal.TheVariants as terminal
use Rattle.sc_format.specs.declared.role.Role.{Role}
use Rattle.sc_format.specs.declared.role.Role.TheVariants as role
use Rattle.sc_format.specs.declared.layout.Lead.TheVariants as lead
use Rattle.sc_format.specs.declared.layout.Blank.{Blank}
use Rattle.sc_format.specs.declared.layout.Blank.TheVariants as blank
use Rattle.sc_format.specs.declared.layout.Want.{Want}
use Rattle.sc_format.specs.declared.layout.Place.{Place}
use Rattle.sc_format.specs.declared.layout.Place.TheVariants as place
use Rattle.sc_format.specs.declared.layout.Before.{Before}
use Rattle.sc_format.specs.declared.layout.Before.TheVariants as before
use Rattle.sc_format.specs.declared.layout.State.{State}

-- ---- what a token does

abbrev pub role_of_terminal : Terminal → Role
role_of_terminal terminal.Inherit = role.Section
role_of_terminal terminal.Feature = role.Section
role_of_terminal terminal.Note = role.Section
role_of_terminal terminal.Indexing = role.Section
role_of_terminal terminal.Invariant = role.Invariant
role_of_terminal terminal.Class = role.Class
role_of_terminal terminal.Deferred = role.Class
role_of_terminal terminal.Expanded = role.Class
role_of_terminal terminal.Frozen = role.Class
role_of_terminal terminal.Redefine = role.Redefine
role_of_terminal terminal.Require = role.Part
role_of_terminal terminal.Local = role.Part
role_of_terminal terminal.Ensure = role.Part
role_of_terminal terminal.Do = role.Do
role_of_terminal terminal.End = role.End
role_of_terminal terminal.If = role.If
role_of_terminal terminal.From = role.Block
role_of_terminal terminal.Check = role.Block
role_of_terminal terminal.Separate = role.Separate
role_of_terminal terminal.Create = role.Create
role_of_terminal terminal.Elseif = role.Elseif
role_of_terminal terminal.Else = role.Else
role_of_terminal terminal.Then = role.Then
role_of_terminal terminal.Until = role.Middle
role_of_terminal terminal.Loop = role.Middle
role_of_terminal terminal.And = role.Connective
role_of_terminal terminal.Or = role.Connective
role_of_terminal terminal.OpenParenthesis = role.OpenParenthesis
role_of_terminal terminal.CloseParenthesis = role.CloseParenthesis
role_of_terminal terminal.OpenBrace = role.OpenBrace
role_of_terminal terminal.CloseBrace = role.CloseBrace
role_of_terminal terminal.Dot = role.Dot
role_of_terminal terminal.Question = role.Sign
role_of_terminal terminal.Exclamation = role.Sign
role_of_terminal terminal.Semicolon = role.Semicolon
role_of_terminal terminal.Comma = role.Separator
role_of_terminal terminal.Colon = role.Separator
role_of_terminal terminal.Less = role.Less
role_of_terminal terminal.Greater = role.Greater
role_of_terminal terminal.Current = role.Operand
role_of_terminal terminal.Result = role.Operand
role_of_terminal terminal.True = role.Operand
role_of_terminal terminal.False = role.Operand
role_of_terminal terminal.Void = role.Operand
role_of_terminal terminal.Not = role.Prefix
role_of_terminal terminal.Old = role.Prefix
role_of_terminal terminal.Attached = role.Prefix
role_of_terminal _ = role.Operator

abbrev pub role_of : Kind → Role
role_of (TERMINAL t) = role_of_terminal t
role_of (NAME x) = role.Operand
role_of (INTEGER n) = role.Operand
role_of (STRING s) = role.Operand

-- ---- depths

abbrev pub deeper : ℕ → ℕ
deeper n = if nat_lt n 64 then n + 1 else n

abbrev pub shallower : ℕ → ℕ
shallower n = n - 1

-- how many tabs come before the items of this place
abbrev pub indent_at : Place → ℕ → ℕ
indent_at place.Outside depth = 0
indent_at place.Head depth = 0
indent_at place.List depth = 1
indent_at place.Redefined depth = 1
indent_at place.Invariant depth = 1
indent_at place.Clauses depth = 3
indent_at place.Body depth = 3 + depth

abbrev pub item_indent : State → ℕ
item_indent s = indent_at s.place s.depth

-- ---- which white space

abbrev pub line : ℕ → Blank → Want
line n b = record { lead = lead.Line; indent = n; blank = b }

abbrev pub close : State → Want
close s = record { lead = lead.Close; indent = item_indent s + 1; blank = blank.Kept }

abbrev pub apart : State → Want
apart s = record { lead = lead.Apart; indent = item_indent s + 1; blank = blank.Kept }

abbrev pub inline_after : Before → State → Want
inline_after before.Opener s = close s
inline_after before.Tag s = close s
inline_after _ s = apart s

-- on the line of the token before
abbrev pub inline : State → Want
inline s = inline_after s.before s

abbrev pub section_at : Place → Want
section_at place.Outside = line 0 blank.Always
section_at _ = line 0 blank.Kept

-- on a line of its own, as the first token of a part of a class
abbrev pub section : State → Want
section s = section_at s.place

-- on a line of its own at the depth of the innermost block
abbrev pub block_line : State → Want
block_line s = line (3 + shallower s.depth) blank.Never

abbrev pub is_item_after : Before → Bool → Bool → Bool
is_item_after before.Opening free begins = free
is_item_after before.Operand free begins = begins && free
is_item_after _ free begins = false

-- The token begins an item of a list or a body, if `begins` says that it may come first after an operand.
abbrev pub is_item : State → Bool → Bool
is_item s begins = is_item_after s.before (s.brackets == 0) begins

abbrev pub item : State → Bool → Want
item s begins = if is_item s begins then line (item_indent s) blank.Kept else inline s

abbrev pub end_at : Place → State → Want
end_at place.Redefined s = inline s
end_at place.Clauses s = line 2 blank.Never
end_at place.Body s = if s.depth == 0 then line 2 blank.Never else block_line s
end_at _ s = line 0 blank.Never

abbrev pub end_want : State → Want
end_want s = end_at s.place s

abbrev pub is_body : Place → Bool
is_body place.Body = true
is_body _ = false

abbrev pub is_list : Place → Bool
is_list place.List = true
is_list _ = false

abbrev pub branch_after : Before → State → Want
branch_after before.Connective s = inline s
branch_after _ s = block_line s

-- `else` of `or else`, or of an `if`
abbrev pub branch_want : State → Want
branch_want s = branch_after s.before s

abbrev pub class_after : Before → State → Want
class_after before.Operator s = inline s
class_after _ s = section s

abbrev pub class_want : State → Want
class_want s = class_after s.before s

abbrev pub want_of : State → Role → Want
want_of s role.Section = section s
want_of s role.Invariant = section s
want_of s role.Class = class_want s
want_of s role.Redefine = inline s
want_of s role.Part = line 2 blank.Never
want_of s role.Do = if is_body s.place then inline s else line 2 blank.Never
want_of s role.End = end_want s
want_of s role.Create = if is_body s.place then item s true else section s
want_of s role.Elseif = block_line s
want_of s role.Middle = block_line s
want_of s role.Else = branch_want s
want_of s role.Then = inline s
want_of s role.OpenBrace = if is_list s.place then inline s else item s false
want_of s role.CloseParenthesis = close s
want_of s role.CloseBrace = close s
want_of s role.Dot = close s
want_of s role.Semicolon = close s
want_of s role.Separator = close s
want_of s role.Operand = item s true
want_of s role.Prefix = item s true
want_of s role.If = item s true
want_of s role.Block = item s true
want_of s role.Separate = item s true
want_of s role.Connective = item s false
want_of s role.OpenParenthesis = item s false
want_of s role.Sign = item s false
want_of s role.Less = item s false
want_of s role.Greater = item s false
want_of s role.Operator = item s false

-- ---- the state after a token

abbrev pub start : State
start = record { place = place.Outside; depth = 0; brackets = 0; before = before.Opening }

abbrev pub with : State → Before → State
with s b = record s { before = b }

abbrev pub within : Place → Before → State
within p b = record { place = p; depth = 0; brackets = 0; before = b }

abbrev pub at_depth : State → ℕ → Before → State
at_depth s n b = record s { depth = n; before = b }

abbrev pub in_brackets : State → ℕ → Before → State
in_brackets s n b = record s { brackets = n; before = b }

abbrev pub after_end_at : Place → State → State
after_end_at place.Redefined s = within place.List before.Operand
after_end_at place.Clauses s = within place.List before.Operand
after_end_at place.Body s =
    if s.depth == 0 then within place.List before.Operand else at_depth s (shallower s.depth) before.Operand
after_end_at _ s = within place.Outside before.Opening

abbrev pub after_end : State → State
after_end s = after_end_at s.place s

abbrev pub after_do : State → State
after_do s = if is_body s.place then with s before.Opening else within place.Body before.Opening

abbrev pub after_branch_after : Before → State → State
after_branch_after before.Connective s = with s before.Operator
after_branch_after _ s = with s before.Opening

abbrev pub after_branch : State → State
after_branch s = after_branch_after s.before s

abbrev pub after_separate : State → State
after_separate s =
    if is_body s.place && is_item s true then at_depth s (deeper s.depth) before.Operator else with s before.Separate

abbrev pub after_brace : State → State
after_brace s =
    in_brackets s (shallower s.brackets) (if is_list s.place then before.Opening else before.Operator)

abbrev pub after_semicolon : State → State
after_semicolon s = with s (if s.brackets == 0 then before.Opening else before.Operator)

abbrev pub after_less_after : Before → State → State
after_less_after before.Separate s = with s before.Tag
after_less_after _ s = with s before.Operator

abbrev pub after_less : State → State
after_less s = after_less_after s.before s

abbrev pub after_untagged : State → Role → State
after_untagged s role.Section = within place.List before.Opening
after_untagged s role.Invariant = within place.Invariant before.Opening
after_untagged s role.Class = within place.Head before.Operator
after_untagged s role.Redefine = within place.Redefined before.Operator
after_untagged s role.Part = within place.Clauses before.Opening
after_untagged s role.Do = after_do s
after_untagged s role.End = after_end s
after_untagged s role.If = at_depth s (deeper s.depth) before.Operator
after_untagged s role.Block = at_depth s (deeper s.depth) before.Opening
after_untagged s role.Separate = after_separate s
after_untagged s role.Create = if is_body s.place then with s before.Operator else within place.List before.Opening
after_untagged s role.Elseif = with s before.Operator
after_untagged s role.Middle = with s before.Opening
after_untagged s role.Else = after_branch s
after_untagged s role.Then = after_branch s
after_untagged s role.Connective = with s before.Connective
after_untagged s role.OpenParenthesis = in_brackets s (deeper s.brackets) before.Opener
after_untagged s role.OpenBrace = in_brackets s (deeper s.brackets) before.Opener
after_untagged s role.CloseParenthesis = in_brackets s (shallower s.brackets) before.Operand
after_untagged s role.CloseBrace = after_brace s
after_untagged s role.Dot = with s before.Opener
after_untagged s role.Sign = with s before.Opener
after_untagged s role.Semicolon = after_semicolon s
after_untagged s role.Separator = with s before.Operator
after_untagged s role.Less = after_less s
after_untagged s role.Greater = with s before.Operator
after_untagged s role.Operand = with s before.Operand
after_untagged s role.Prefix = with s before.Operator
after_untagged s role.Operator = with s before.Operator

abbrev pub after_tagged : State → Role → State
after_tagged s role.Greater = with s before.Operator
after_tagged s _ = s

abbrev pub after_from : Before → State → Role → State
after_from before.Tag s r = after_tagged s r
after_from _ s r = after_untagged s r

abbrev pub after : State → Role → State
after s r = after_from s.before s r
