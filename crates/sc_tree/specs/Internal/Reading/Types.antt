-- Reading names and types.
use Rattle.std.specs.Prelude.{ℕ, zero, suc, ◌||◌, Bool, true, false, if◌then◌else◌, List, [], ◌∷◌, ◌++◌, length, Option, Some, None, Ok}
use Rattle.sc_text.specs.Kind.{Kind}
use Rattle.sc_text.specs.declared.token.Terminal.TheVariants as terminal
use Rattle.sc_tree.specs.Plain.{Name, HandlerTag, Own, Separate, HandlerOf, DeclaredType}
use Rattle.sc_tree.specs.Grammar.{handler_name, type_of}
use Rattle.sc_tree.specs.Internal.Reading.Looks.{Taken, ◌>>=◌, past, sees, expect, expect_word, name}

-- names after commas, after those that were found
unfoldable pub more_names : ℕ → List Name → List Kind → Taken (List Name)
more_names zero found ts = Ok (found, ts)
more_names (suc f) found ts =
    if sees terminal.Comma ts
    then (do
      (x, r) ← name (past ts)
      more_names f (found ++ x ∷ []) r)
    else Ok (found, ts)

unfoldable pub names : List Kind → Taken (List Name)
names ts = do
  (x, r) ← name ts
  more_names (length r) (x ∷ []) r

-- whether a type's mark makes it detachable, and what follows the mark
unfoldable pub attachment : List Kind → Bool × List Kind
attachment ts =
    if sees terminal.Detachable ts || sees terminal.Question ts then (true, past ts)
    else if sees terminal.Attached ts || sees terminal.Exclamation ts then (false, past ts)
    else (false, ts)

-- after `separate`
unfoldable pub handler_of : List Kind → Taken HandlerTag
handler_of ts =
    if sees terminal.Less ts
    then (do
      (x, r) ← name (past ts)
      r ← expect terminal.Dot r
      r ← expect_word handler_name r
      r ← expect terminal.Greater r
      Ok (HandlerOf x, r))
    else Ok (Separate, ts)

unfoldable pub handler_tag : List Kind → Taken HandlerTag
handler_tag ts = if sees terminal.Separate ts then handler_of (past ts) else Ok (Own, ts)

unfoldable pub declared_type : List Kind → Taken DeclaredType
declared_type ts = do
  let (is_detachable, r) = attachment ts
  (tag, r) ← handler_tag r
  (x, r) ← name r
  Ok (type_of is_detachable tag x, r)

-- the type in braces that an object test asks for, if any
unfoldable pub tested_type : List Kind → Taken (Option DeclaredType)
tested_type ts =
    if sees terminal.OpenBrace ts
    then (do
      (t, r) ← declared_type (past ts)
      r ← expect terminal.CloseBrace r
      Ok (Some t, r))
    else Ok (None, ts)
