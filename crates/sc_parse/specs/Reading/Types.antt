-- Reading names and types.
use Rattle.std.specs.Prelude.{ℕ, zero, suc, ◌||◌, Bool, true, false, if◌then◌else◌, List, [], ◌∷◌, ◌++◌, Option, Some, None, Ok}
use Rattle.sc_text.specs.declared.token.Terminal.TheVariants as terminal
use Rattle.sc_tree.specs.Plain.{Name, HandlerTag, Own, Separate, HandlerOf, DeclaredType}
use Rattle.sc_tree.specs.Grammar.Types.{handler_name}
use Rattle.sc_tree.specs.Internal.Reading.Looks.{◌>>=◌}
use Rattle.sc_parse.specs.Reading.Looks.{Ahead, Taken, past, sees, expect, expect_word, name, begin, up_to, left}

-- names after commas, after those that were found
unfoldable pub more_names : ℕ → List Name → Ahead → Taken (List Name)
more_names zero found ts = Ok (found, ts)
more_names (suc f) found ts =
    if sees terminal.Comma ts
    then (do
      x ← name (past ts)
      more_names f (found ++ x.0 ∷ []) x.1)
    else Ok (found, ts)

unfoldable pub names : Ahead → Taken (List Name)
names ts = do
  x ← name ts
  more_names (left x.1) (x.0 ∷ []) x.1

-- whether a type's mark makes it detachable, and what follows the mark
unfoldable pub attachment : Ahead → Bool × Ahead
attachment ts =
    if sees terminal.Detachable ts || sees terminal.Question ts then (true, past ts)
    else if sees terminal.Attached ts || sees terminal.Exclamation ts then (false, past ts)
    else (false, ts)

-- after `separate`
unfoldable pub handler_of : Ahead → Taken HandlerTag
handler_of r =
    if sees terminal.Less r
    then (do
      x ← name (past r)
      s ← expect terminal.Dot x.1
      u ← expect_word handler_name s
      rest ← expect terminal.Greater u
      Ok (HandlerOf x.0, rest))
    else Ok (Separate, r)

unfoldable pub handler_tag : Ahead → Taken HandlerTag
handler_tag ts = if sees terminal.Separate ts then handler_of (past ts) else Ok (Own, ts)

unfoldable pub declared_type : Ahead → Taken DeclaredType
declared_type ts = do
  g ← handler_tag (attachment ts).1
  x ← name g.1
  Ok (record { span = up_to (begin ts) x.1; is_detachable = (attachment ts).0; tag = g.0; class = x.0 }, x.1)

-- the type in braces that an object test asks for, if any
unfoldable pub tested_type : Ahead → Taken (Option DeclaredType)
tested_type ts =
    if sees terminal.OpenBrace ts
    then (do
      t ← declared_type (past ts)
      rest ← expect terminal.CloseBrace t.1
      Ok (Some t.0, rest))
    else Ok (None, ts)
