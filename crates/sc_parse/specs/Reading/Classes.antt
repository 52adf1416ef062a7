-- Reading features and classes.
use Rattle.std.specs.Prelude.{ℕ, zero, suc, max, ◌||◌, Bool, if◌then◌else◌, List, [], ◌∷◌, ◌++◌, length, Option, Some, None, map, Result, Ok, Err}
use Rattle.sc_text.specs.Kind.{Kind, kind_of}
use Rattle.sc_text.specs.declared.token.Span.{Span}
use Rattle.sc_text.specs.declared.token.Token.{Token}
use Rattle.sc_text.specs.declared.token.Terminal.TheVariants as terminal
use Rattle.sc_tree.specs.Plain.{Name, DeclaredType, Declaration, Clause, Feature, Parent, ClassMark, Deferred, Expanded, Frozen, Class, System}
use Rattle.sc_tree.specs.Internal.Reading.Classes as unplaced
use Rattle.sc_tree.specs.Grammar.Classes.{declared_as, attribute_of, routine_of, none_name, exported_to, heads_class, ends_class}
use Rattle.sc_tree.specs.Internal.Reading.Looks.{Fault, Wrong, ◌>>=◌}
use Rattle.sc_parse.specs.Reading.Looks.{Ahead, Read, Taken, past, sees, expect, skip, skip_semicolons, name, name_ahead, begin, up_to, left, kinds, sees_note}
use Rattle.sc_parse.specs.Reading.Types.{more_names, names, declared_type}
use Rattle.sc_parse.specs.Reading.Assertions.{assertion}
use Rattle.sc_parse.specs.Reading.Instructions.{instrs}

-- ---- formals and locals

unfoldable pub declaration : Ahead → Taken (List Declaration)
declaration ts = do
  ns ← names ts
  r ← expect terminal.Colon ns.1
  t ← declared_type r
  Ok (map (declared_as t.0) ns.0, t.1)

-- formals behind the first, after those that were found
unfoldable pub more_declarations : ℕ → List Declaration → Ahead → Taken (List Declaration)
more_declarations zero found ts = Ok (found, ts)
more_declarations (suc f) found ts =
    if sees terminal.Semicolon ts || name_ahead ts
    then (do
      d ← declaration (skip terminal.Semicolon ts)
      more_declarations f (found ++ d.0) d.1)
    else Ok (found, ts)

unfoldable pub formals : Ahead → Taken (List Declaration)
formals ts =
    if sees terminal.OpenParenthesis ts
    then (do
      d ← declaration (past ts)
      ds ← more_declarations (left d.1) d.0 d.1
      rest ← expect terminal.CloseParenthesis ds.1
      Ok (ds.0, rest))
    else Ok ([], ts)

-- locals, after those that were found
unfoldable pub locals_from : ℕ → List Declaration → Ahead → Taken (List Declaration)
locals_from zero found ts = Ok (found, ts)
locals_from (suc f) found ts =
    if name_ahead ts
    then (do
      d ← declaration ts
      locals_from f (found ++ d.0) (skip terminal.Semicolon d.1))
    else Ok (found, ts)

unfoldable pub locals : Ahead → Taken (List Declaration)
locals ts = if sees terminal.Local ts then locals_from (left (past ts)) [] (past ts) else Ok ([], ts)

unfoldable pub result_type : Ahead → Taken (Option DeclaredType)
result_type ts =
    if sees terminal.Colon ts
    then (do
      t ← declared_type (past ts)
      Ok (Some t.0, t.1))
    else Ok (None, ts)

-- ---- features

-- whether what a routine has behind its result type begins here
abbrev pub begins_routine : Ahead → Bool
begins_routine ts = sees terminal.Is ts || sees terminal.Require ts || sees terminal.Local ts || sees terminal.Do ts

-- after the brace that opens an export list
unfoldable pub export_list : Ahead → Taken (List Name)
export_list r =
    if sees terminal.CloseBrace r
    then Ok (record { text = none_name; span = up_to r.last.start (past r) } ∷ [], past r)
    else (do
      ns ← names r
      rest ← expect terminal.CloseBrace ns.1
      Ok (exported_to ns.0, rest))

unfoldable pub exports : Ahead → Taken (List Name)
exports ts = if sees terminal.OpenBrace ts then export_list (past ts) else Ok ([], ts)

-- ---- heads of classes

-- what follows the tokens that the test doesn't stop at
abbrev pub past_free : (Kind → Bool) → Span → List Token → Ahead
past_free stops s [] = record { last = s; rest = [] }
past_free stops s (t ∷ r) =
    if stops (kind_of t.kind) then record { last = s; rest = t ∷ r } else past_free stops t.span r

-- what follows a note of such tokens, if one stands here
abbrev pub past_note : (Kind → Bool) → Ahead → Ahead
past_note stops ts = if sees_note ts then past_free stops (past ts).last (past ts).rest else ts

unfoldable pub mark : Ahead → Option ClassMark × Ahead
mark ts =
    if sees terminal.Deferred ts then (Some (Deferred (past ts).last), past ts)
    else if sees terminal.Expanded ts then (Some (Expanded (past ts).last), past ts)
    else if sees terminal.Frozen ts then (Some (Frozen (past ts).last), past ts)
    else (None, ts)

unfoldable pub parent : Ahead → Taken Parent
parent ts = do
  x ← name ts
  if sees terminal.Redefine x.1 then (do
    ns ← names (past x.1)
    rest ← expect terminal.End ns.1
    Ok (record { name = x.0; redefined = ns.0 }, rest))
      else Ok (record { name = x.0; redefined = [] }, x.1)

-- parents, after those that were found
unfoldable pub parents_from : ℕ → List Parent → Ahead → Taken (List Parent)
parents_from zero found ts = Ok (found, ts)
parents_from (suc f) found ts =
    if name_ahead ts
    then (do
      p ← parent ts
      parents_from f (found ++ p.0 ∷ []) (skip terminal.Semicolon p.1))
    else Ok (found, ts)

unfoldable pub parents : Ahead → Taken (List Parent)
parents ts =
    if sees terminal.Inherit ts
    then (do
      p ← parent (past ts)
      parents_from (left p.1) (p.0 ∷ []) (skip terminal.Semicolon p.1))
    else Ok ([], ts)

unfoldable pub creators : Ahead → Taken (List Name)
creators ts = if sees terminal.Create ts then names (past ts) else Ok ([], ts)

-- ---- features and classes

abbrev pub is_done : Ahead → Bool
is_done q = unplaced.is_done (kinds q)

-- a class that stands here
abbrev pub class_of : Span → Option ClassMark → Name → List Parent → List Name → List Feature → List Clause → Class
class_of s m x ps ns fs is =
    record { span = s; mark = m; name = x; parents = ps; creators = ns; features = fs; invariant = is }

module _ (room : ℕ) where
  -- after the result type
  unfoldable pub routine : List Name → Name → List Declaration → Option DeclaredType → Ahead → Read (List Feature)
  routine es x fs t ts = do
    pre ← assertion room terminal.Require (skip terminal.Is ts)
    ls ← locals pre.2
    r ← expect terminal.Do ls.1
    b ← instrs room r
    post ← assertion room terminal.Ensure b.2
    rest ← expect terminal.End post.2
    Ok (
      routine_of es x (record {
        formals = fs;
        result_type = t;
        precondition = pre.0;
        locals = ls.0;
        body = b.0;
        postcondition = post.0;
      }) ∷ [],
      max pre.1 (max b.1 post.1),
      rest,
    )

  -- an attribute has a type, no formals, and nothing of a routine behind its type
  abbrev pub attribute_or_routine : List Name → Name → List Declaration → Option DeclaredType → Ahead →
      Read (List Feature)
  attribute_or_routine es x fs None ts = routine es x fs None ts
  attribute_or_routine es x [] (Some t) ts =
      if begins_routine ts then routine es x [] (Some t) ts else Ok (attribute_of es t x ∷ [], 0, ts)
  attribute_or_routine es x (f ∷ fs) (Some t) ts = routine es x (f ∷ fs) (Some t) ts

  -- several names, after the first
  unfoldable pub attributes : List Name → Name → Ahead → Read (List Feature)
  attributes es x r = do
    ns ← more_names (left r) (x ∷ []) r
    s ← expect terminal.Colon ns.1
    t ← declared_type s
    Ok (map (attribute_of es t.0) ns.0, 0, t.1)

  unfoldable pub feature : List Name → Ahead → Read (List Feature)
  feature es ts = do
    x ← name ts
    if sees terminal.Comma x.1 then attributes es x.0 x.1 else (do
      fs ← formals x.1
      t ← result_type fs.1
      attribute_or_routine es x.0 fs.0 t.0 t.1)

  -- features, after those that were found
  unfoldable pub features_from : List Name → ℕ → List Feature → ℕ → Ahead → Read (List Feature)
  features_from es zero found high ts = Ok (found, high, ts)
  features_from es (suc f) found high ts =
      if name_ahead ts
      then (do
        x ← feature es ts
        features_from es f (found ++ x.0) (max high x.1) (skip_semicolons x.2))
      else Ok (found, high, ts)

  -- each `feature` with what stands under it, after the features that were found
  unfoldable pub sections_from : ℕ → List Feature → ℕ → Ahead → Read (List Feature)
  sections_from zero found high ts = Ok (found, high, ts)
  sections_from (suc f) found high ts =
      if sees terminal.Feature ts
      then (do
        es ← exports (past ts)
        x ← features_from es.0 (left es.1) found high es.1
        sections_from f x.0 x.1 x.2)
      else Ok (found, high, ts)

  unfoldable pub sections : Ahead → Read (List Feature)
  sections ts = sections_from (left ts) [] 0 ts

  -- after the word before `class`, if any; the class begins at the place
  unfoldable pub class_marked : ℕ → Option ClassMark → Ahead → Read Class
  class_marked start m ts = do
    r ← expect terminal.Class ts
    x ← name r
    ps ← parents x.1
    ns ← creators ps.1
    fs ← sections ns.1
    is ← assertion room terminal.Invariant fs.2
    rest ← expect terminal.End (past_note ends_class is.2)
    Ok (class_of (up_to start rest) m x.0 ps.0 ns.0 fs.0 is.0, max fs.1 is.1, rest)

  unfoldable pub class : Ahead → Read Class
  class ts = let m = mark (past_note heads_class ts) in class_marked (begin (past_note heads_class ts)) m.0 m.1

  -- classes, after those that were found
  unfoldable pub classes_from : ℕ → List Class → ℕ → Ahead → Read (List Class)
  classes_from zero found high ts = Ok (found, high, ts)
  classes_from (suc f) found high ts =
      if is_done ts
      then Ok (found, high, ts)
      else (do
        x ← class ts
        classes_from f (found ++ x.0 ∷ []) (max high x.1) x.2)

abbrev pub whole_of : List Class → List Token → Result System Fault
whole_of xs [] = Ok (record { classes = xs })
whole_of xs (t ∷ r) = Err Wrong

abbrev pub whole : List Class × ℕ × Ahead → Result System Fault
whole (xs, h, q) = whole_of xs q.rest

-- what is to be read where nothing was read yet
abbrev pub opening : List Token → Ahead
opening ts = record { last = record { start = 0; end = 0 }; rest = ts }

-- the system that the tokens spell, if its nesting is at most the number
unfoldable pub system : ℕ → List Token → Result System Fault
system n ts = classes_from n (length ts) [] 0 (opening ts) >>= whole
