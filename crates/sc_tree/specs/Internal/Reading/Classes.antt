-- Reading features and classes.
use Rattle.std.specs.Prelude.{ℕ, zero, suc, max, ◌||◌, Bool, true, false, if◌then◌else◌, List, [], ◌∷◌, ◌++◌, length, Option, Some, None, map, Result, Ok, Err}
use Rattle.sc_text.specs.Kind.{Kind}
use Rattle.sc_text.specs.declared.token.Terminal.TheVariants as terminal
use Rattle.sc_tree.specs.Plain.{Name, DeclaredType, Declaration, Feature, Parent, ClassMark, Deferred, Expanded, Frozen, Class, System}
use Rattle.sc_tree.specs.Bare.{nowhere, named}
use Rattle.sc_tree.specs.Grammar.{declared_as, attribute_of, routine_of, none_name, exported_to, heads_class, ends_class, class_of}
use Rattle.sc_tree.specs.Internal.Reading.Looks.{Fault, Wrong, Read, Taken, ◌>>=◌, past, sees, expect, skip, skip_semicolons, name, name_ahead}
use Rattle.sc_tree.specs.Internal.Reading.Types.{more_names, names, declared_type}
use Rattle.sc_tree.specs.Internal.Reading.Assertions.{assertion}
use Rattle.sc_tree.specs.Internal.Reading.Instructions.{instrs}

-- ---- formals and locals

unfoldable pub declaration : List Kind → Taken (List Declaration)
declaration ts = do
  (xs, r) ← names ts
  r ← expect terminal.Colon r
  (t, r) ← declared_type r
  Ok (map (declared_as t) xs, r)

-- formals behind the first, after those that were found
unfoldable pub more_declarations : ℕ → List Declaration → List Kind → Taken (List Declaration)
more_declarations zero found ts = Ok (found, ts)
more_declarations (suc f) found ts =
    if sees terminal.Semicolon ts || name_ahead ts
    then (do
      (ds, r) ← declaration (skip terminal.Semicolon ts)
      more_declarations f (found ++ ds) r)
    else Ok (found, ts)

unfoldable pub formals : List Kind → Taken (List Declaration)
formals ts =
    if sees terminal.OpenParenthesis ts
    then (do
      (ds, r) ← declaration (past ts)
      (ds, r) ← more_declarations (length r) ds r
      r ← expect terminal.CloseParenthesis r
      Ok (ds, r))
    else Ok ([], ts)

-- locals, after those that were found
unfoldable pub locals_from : ℕ → List Declaration → List Kind → Taken (List Declaration)
locals_from zero found ts = Ok (found, ts)
locals_from (suc f) found ts =
    if name_ahead ts
    then (do
      (ds, r) ← declaration ts
      locals_from f (found ++ ds) (skip terminal.Semicolon r))
    else Ok (found, ts)

unfoldable pub locals : List Kind → Taken (List Declaration)
locals ts = if sees terminal.Local ts then locals_from (length (past ts)) [] (past ts) else Ok ([], ts)

unfoldable pub result_type : List Kind → Taken (Option DeclaredType)
result_type ts =
    if sees terminal.Colon ts
    then (do
      (t, r) ← declared_type (past ts)
      Ok (Some t, r))
    else Ok (None, ts)

-- ---- features

-- whether what a routine has behind its result type begins here
abbrev pub begins_routine : List Kind → Bool
begins_routine ts = sees terminal.Is ts || sees terminal.Require ts || sees terminal.Local ts || sees terminal.Do ts

-- after the brace that opens an export list
unfoldable pub export_list : List Kind → Taken (List Name)
export_list ts =
    if sees terminal.CloseBrace ts
    then Ok (named none_name ∷ [], past ts)
    else (do
      (xs, r) ← names ts
      r ← expect terminal.CloseBrace r
      Ok (exported_to xs, r))

unfoldable pub exports : List Kind → Taken (List Name)
exports ts = if sees terminal.OpenBrace ts then export_list (past ts) else Ok ([], ts)

-- ---- heads of classes

-- what follows the tokens that the test doesn't stop at
abbrev pub past_free : (Kind → Bool) → List Kind → List Kind
past_free stops [] = []
past_free stops (t ∷ r) = if stops t then t ∷ r else past_free stops r

-- what follows a note of such tokens, if one stands here
abbrev pub past_note : (Kind → Bool) → List Kind → List Kind
past_note stops ts = if sees terminal.Note ts || sees terminal.Indexing ts then past_free stops (past ts) else ts

unfoldable pub mark : List Kind → Option ClassMark × List Kind
mark ts =
    if sees terminal.Deferred ts then (Some (Deferred nowhere), past ts)
    else if sees terminal.Expanded ts then (Some (Expanded nowhere), past ts)
    else if sees terminal.Frozen ts then (Some (Frozen nowhere), past ts)
    else (None, ts)

unfoldable pub parent : List Kind → Taken Parent
parent ts = do
  (x, r) ← name ts
  if sees terminal.Redefine r
      then (do
        (redefined, r) ← names (past r)
        r ← expect terminal.End r
        Ok (record { name = x; redefined = redefined }, r))
      else Ok (record { name = x; redefined = [] }, r)

-- parents, after those that were found
unfoldable pub parents_from : ℕ → List Parent → List Kind → Taken (List Parent)
parents_from zero found ts = Ok (found, ts)
parents_from (suc f) found ts =
    if name_ahead ts
    then (do
      (p, r) ← parent ts
      parents_from f (found ++ p ∷ []) (skip terminal.Semicolon r))
    else Ok (found, ts)

unfoldable pub parents : List Kind → Taken (List Parent)
parents ts =
    if sees terminal.Inherit ts
    then (do
      (p, r) ← parent (past ts)
      parents_from (length r) (p ∷ []) (skip terminal.Semicolon r))
    else Ok ([], ts)

unfoldable pub creators : List Kind → Taken (List Name)
creators ts = if sees terminal.Create ts then names (past ts) else Ok ([], ts)

-- ---- features and classes

abbrev pub is_done : List Kind → Bool
is_done [] = true
is_done (t ∷ r) = false

module _ (room : ℕ) where
  -- after the result type
  unfoldable pub routine : List Name → Name → List Declaration → Option DeclaredType → List Kind → Read (List Feature)
  routine es x formals result_type ts = do
    (precondition, h, r) ← assertion room terminal.Require (skip terminal.Is ts)
    (locals, r) ← locals r
    r ← expect terminal.Do r
    (body, hb, r) ← instrs room r
    (postcondition, hp, r) ← assertion room terminal.Ensure r
    r ← expect terminal.End r
    Ok (
      routine_of es x
          (record {
            formals = formals;
            result_type = result_type;
            precondition = precondition;
            locals = locals;
            body = body;
            postcondition = postcondition;
          }) ∷ [],
      max h (max hb hp),
      r,
    )

  -- an attribute has a type, no formals, and nothing of a routine behind its type
  abbrev pub attribute_or_routine :
      List Name → Name → List Declaration → Option DeclaredType → List Kind → Read (List Feature)
  attribute_or_routine es x fs None ts = routine es x fs None ts
  attribute_or_routine es x [] (Some t) ts =
      if begins_routine ts then routine es x [] (Some t) ts else Ok (attribute_of es t x ∷ [], 0, ts)
  attribute_or_routine es x (f ∷ fs) (Some t) ts = routine es x (f ∷ fs) (Some t) ts

  -- several names, after the first
  unfoldable pub attributes : List Name → Name → List Kind → Read (List Feature)
  attributes es x ts = do
    (xs, r) ← more_names (length ts) (x ∷ []) ts
    r ← expect terminal.Colon r
    (t, r) ← declared_type r
    Ok (map (attribute_of es t) xs, 0, r)

  unfoldable pub feature : List Name → List Kind → Read (List Feature)
  feature es ts = do
    (x, r) ← name ts
    if sees terminal.Comma r
        then attributes es x r
        else (do
          (fs, r) ← formals r
          (t, r) ← result_type r
          attribute_or_routine es x fs t r)

  -- features, after those that were found
  unfoldable pub features_from : List Name → ℕ → List Feature → ℕ → List Kind → Read (List Feature)
  features_from es zero found high ts = Ok (found, high, ts)
  features_from es (suc f) found high ts =
      if name_ahead ts
      then (do
        (fs, h, r) ← feature es ts
        features_from es f (found ++ fs) (max high h) (skip_semicolons r))
      else Ok (found, high, ts)

  -- each `feature` with what stands under it, after the features that were found
  unfoldable pub sections_from : ℕ → List Feature → ℕ → List Kind → Read (List Feature)
  sections_from zero found high ts = Ok (found, high, ts)
  sections_from (suc f) found high ts =
      if sees terminal.Feature ts
      then (do
        (es, r) ← exports (past ts)
        (fs, h, r) ← features_from es (length r) found high r
        sections_from f fs h r)
      else Ok (found, high, ts)

  unfoldable pub sections : List Kind → Read (List Feature)
  sections ts = sections_from (length ts) [] 0 ts

  -- after the word before `class`, if any
  unfoldable pub class_marked : Option ClassMark → List Kind → Read Class
  class_marked m ts = do
    r ← expect terminal.Class ts
    (x, r) ← name r
    (ps, r) ← parents r
    (ns, r) ← creators r
    (fs, h, r) ← sections r
    (is, hi, r) ← assertion room terminal.Invariant r
    r ← expect terminal.End (past_note ends_class r)
    Ok (class_of m x ps ns fs is, max h hi, r)

  unfoldable pub class : List Kind → Read Class
  class ts = let m = mark (past_note heads_class ts) in class_marked m.0 m.1

  -- classes, after those that were found
  unfoldable pub classes_from : ℕ → List Class → ℕ → List Kind → Read (List Class)
  classes_from zero found high ts = Ok (found, high, ts)
  classes_from (suc f) found high ts =
      if is_done ts
      then Ok (found, high, ts)
      else (do
        (x, h, r) ← class ts
        classes_from f (found ++ x ∷ []) (max high h) r)

abbrev pub whole : List Class × ℕ × List Kind → Result System Fault
whole (xs, h, []) = Ok (record { classes = xs })
whole (xs, h, t ∷ r) = Err Wrong

-- the system that the tokens spell, if its nesting is at most the number
unfoldable pub system : ℕ → List Kind → Result System Fault
system n ts = classes_from n (length ts) [] 0 ts >>= whole
