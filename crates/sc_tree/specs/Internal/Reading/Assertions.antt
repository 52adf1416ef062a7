-- Reading assertions.
use Rattle.std.specs.Prelude.{ℕ, zero, suc, max, if◌then◌else◌, List, [], ◌∷◌, ◌++◌, length, Option, Some, None, Ok, Err}
use Rattle.sc_text.specs.Kind.{Kind, NAME}
use Rattle.sc_text.specs.declared.token.Terminal.{Terminal}
use Rattle.sc_text.specs.declared.token.Terminal.TheVariants as terminal
use Rattle.sc_tree.specs.Plain.{Name, Clause}
use Rattle.sc_tree.specs.Bare.{named}
use Rattle.sc_tree.specs.Grammar.{top, goes_on}
use Rattle.sc_tree.specs.Internal.Reading.Looks.{Wrong, Deep, Read, ◌>>=◌, past, sees, skip_semicolons, begins_expr}
use Rattle.sc_tree.specs.Internal.Reading.Expressions.{expr}

abbrev pub tag_by : Kind → List Kind → Option Name
tag_by (NAME x) r = if sees terminal.Colon r then Some (named x) else None
tag_by _ r = None

-- the tag that begins here: a name with a colon behind it
abbrev pub tag_ahead : List Kind → Option Name
tag_ahead [] = None
tag_ahead (t ∷ r) = tag_by t r

abbrev pub past_tag : Option Name → List Kind → List Kind
past_tag None ts = ts
past_tag (Some x) ts = past (past ts)

module _ (room : ℕ) where
  unfoldable pub clause : List Kind → Read Clause
  clause ts = do
    (t, h, r) ← expr room top (past_tag (tag_ahead ts) ts)
    Ok (record { tag = tag_ahead ts; condition = t }, h, r)

  -- clauses, after those that were found
  unfoldable pub clauses_from : ℕ → List Clause → ℕ → List Kind → Read (List Clause)
  clauses_from zero found high ts = Ok (found, high, ts)
  clauses_from (suc f) found high ts =
      if begins_expr ts
      then (do
        (x, h, r) ← clause ts
        if goes_on r then Err Wrong else clauses_from f (found ++ x ∷ []) (max high h) (skip_semicolons r))
      else Ok (found, high, ts)

  unfoldable pub clauses : List Kind → Read (List Clause)
  clauses ts = clauses_from (length (skip_semicolons ts)) [] 0 (skip_semicolons ts)

  -- what stands under this word, if it stands here
  unfoldable pub assertion : Terminal → List Kind → Read (List Clause)
  assertion m ts = if sees m ts then clauses (past ts) else Ok ([], 0, ts)

-- clauses that stand one deeper
unfoldable pub nested_clauses : ℕ → List Kind → Read (List Clause)
nested_clauses zero ts = Err Deep
nested_clauses (suc n) ts = clauses n ts
