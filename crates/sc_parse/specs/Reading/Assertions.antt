-- Reading assertions.
use Rattle.std.specs.Prelude.{ℕ, zero, suc, max, if◌then◌else◌, List, [], ◌∷◌, ◌++◌, Option, Some, None, Ok, Err}
use Rattle.sc_text.specs.Kind.{Kind, NAME, kind_of, kinds_of}
use Rattle.sc_text.specs.declared.token.Span.{Span}
use Rattle.sc_text.specs.declared.token.Token.{Token}
use Rattle.sc_text.specs.declared.token.Terminal.{Terminal}
use Rattle.sc_text.specs.declared.token.Terminal.TheVariants as terminal
use Rattle.sc_tree.specs.Plain.{Name, Clause}
use Rattle.sc_tree.specs.Internal.Reading.Looks as looks
use Rattle.sc_tree.specs.Grammar.Operators.{top}
use Rattle.sc_tree.specs.Internal.Reading.Looks.{Wrong, Deep, ◌>>=◌}
use Rattle.sc_parse.specs.Reading.Looks.{Ahead, Read, past, sees, skip_semicolons, begins_expr, left, goes_on}
use Rattle.sc_parse.specs.Reading.Expressions.{expr}

abbrev pub tag_by : Kind → Span → List Token → Option Name
tag_by (NAME x) s r = if looks.sees terminal.Colon (kinds_of r) then Some (record { text = x; span = s }) else None
tag_by _ s r = None

abbrev pub tag_of : List Token → Option Name
tag_of [] = None
tag_of (t ∷ r) = tag_by (kind_of t.kind) t.span r

-- the tag that begins here: a name with a colon behind it
abbrev pub tag_ahead : Ahead → Option Name
tag_ahead q = tag_of q.rest

abbrev pub past_tag : Option Name → Ahead → Ahead
past_tag None ts = ts
past_tag (Some x) ts = past (past ts)

module _ (room : ℕ) where
  unfoldable pub clause : Ahead → Read Clause
  clause ts = do
    t ← expr room top (past_tag (tag_ahead ts) ts)
    Ok (record { tag = tag_ahead ts; condition = t.0 }, t.1, t.2)

  -- clauses, after those that were found
  unfoldable pub clauses_from : ℕ → List Clause → ℕ → Ahead → Read (List Clause)
  clauses_from zero found high ts = Ok (found, high, ts)
  clauses_from (suc f) found high ts =
      if begins_expr ts
      then (do
        x ← clause ts
        if goes_on x.2 then Err Wrong else clauses_from f (found ++ x.0 ∷ []) (max high x.1) (skip_semicolons x.2))
      else Ok (found, high, ts)

  unfoldable pub clauses : Ahead → Read (List Clause)
  clauses ts = clauses_from (left (skip_semicolons ts)) [] 0 (skip_semicolons ts)

  -- what stands under this word, if it stands here
  unfoldable pub assertion : Terminal → Ahead → Read (List Clause)
  assertion m ts = if sees m ts then clauses (past ts) else Ok ([], 0, ts)

-- clauses that stand one deeper
unfoldable pub nested_clauses : ℕ → Ahead → Read (List Clause)
nested_clauses zero ts = Err Deep
nested_clauses (suc n) ts = clauses n ts
