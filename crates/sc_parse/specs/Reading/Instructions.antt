-- Reading instructions.
use Rattle.std.specs.Prelude.{ℕ, zero, suc, max, ◌==◌, ◌&&◌, ◌||◌, Bool, if◌then◌else◌, List, [], ◌∷◌, ◌++◌, Some, None, Ok, Err}
use Rattle.sc_text.specs.declared.token.Terminal.TheVariants as terminal
use Rattle.sc_tree.specs.Plain.{Expr, Call, Variable, Named, ResultVariable, Clause, Head, Instr, Assign, PrintText, CallRoutine, Create, If, Loop, Check, Block, Instrs, no_instrs, Branches, no_branches}
use Rattle.sc_tree.specs.Internal.Reading.Instructions.{instrs_push, branches_push}
use Rattle.sc_tree.specs.Grammar.Operators.{top}
use Rattle.sc_tree.specs.Grammar.Instructions.{print_name}
use Rattle.sc_tree.specs.Internal.Reading.Looks.{Wrong, Deep, ◌>>=◌}
use Rattle.sc_tree.specs.Properties.{span_of}
use Rattle.sc_parse.specs.Reading.Looks.{Ahead, Read, Taken, past, sees, expect, skip_semicolons, name, name_ahead, sees_word, text, text_ahead, begins_expr, begins_instr, begin, up_to, left}
use Rattle.sc_parse.specs.Reading.Expressions.{actuals, chain, expr, nested}
use Rattle.sc_parse.specs.Reading.Assertions.{nested_clauses}

-- what an assignment or a creation changes
unfoldable pub variable : Ahead → Taken Variable
variable ts =
    if sees terminal.Result ts
    then Ok (ResultVariable (past ts).last, past ts)
    else (do
      x ← name ts
      Ok (Named x.0, x.1))

-- whether an assignment begins here
abbrev pub assigns : Ahead → Bool
assigns ts = (name_ahead ts || sees terminal.Result ts) && sees terminal.Becomes (past ts)

-- whether `print` of a string begins here
abbrev pub prints : Ahead → Bool
prints ts = sees_word print_name ts && sees terminal.OpenParenthesis (past ts) && text_ahead (past (past ts))

-- a chain of calls that stands one deeper
unfoldable pub nested_chain : ℕ → Ahead → Read Expr
nested_chain zero ts = Err Deep
nested_chain (suc n) ts = chain (nested n) n ts

-- The function reads instructions that stand one deeper.
module _ (room : ℕ) (inner : Ahead → Read Instrs) where
  unfoldable pub assignment : Ahead → Read Instr
  assignment ts = do
    v ← variable ts
    r ← expect terminal.Becomes v.1
    t ← expr room top r
    Ok (Assign (record { start = begin ts; end = (span_of t.0).end }) v.0 t.0, t.1, t.2)

  -- after `print (`, which begins at the place
  unfoldable pub printing : ℕ → Ahead → Read Instr
  printing start r =
      if room == 0
      then Err Deep
      else (do
        s ← text r
        rest ← expect terminal.CloseParenthesis s.1
        Ok (PrintText (up_to start rest) s.0, 1, rest))

  abbrev pub called : Expr × ℕ × Ahead → Read Instr
  called (Call s t x es, h, r) = Ok (CallRoutine s t x es, h, r)
  called _ = Err Wrong

  unfoldable pub routine_call : Ahead → Read Instr
  routine_call ts = chain (nested room) room ts >>= called

  -- after `create`
  unfoldable pub creation : Ahead → Read Instr
  creation r = do
    v ← variable r
    if sees terminal.Dot v.1 then (if room == 0 then Err Deep else (do
      x ← name (past v.1)
      es ← actuals (nested room) x.1
      Ok (
        Create (up_to r.last.start es.2)
            (record { variable = v.0; call = Some (record { name = x.0; actuals = es.0 }) }),
        max 1 es.1,
        es.2,
      )))
        else Ok (Create (up_to r.last.start v.1) (record { variable = v.0; call = None }), 0, v.1)

  -- a condition and what stands under it
  unfoldable pub branch : Ahead → Read (Expr × Instrs)
  branch ts = do
    t ← nested room top ts
    r ← expect terminal.Then t.2
    b ← inner r
    Ok ((t.0, b.0), max t.1 b.1, b.2)

  -- the `elseif`s, after those that were found
  unfoldable pub branches : ℕ → Branches → ℕ → Ahead → Read Branches
  branches zero found high ts = Ok (found, high, ts)
  branches (suc f) found high ts =
      if sees terminal.Elseif ts
      then (do
        x ← branch (past ts)
        branches f (branches_push found x.0.0 x.0.1) (max high x.1) x.2)
      else Ok (found, high, ts)

  unfoldable pub other : Ahead → Read Instrs
  other ts = if sees terminal.Else ts then inner (past ts) else Ok (no_instrs, 0, ts)

  -- after `if`
  unfoldable pub conditional : Ahead → Read Instr
  conditional ts = do
    g ← branch ts
    bs ← branches (left g.2) no_branches 0 g.2
    o ← other bs.2
    r ← expect terminal.End o.2
    Ok (If (up_to ts.last.start r) g.0.0 g.0.1 bs.0 o.0, suc (max g.1 (max bs.1 o.1)), r)

  -- after `from`
  unfoldable pub iteration : Ahead → Read Instr
  iteration ts = do
    i ← inner ts
    r ← expect terminal.Until i.2
    t ← nested room top r
    s ← expect terminal.Loop t.2
    b ← inner s
    rest ← expect terminal.End b.2
    Ok (Loop (up_to ts.last.start rest) i.0 t.0 b.0, suc (max i.1 (max t.1 b.1)), rest)

  -- the clauses of a `check`, with its own nesting
  unfoldable pub checked : Ahead → Read (List Clause)
  checked ts =
      if begins_expr ts || sees terminal.Semicolon ts
      then (do
        x ← nested_clauses room ts
        Ok (x.0, suc x.1, x.2))
      else Ok ([], 0, ts)

  -- after `check`
  unfoldable pub checking : Ahead → Read Instr
  checking ts = do
    x ← checked ts
    rest ← expect terminal.End x.2
    Ok (Check (up_to ts.last.start rest) x.0, x.1, rest)

  unfoldable pub head : Ahead → Read Head
  head ts = do
    t ← nested_chain room ts
    r ← expect terminal.As t.2
    x ← name r
    Ok (record { value = t.0; name = x.0 }, t.1, x.1)

  -- heads after commas, after those that were found
  unfoldable pub more_heads : ℕ → List Head → ℕ → Ahead → Read (List Head)
  more_heads zero found high ts = Ok (found, high, ts)
  more_heads (suc f) found high ts =
      if sees terminal.Comma ts
      then (do
        x ← head (past ts)
        more_heads f (found ++ x.0 ∷ []) (max high x.1) x.2)
      else Ok (found, high, ts)

  unfoldable pub heads : Ahead → Read (List Head)
  heads ts = do
    x ← head ts
    more_heads (left x.2) (x.0 ∷ []) x.1 x.2

  -- after `separate`
  unfoldable pub block : Ahead → Read Instr
  block ts = do
    xs ← heads ts
    r ← expect terminal.Do xs.2
    b ← inner r
    rest ← expect terminal.End b.2
    Ok (Block (up_to ts.last.start rest) xs.0 b.0, suc (max xs.1 b.1), rest)

  unfoldable pub instr : Ahead → Read Instr
  instr ts =
      if sees terminal.If ts then conditional (past ts)
      else if sees terminal.From ts then iteration (past ts)
      else if sees terminal.Check ts then checking (past ts)
      else if sees terminal.Create ts then creation (past ts)
      else if sees terminal.Separate ts then block (past ts)
      else if assigns ts then assignment ts
      else if prints ts then printing (begin ts) (past (past ts))
      else routine_call ts

  -- instructions, after those that were found
  unfoldable pub instrs_from : ℕ → Instrs → ℕ → Ahead → Read Instrs
  instrs_from zero found high ts = Ok (found, high, ts)
  instrs_from (suc f) found high ts =
      if begins_instr ts
      then (do
        x ← instr ts
        instrs_from f (instrs_push found x.0) (max high x.1) (skip_semicolons x.2))
      else Ok (found, high, ts)

  unfoldable pub body : Ahead → Read Instrs
  body ts = instrs_from (left (skip_semicolons ts)) no_instrs 0 (skip_semicolons ts)

-- instructions whose nesting is at most the first number
unfoldable pub instrs : ℕ → Ahead → Read Instrs
instrs zero = body zero (λ ts. Err Deep)
instrs (suc n) = body (suc n) (instrs n)

-- the same, where their tokens are nested one deeper
unfoldable pub nested_instrs : ℕ → Ahead → Read Instrs
nested_instrs zero ts = Err Deep
nested_instrs (suc n) ts = instrs n ts
