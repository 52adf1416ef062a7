-- Reading instructions.
use Rattle.std.specs.Prelude.{ℕ, zero, suc, max, ◌==◌, ◌&&◌, ◌||◌, Bool, if◌then◌else◌, List, [], ◌∷◌, ◌++◌, length, Some, None, Ok, Err}
use Rattle.sc_text.specs.Kind.{Kind}
use Rattle.sc_text.specs.declared.token.Terminal.TheVariants as terminal
use Rattle.sc_tree.specs.Plain.{Expr, Call, Variable, Named, ResultVariable, Clause, Head, Instr, Assign, PrintText, CallRoutine, Create, If, Loop, Check, Block, Instrs, no_instrs, instr_then, Branches, no_branches, branch_then}
use Rattle.sc_tree.specs.Bare.{nowhere}
use Rattle.sc_tree.specs.Grammar.{top, print_name}
use Rattle.sc_tree.specs.Internal.Reading.Looks.{Wrong, Deep, Read, Taken, ◌>>=◌, past, sees, expect, skip_semicolons, name, name_ahead, sees_word, text, text_ahead, begins_expr, begins_instr}
use Rattle.sc_tree.specs.Internal.Reading.Expressions.{actuals, chain, expr, nested}
use Rattle.sc_tree.specs.Internal.Reading.Assertions.{nested_clauses}

abbrev pub instrs_push : Instrs → Instr → Instrs
instrs_push no_instrs i = instr_then i no_instrs
instrs_push (instr_then j is) i = instr_then j (instrs_push is i)

abbrev pub branches_push : Branches → Expr → Instrs → Branches
branches_push no_branches t body = branch_then t body no_branches
branches_push (branch_then u b bs) t body = branch_then u b (branches_push bs t body)

-- what an assignment or a creation changes
unfoldable pub variable : List Kind → Taken Variable
variable ts =
    if sees terminal.Result ts
    then Ok (ResultVariable nowhere, past ts)
    else (do
      (x, r) ← name ts
      Ok (Named x, r))

-- whether an assignment begins here
abbrev pub assigns : List Kind → Bool
assigns ts = (name_ahead ts || sees terminal.Result ts) && sees terminal.Becomes (past ts)

-- whether `print` of a string begins here
abbrev pub prints : List Kind → Bool
prints ts = sees_word print_name ts && sees terminal.OpenParenthesis (past ts) && text_ahead (past (past ts))

-- a chain of calls that stands one deeper
unfoldable pub nested_chain : ℕ → List Kind → Read Expr
nested_chain zero ts = Err Deep
nested_chain (suc n) ts = chain (nested n) n ts

-- The function reads instructions that stand one deeper.
module _ (room : ℕ) (inner : List Kind → Read Instrs) where
  unfoldable pub assignment : List Kind → Read Instr
  assignment ts = do
    (v, r) ← variable ts
    r ← expect terminal.Becomes r
    (t, h, r) ← expr room top r
    Ok (Assign nowhere v t, h, r)

  -- after `print (`
  unfoldable pub printing : List Kind → Read Instr
  printing ts =
      if room == 0
      then Err Deep
      else (do
        (s, r) ← text ts
        r ← expect terminal.CloseParenthesis r
        Ok (PrintText nowhere s, 1, r))

  abbrev pub called : Expr × ℕ × List Kind → Read Instr
  called (Call s t x es, h, r) = Ok (CallRoutine s t x es, h, r)
  called _ = Err Wrong

  unfoldable pub routine_call : List Kind → Read Instr
  routine_call ts = chain (nested room) room ts >>= called

  -- after the dot of a creation
  abbrev pub created_by : Variable → List Kind → Read Instr
  created_by v ts =
      if room == 0
      then Err Deep
      else (do
        (x, r) ← name ts
        (es, h, r) ← actuals (nested room) r
        Ok (Create nowhere (record { variable = v; call = Some (record { name = x; actuals = es }) }), max 1 h, r))

  -- after `create`
  unfoldable pub creation : List Kind → Read Instr
  creation ts = do
    (v, r) ← variable ts
    if sees terminal.Dot r
        then created_by v (past r)
        else Ok (Create nowhere (record { variable = v; call = None }), 0, r)

  -- a condition and what stands under it
  unfoldable pub branch : List Kind → Read (Expr × Instrs)
  branch ts = do
    (condition, h, r) ← nested room top ts
    r ← expect terminal.Then r
    (body, g, r) ← inner r
    Ok ((condition, body), max h g, r)

  -- the `elseif`s, after those that were found
  unfoldable pub branches : ℕ → Branches → ℕ → List Kind → Read Branches
  branches zero found high ts = Ok (found, high, ts)
  branches (suc f) found high ts =
      if sees terminal.Elseif ts
      then (do
        ((condition, body), h, r) ← branch (past ts)
        branches f (branches_push found condition body) (max high h) r)
      else Ok (found, high, ts)

  unfoldable pub other : List Kind → Read Instrs
  other ts = if sees terminal.Else ts then inner (past ts) else Ok (no_instrs, 0, ts)

  -- after `if`
  unfoldable pub conditional : List Kind → Read Instr
  conditional ts = do
    ((condition, body), h, r) ← branch ts
    (branches, hs, r) ← branches (length r) no_branches 0 r
    (other, g, r) ← other r
    r ← expect terminal.End r
    Ok (If nowhere condition body branches other, suc (max h (max hs g)), r)

  -- after `from`
  unfoldable pub iteration : List Kind → Read Instr
  iteration ts = do
    (initial, hi, r) ← inner ts
    r ← expect terminal.Until r
    (until, h, r) ← nested room top r
    r ← expect terminal.Loop r
    (body, hb, r) ← inner r
    r ← expect terminal.End r
    Ok (Loop nowhere initial until body, suc (max hi (max h hb)), r)

  -- the clauses of a `check`, with its own nesting
  unfoldable pub checked : List Kind → Read (List Clause)
  checked ts =
      if begins_expr ts || sees terminal.Semicolon ts
      then (do
        (xs, h, r) ← nested_clauses room ts
        Ok (xs, suc h, r))
      else Ok ([], 0, ts)

  -- after `check`
  unfoldable pub checking : List Kind → Read Instr
  checking ts = do
    (xs, h, r) ← checked ts
    r ← expect terminal.End r
    Ok (Check nowhere xs, h, r)

  unfoldable pub head : List Kind → Read Head
  head ts = do
    (t, h, r) ← nested_chain room ts
    r ← expect terminal.As r
    (x, r) ← name r
    Ok (record { value = t; name = x }, h, r)

  -- heads after commas, after those that were found
  unfoldable pub more_heads : ℕ → List Head → ℕ → List Kind → Read (List Head)
  more_heads zero found high ts = Ok (found, high, ts)
  more_heads (suc f) found high ts =
      if sees terminal.Comma ts
      then (do
        (x, h, r) ← head (past ts)
        more_heads f (found ++ x ∷ []) (max high h) r)
      else Ok (found, high, ts)

  unfoldable pub heads : List Kind → Read (List Head)
  heads ts = do
    (x, h, r) ← head ts
    more_heads (length r) (x ∷ []) h r

  -- after `separate`
  unfoldable pub block : List Kind → Read Instr
  block ts = do
    (xs, h, r) ← heads ts
    r ← expect terminal.Do r
    (body, g, r) ← inner r
    r ← expect terminal.End r
    Ok (Block nowhere xs body, suc (max h g), r)

  unfoldable pub instr : List Kind → Read Instr
  instr ts =
      if sees terminal.If ts then conditional (past ts)
      else if sees terminal.From ts then iteration (past ts)
      else if sees terminal.Check ts then checking (past ts)
      else if sees terminal.Create ts then creation (past ts)
      else if sees terminal.Separate ts then block (past ts)
      else if assigns ts then assignment ts
      else if prints ts then printing (past (past ts))
      else routine_call ts

  -- instructions, after those that were found
  unfoldable pub instrs_from : ℕ → Instrs → ℕ → List Kind → Read Instrs
  instrs_from zero found high ts = Ok (found, high, ts)
  instrs_from (suc f) found high ts =
      if begins_instr ts
      then (do
        (i, h, r) ← instr ts
        instrs_from f (instrs_push found i) (max high h) (skip_semicolons r))
      else Ok (found, high, ts)

  unfoldable pub body : List Kind → Read Instrs
  body ts = instrs_from (length (skip_semicolons ts)) no_instrs 0 (skip_semicolons ts)

-- instructions whose nesting is at most the first number
unfoldable pub instrs : ℕ → List Kind → Read Instrs
instrs zero = body zero (λ ts. Err Deep)
instrs (suc n) = body (suc n) (instrs n)

-- the same, where their tokens are nested one deeper
unfoldable pub nested_instrs : ℕ → List Kind → Read Instrs
nested_instrs zero ts = Err Deep
nested_instrs (suc n) ts = instrs n ts
