-- Clauses and instructions in canonical text.
use Rattle.std.specs.Prelude.{ℕ, ◌+◌, Bool, true, false, if◌then◌else◌, List, [], ◌∷◌, ◌++◌, Option, None, Some}
use Rattle.sc_text.specs.Kind.{NAME, STRING}
use Rattle.sc_text.specs.declared.token.Terminal.{Terminal}
use Rattle.sc_text.specs.declared.token.Terminal.TheVariants as terminal
use Rattle.sc_tree.specs.Plain.{Name, Expr, Variable, Named, ResultVariable, CreationCall, Clause, Head, Instr, Assign, PrintText, CallRoutine, Create, If, Loop, Check, Block, Instrs, no_instrs, instr_then, Branches, no_branches, branch_then}
use Rattle.sc_tree.specs.Grammar.{print_name}
use Rattle.sc_tree.specs.Canonical.Layout.{Part, Token, word, separated, Line, line}
use Rattle.sc_tree.specs.Canonical.Expressions.{name_part, expr_parts, actuals_parts, call_parts}

-- ---- clauses

abbrev pub tag_parts : Option Name → List Part
tag_parts None = []
tag_parts (Some n) = name_part n ∷ word terminal.Colon ∷ []

abbrev pub ending : Bool → List Part
ending is_last = if is_last then [] else word terminal.Semicolon ∷ []

-- Each clause but the last ends with a semicolon.
unfoldable pub clause_line : ℕ → Clause → Bool → Line
clause_line n x is_last = line n (tag_parts x.tag ++ (expr_parts x.condition ++ ending is_last))

abbrev pub is_empty : List Clause → Bool
is_empty [] = true
is_empty (x ∷ xs) = false

abbrev pub clauses_lines : ℕ → List Clause → List Line
clauses_lines n [] = []
clauses_lines n (x ∷ xs) = clause_line n x (is_empty xs) ∷ clauses_lines n xs

-- `require`, `ensure` or `invariant`, and the clauses under it
abbrev pub assertion_lines : ℕ → Terminal → List Clause → List Line
assertion_lines n m [] = []
assertion_lines n m (x ∷ xs) = line n (word m ∷ []) ∷ clauses_lines (n + 1) (x ∷ xs)

-- ---- instructions

abbrev pub variable_part : Variable → Part
variable_part (Named n) = name_part n
variable_part (ResultVariable s) = word terminal.Result

abbrev pub creation_call_parts : Option CreationCall → List Part
creation_call_parts None = []
creation_call_parts (Some c) = word terminal.Dot ∷ name_part c.name ∷ actuals_parts c.actuals

unfoldable pub head_parts : Head → List Part
head_parts h = expr_parts h.value ++ word terminal.As ∷ name_part h.name ∷ []

abbrev pub heads_parts : List Head → List Part
heads_parts = separated (word terminal.Comma) head_parts

abbrev pub reservation_line : ℕ → List Head → Line
reservation_line n hs = line n (word terminal.Separate ∷ (heads_parts hs ++ word terminal.Do ∷ []))

-- the condition of an `if` or an `elseif`
abbrev pub guard_line : ℕ → Terminal → Expr → Line
guard_line n m e = line n (word m ∷ (expr_parts e ++ word terminal.Then ∷ []))

-- An `else` with nothing under it is left out.
abbrev pub else_lines : ℕ → Instrs → List Line
else_lines n no_instrs = []
else_lines n (instr_then i is) = line n (word terminal.Else ∷ []) ∷ []

unfoldable mutual
  pub instr_lines : ℕ → Instr → List Line
  instr_lines n (Assign s v e) = line n (variable_part v ∷ word terminal.Becomes ∷ expr_parts e) ∷ []
  instr_lines n (PrintText s t) =
      line n (Token (NAME print_name) ∷ word terminal.OpenParenthesis ∷ Token (STRING t)
      ∷ word terminal.CloseParenthesis ∷ []) ∷ []
  instr_lines n (CallRoutine s t x es) = line n (call_parts t x es) ∷ []
  instr_lines n (Create s c) =
      line n (word terminal.Create ∷ variable_part c.variable ∷ creation_call_parts c.call) ∷ []
  instr_lines n (If s condition body branches other) =
      guard_line n terminal.If condition ∷ (instrs_lines (n + 1) body ++ (branches_lines n branches
      ++ (else_lines n other ++ (instrs_lines (n + 1) other ++ line n (word terminal.End ∷ []) ∷ []))))
  instr_lines n (Loop s initial until body) =
      line n (word terminal.From ∷ []) ∷ (instrs_lines (n + 1) initial
      ++ line n (word terminal.Until ∷ []) ∷ line (n + 1) (expr_parts until)
      ∷ line n (word terminal.Loop ∷ []) ∷ (instrs_lines (n + 1) body
      ++ line n (word terminal.End ∷ []) ∷ []))
  instr_lines n (Check s xs) =
      line n (word terminal.Check ∷ []) ∷ (clauses_lines (n + 1) xs ++ line n (word terminal.End ∷ []) ∷ [])
  instr_lines n (Block s heads body) =
      reservation_line n heads ∷ (instrs_lines (n + 1) body ++ line n (word terminal.End ∷ []) ∷ [])

  pub instrs_lines : ℕ → Instrs → List Line
  instrs_lines n no_instrs = []
  instrs_lines n (instr_then i is) = instr_lines n i ++ instrs_lines n is

  pub branches_lines : ℕ → Branches → List Line
  branches_lines n no_branches = []
  branches_lines n (branch_then e body bs) =
      guard_line n terminal.Elseif e ∷ (instrs_lines (n + 1) body ++ branches_lines n bs)
