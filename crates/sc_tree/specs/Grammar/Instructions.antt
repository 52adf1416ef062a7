-- Instructions (ECMA-367, 8.9, 8.17, 8.20, 8.22 and 8.23), and separate blocks.
use Rattle.std.specs.Prelude.{ℕ, suc, max, List, [], ◌∷◌, ◌++◌, None, Some, codes}
use Rattle.sc_text.specs.Kind.{Kind, NAME, STRING, TERMINAL}
use Rattle.sc_text.specs.declared.token.Span.{Span}
use Rattle.sc_text.specs.declared.token.Terminal.TheVariants as terminal
use Rattle.sc_tree.specs.Plain.{Name, Expr, Call, Target, Exprs, Variable, Named, ResultVariable, Clause, Head, Instr, Assign, PrintText, CallRoutine, Create, Check, Conditional, if_instr, Iteration, loop_instr, SeparateBlock, block_instr, Instrs, no_instrs, instr_then, Branches, no_branches, branch_then}
use Rattle.sc_tree.specs.Bare.{nowhere, named}
use Rattle.sc_tree.specs.Grammar.Operators.{top}
use Rattle.sc_tree.specs.Grammar.Expressions.{IsExpr, IsChain, IsActuals}
use Rattle.sc_tree.specs.Grammar.Assertions.{IsClauses}

-- `print` is a name that is read by its spelling, before a string in parentheses.
abbrev pub print_name : List ℕ
print_name = codes "print"

pub data IsVariable : Variable → List Kind → Type 0 where
  named_variable : (x : List ℕ) → IsVariable (Named (named x)) (NAME x ∷ [])
  result_variable : IsVariable (ResultVariable nowhere) (TERMINAL terminal.Result ∷ [])

-- the nesting of what is in a construct, if anything is, with the construct around it
abbrev pub around : List Kind → ℕ → ℕ
around [] h = 0
around (t ∷ c) h = suc h

-- `value as name` of a separate block
pub data IsHead : Head → List Kind → ℕ → Type 0 where
  head : {t : Expr} {c : List Kind} {h : ℕ} → IsChain t c h → (x : List ℕ) →
      IsHead (record { value = t; name = named x }) (c ++ TERMINAL terminal.As ∷ NAME x ∷ []) h

-- at least one head
pub data IsHeads : List Head → List Kind → ℕ → Type 0 where
  one_head : {x : Head} {c : List Kind} {h : ℕ} → IsHead x c h → IsHeads (x ∷ []) c h
  more_heads : {x : Head} {xs : List Head} {c cs : List Kind} {h hs : ℕ} →
      IsHead x c h → IsHeads xs cs hs → IsHeads (x ∷ xs) (c ++ TERMINAL terminal.Comma ∷ cs) (max h hs)

mutual
  pub data IsInstr : Instr → List Kind → ℕ → Type 0 where
    assign : {v : Variable} {t : Expr} {cv c : List Kind} {h : ℕ} →
        IsVariable v cv → IsExpr top t c h → IsInstr (Assign nowhere v t) (cv ++ TERMINAL terminal.Becomes ∷ c) h
    print_text : (s : List ℕ) →
        IsInstr (PrintText nowhere s)
        (NAME print_name ∷ TERMINAL terminal.OpenParenthesis ∷ STRING s ∷ TERMINAL terminal.CloseParenthesis ∷ []) 1
    call : {s : Span} {t : Target} {x : Name} {es : Exprs} {c : List Kind} {h : ℕ} → IsChain (Call s t x es) c h →
        IsInstr (CallRoutine s t x es) c h
    create : {v : Variable} {cv : List Kind} → IsVariable v cv →
        IsInstr (Create nowhere (record { variable = v; call = None })) (TERMINAL terminal.Create ∷ cv) 0
    create_by : {v : Variable} {cv : List Kind} → IsVariable v cv → (x : List ℕ) {es : Exprs} {c : List Kind} {h : ℕ} →
        IsActuals es c h →
        IsInstr (Create nowhere (record { variable = v; call = Some (record { name = named x; actuals = es }) }))
        (TERMINAL terminal.Create ∷ (cv ++ TERMINAL terminal.Dot ∷ NAME x ∷ c)) (max 1 h)
    conditional : {i : Conditional} {c cb cs co : List Kind} {h hb hs ho : ℕ} →
        IsExpr top i.condition c h → IsInstrs i.body cb hb → IsBranches i.branches cs hs → IsElse i.other co ho →
        IsInstr (if_instr nowhere i)
        (TERMINAL terminal.If ∷ (c ++ TERMINAL terminal.Then ∷ (cb ++ (cs ++ (co ++ TERMINAL terminal.End ∷ [])))))
        (suc (max (max h hb) (max hs ho)))
    loop : {i : Iteration} {ci c cb : List Kind} {hi h hb : ℕ} →
        IsInstrs i.initial ci hi → IsExpr top i.until c h → IsInstrs i.body cb hb →
        IsInstr (loop_instr nowhere i)
        (TERMINAL terminal.From ∷ (ci ++ TERMINAL terminal.Until ∷ (c
        ++ TERMINAL terminal.Loop ∷ (cb ++ TERMINAL terminal.End ∷ []))))
        (suc (max hi (max h hb)))
    check : {xs : List Clause} {c : List Kind} {h : ℕ} →
        IsClauses xs c h →
        IsInstr (Check nowhere xs) (TERMINAL terminal.Check ∷ (c ++ TERMINAL terminal.End ∷ [])) (around c h)
    block : {i : SeparateBlock} {c cb : List Kind} {h hb : ℕ} →
        IsHeads i.heads c h → IsInstrs i.body cb hb →
        IsInstr (block_instr nowhere i)
        (TERMINAL terminal.Separate ∷ (c ++ TERMINAL terminal.Do ∷ (cb ++ TERMINAL terminal.End ∷ []))) (suc (max h hb))

  pub data IsInstrs : Instrs → List Kind → ℕ → Type 0 where
    no_instr : IsInstrs no_instrs [] 0
    semicolon_instrs : {is : Instrs} {c : List Kind} {h : ℕ} → IsInstrs is c h →
        IsInstrs is (TERMINAL terminal.Semicolon ∷ c) h
    instr : {i : Instr} {is : Instrs} {c cs : List Kind} {h hs : ℕ} → IsInstr i c h → IsInstrs is cs hs →
        IsInstrs (instr_then i is) (c ++ cs) (max h hs)

  -- each `elseif` and the instructions under it
  pub data IsBranches : Branches → List Kind → ℕ → Type 0 where
    no_branch : IsBranches no_branches [] 0
    branch : {t : Expr} {body : Instrs} {bs : Branches} {c cb cs : List Kind} {h hb hs : ℕ} →
        IsExpr top t c h → IsInstrs body cb hb → IsBranches bs cs hs →
        IsBranches (branch_then t body bs) (TERMINAL terminal.Elseif ∷ (c ++ TERMINAL terminal.Then ∷ (cb ++ cs)))
        (max (max h hb) hs)

  -- An `else` with nothing under it is the same tree as none.
  pub data IsElse : Instrs → List Kind → ℕ → Type 0 where
    no_else : IsElse no_instrs [] 0
    otherwise : {is : Instrs} {c : List Kind} {h : ℕ} → IsInstrs is c h → IsElse is (TERMINAL terminal.Else ∷ c) h
