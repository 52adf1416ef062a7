-- Code that is written part by part: instructions, the parts of a conditional, clauses, a separate block and a loop's end.
use Rattle.std.proofs.Common.{◌≡◌, ◌<◌, ℕ, ◌+◌, ◌-◌, List, [], ◌∷◌, ◌++◌, length, sym, ap, ◌∙◌, arith, append_assoc, length-append}
use Rattle.std.specs.Prelude.{slice_set}
use Rattle.sc_tree.specs.Plain.{Expr, Head, Instr, Instrs, Branches, instr_then, branch_then}
use Rattle.sc_rules.specs.Names.{Entities}
use Rattle.sc_code.specs.Operations.{Operation, EndLoop, Jump, Leave, Open}
use Rattle.sc_code.specs.Places.{Setting, head_types, with_heads}
use Rattle.sc_code.specs.Emitted.{expr_code, heads_code, instr_code, instrs_code, names_of}
use Rattle.sc_routines.specs.Jumps.{branch_opened, jump_behind, jumps_of, looped, open_branches}
use Rattle.sc_routines.specs.Parts.{block_code}

-- one clause more, behind whose condition this operation stands
pub next_clause : (h : Setting) (n m : Entities) (i : ℕ) (e : Expr) (o : Operation) (rest c0 c1 c2 total : List Operation) → m ≡ n → c1 ≡ c0 ++ expr_code h m i e → c2 ≡ c1 ++ o ∷ [] →
    c0 ++ (expr_code h n i e ++ o ∷ rest) ≡ total → c2 ++ rest ≡ total
next_clause h n m i e o rest c0 c1 c2 total em e1 e2 et =
    ap (λ (l : List Operation). l ++ rest) (e2 ∙ ap (λ (l : List Operation). l ++ o ∷ []) (e1 ∙ ap (λ m. c0 ++ expr_code h m i e) em))
    ∙ append_assoc (c0 ++ expr_code h n i e) (o ∷ []) rest ∙ append_assoc c0 (expr_code h n i e) (o ∷ rest) ∙ et

-- one instruction more
pub next_instruction : (h : Setting) (n m : Entities) (i : Instr) (is : Instrs) (c0 c1 total : List Operation) → m ≡ n → c1 ≡ c0 ++ instr_code h m i →
    c0 ++ instrs_code h n (instr_then i is) ≡ total → c1 ++ instrs_code h n is ≡ total
next_instruction h n m i is c0 c1 total em e1 et =
    ap (λ (l : List Operation). l ++ instrs_code h n is) (e1 ∙ ap (λ m. c0 ++ instr_code h m i) em) ∙ append_assoc c0 (instr_code h n i) (instrs_code h n is) ∙ et

-- one branch more, and the place of its jump
module _ (h : Setting) (n m : Entities) (e : Expr) (body : Instrs) (bs : Branches) (c0 c1 : List Operation) (em : m ≡ n) (e1 : c1 ≡ c0 ++ branch_opened h m e body) where
  behind : c1 ≡ c0 ++ branch_opened h n e body
  behind = e1 ∙ ap (λ m. c0 ++ branch_opened h m e body) em

  pub next_branch : (total : List Operation) → c0 ++ open_branches h n (branch_then e body bs) ≡ total → c1 ++ open_branches h n bs ≡ total
  next_branch total et =
      ap (λ (l : List Operation). l ++ open_branches h n bs) behind ∙ append_assoc c0 (branch_opened h n e body) (open_branches h n bs) ∙ et

  pub next_jump : (js ks total : List ℕ) → ks ≡ js ++ jump_behind h m (length c0) e body ∷ [] → js ++ jumps_of h n (length c0) (branch_then e body bs) ≡ total →
      ks ++ jumps_of h n (length c1) bs ≡ total
  next_jump js ks total e2 et =
      let size : length c1 ≡ length c0 + length (branch_opened h n e body) = ap (λ (l : List Operation). length l) behind ∙ length-append c0 (branch_opened h n e body) in
      let left = jumps_of h n (length c0 + length (branch_opened h n e body)) bs in
      ap (λ k. ks ++ jumps_of h n k bs) size
      ∙ ap (λ (l : List ℕ). l ++ left) (e2 ∙ ap (λ m. js ++ jump_behind h m (length c0) e body ∷ []) em)
      ∙ append_assoc js (jump_behind h n (length c0) e body ∷ []) left ∙ et

-- a separate block, whose names are known in its body
pub block_closed : (h : Setting) (n m : Entities) (ds : List Head) (body : Instrs) (c0 c1 c2 c3 c4 : List Operation) (first number : ℕ) → c1 ≡ c0 ++ heads_code h n ds →
    c2 ≡ c1 ++ Open first number ∷ [] → first ≡ length n → number ≡ length ds → m ≡ with_heads (names_of ds) (head_types h n ds) n → c3 ≡ c2 ++ instrs_code h m body →
    c4 ≡ c3 ++ Leave ∷ [] → c4 ≡ c0 ++ block_code h n ds body
block_closed h n m ds body c0 c1 c2 c3 c4 first number e1 e2 ef en em e3 e4 =
    let inner = instrs_code h (with_heads (names_of ds) (head_types h n ds) n) body in
    let opened : c2 ≡ (c0 ++ heads_code h n ds) ++ Open (length n) (length ds) ∷ [] =
    e2 ∙ ap (λ k. c1 ++ Open k number ∷ []) ef ∙ ap (λ k. c1 ++ Open (length n) k ∷ []) en ∙ ap (λ (l : List Operation). l ++ Open (length n) (length ds) ∷ []) e1 in
    let flat : (((c0 ++ heads_code h n ds) ++ Open (length n) (length ds) ∷ []) ++ inner) ++ Leave ∷ [] ≡ c0 ++ (heads_code h n ds ++ Open (length n) (length ds) ∷ (inner ++ Leave ∷ [])) = simp append_assoc in
    e4 ∙ ap (λ (l : List Operation). l ++ Leave ∷ []) (e3 ∙ ap (λ m. c2 ++ instrs_code h m body) em ∙ ap (λ (l : List Operation). l ++ inner) opened) ∙ flat

-- the end of a loop
pub loop_ended : (until old c1 c2 c3 : List Operation) (jump j k : ℕ) → jump < length old → j ≡ length old → c1 ≡ old ++ until → k ≡ length c1 → c2 ≡ c1 ++ EndLoop (k - jump - 1) ∷ [] →
    c3 ≡ slice_set c2 jump (Jump (j - jump - 1)) → c3 ≡ looped jump until old
loop_ended until old c1 c2 c3 jump j k l ej e1 ek e2 e3 =
    let back : k - jump - 1 ≡ (length old - jump - 1) + length until = omega (arith, l, ek, ap (λ (l : List Operation). length l) e1, length-append old until) in
    let last = EndLoop ((length old - jump - 1) + length until) ∷ [] in
    let all : c2 ≡ old ++ (until ++ last) =
    e2 ∙ ap (λ n. c1 ++ EndLoop n ∷ []) back ∙ ap (λ (l : List Operation). l ++ last) e1 ∙ append_assoc old until last in
    e3 ∙ ap (λ n. slice_set c2 jump (Jump (n - jump - 1))) ej ∙ ap (λ (l : List Operation). slice_set l jump (Jump (length old - jump - 1))) all
