-- Putting the lines of instructions behind what a printer holds.
use Rattle.std.proofs.Common.{◌≡◌, ℕ, ◌+◌, ◌<◌, ◌==◌, false, List, [], ◌∷◌, ◌++◌, length, map, get_or, drop, refl, ap, sym, ◌∙◌}
use Rattle.std.specs.declared.vec.Vec.{Vec}
use Rattle.std.specs.declared.alloc.Global.{Global}
use Rattle.sc_text.specs.declared.token.Span.{Span}
use Rattle.sc_text.specs.declared.token.Terminal.TheVariants as terminal
use Rattle.sc_tree.specs.declared.expression.Expr.{Expr}
use Rattle.sc_tree.specs.declared.instruction.Head.{Head}
use Rattle.sc_tree.specs.declared.instruction.Instr.{Instr}
use Rattle.sc_tree.specs.declared.instruction.Instr.TheVariants as instr
use Rattle.sc_tree.specs.declared.instruction.Branch.{Branch}
use Rattle.sc_tree.specs.View.{expr_of, head_of, instr_of, instrs_of, branches_of}
use Rattle.sc_tree.specs.Canonical.Layout.{Line, line, word}
use Rattle.sc_tree.specs.Canonical.Expressions.{expr_parts}
use Rattle.sc_tree.specs.Canonical.Instructions.{instr_lines, instrs_lines, branches_lines, else_lines, guard_line, reservation_line}
use Rattle.sc_tree.specs.Internal.Printer.{Output, put_line, put_lines}
use Rattle.sc_tree.proofs.ViewLemmas.{instr_of-if, instr_of-loop, instr_of-block}
use Rattle.sc_tree.proofs.PrintingLines.{put_lines-append, drop_at}

pub else_lines-some : (n : ℕ) (xs : List Instr) → (length xs == 0) ≡ false → else_lines n (instrs_of xs) ≡ line n (word terminal.Else ∷ []) ∷ []
else_lines-some n [] h = cc
else_lines-some n (x ∷ xs) h = refl

-- lines, and then further ones
then_lines : (o : Output) (ls ms : List Line) → put_lines o (ls ++ ms) ≡ put_lines (put_lines o ls) ms
then_lines o ls ms = put_lines-append o ls ms

four_groups : (o : Output) (ks ls ms ns ps : List Line) → put_lines o (ks ++ (ls ++ (ms ++ (ns ++ ps)))) ≡ put_lines (put_lines (put_lines (put_lines (put_lines o ks) ls) ms) ns) ps
four_groups o ks ls ms ns ps = simp put_lines-append

pub if_done : (n inner : ℕ) (s : Span) (e : Expr) (body other : Vec Instr Global) (branches : Vec Branch Global) (is js ks : List Instr) (bs : List Branch) (o o1 o2 o3 o4 o5 : Output) →
    inner ≡ n + 1 → is ≡ body.items → bs ≡ branches.items → js ≡ other.items → ks ≡ other.items →
    o1 ≡ put_line o (guard_line n terminal.If (expr_of e)) → o2 ≡ put_lines o1 (instrs_lines inner (instrs_of is)) → o3 ≡ put_lines o2 (branches_lines n (branches_of bs)) →
    o4 ≡ put_lines o3 (else_lines n (instrs_of js)) → o5 ≡ put_lines o4 (instrs_lines inner (instrs_of ks)) →
    put_lines o5 (line n (word terminal.End ∷ []) ∷ []) ≡ put_lines o (instr_lines n (instr_of (instr.If s e body branches other)))
unfolding instr_lines
if_done n inner s e body other branches is js ks bs o o1 o2 o3 o4 o5 d i b j k p1 p2 p3 p4 p5 =
    let last = line n (word terminal.End ∷ []) ∷ [] in
    let body_lines = instrs_lines (n + 1) (instrs_of body.items) in
    let other_lines = instrs_lines (n + 1) (instrs_of other.items) in
    let q5 : o5 ≡ put_lines (put_lines (put_lines (put_lines o1 body_lines) (branches_lines n (branches_of branches.items))) (else_lines n (instrs_of other.items))) other_lines = cc in
    ap (λ u. put_lines u last) q5
    ∙ sym (four_groups o1 body_lines (branches_lines n (branches_of branches.items)) (else_lines n (instrs_of other.items)) other_lines last)
    ∙ ap (λ u. put_lines u (body_lines ++ (branches_lines n (branches_of branches.items) ++ (else_lines n (instrs_of other.items) ++ (other_lines ++ last))))) p1
    ∙ ap (λ x. put_lines o (instr_lines n x)) (sym (instr_of-if s e body branches other))

pub loop_done : (n inner : ℕ) (s : Span) (initial : Vec Instr Global) (e : Expr) (body : Vec Instr Global) (is js : List Instr) (o o1 o2 o3 o4 o5 o6 : Output) →
    inner ≡ n + 1 → is ≡ initial.items → js ≡ body.items →
    o1 ≡ put_lines o (line n (word terminal.From ∷ []) ∷ []) → o2 ≡ put_lines o1 (instrs_lines inner (instrs_of is)) →
    o3 ≡ put_lines o2 (line n (word terminal.Until ∷ []) ∷ []) → o4 ≡ put_line o3 (line inner (expr_parts (expr_of e))) →
    o5 ≡ put_lines o4 (line n (word terminal.Loop ∷ []) ∷ []) → o6 ≡ put_lines o5 (instrs_lines inner (instrs_of js)) →
    put_lines o6 (line n (word terminal.End ∷ []) ∷ []) ≡ put_lines o (instr_lines n (instr_of (instr.Loop s initial e body)))
unfolding instr_lines
loop_done n inner s initial e body is js o o1 o2 o3 o4 o5 o6 d i j p1 p2 p3 p4 p5 p6 =
    let last = line n (word terminal.End ∷ []) ∷ [] in
    let first_lines = instrs_lines (n + 1) (instrs_of initial.items) in
    let body_lines = instrs_lines (n + 1) (instrs_of body.items) in
    let exit_line = line (n + 1) (expr_parts (expr_of e)) in
    let q4 : o4 ≡ put_line o3 exit_line = p4 ∙ ap (λ m. put_line o3 (line m (expr_parts (expr_of e)))) d in
    let q5 : o5 ≡ put_lines o2 (line n (word terminal.Until ∷ []) ∷ exit_line ∷ line n (word terminal.Loop ∷ []) ∷ []) =
    p5 ∙ ap (λ u. put_line u (line n (word terminal.Loop ∷ []))) (q4 ∙ ap (λ u. put_line u exit_line) p3) in
    let q2 : o2 ≡ put_lines o1 first_lines = cc in
    let q6 : o6 ≡ put_lines o5 body_lines = cc in
    ap (λ u. put_lines u last) (q6 ∙ ap (λ u. put_lines u body_lines) q5)
    ∙ sym (then_lines _ body_lines last)
    ∙ ap (λ u. put_lines u (line n (word terminal.Until ∷ []) ∷ exit_line ∷ line n (word terminal.Loop ∷ []) ∷ (body_lines ++ last))) q2
    ∙ sym (then_lines o1 first_lines (line n (word terminal.Until ∷ []) ∷ exit_line ∷ line n (word terminal.Loop ∷ []) ∷ (body_lines ++ last)))
    ∙ ap (λ u. put_lines u (first_lines ++ line n (word terminal.Until ∷ []) ∷ exit_line ∷ line n (word terminal.Loop ∷ []) ∷ (body_lines ++ last))) p1
    ∙ ap (λ x. put_lines o (instr_lines n x)) (sym (instr_of-loop s initial e body))

pub block_done : (n inner : ℕ) (s : Span) (heads : Vec Head Global) (body : Vec Instr Global) (hs : List Head) (is : List Instr) (o o1 o2 : Output) →
    inner ≡ n + 1 → hs ≡ heads.items → is ≡ body.items →
    o1 ≡ put_line o (reservation_line n (map head_of hs)) → o2 ≡ put_lines o1 (instrs_lines inner (instrs_of is)) →
    put_lines o2 (line n (word terminal.End ∷ []) ∷ []) ≡ put_lines o (instr_lines n (instr_of (instr.Block s heads body)))
unfolding instr_lines
block_done n inner s heads body hs is o o1 o2 d h i p1 p2 =
    let last = line n (word terminal.End ∷ []) ∷ [] in
    let q1 : o1 ≡ put_line o (reservation_line n (map head_of heads.items)) = p1 ∙ ap (λ xs. put_line o (reservation_line n (map head_of xs))) h in
    let q2 : o2 ≡ put_lines o1 (instrs_lines (n + 1) (instrs_of body.items)) = cc in
    ap (λ u. put_lines u last) q2 ∙ sym (then_lines o1 (instrs_lines (n + 1) (instrs_of body.items)) last)
    ∙ ap (λ u. put_lines u (instrs_lines (n + 1) (instrs_of body.items) ++ last)) q1
    ∙ ap (λ x. put_lines o (instr_lines n x)) (sym (instr_of-block s heads body))

pub instrs_more : (n : ℕ) (xs : List Instr) (i : ℕ) (x : Instr) (o o1 start : Output) →
    i < length xs → x ≡ get_or xs i x → o1 ≡ put_lines o (instr_lines n (instr_of x)) →
    put_lines o (instrs_lines n (instrs_of (drop i xs))) ≡ start → put_lines o1 (instrs_lines n (instrs_of (drop (i + 1) xs))) ≡ start
unfolding instr_lines
instrs_more n xs i x o o1 start h e p was =
    let rest = instrs_lines n (instrs_of (drop (i + 1) xs)) in
    ap (λ u. put_lines u rest) p ∙ sym (put_lines-append o (instr_lines n (instr_of x)) rest)
    ∙ ap (λ ys. put_lines o (instrs_lines n (instrs_of ys))) (sym (drop_at xs i x h e))
    ∙ was

pub branches_more : (n inner : ℕ) (xs : List Branch) (i : ℕ) (x : Branch) (is : List Instr) (o o1 o2 start : Output) →
    i < length xs → x ≡ get_or xs i x → inner ≡ n + 1 → is ≡ x.body.items →
    o1 ≡ put_line o (guard_line n terminal.Elseif (expr_of x.condition)) → o2 ≡ put_lines o1 (instrs_lines inner (instrs_of is)) →
    put_lines o (branches_lines n (branches_of (drop i xs))) ≡ start → put_lines o2 (branches_lines n (branches_of (drop (i + 1) xs))) ≡ start
unfolding instr_lines
branches_more n inner xs i x is o o1 o2 start h e d b p q was =
    let rest = branches_lines n (branches_of (drop (i + 1) xs)) in
    let q2 : o2 ≡ put_lines o1 (instrs_lines (n + 1) (instrs_of x.body.items)) = cc in
    ap (λ u. put_lines u rest) q2 ∙ sym (then_lines o1 (instrs_lines (n + 1) (instrs_of x.body.items)) rest)
    ∙ ap (λ u. put_lines u (instrs_lines (n + 1) (instrs_of x.body.items) ++ rest)) p
    ∙ ap (λ ys. put_lines o (branches_lines n (branches_of ys))) (sym (drop_at xs i x h e))
    ∙ was
