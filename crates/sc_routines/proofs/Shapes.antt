-- The plain instruction that one in memory is, where its parts were borrowed.
use Rattle.std.proofs.Common.{◌≡◌, List, ap, sym, ◌∙◌, map}
use Rattle.std.specs.declared.vec.Vec.{Vec}
use Rattle.std.specs.declared.alloc.Global.{Global}
use Rattle.sc_text.specs.declared.token.Span.{Span}
use Rattle.sc_tree.specs.declared.expression.Expr.{Expr}
use Rattle.sc_tree.specs.declared.instruction.Head.{Head}
use Rattle.sc_tree.specs.declared.instruction.Instr.{Instr}
use Rattle.sc_tree.specs.declared.instruction.Instr.TheVariants as instr
use Rattle.sc_tree.specs.declared.instruction.Branch.{Branch}
use Rattle.sc_tree.specs.Plain as plain
use Rattle.sc_tree.specs.View.{branches_of, expr_of, head_of, instr_of, instrs_of}
use Rattle.sc_tree.proofs.ViewLemmas.{instr_of-if, instr_of-loop, instr_of-block}

pub if_is : (i : Instr) (s : Span) (e : Expr) (body : Vec Instr Global) (branches : Vec Branch Global) (other : Vec Instr Global) (is : List Instr) (bs : List Branch) (os : List Instr) →
    i ≡ instr.If s e body branches other → is ≡ body.items → bs ≡ branches.items → os ≡ other.items → instr_of i ≡ plain.If s (expr_of e) (instrs_of is) (branches_of bs) (instrs_of os)
if_is i s e body branches other is bs os q a b c =
    ap instr_of q ∙ instr_of-if s e body branches other
    ∙ ap (λ (is : List Instr). plain.If s (expr_of e) (instrs_of is) (branches_of branches.items) (instrs_of other.items)) (sym a)
    ∙ ap (λ (bs : List Branch). plain.If s (expr_of e) (instrs_of is) (branches_of bs) (instrs_of other.items)) (sym b)
    ∙ ap (λ (os : List Instr). plain.If s (expr_of e) (instrs_of is) (branches_of bs) (instrs_of os)) (sym c)

pub loop_is : (i : Instr) (s : Span) (initial : Vec Instr Global) (e : Expr) (body : Vec Instr Global) (is bs : List Instr) →
    i ≡ instr.Loop s initial e body → is ≡ initial.items → bs ≡ body.items → instr_of i ≡ plain.Loop s (instrs_of is) (expr_of e) (instrs_of bs)
loop_is i s initial e body is bs q a b =
    ap instr_of q ∙ instr_of-loop s initial e body
    ∙ ap (λ (is : List Instr). plain.Loop s (instrs_of is) (expr_of e) (instrs_of body.items)) (sym a)
    ∙ ap (λ (bs : List Instr). plain.Loop s (instrs_of is) (expr_of e) (instrs_of bs)) (sym b)

pub block_is : (i : Instr) (s : Span) (heads : Vec Head Global) (body : Vec Instr Global) (ds : List Head) (bs : List Instr) →
    i ≡ instr.Block s heads body → ds ≡ heads.items → bs ≡ body.items → instr_of i ≡ plain.Block s (map head_of ds) (instrs_of bs)
block_is i s heads body ds bs q a b =
    ap instr_of q ∙ instr_of-block s heads body
    ∙ ap (λ (ds : List Head). plain.Block s (map head_of ds) (instrs_of body.items)) (sym a)
    ∙ ap (λ (bs : List Instr). plain.Block s (map head_of ds) (instrs_of bs)) (sym b)
