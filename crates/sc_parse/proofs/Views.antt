-- What the plain tree is of what code builds, with its places.
use Rattle.std.proofs.Common.{◌≡◌, List, [], ◌∷◌, ◌++◌, refl, ap}
use Rattle.std.specs.Prelude.{map}
use Rattle.sc_tree.specs.declared.expression.Expr.{Expr}
use Rattle.sc_tree.specs.declared.instruction.Head.{Head}
use Rattle.sc_tree.specs.declared.instruction.Instr.{Instr}
use Rattle.sc_tree.specs.declared.instruction.Branch.{Branch}
use Rattle.sc_tree.specs.declared.system.Feature.{Feature}
use Rattle.sc_tree.specs.declared.system.Class.{Class}
use Rattle.sc_tree.specs.Plain as plain
use Rattle.sc_tree.specs.Internal.Reading.Expressions.{exprs_push}
use Rattle.sc_tree.specs.Internal.Reading.Instructions.{instrs_push, branches_push}
use Rattle.sc_tree.specs.View.{name_of, expr_of, exprs_of, instr_of, instrs_of, branches_of, head_of, clause_of, kind_of, feature_of, mark_if_any, parent_of, class_of}

pub map-push : {A B : Type 0} (f : A → B) (xs : List A) (x : A) → map f (xs ++ x ∷ []) ≡ map f xs ++ f x ∷ []
map-push f [] x = refl
map-push f (y ∷ xs) x = ap (λ (r : List _). f y ∷ r) (map-push f xs x)

pub exprs_of-push : (es : List Expr) (e : Expr) → exprs_of (es ++ e ∷ []) ≡ exprs_push (exprs_of es) (expr_of e)
exprs_of-push [] e = refl
exprs_of-push (u ∷ es) e = ap (plain.expr_then (expr_of u)) (exprs_of-push es e)

pub instrs_of-push : (is : List Instr) (i : Instr) → instrs_of (is ++ i ∷ []) ≡ instrs_push (instrs_of is) (instr_of i)
instrs_of-push [] i = refl
instrs_of-push (j ∷ is) i = ap (plain.instr_then (instr_of j)) (instrs_of-push is i)

pub branches_of-push : (bs : List Branch) (b : Branch) → branches_of (bs ++ b ∷ []) ≡ branches_push (branches_of bs) (expr_of b.condition) (instrs_of b.body.items)
branches_of-push [] b = refl
branches_of-push (a ∷ bs) b = ap (plain.branch_then (expr_of a.condition) (instrs_of a.body.items)) (branches_of-push bs b)

pub head_of-is : (h : Head) → head_of h ≡ record { value = expr_of h.value; name = name_of h.name }
unfolding head_of
head_of-is h = refl

pub feature_of-is : (f : Feature) → feature_of f ≡ record { exports = map name_of f.exports.value.items; name = name_of f.name; kind = kind_of f.kind }
unfolding feature_of
feature_of-is f = refl

pub class_of-is : (c : Class) →
    class_of c
    ≡ record {
      span = c.span;
      mark = mark_if_any c.mark;
      name = name_of c.name;
      parents = map parent_of c.parents.items;
      creators = map name_of c.creators.items;
      features = map feature_of c.features.items;
      invariant = map clause_of c.invariant.items;
    }
unfolding class_of
class_of-is c = refl
