-- What the plain tree is of each kind of node.
use Rattle.std.proofs.Common.{◌≡◌, refl}
use Rattle.sc_tree.specs.declared.instruction.Clause.{Clause}
use Rattle.sc_tree.specs.View.{expr_of, clause_of}
use Rattle.sc_tree.proofs.ViewLemmas.{expr_of-integer, expr_of-boolean, expr_of-void, expr_of-current, expr_of-result, expr_of-call, expr_of-unary, expr_of-binary, expr_of-object_test}

pub clause_condition : (c : Clause) → (clause_of c).condition ≡ expr_of c.condition
unfolding clause_of
clause_condition c = refl

pub ruleset expr_views = (expr_of-integer, expr_of-boolean, expr_of-void, expr_of-current, expr_of-result, expr_of-call, expr_of-unary, expr_of-binary, expr_of-object_test, clause_condition)
