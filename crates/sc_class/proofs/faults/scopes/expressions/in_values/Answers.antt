use Rattle.std.proofs.Common.{refl, List, map}
use Rattle.sc_tree.specs.declared.instruction.Head.{Head}
use Rattle.sc_tree.specs.View.{expr_of, head_of}
use Rattle.sc_class.specs.Internal.Places.{union}
use Rattle.sc_class.specs.Internal.ScopeSearch.{expr_clash, values_clash}
use Rattle.sc_class.proofs.ScopeSteps.{search_more, search_end}
use Rattle.sc_class.proofs.faults.scopes.expressions.in_values.Goals as goal

pub loop-head-preserved : goal.loop-head-preserved
unfolding values_clash head_of
loop-head-preserved c =
    search_more (λ (xs : List Head). values_clash c.args.features.now c.args.known.now (map head_of xs)) (λ (x : Head). expr_clash c.args.features.now c.args.known.now (expr_of x.value)) c.args.heads.now (λ x xs. refl)
    (union c.args.found.now (values_clash c.args.features.now c.args.known.now (map head_of c.args.heads.now))) c.loop-head.found c.in_expression.new.found c.loop-head.head-index c.head-item.result c.loop-head.invariant c.loop-head-test.true c.head-item.is c.in_ok-in_expression.ensures

pub returns : goal.returns
unfolding values_clash head_of
returns c =
    search_end (λ (xs : List Head). values_clash c.args.features.now c.args.known.now (map head_of xs)) (λ (x : Head). expr_clash c.args.features.now c.args.known.now (expr_of x.value)) c.args.heads.now refl
    (union c.args.found.now (values_clash c.args.features.now c.args.known.now (map head_of c.args.heads.now))) c.loop-head.found c.loop-head.head-index c.loop-head.invariant c.loop-head-test.false
