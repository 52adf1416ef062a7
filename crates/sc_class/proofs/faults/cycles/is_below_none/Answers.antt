use Rattle.sc_tree.specs.View.{parent_of, system_of}
use Rattle.sc_class.specs.Internal.Search.{IsNotBelow}
use Rattle.sc_class.proofs.Items.{items_more, items_all}
use Rattle.sc_class.proofs.faults.cycles.is_below_none.Goals as goal

pub loop-parent-preserved : goal.loop-parent-preserved
loop-parent-preserved c =
    items_more parent_of c.args.parents.now (λ i q. IsNotBelow (system_of c.args.hierarchy.now.system.now) c.args.ranks.now c.args.number q) c.loop-parent.parent-index c.parent-item.result c.loop-parent-test.true c.parent-item.is
    c.loop-parent.invariant c.if-not-is_not_below.ensures

pub returns : goal.returns
returns c =
    items_all parent_of c.args.parents.now (λ i q. IsNotBelow (system_of c.args.hierarchy.now.system.now) c.args.ranks.now c.args.number q) c.loop-parent.parent-index c.loop-parent-test.false c.loop-parent.invariant
