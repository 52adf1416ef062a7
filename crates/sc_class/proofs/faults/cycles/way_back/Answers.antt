use Rattle.std.proofs.Common.{refl}
use Rattle.std.proofs.lemmas.Bool.{iff_false}
use Rattle.sc_tree.specs.View.{parent_of, system_of}
use Rattle.sc_class.specs.Tables.Ancestors.{NameLeadsTo}
use Rattle.sc_class.proofs.Items.{item_in, items_more, items_all}
use Rattle.sc_class.proofs.faults.cycles.way_back.Goals as goal

pub returns-then-branch : goal.returns-then-branch
returns-then-branch c =
    let way = NameLeadsTo (system_of c.args.hierarchy.now.system.now) c.args.number (parent_of c.parent-item.result) in (
      c.loop-parent.parent-index,
      parent_of c.parent-item.result,
      item_in parent_of c.args.parents.now c.loop-parent.parent-index c.parent-item.result c.loop-parent-test.true c.parent-item.is,
      λ j r l e n. c.loop-parent.invariant j l r e n,
      c.in_ok-name_leads_to.ensures.0 c.if-branch.true,
      refl,
    )

pub loop-parent-preserved : goal.loop-parent-preserved
loop-parent-preserved c =
    let way = NameLeadsTo (system_of c.args.hierarchy.now.system.now) c.args.number (parent_of c.parent-item.result) in
    items_more parent_of c.args.parents.now (λ i q. NameLeadsTo (system_of c.args.hierarchy.now.system.now) c.args.number q → ⊥) c.loop-parent.parent-index c.parent-item.result c.loop-parent-test.true c.parent-item.is
    c.loop-parent.invariant (iff_false c.in_ok-name_leads_to.ensures c.if-branch.false)

pub returns : goal.returns
returns c = items_all parent_of c.args.parents.now (λ i q. NameLeadsTo (system_of c.args.hierarchy.now.system.now) c.args.number q → ⊥) c.loop-parent.parent-index c.loop-parent-test.false c.loop-parent.invariant
