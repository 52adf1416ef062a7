use Rattle.std.proofs.Common.{List, ap, map, ◌∙◌, arith}
use Rattle.sc_tree.specs.View.{class_of}
use Rattle.sc_class.specs.Tables.Ancestors.{parent_in}
use Rattle.sc_class.proofs.Anys.{one_more, take_end}
use Rattle.sc_class.proofs.class_tables.hierarchy.parents_of.Goals as goal

pub loop-class-preserved : goal.loop-class-preserved
loop-class-preserved c =
    one_more (parent_in c.args.names.now) class_of c.args.classes.now c.loop-class.class-index c.class-item.result _ _ _ (omega arith) c.class-item.is
    c.loop-class.invariant c.parent_class.ensures c.in_ok-push.ensures.items

pub returns : goal.returns
returns c =
    c.loop-class.invariant
    ∙ ap (λ (cs : List _). map (parent_in c.args.names.now) (map class_of cs)) (take_end c.args.classes.now c.loop-class.class-index c.loop-class-test.false)
