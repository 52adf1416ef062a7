use Rattle.std.proofs.Common.{List, ap, map, ◌∙◌, arith}
use Rattle.sc_tree.specs.View.{class_of}
use Rattle.sc_class.specs.Internal.DeclaredNames.{names_of_class}
use Rattle.sc_class.proofs.Anys.{one_more, take_end}
use Rattle.sc_class.proofs.class_tables.outline.names_of_each.Goals as goal

pub loop-class-preserved : goal.loop-class-preserved
loop-class-preserved c =
    one_more names_of_class class_of c.args.classes.now c.loop-class.class-index c.class-item.result _ _ c.in_ok-declared_names_of.field-0 (omega arith) c.class-item.is
    c.loop-class.invariant c.in_ok-declared_names_of.ensures c.in_ok-push.ensures.items

pub returns : goal.returns
returns c =
    c.loop-class.invariant
    ∙ ap (λ (cs : List _). map names_of_class (map class_of cs)) (take_end c.args.classes.now c.loop-class.class-index c.loop-class-test.false)
