use Rattle.std.proofs.Common.{arith}
use Rattle.sc_tree.proofs.PrintingClasses.{classes_more, classes_done}
use Rattle.sc_tree.proofs.print.Printer.classes.Goals as goal

pub loop-class-preserved : goal.loop-class-preserved
loop-class-preserved c =
    classes_more _ c.loop-class.class-index c.class-item.result _ _ _ _ _ (omega arith) c.class-item.is c.in_ok-begin_line.ensures c.in_ok-end_line.ensures c.in_ok-class-2.ensures c.loop-class.invariant

pub returns : goal.returns
returns c =
    classes_done c.args.classes.now c.first-item.result c.loop-class.class-index _ _ _ c.in-len1-up.len_at_least c.first-item.is (omega arith) c.in_ok-class.ensures c.loop-class.invariant
