use Rattle.std.proofs.lemmas.Result.{on_ok_weaker}
use Rattle.sc_tree.proofs.PrintingParts.{head_done}
use Rattle.sc_tree.proofs.print.Printer.head.Goals as goal

pub returns : goal.returns
returns c = on_ok_weaker c.name.result (head_done c.args.head.now _ _ _ _ c.in_ok-expr.ensures c.in_ok-word.ensures) c.name.ensures
