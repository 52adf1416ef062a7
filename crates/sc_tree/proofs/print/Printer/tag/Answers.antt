use Rattle.std.proofs.lemmas.Result.{on_ok_weaker}
use Rattle.sc_tree.proofs.PrintingParts.{tag_done}
use Rattle.sc_tree.proofs.print.Printer.tag.Goals as goal

pub returns : goal.returns
returns c = on_ok_weaker c.word.result (tag_done c.args.tag.now c.in-Some.name _ _ _ c.in-Some.is c.in_ok-name.ensures) c.word.ensures
