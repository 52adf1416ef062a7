use Rattle.std.proofs.Common.{sym, ◌∙◌}
use Rattle.std.proofs.lemmas.Result.{on_ok_weaker}
use Rattle.sc_tree.proofs.PrintingClasses.{redefined_done}
use Rattle.sc_tree.proofs.print.Printer.redefined.Goals as goal

pub returns : goal.returns
returns c =
    on_ok_weaker c.word-2.result
    (redefined_done c.args.names.now _ _ _ _ (sym c.is_empty.ensures ∙ c.if-is_empty.false) c.in_ok-word.ensures c.in_ok-names.ensures) c.word-2.ensures
