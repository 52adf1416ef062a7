use Rattle.std.proofs.Common.{sym, ◌∙◌}
use Rattle.std.proofs.lemmas.Result.{on_ok_weaker}
use Rattle.sc_tree.proofs.PrintingClasses.{exports_done}
use Rattle.sc_tree.proofs.print.Printer.exports.Goals as goal

pub returns : goal.returns
returns c =
    on_ok_weaker c.word-2.result
    (exports_done c.args.exports.now _ _ _ _ (sym c.is_empty.ensures ∙ c.if-is_empty.false) c.in_ok-word.ensures c.in_ok-class_names.ensures) c.word-2.ensures
