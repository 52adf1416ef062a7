use Rattle.std.proofs.Common.{sym, ◌∙◌}
use Rattle.std.proofs.lemmas.Result.{on_ok_weaker}
use Rattle.sc_tree.proofs.PrintingParts.{assertion_done}
use Rattle.sc_tree.proofs.print.Printer.assertion.Goals as goal

pub returns : goal.returns
returns c =
    on_ok_weaker c.clauses.result
    (assertion_done c.args.indent _ c.args.keyword c.args.clauses.now _ _ _ (sym c.is_empty.ensures ∙ c.if-is_empty.false) c.in_ok-deeper.ensures c.in_ok-word_line.ensures)
    c.clauses.ensures
