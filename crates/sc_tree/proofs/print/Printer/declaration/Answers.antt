use Rattle.std.proofs.lemmas.Result.{on_ok_weaker}
use Rattle.sc_tree.proofs.PrintingParts.{declaration_done}
use Rattle.sc_tree.proofs.print.Printer.declaration.Goals as goal

pub returns : goal.returns
returns c =
    on_ok_weaker c.declared_type.result (declaration_done c.args.declaration.now _ _ _ _ c.in_ok-name.ensures c.in_ok-word.ensures) c.declared_type.ensures
