use Rattle.std.proofs.Common.{arith}
use Rattle.std.proofs.lemmas.Result.{on_ok_weaker}
use Rattle.sc_text.specs.declared.token.Terminal.TheVariants as terminal
use Rattle.sc_tree.specs.Canonical.Layout.{word}
use Rattle.sc_tree.specs.Canonical.Classes.{declaration_parts}
use Rattle.sc_tree.specs.View.{declaration_of}
use Rattle.sc_tree.proofs.PrintingLines.{behind_each_more, separated_done}
use Rattle.sc_tree.proofs.PrintingClasses.{formals_done}
use Rattle.sc_tree.proofs.print.Printer.formals.Goals as goal

pub loop-formal-preserved : goal.loop-formal-preserved
loop-formal-preserved c =
    behind_each_more declaration_of (word terminal.Semicolon) declaration_parts _ c.loop-formal.formal-index c.formal-item.result _ _ _ _ (omega arith) c.formal-item.is c.in_ok-word-2.ensures c.in_ok-declaration-2.ensures c.loop-formal.invariant

pub returns : goal.returns
returns c =
    on_ok_weaker c.word-2.result
    (formals_done c.args.formals.now _ _ _ _ c.in-len1-up.len_at_least c.in_ok-word.ensures
    (separated_done declaration_of (word terminal.Semicolon) declaration_parts c.args.formals.now c.first-item.result c.loop-formal.formal-index _ _ _ c.in-len1-up.len_at_least c.first-item.is (omega arith) c.in_ok-declaration.ensures c.loop-formal.invariant))
    c.word-2.ensures
