use Rattle.std.proofs.Common.{arith}
use Rattle.sc_text.specs.declared.token.Terminal.TheVariants as terminal
use Rattle.sc_tree.specs.Canonical.Layout.{word}
use Rattle.sc_tree.specs.Canonical.Instructions.{head_parts}
use Rattle.sc_tree.specs.View.{head_of}
use Rattle.sc_tree.proofs.PrintingLines.{behind_each_more, separated_done}
use Rattle.sc_tree.proofs.print.Printer.heads.Goals as goal

pub loop-head-preserved : goal.loop-head-preserved
loop-head-preserved c =
    behind_each_more head_of (word terminal.Comma) head_parts _ c.loop-head.head-index c.head-item.result _ _ _ _ (omega arith) c.head-item.is c.in_ok-word.ensures c.in_ok-head-2.ensures c.loop-head.invariant

pub returns : goal.returns
returns c =
    separated_done head_of (word terminal.Comma) head_parts c.args.heads.now c.first-item.result c.loop-head.head-index _ _ _ c.in-len1-up.len_at_least c.first-item.is (omega arith) c.in_ok-head.ensures c.loop-head.invariant
