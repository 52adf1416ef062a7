use Rattle.std.proofs.Common.{[], ◌∷◌, arith}
use Rattle.sc_text.specs.declared.token.Terminal.TheVariants as terminal
use Rattle.sc_tree.specs.Canonical.Layout.{word}
use Rattle.sc_tree.specs.Canonical.Expressions.{name_part}
use Rattle.sc_tree.specs.View.{name_of}
use Rattle.sc_tree.proofs.PrintingLines.{behind_each_more, separated_done}
use Rattle.sc_tree.proofs.print.Printer.names.Goals as goal

pub loop-name-preserved : goal.loop-name-preserved
loop-name-preserved c =
    behind_each_more name_of (word terminal.Comma) (λ n. name_part n ∷ []) _ c.loop-name.name-index c.name-item.result _ _ _ _ (omega arith) c.name-item.is c.in_ok-word.ensures c.in_ok-name-2.ensures c.loop-name.invariant

pub returns : goal.returns
returns c =
    separated_done name_of (word terminal.Comma) (λ n. name_part n ∷ []) c.args.names.now c.first-item.result c.loop-name.name-index _ _ _ c.in-len1-up.len_at_least c.first-item.is (omega arith) c.in_ok-name.ensures c.loop-name.invariant
