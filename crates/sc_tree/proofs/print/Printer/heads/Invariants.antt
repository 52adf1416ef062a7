use Rattle.std.proofs.Common.{◌≡◌, drop, map}
use Rattle.sc_text.specs.declared.token.Terminal.TheVariants as terminal
use Rattle.sc_tree.specs.Canonical.Layout.{word, behind_each}
use Rattle.sc_tree.specs.Canonical.Instructions.{head_parts}
use Rattle.sc_tree.specs.Internal.Printer.{output_of, puts}
use Rattle.sc_tree.specs.View.{head_of}
use Rattle.sc_tree.proofs.print.Printer.heads.Given as goal

abbrev pub invariant-loop-head : goal.invariant-loop-head
invariant-loop-head l =
    puts (output_of l.self) (behind_each (word terminal.Comma) head_parts (map head_of (drop l.head-index l.rest)))
    ≡ puts (output_of l.initial.self) (behind_each (word terminal.Comma) head_parts (map head_of l.rest))
