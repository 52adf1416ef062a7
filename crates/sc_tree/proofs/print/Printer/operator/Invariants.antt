use Rattle.std.proofs.Common.{◌≡◌, drop, map}
use Rattle.sc_tree.specs.Canonical.Layout.{word}
use Rattle.sc_tree.specs.Internal.Printer.{output_of, puts}
use Rattle.sc_tree.proofs.print.Printer.operator.Given as goal

abbrev pub invariant-loop-terminal : goal.invariant-loop-terminal
invariant-loop-terminal l =
    puts (output_of l.self) (map word (drop l.terminal-index l.terminal-items)) ≡ puts (output_of l.initial.self) (map word l.terminal-items)
