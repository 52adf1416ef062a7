use Rattle.std.proofs.Common.{◌≡◌, drop, map}
use Rattle.sc_text.specs.declared.token.Terminal.TheVariants as terminal
use Rattle.sc_tree.specs.Canonical.Layout.{word, behind_each}
use Rattle.sc_tree.specs.Canonical.Classes.{declaration_parts}
use Rattle.sc_tree.specs.Internal.Printer.{output_of, puts}
use Rattle.sc_tree.specs.View.{declaration_of}
use Rattle.sc_tree.proofs.print.Printer.formals.Given as goal

abbrev pub invariant-loop-formal : goal.invariant-loop-formal
invariant-loop-formal l =
    puts (output_of l.self) (behind_each (word terminal.Semicolon) declaration_parts (map declaration_of (drop l.formal-index l.rest)))
    ≡ puts (output_of l.initial.self) (behind_each (word terminal.Semicolon) declaration_parts (map declaration_of l.rest))
