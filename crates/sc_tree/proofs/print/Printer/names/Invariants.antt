use Rattle.std.proofs.Common.{◌≡◌, [], ◌∷◌, drop, map}
use Rattle.sc_text.specs.declared.token.Terminal.TheVariants as terminal
use Rattle.sc_tree.specs.Canonical.Layout.{word, behind_each}
use Rattle.sc_tree.specs.Canonical.Expressions.{name_part}
use Rattle.sc_tree.specs.Internal.Printer.{output_of, puts}
use Rattle.sc_tree.specs.View.{name_of}
use Rattle.sc_tree.proofs.print.Printer.names.Given as goal

abbrev pub invariant-loop-name : goal.invariant-loop-name
invariant-loop-name l =
    puts (output_of l.self) (behind_each (word terminal.Comma) (λ n. name_part n ∷ []) (map name_of (drop l.name-index l.rest)))
    ≡ puts (output_of l.initial.self) (behind_each (word terminal.Comma) (λ n. name_part n ∷ []) (map name_of l.rest))
