use Rattle.std.proofs.Common.{◌≡◌, drop, map}
use Rattle.sc_tree.specs.Canonical.Classes.{local_line}
use Rattle.sc_tree.specs.Internal.Printer.{output_of, put_lines}
use Rattle.sc_tree.specs.View.{declaration_of}
use Rattle.sc_tree.proofs.print.Printer.locals.Given as goal

abbrev pub invariant-loop-local : goal.invariant-loop-local
invariant-loop-local l =
    put_lines (output_of l.self) (map local_line (map declaration_of (drop l.local-index l.locals)))
    ≡ put_lines (output_of l.initial.self) (map local_line (map declaration_of l.locals))
