use Rattle.std.proofs.Common.{◌≡◌, drop, map}
use Rattle.sc_tree.specs.Canonical.Classes.{parent_line}
use Rattle.sc_tree.specs.Internal.Printer.{output_of, put_lines}
use Rattle.sc_tree.specs.View.{parent_of}
use Rattle.sc_tree.proofs.print.Printer.parents.Given as goal

abbrev pub invariant-loop-parent : goal.invariant-loop-parent
invariant-loop-parent l =
    put_lines (output_of l.self) (map parent_line (map parent_of (drop l.parent-index l.parents)))
    ≡ put_lines (output_of l.initial.self) (map parent_line (map parent_of l.parents))
