use Rattle.std.proofs.Common.{◌≡◌, drop, map}
use Rattle.sc_tree.specs.Canonical.Classes.{further_classes_lines}
use Rattle.sc_tree.specs.Internal.Printer.{output_of, put_lines}
use Rattle.sc_tree.specs.View.{class_of}
use Rattle.sc_tree.proofs.print.Printer.classes.Given as goal

abbrev pub invariant-loop-class : goal.invariant-loop-class
invariant-loop-class l =
    put_lines (output_of l.self) (further_classes_lines (map class_of (drop l.class-index l.rest)))
    ≡ put_lines (output_of l.initial.self) (further_classes_lines (map class_of l.rest))
