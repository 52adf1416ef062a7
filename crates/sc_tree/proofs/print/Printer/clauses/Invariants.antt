use Rattle.std.proofs.Common.{◌≡◌, drop, map}
use Rattle.sc_tree.specs.Canonical.Instructions.{clauses_lines}
use Rattle.sc_tree.specs.Internal.Printer.{output_of, put_lines}
use Rattle.sc_tree.specs.View.{clause_of}
use Rattle.sc_tree.proofs.print.Printer.clauses.Given as goal

abbrev pub invariant-loop-i : goal.invariant-loop-i
invariant-loop-i l =
    put_lines (output_of l.self) (clauses_lines l.indent (map clause_of (drop l.i l.clauses)))
    ≡ put_lines (output_of l.initial.self) (clauses_lines l.indent (map clause_of l.clauses))
