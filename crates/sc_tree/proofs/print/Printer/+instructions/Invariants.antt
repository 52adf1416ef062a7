use Rattle.std.proofs.Common.{◌≡◌, drop}
use Rattle.sc_tree.specs.Canonical.Instructions.{branches_lines, instrs_lines}
use Rattle.sc_tree.specs.Internal.Printer.{output_of, put_lines}
use Rattle.sc_tree.specs.View.{branches_of, instrs_of}
use Rattle.sc_tree.proofs.print.Printer.+instructions.Given as goal

abbrev pub invariant-instrs-loop-instr : goal.invariant-instrs-loop-instr
invariant-instrs-loop-instr l =
    put_lines (output_of l.self) (instrs_lines l.indent (instrs_of (drop l.instr-index l.instrs)))
    ≡ put_lines (output_of l.initial.self) (instrs_lines l.indent (instrs_of l.instrs))

abbrev pub invariant-branches-loop-branch : goal.invariant-branches-loop-branch
invariant-branches-loop-branch l =
    put_lines (output_of l.self) (branches_lines l.indent (branches_of (drop l.branch-index l.branches)))
    ≡ put_lines (output_of l.initial.self) (branches_lines l.indent (branches_of l.branches))
