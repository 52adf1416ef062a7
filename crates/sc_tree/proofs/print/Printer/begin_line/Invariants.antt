use Rattle.std.proofs.Common.{◌≡◌, ◌++◌, replicate}
use Rattle.sc_text.specs.Characters.{tab}
use Rattle.sc_tree.proofs.print.Printer.begin_line.Given as goal

abbrev pub invariant-loop : goal.invariant-loop
invariant-loop l = l.self.text.items ≡ l.initial.self.text.items ++ replicate l.counter tab
