use Rattle.std.proofs.Common.{◌≡◌, ◌++◌}
use Rattle.std.specs.Prelude.{replicate}
use Rattle.sc_text.specs.Characters.{tab}
use Rattle.sc_format.proofs.gap.push_line_start.Given as goal

abbrev pub invariant-loop : goal.invariant-loop
invariant-loop l = l.output.items ≡ l.initial.output.items ++ replicate l.counter tab
