use Rattle.std.proofs.Common.{◌≡◌, ◌≤◌, drop}
use Rattle.sc_text.specs.Reading.Lengths.{integer_end}
use Rattle.sc_text.proofs.scan.integer_length.Given as goal

abbrev pub invariant-loop-at : goal.invariant-loop-at
invariant-loop-at l = record { within : l.end ≤ l.at; same : integer_end l.at l.end (drop l.at l.text) ≡ integer_end 0 0 l.text }
