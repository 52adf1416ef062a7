use Rattle.std.proofs.Common.{◌≡◌, ◌+◌, drop}
use Rattle.std.specs.List.{prefix_len}
use Rattle.sc_text.specs.Reading.Lengths.{is_bare}
use Rattle.sc_text.proofs.scan.unmarked_length.Given as goal

abbrev pub invariant-loop-at : goal.invariant-loop-at
invariant-loop-at l = l.at + prefix_len is_bare (drop l.at l.text) ≡ prefix_len is_bare l.text
