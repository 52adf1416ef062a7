use Rattle.std.proofs.Common.{◌≡◌, ◌+◌, drop}
use Rattle.std.specs.List.{prefix_len}
use Rattle.sc_text.specs.Characters.{is_name_part}
use Rattle.sc_text.proofs.scan.name_ahead.Given as goal

abbrev pub invariant-loop-at : goal.invariant-loop-at
invariant-loop-at l = l.at + prefix_len is_name_part (drop l.at l.text) ≡ prefix_len is_name_part l.text
