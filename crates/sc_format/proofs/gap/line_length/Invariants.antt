use Rattle.std.proofs.Common.{◌≡◌, ◌+◌, drop}
use Rattle.std.specs.List.{prefix_len}
use Rattle.sc_text.specs.Characters.{is_comment_part}
use Rattle.sc_format.proofs.gap.line_length.Given as goal

abbrev pub invariant-loop-at : goal.invariant-loop-at
invariant-loop-at l = l.at + prefix_len is_comment_part (drop l.at l.text) ≡ prefix_len is_comment_part l.text
