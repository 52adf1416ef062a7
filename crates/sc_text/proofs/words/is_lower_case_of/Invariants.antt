use Rattle.std.proofs.Common.{◌≡◌, bytes_eq, drop, length, map}
use Rattle.std.specs.Char.{to_ascii_lowercase}
use Rattle.sc_text.proofs.words.is_lower_case_of.Given as goal

abbrev pub invariant-loop-at : goal.invariant-loop-at
invariant-loop-at l = record {
  same_length : length l.text ≡ length l.word;
  same : bytes_eq (drop l.at l.text) (map to_ascii_lowercase (drop l.at l.word)) ≡ bytes_eq l.text (map to_ascii_lowercase l.word);
}
