use Rattle.std.proofs.Common.{◌≡◌, ◌+◌, false, [], length, string_bytes, IsUtf8}
use Rattle.sc_text.specs.Reading.Front.{marks_read}
use Rattle.sc_text.proofs.lexer.marks_read.Given as goal

abbrev pub invariant-loop-rest : goal.invariant-loop-rest
invariant-loop-rest l = record {
  utf8 : IsUtf8 l.rest;
  place : l.at + length l.rest ≡ l.place + length l.text;
  same : marks_read false (string_bytes l.value) l.at l.rest ≡ marks_read false [] l.place l.text;
}

abbrev pub decreases-loop-rest : goal.decreases-loop-rest
decreases-loop-rest l = length l.rest
