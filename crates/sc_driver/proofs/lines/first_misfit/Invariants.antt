use Rattle.std.proofs.Common.{◌≡◌, ◌+◌, take}
use Rattle.sc_audit.specs.Records.{IsRecord, most_turns, turns_of}
use Rattle.sc_driver.proofs.lines.first_misfit.Given as goal

-- the lines before are a record's, and so many turns are left
abbrev pub invariant-loop-place : goal.invariant-loop-place
invariant-loop-place l = record {
  fits : IsRecord l.version (take l.place l.lines);
  sum : turns_of (take l.place l.lines) + l.turns_left ≡ most_turns;
}
