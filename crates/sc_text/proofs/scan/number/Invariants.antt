use Rattle.std.proofs.Common.{◌≡◌, ◌≤◌, drop}
use Rattle.sc_text.specs.Characters.{decimal_from, decimal}
use Rattle.sc_text.proofs.scan.number.Given as goal

abbrev pub invariant-loop-byte : goal.invariant-loop-byte
invariant-loop-byte l = record { fits : l.value ≤ 9223372036854775807; same : decimal_from l.value (drop l.byte-index l.digits) ≡ decimal l.digits }
