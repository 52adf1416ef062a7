use Rattle.std.proofs.Common.{arith, rules}
use Rattle.sc_text.proofs.PartLengths.{number_too_large}
use Rattle.sc_text.proofs.scan.number.Goals as goal

pub returns-then-value-digit : goal.returns-then-value-digit
returns-then-value-digit c =
    number_too_large c.args.digits.now c.loop-byte.value c.loop-byte.byte-index c.loop-byte-test.true (search rules) c.loop-byte.invariant.same (omega arith)
