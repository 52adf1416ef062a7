use Rattle.std.proofs.Common.{◌≡◌, false, drop}
use Rattle.sc_text.specs.Reading.Lengths.{closing}
use Rattle.sc_text.proofs.scan.closing_quote.Given as goal

abbrev pub invariant-loop-at : goal.invariant-loop-at
invariant-loop-at l = closing l.at l.marked (drop l.at l.text) ≡ closing 0 false l.text
