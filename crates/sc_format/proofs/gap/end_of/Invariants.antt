use Rattle.std.proofs.Common.{◌≡◌, ◌≤◌, drop}
use Rattle.sc_format.specs.Internal.{end_from}
use Rattle.sc_format.proofs.gap.end_of.Given as goal

abbrev pub invariant-loop-at : goal.invariant-loop-at
invariant-loop-at l = record { within : l.end ≤ l.at; same : end_from l.at l.end (drop l.at l.text) ≡ end_from 0 0 l.text }
