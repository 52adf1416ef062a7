use Rattle.sc_search.specs.Ends.{AreEnds}
use Rattle.sc_search.proofs.ends.ends_after.Given as goal

-- those so far are ends
abbrev pub invariant-loop-outcome : goal.invariant-loop-outcome
invariant-loop-outcome l = AreEnds l.subject.program.now.image l.subject.version l.ends.items
