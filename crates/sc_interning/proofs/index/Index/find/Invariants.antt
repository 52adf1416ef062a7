use Rattle.std.proofs.Common.{length}
use Rattle.sc_interning.proofs.Chained.{Misses}
use Rattle.sc_interning.proofs.index.Index.find.Given as goal

-- nothing fits at the numbers from here on
abbrev pub invariant-loop-at : goal.invariant-loop-at
invariant-loop-at g l = Misses l.self.links.items (length l.self.firsts.items) l.hash (g.P.Probe.Fits l.probe) l.at

abbrev pub decreases-loop-at : goal.decreases-loop-at
decreases-loop-at g l = l.at
