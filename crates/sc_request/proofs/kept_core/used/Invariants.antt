use Rattle.sc_request.specs.Keeping.{AreNewFrom}
use Rattle.sc_request.proofs.kept_core.used.Given as goal

abbrev pub invariant-loop-count : goal.invariant-loop-count
invariant-loop-count l = AreNewFrom l.count l.handlers l.sessions

abbrev pub decreases-loop-count : goal.decreases-loop-count
decreases-loop-count l = l.count
