use Rattle.std.proofs.Common.{ap}
use Rattle.sc_audit.proofs.WritingLemmas.{writes-call, writes-kept}
use Rattle.sc_audit.proofs.writing.write_whole.Goals as goal
use Rattle.sc_audit.proofs.writing.write_whole.Goals.{in-Ok, in-Err}

pub loop-preserved : goal.loop-preserved
loop-preserved g c = elim c.match-write.branch [
  | in-Ok w ↦ writes-call _ _ _ _ c.loop.rest.now c.match-write.rest.now w.in-Ok.count w.in-Ok.ensures.bound c.loop.invariant w.in-Ok.ensures.bytes
      (ap (λ r. r.now) w.rest-is)
  | in-Err w ↦ writes-kept _ _ _ _ c.loop.rest.now c.match-write.rest.now c.loop.invariant w.in-Err.ensures.bytes (ap (λ r. r.now) w.rest-is)
]
