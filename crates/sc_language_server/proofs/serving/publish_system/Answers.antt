use Rattle.sc_language_server.proofs.Messages.{writes_more}
use Rattle.sc_language_server.proofs.serving.publish_system.Goals as goal

pub loop-index-preserved : goal.loop-index-preserved
loop-index-preserved g c = record { written = writes_more _ _ _ c.loop-index.invariant.written c.in_ok-write_lines.ensures }
