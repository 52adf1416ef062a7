use Rattle.sc_language_server.proofs.Messages.{writes_more}
use Rattle.sc_language_server.proofs.serving.publish.Goals as goal

pub loop-system-preserved : goal.loop-system-preserved
loop-system-preserved g c = record { written = writes_more _ _ _ c.loop-system.invariant.written c.in_ok-publish_system.ensures }
