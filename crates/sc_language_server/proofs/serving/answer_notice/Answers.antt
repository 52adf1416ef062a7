use Rattle.sc_language_server.proofs.Messages.{writes_after}
use Rattle.sc_language_server.proofs.serving.answer_notice.Goals as goal

pub returns-in_ok-write_lines-in-Ok-Closed : goal.returns-in_ok-write_lines-in-Ok-Closed
returns-in_ok-write_lines-in-Ok-Closed g c =
    writes_after _ _ _ c.publish-in-Ok-Closed.result c.in_ok-write_lines-in-Ok-Closed.ensures c.publish-in-Ok-Closed.ensures
