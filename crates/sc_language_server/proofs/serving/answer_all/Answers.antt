use Rattle.sc_language_server.proofs.Messages.{writes_more}
use Rattle.sc_language_server.proofs.serving.answer_all.Goals as goal

pub loop-preserved : goal.loop-preserved
loop-preserved g c = record { written = writes_more _ _ _ c.loop.invariant.written c.in_ok-answer_next.ensures }

pub returns-then-not-branch : goal.returns-then-not-branch
returns-then-not-branch g c = writes_more _ _ _ c.loop.invariant.written c.in_ok-answer_next.ensures
