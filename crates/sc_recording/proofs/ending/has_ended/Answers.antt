use Rattle.sc_recording.proofs.Endings.{on_true}
use Rattle.sc_recording.proofs.ending.has_ended.Goals as goal

pub returns-then-is_stopped-clause-over : goal.returns-then-is_stopped-clause-over
returns-then-is_stopped-clause-over g c = λ yes none. absurd (c.is_stopped.ensures.stop c.if-is_stopped.true none)

pub returns-then-is_stopped-clause-home : goal.returns-then-is_stopped-clause-home
returns-then-is_stopped-clause-home g c = λ yes. c.is_stopped.ensures.home c.if-is_stopped.true

pub returns-clause-over : goal.returns-clause-over
returns-clause-over g c = λ yes none. on_true c.is_over.result _ yes c.is_over.ensures.over

pub returns-clause-home : goal.returns-clause-home
returns-clause-home g c = λ yes. (on_true c.is_over.result _ yes c.is_over.ensures.over).home
