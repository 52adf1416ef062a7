use Rattle.std.proofs.Common.{ap, ◌∙◌}
use Rattle.sc_serve.specs.Answer.{exit_of}
use Rattle.sc_serve.proofs.replaying.play.Goals as goal

-- how the handlers stand after the replay
pub returns-clause-answer : goal.returns-clause-answer
returns-clause-answer g c =
    (c.in_ok-outcome.outcome.statuses.items, c.in_ok-outcome.ensures, c.exit_of-exit.ensures ∙ ap exit_of c.as_slice.ensures.value)
