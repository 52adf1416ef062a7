use Rattle.sc_refines_world.proofs.Attempts.{attempts_have_headline}
use Rattle.sc_refines_world.proofs.laws.attempts_have_headline.Goals as goal

pub returns : goal.returns
returns c = attempts_have_headline c.attempts_run_as_machine.ensures c.machine_has_headline.ensures
