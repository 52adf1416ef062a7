use Rattle.sc_worklog.proofs.ReplayedTurns.{entries_are_the_handlers}
use Rattle.sc_worklog.proofs.laws.entries_are_the_handlers.Goals as goal

pub returns : goal.returns
returns c = entries_are_the_handlers
