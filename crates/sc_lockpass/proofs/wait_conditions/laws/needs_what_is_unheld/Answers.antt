use Rattle.sc_lockpass.proofs.wait_conditions.EntryLaws.{needs_unheld}
use Rattle.sc_lockpass.proofs.wait_conditions.laws.needs_what_is_unheld.Goals as goal

pub returns : goal.returns
returns c = needs_unheld
