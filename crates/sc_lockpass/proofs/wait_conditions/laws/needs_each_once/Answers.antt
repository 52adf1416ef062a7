use Rattle.sc_lockpass.proofs.wait_conditions.EntryLaws.{needs_once}
use Rattle.sc_lockpass.proofs.wait_conditions.laws.needs_each_once.Goals as goal

pub returns : goal.returns
returns c = needs_once
