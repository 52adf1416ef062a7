use Rattle.sc_lockpass.proofs.wait_conditions.EntryLaws.{entry_holds}
use Rattle.sc_lockpass.proofs.wait_conditions.laws.entry_holds_all.Goals as goal

pub returns : goal.returns
returns c = entry_holds
