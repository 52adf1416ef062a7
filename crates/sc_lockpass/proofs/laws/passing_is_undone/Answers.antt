use Rattle.sc_lockpass.proofs.LawProofs.{restores}
use Rattle.sc_lockpass.proofs.laws.passing_is_undone.Goals as goal

pub returns : goal.returns
returns c = restores
