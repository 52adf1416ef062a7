use Rattle.sc_lockpass.proofs.LawProofs.{release_restores}
use Rattle.sc_lockpass.proofs.laws.reserving_is_undone.Goals as goal

pub returns : goal.returns
returns c = release_restores
