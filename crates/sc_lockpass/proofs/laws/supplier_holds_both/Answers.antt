use Rattle.sc_lockpass.proofs.LawProofs.{supplier_holds}
use Rattle.sc_lockpass.proofs.laws.supplier_holds_both.Goals as goal

pub returns : goal.returns
returns c = supplier_holds
