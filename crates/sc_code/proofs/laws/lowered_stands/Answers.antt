use Rattle.sc_code.proofs.Beginning.{lowered_stands}
use Rattle.sc_code.proofs.laws.lowered_stands.Goals as goal

pub returns : goal.returns
returns c = lowered_stands
