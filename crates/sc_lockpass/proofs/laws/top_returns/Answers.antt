use Rattle.sc_lockpass.proofs.LawProofs.{top_returns}
use Rattle.sc_lockpass.proofs.laws.top_returns.Goals as goal

pub returns : goal.returns
returns c = top_returns
