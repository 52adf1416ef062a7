use Rattle.sc_interp.proofs.Ahead.{falls}
use Rattle.sc_interp.proofs.laws.silent_operations_fall.Goals as goal

pub returns : goal.returns
returns c = falls
