use Rattle.sc_interp.proofs.Behind.{passes}
use Rattle.sc_interp.proofs.laws.visible_operations_pass.Goals as goal

pub returns : goal.returns
returns c = passes
