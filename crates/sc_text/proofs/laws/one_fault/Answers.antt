use Rattle.sc_text.proofs.Whole.{one_fault_lem}
use Rattle.sc_text.proofs.laws.one_fault.Goals as goal

pub returns : goal.returns
returns c = one_fault_lem
