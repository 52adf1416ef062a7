use Rattle.sc_audit.proofs.FaultLemmas.{one-line}
use Rattle.sc_audit.proofs.laws.one_line_at_fault.Goals as goal

pub returns : goal.returns
returns c = one-line
