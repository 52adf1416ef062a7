use Rattle.sc_audit.proofs.Lines.{one-record}
use Rattle.sc_audit.proofs.laws.one_record.Goals as goal

pub returns : goal.returns
returns c = one-record
