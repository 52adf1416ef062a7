use Rattle.sc_audit.proofs.StepLemmas.{end-misfit}
use Rattle.sc_audit.proofs.beginning.Beginning.after_version.Goals as goal

pub returns-else-byte-eq10 : goal.returns-else-byte-eq10
returns-else-byte-eq10 c = end-misfit c.args.self.now c.args.byte c.requires.at c.if-byte-eq10.false
