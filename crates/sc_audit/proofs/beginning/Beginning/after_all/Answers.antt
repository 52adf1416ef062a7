use Rattle.sc_audit.proofs.StepLemmas.{all-misfit}
use Rattle.sc_audit.proofs.beginning.Beginning.after_all.Goals as goal

pub returns : goal.returns
returns c = all-misfit c.args.self.now c.args.byte c.requires.kept c.requires.at
