use Rattle.sc_text.proofs.Whole.{no_spelling_of_faults_lem}
use Rattle.sc_text.proofs.laws.no_spelling_of_faults.Goals as goal

pub returns : goal.returns
returns c = no_spelling_of_faults_lem
