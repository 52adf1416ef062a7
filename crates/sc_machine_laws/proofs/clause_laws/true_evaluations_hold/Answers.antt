use Rattle.sc_machine_laws.proofs.TrueClauses.{true_evaluations_hold}
use Rattle.sc_machine_laws.proofs.clause_laws.true_evaluations_hold.Goals as goal

pub returns : goal.returns
returns c = true_evaluations_hold
