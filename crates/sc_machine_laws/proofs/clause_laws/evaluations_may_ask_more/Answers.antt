use Rattle.sc_machine_laws.proofs.Locally.{evaluations_may_ask_more}
use Rattle.sc_machine_laws.proofs.clause_laws.evaluations_may_ask_more.Goals as goal

pub returns : goal.returns
returns c = evaluations_may_ask_more
