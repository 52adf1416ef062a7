use Rattle.sc_machine_laws.proofs.settlements.Clausal.{clauses_come_first}
use Rattle.sc_machine_laws.proofs.settlements.laws.clauses_come_first.Goals as goal

pub returns : goal.returns
returns c = clauses_come_first
