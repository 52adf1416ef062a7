use Rattle.sc_machine_laws.proofs.settlements.Clausal.{clauses_call_pure}
use Rattle.sc_machine_laws.proofs.settlements.laws.clauses_call_pure.Goals as goal

pub returns : goal.returns
returns c = clauses_call_pure
