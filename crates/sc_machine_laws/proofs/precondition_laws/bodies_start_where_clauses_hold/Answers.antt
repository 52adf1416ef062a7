use Rattle.sc_machine_laws.proofs.Starts.{bodies_start_where_they_hold}
use Rattle.sc_machine_laws.proofs.precondition_laws.bodies_start_where_clauses_hold.Goals as goal

pub returns : goal.returns
returns c = bodies_start_where_they_hold
