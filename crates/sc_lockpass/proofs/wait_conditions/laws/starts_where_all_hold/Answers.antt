use Rattle.sc_lockpass.proofs.wait_conditions.WaitLaws.{starts_where_all_hold}
use Rattle.sc_lockpass.proofs.wait_conditions.laws.starts_where_all_hold.Goals as goal

pub returns : goal.returns
returns c = starts_where_all_hold
