use Rattle.sc_model.proofs.Joins.{run_append}
use Rattle.sc_model.proofs.laws.runs_join.Goals as goal

pub returns : goal.returns
returns c = run_append
