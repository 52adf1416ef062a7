use Rattle.sc_request.proofs.Turns.{picks}
use Rattle.sc_request.proofs.laws.core_picks_where_the_machine_turns.Goals as goal

pub returns : goal.returns
returns c = picks
