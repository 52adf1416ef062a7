use Rattle.sc_headline.proofs.Stuck.{stuck_have_none}
use Rattle.sc_headline.proofs.laws.stuck_have_no_turn.Goals as goal

pub returns : goal.returns
returns c = stuck_have_none
