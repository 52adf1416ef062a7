use Rattle.sc_machine_laws.proofs.states.Posts.{posted_under_right}
use Rattle.sc_machine_laws.proofs.states.laws.posted_under_right.Goals as goal

pub returns : goal.returns
returns c = posted_under_right
