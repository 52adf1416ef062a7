use Rattle.sc_world.proofs.TurnCounts.{first_turns_serve}
use Rattle.sc_world.proofs.request_laws.first_turns_serve.Goals as goal

pub returns : goal.returns
returns c = first_turns_serve
