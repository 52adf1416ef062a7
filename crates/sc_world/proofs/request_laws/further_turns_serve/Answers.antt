use Rattle.sc_world.proofs.TurnCounts.{further_turns_serve}
use Rattle.sc_world.proofs.request_laws.further_turns_serve.Goals as goal

pub returns : goal.returns
returns c = further_turns_serve
