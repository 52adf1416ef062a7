use Rattle.sc_world.proofs.SettledCounts.{settlements_serve}
use Rattle.sc_world.proofs.request_laws.settlements_serve.Goals as goal

pub returns : goal.returns
returns c = settlements_serve
