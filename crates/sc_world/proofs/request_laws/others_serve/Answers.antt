use Rattle.sc_world.proofs.SettledCounts.{others_serve}
use Rattle.sc_world.proofs.request_laws.others_serve.Goals as goal

pub returns : goal.returns
returns c = others_serve
