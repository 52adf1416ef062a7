use Rattle.sc_machine_laws.proofs.Unlent.{ends_the_one}
use Rattle.sc_machine_laws.proofs.request_laws.ends_the_one.Goals as goal

pub returns : goal.returns
returns c = ends_the_one
