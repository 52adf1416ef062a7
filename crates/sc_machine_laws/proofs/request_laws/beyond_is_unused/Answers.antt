use Rattle.sc_machine_laws.proofs.Tops.{beyond_is_unused}
use Rattle.sc_machine_laws.proofs.request_laws.beyond_is_unused.Goals as goal

pub returns : goal.returns
returns c = beyond_is_unused
