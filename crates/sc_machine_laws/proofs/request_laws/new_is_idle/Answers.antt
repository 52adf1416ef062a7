use Rattle.sc_machine_laws.proofs.Unused.{new_is_idle}
use Rattle.sc_machine_laws.proofs.request_laws.new_is_idle.Goals as goal

pub returns : goal.returns
returns c = new_is_idle
