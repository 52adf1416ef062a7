use Rattle.sc_machine_laws.proofs.settlements.Quiet.{pure_reserve_nothing}
use Rattle.sc_machine_laws.proofs.settlements.laws.pure_functions_reserve_nothing.Goals as goal

pub returns : goal.returns
returns c = pure_reserve_nothing
