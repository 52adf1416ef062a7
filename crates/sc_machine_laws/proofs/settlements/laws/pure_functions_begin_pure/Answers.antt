use Rattle.sc_machine_laws.proofs.settlements.Callers.{pure_begin_pure}
use Rattle.sc_machine_laws.proofs.settlements.laws.pure_functions_begin_pure.Goals as goal

pub returns : goal.returns
returns c = pure_begin_pure
