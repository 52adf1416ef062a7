use Rattle.sc_machine_laws.proofs.settlements.Callers.{pure_call_pure}
use Rattle.sc_machine_laws.proofs.settlements.laws.pure_functions_call_pure.Goals as goal

pub returns : goal.returns
returns c = pure_call_pure
