use Rattle.sc_machine_laws.proofs.settlements.Purely.{each_pure_is_calm}
use Rattle.sc_machine_laws.proofs.settlements.laws.pure_functions_stay_calm.Goals as goal

pub returns : goal.returns
returns c = each_pure_is_calm
