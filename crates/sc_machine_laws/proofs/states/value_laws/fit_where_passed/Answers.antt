use Rattle.sc_machine_laws.proofs.states.PassingLaws.{fit_where_passed}
use Rattle.sc_machine_laws.proofs.states.value_laws.fit_where_passed.Goals as goal

pub returns : goal.returns
returns c = fit_where_passed
