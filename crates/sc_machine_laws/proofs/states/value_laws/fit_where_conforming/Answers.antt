use Rattle.sc_machine_laws.proofs.states.PassingLaws.{fit_where_conforming}
use Rattle.sc_machine_laws.proofs.states.value_laws.fit_where_conforming.Goals as goal

pub returns : goal.returns
returns c = fit_where_conforming
