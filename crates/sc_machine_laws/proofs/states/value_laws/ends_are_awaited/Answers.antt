use Rattle.sc_machine_laws.proofs.states.ValueAwaitedEnds.{each_end_is_awaited}
use Rattle.sc_machine_laws.proofs.states.value_laws.ends_are_awaited.Goals as goal

pub returns : goal.returns
returns c = each_end_is_awaited
