use Rattle.sc_machine_laws.proofs.states.ValueAwaitedEnds.{each_non_separate_is_own}
use Rattle.sc_machine_laws.proofs.states.value_laws.each_non_separate_is_own.Goals as goal

pub returns : goal.returns
returns c = each_non_separate_is_own
