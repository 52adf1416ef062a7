use Rattle.sc_code.proofs.TypingEntries.{objects_may_change}
use Rattle.sc_code.proofs.laws.objects_may_change.Goals as goal

pub returns : goal.returns
returns c = objects_may_change
