use Rattle.sc_rules.proofs.CallLaws.{calls_stand_lem}
use Rattle.sc_rules.proofs.system_laws.calls_stand.Goals as goal

pub returns : goal.returns
returns c = calls_stand_lem
