use Rattle.sc_driver.proofs.SameWorlds.{runs-audit-yes}
use Rattle.sc_driver.proofs.laws.runs_audit_yes.Goals as goal

pub returns : goal.returns
returns c = runs-audit-yes c.runs_are_one_threads.ensures c.lines_are_a_record.ensures
