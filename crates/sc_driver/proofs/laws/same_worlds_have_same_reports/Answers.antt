use Rattle.sc_driver.proofs.SameReports.{same-reports}
use Rattle.sc_driver.proofs.laws.same_worlds_have_same_reports.Goals as goal

pub returns : goal.returns
returns c = same-reports
