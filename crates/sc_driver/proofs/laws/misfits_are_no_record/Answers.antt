use Rattle.sc_driver.proofs.Misfits.{misfits-are-no-record}
use Rattle.sc_driver.proofs.laws.misfits_are_no_record.Goals as goal

pub returns : goal.returns
returns c = misfits-are-no-record
