use Rattle.sc_plant.proofs.RunRecords.{lines_are_a_record}
use Rattle.sc_plant.proofs.laws.lines_are_a_record.Goals as goal

pub returns : goal.returns
returns c = lines_are_a_record
