use Rattle.sc_headline.proofs.Headed.{machine_headed}
use Rattle.sc_headline.proofs.laws.machine_headline.Goals as goal

pub returns : goal.returns
returns c = machine_headed c.machine_has_headline.ensures
