use Rattle.sc_driver.proofs.Misfits.{one-misfit}
use Rattle.sc_driver.proofs.laws.one_misfit.Goals as goal

pub returns : goal.returns
returns c = one-misfit
