use Rattle.sc_headline.proofs.Exactness.{audits_are_exact}
use Rattle.sc_headline.proofs.laws.audits_are_exact.Goals as goal

pub returns : goal.returns
returns c = audits_are_exact c.worlds_are_one.ensures c.misfits_are_no_record.ensures c.one_misfit.ensures
