use Rattle.sc_headline.proofs.Exactness.{runs_are_answered_yes}
use Rattle.sc_headline.proofs.laws.runs_are_answered_yes.Goals as goal

pub returns : goal.returns
returns c =
    runs_are_answered_yes c.worlds_are_one.ensures c.misfits_are_no_record.ensures c.one_misfit.ensures c.runs_audit_yes.ensures
