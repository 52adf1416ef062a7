use Rattle.sc_faults.proofs.classes.all_faults.Goals as goal

pub returns-in-Ok : goal.returns-in-Ok
returns-in-Ok c = c.faults_by.ensures c.in-Ok.ensures.pure
