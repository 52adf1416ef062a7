use Rattle.sc_machine_laws.proofs.Bodies.{texts_are_without_old}
use Rattle.sc_machine_laws.proofs.clause_laws.texts_are_without_old.Goals as goal

pub returns : goal.returns
returns c = texts_are_without_old
