use Rattle.sc_class.proofs.RedefinitionLemmas.{differ}
use Rattle.sc_class.proofs.faults.redefinition.is_same_formals.Goals as goal

pub returns-then-declared-inherited : goal.returns-then-declared-inherited
returns-then-declared-inherited c = differ c.args.declared.now c.args.inherited.now c.if-declared-inherited.true
