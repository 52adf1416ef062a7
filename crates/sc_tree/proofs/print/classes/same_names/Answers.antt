use Rattle.std.proofs.Common.{sym}
use Rattle.sc_tree.proofs.PrintingClasses.{same_names-length}
use Rattle.sc_tree.proofs.print.classes.same_names.Goals as goal

pub returns-then-names-others : goal.returns-then-names-others
returns-then-names-others c = sym (same_names-length c.args.names.now c.args.others.now c.if-names-others.true)
