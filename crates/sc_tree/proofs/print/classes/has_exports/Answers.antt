use Rattle.sc_tree.proofs.PrintingClasses.{shared_names}
use Rattle.sc_tree.proofs.print.classes.has_exports.Goals as goal

pub returns-then-feature : goal.returns-then-feature
returns-then-feature c = shared_names c.args.exports.now c.args.feature.now c.if-feature.true c.requires
