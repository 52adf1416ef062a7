use Rattle.std.proofs.Common.{arith}
use Rattle.sc_tree.proofs.PrintingLines.{clauses_more}
use Rattle.sc_tree.proofs.print.Printer.clauses.Goals as goal

pub loop-i-preserved : goal.loop-i-preserved
loop-i-preserved c =
    clauses_more c.args.indent c.args.clauses.now c.loop-i.i c.index-clauses-i.result _ _ _ (omega arith) c.index-clauses-i.is c.in_ok-clause.ensures c.loop-i.invariant
