use Rattle.std.proofs.Common.{refl}
use Rattle.sc_tree.proofs.PrintingParts.{one_more_tab, begun}
use Rattle.sc_tree.proofs.print.Printer.begin_line.Goals as goal

pub loop-preserved : goal.loop-preserved
loop-preserved c = one_more_tab _ _ _ c.loop.counter c.loop.invariant c.in_ok-push.ensures.items

pub returns : goal.returns
returns c = begun _ _ c.args.indent c.loop.counter c.loop.invariant refl c.loop-test.false c.loop.auto.counter-end
