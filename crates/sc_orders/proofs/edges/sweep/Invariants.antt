use Rattle.sc_orders.proofs.Swept.{Swept}
use Rattle.sc_orders.proofs.edges.sweep.Given as goal

abbrev pub invariant-loop-done : goal.invariant-loop-done
invariant-loop-done l = Swept l.edges l.fn.moves.items l.moves.items l.has_changed l.done
