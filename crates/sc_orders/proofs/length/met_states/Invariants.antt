use Rattle.sc_orders.specs.Marks.{AreMet}
use Rattle.sc_orders.proofs.length.met_states.Given as goal

-- so are those that are marked
abbrev pub invariant-loop-edge : goal.invariant-loop-edge
invariant-loop-edge l = AreMet l.edges l.marks.items
