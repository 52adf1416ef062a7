use Rattle.std.proofs.Common.{◌≤◌, get_or}
use Rattle.sc_orders.proofs.Ways.{AreTold}
use Rattle.sc_orders.proofs.length.most_turns.Given as goal

-- the edges before lead to states with as many turns
abbrev pub invariant-loop-edge : goal.invariant-loop-edge
invariant-loop-edge l = record {
  told : AreTold l.edges l.turns l.most l.edge-index;
  begins : l.first ≤ get_or l.turns 0 0;
  few : get_or l.turns 0 0 ≤ l.most;
}
