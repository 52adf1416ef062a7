use Rattle.std.proofs.Common.{◌≡◌, ℕ, true, false, get_or, length}
use Rattle.sc_orders.specs.Edges.{AllLead, unmarked}
use Rattle.sc_orders.proofs.edges.may_move.Given as goal

abbrev pub invariant-loop : goal.invariant-loop
invariant-loop l = record {
  count : length l.moves.items ≡ length l.busy;
  first : (state : ℕ) → get_or l.busy state false ≡ true → get_or l.moves.items state false ≡ true;
  lead : AllLead l.edges l.busy l.moves.items;
}

abbrev pub decreases-loop : goal.decreases-loop
decreases-loop l = unmarked l.moves.items
