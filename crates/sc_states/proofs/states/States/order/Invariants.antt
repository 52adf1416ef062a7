use Rattle.std.proofs.Common.{[], get_or}
use Rattle.sc_states.specs.Orders.{orders_in}
use Rattle.sc_states.specs.RowViews.{rows_of}
use Rattle.sc_states.proofs.Walks.{IsWalked}
use Rattle.sc_states.proofs.states.States.order.Given as goal

-- the turns after this state are taken
abbrev pub invariant-loop-at : goal.invariant-loop-at
invariant-loop-at l =
    IsWalked l.self.parents.items (rows_of l.self.steps) l.at l.turns.items
    (get_or (orders_in l.self.parents.items (rows_of l.self.steps)) l.number [])

abbrev pub decreases-loop-at : goal.decreases-loop-at
decreases-loop-at l = l.at
