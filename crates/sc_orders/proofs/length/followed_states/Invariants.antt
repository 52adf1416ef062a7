use Rattle.sc_orders.specs.Marks.{AreFollowed}
use Rattle.sc_orders.proofs.length.followed_states.Given as goal

-- so are those that are marked
abbrev pub invariant-loop-edge : goal.invariant-loop-edge
invariant-loop-edge l = AreFollowed l.edges l.left l.marks.items
